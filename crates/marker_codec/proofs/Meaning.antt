-- Bytes of a kind have one meaning at most, and one fault at most.
use Rattle.std.proofs.Common.{◌≡◌, ℕ, List, [], ◌∷◌, Option, Some, Result, Ok, Err, inl, inr, refl, sym, ap, subst, ◌∙◌, arith}
use Rattle.std.specs.Prelude.{IfOk, IfErr}
use Rattle.geo_base.specs.declared.position.Position.{Position}
use Rattle.pb_fields.specs.declared.field.Field.{Field}
use Rattle.pb_fields.specs.declared.field.Value.{Value}
use Rattle.pb_fields.specs.declared.field.Value.TheVariants as value
use Rattle.pb_fields.specs.declared.message.MessageFault.{MessageFault}
use Rattle.pb_fields.specs.declared.message.MessageFault.TheVariants as message_fault
use Rattle.pb_fields.specs.Faults.{Answers}
use Rattle.pb_fields.specs.Message.{last_value, values}
use Rattle.pb_fields.specs.Message.{IsWrongOrMemory as IsWrongMessageOrMemory}
use Rattle.pb_fields.specs.Embedded.{WrongMessageWith}
use Rattle.pb_fields.proofs.Unique.{text_one}
use Rattle.pb_fields.proofs.Nested.{message_one, message_sound}
use Rattle.marker_codec.specs.declared.fault.MarkerFault.{MarkerFault}
use Rattle.marker_codec.specs.declared.fault.MarkerFault.TheVariants as fault
use Rattle.marker_codec.specs.declared.kind.MarkerKind.{MarkerKind}
use Rattle.marker_codec.specs.declared.kind.MarkerKind.TheVariants as kind
use Rattle.marker_codec.specs.declared.marker.Marker.{Marker}
use Rattle.marker_codec.specs.declared.marker.Marker.TheVariants as marker
use Rattle.marker_codec.specs.declared.marker.ClusterMessageId.{ClusterMessageId}
use Rattle.marker_codec.specs.Kinds.{kind_number, kind_rows, marker_kind, RightPart, WrongPart}
use Rattle.marker_codec.specs.Markers.{IsPositionText, IsClusterText, LastHolds, HoldsCluster, AreClusters, Says, IsMarkerText}
use Rattle.marker_codec.specs.Faults.{marker_fault, WrongMarker, no_kind, no_message, IsWrongOrMemory}
use Rattle.marker_codec.proofs.Exact.{part_exact}

same_bytes : (a b : List ℕ) → ◌≡◌ {A = Option Value} (Some (value.Bytes a)) (Some (value.Bytes b)) → a ≡ b
same_bytes a b e = cc

same_varint : (a b : ℕ) → ◌≡◌ {A = Option Value} (Some (value.Varint a)) (Some (value.Varint b)) → a ≡ b
same_varint a b e = cc

same_position : (p q : Position) → p.ledger ≡ q.ledger → p.entry ≡ q.entry → p ≡ q
same_position p q e f = let make : ℕ → ℕ → Position = λ a b. record { ledger = a; entry = b } in both make e f
  where
    both : (make : ℕ → ℕ → Position) {a b c d : ℕ} → a ≡ b → c ≡ d → make a c ≡ make b d
    both make e f = cc

position_one : (bytes : List ℕ) (p q : Position) → IsPositionText bytes p → IsPositionText bytes q → p ≡ q
position_one bytes p q h k =
    let same : h.fields ≡ k.fields = text_one h.text k.text in
    same_position p q
    (same_varint _ _ (sym h.says.ledger_id ∙ ap (λ (fs : List Field). last_value 1 fs) same ∙ k.says.ledger_id))
    (same_varint _ _ (sym h.says.entry_id ∙ ap (λ (fs : List Field). last_value 2 fs) same ∙ k.says.entry_id))

-- what the last value of a number holds
holds_one : {X : Type 0} (P : X → List ℕ → Type 0) (n : ℕ) (fs : List Field) (x y : X) → ((content : List ℕ) → P x content → P y content → x ≡ y) → LastHolds n fs (P x) → LastHolds n fs (P y) → x ≡ y
holds_one P n fs x y one h k =
    let same : h.content ≡ k.content = same_bytes _ _ (sym h.last ∙ k.last) in
    one k.content (subst (λ (c : List ℕ). P x c) same h.means) k.means

same_cluster : (c d : ClusterMessageId) → c.cluster ≡ d.cluster → c.message_id ≡ d.message_id → c ≡ d
same_cluster c d e f = both (λ a b. record { cluster = a; message_id = b }) e f
  where
    both : (make : List ℕ → Position → ClusterMessageId) {a b : List ℕ} {p q : Position} → a ≡ b → p ≡ q → make a p ≡ make b q
    both make e f = cc

cluster_one : (bytes : List ℕ) (c d : ClusterMessageId) → IsClusterText bytes c → IsClusterText bytes d → c ≡ d
cluster_one bytes c d h k =
    let same : h.fields ≡ k.fields = text_one h.text k.text in
    same_cluster c d
    (same_bytes _ _ (sym h.says.cluster ∙ ap (λ (fs : List Field). last_value 1 fs) same ∙ k.says.cluster))
    (holds_one (λ p content. IsPositionText content p) 2 k.fields c.message_id d.message_id (λ content a b. position_one content c.message_id d.message_id a b)
    (subst (λ (fs : List Field). LastHolds 2 fs (λ content. IsPositionText content c.message_id)) same h.says.message_id) k.says.message_id)

same_content : (v : Value) (a b : List ℕ) → v ≡ value.Bytes a → v ≡ value.Bytes b → a ≡ b
same_content v a b e f = cc

cluster_held_one : (v : Value) (c d : ClusterMessageId) → HoldsCluster v c → HoldsCluster v d → c ≡ d
cluster_held_one v c d h k =
    let same : h.content ≡ k.content = same_content v _ _ h.is k.is in
    cluster_one k.content c d (subst (λ (b : List ℕ). IsClusterText b c) same h.means) k.means

clusters_one : (vs : List Value) (cs ds : List ClusterMessageId) → AreClusters vs cs → AreClusters vs ds → cs ≡ ds
clusters_one [] [] [] h k = refl
clusters_one [] [] (d ∷ ds) h k = absurd k
clusters_one [] (c ∷ cs) ds h k = absurd h
clusters_one (v ∷ vs) [] ds h k = absurd h
clusters_one (v ∷ vs) (c ∷ cs) [] h k = absurd k
clusters_one (v ∷ vs) (c ∷ cs) (d ∷ ds) h k = let head = cluster_held_one v c d h.0 k.0 in let tail = clusters_one vs cs ds h.1 k.1 in cc

-- ---- markers

same_two : {A B : Type 0} (make : A → B → Marker) {a c : A} {b d : B} → a ≡ c → b ≡ d → make a b ≡ make c d
same_two make e f = cc

same_three : {A B C : Type 0} (make : A → B → C → Marker) {a a' : A} {b b' : B} {c c' : C} → a ≡ a' → b ≡ b' → c ≡ c' → make a b c ≡ make a' b' c'
same_three make e f g = cc

-- what fields say as a marker of a kind
says_one : (fs : List Field) (m n : Marker) → marker_kind m ≡ marker_kind n → Says fs m → Says fs n → m ≡ n
says_one fs (marker.Request id source) (marker.Request id' source') e h k =
    same_two (λ a b. marker.Request a b) (same_bytes id id' (sym h.snapshot_id ∙ k.snapshot_id)) (same_bytes source source' (sym h.source_cluster ∙ k.source_cluster))
says_one fs (marker.Response id cluster) (marker.Response id' cluster') e h k =
    same_two (λ a b. marker.Response a b) (same_bytes id id' (sym h.snapshot_id ∙ k.snapshot_id))
    (holds_one (λ c content. IsClusterText content c) 2 fs cluster cluster' (λ content a b. cluster_one content cluster cluster' a b) h.cluster k.cluster)
says_one fs (marker.Snapshot id local clusters) (marker.Snapshot id' local' clusters') e h k =
    same_three (λ a b c. marker.Snapshot a b c) (same_bytes id id' (sym h.snapshot_id ∙ k.snapshot_id))
    (holds_one (λ p content. IsPositionText content p) 2 fs local local' (λ content a b. position_one content local local' a b) h.local_message_id k.local_message_id)
    (clusters_one (values 3 fs) clusters clusters' h.clusters k.clusters)
says_one fs (marker.Update name clusters) (marker.Update name' clusters') e h k =
    same_two (λ a b. marker.Update a b) (same_bytes name name' (sym h.subscription_name ∙ k.subscription_name))
    (clusters_one (values 2 fs) clusters clusters' h.clusters k.clusters)
says_one fs m n e h k = absurd cc

kind_one : (j k : MarkerKind) → kind_number j ≡ kind_number k → j ≡ k
kind_one kind.Request kind.Request e = refl
kind_one kind.Response kind.Response e = refl
kind_one kind.Snapshot kind.Snapshot e = refl
kind_one kind.Update kind.Update e = refl
kind_one j k e = absurd (omega arith)

pub marker_one : (number : ℕ) (bytes : List ℕ) (m n : Marker) → IsMarkerText number bytes m → IsMarkerText number bytes n → m ≡ n
marker_one number bytes m n h k =
    let same : h.fields ≡ k.fields = text_one h.text k.text in
    says_one k.fields m n (kind_one (marker_kind m) (marker_kind n) (sym h.kind ∙ k.kind)) (subst (λ (fs : List Field). Says fs m) same h.means.says) k.means.says

-- ---- faults

pub fault_one : (number : ℕ) (bytes : List ℕ) (a b : MarkerFault) → WrongMarker number bytes a → WrongMarker number bytes b → a ≡ b
fault_one number bytes a b (no_kind h e) (no_kind k f) = e ∙ sym f
fault_one number bytes a b (no_kind h e) (no_message kind why is k f) = absurd (h kind is)
fault_one number bytes a b (no_message kind why is h e) (no_kind k f) = absurd (k kind is)
fault_one number bytes a b (no_message j why is h e) (no_message k why' is' h' f) =
    let same : j ≡ k = kind_one j k (sym is ∙ is') in
    let exact = part_exact k in
    e ∙ ap (λ (x : MessageFault). marker_fault x) (message_one (RightPart k) (WrongPart k) exact (kind_rows k) bytes why why'
    (subst (λ (x : MarkerKind). WrongMessageWith (RightPart x) (WrongPart x) (kind_rows x) bytes why) same h) h') ∙ sym f

pub fault_sound : (number : ℕ) (bytes : List ℕ) (m : Marker) (e : MarkerFault) → IsMarkerText number bytes m → WrongMarker number bytes e → ⊥
fault_sound number bytes m e h (no_kind k f) = k (marker_kind m) h.kind
fault_sound number bytes m e h (no_message k why is wrong f) =
    let same : k ≡ marker_kind m = kind_one k (marker_kind m) (sym is ∙ h.kind) in
    message_sound (RightPart (marker_kind m)) (WrongPart (marker_kind m)) (part_exact (marker_kind m)) (kind_rows (marker_kind m)) bytes h.fields why h.text h.means.message
    (subst (λ (x : MarkerKind). WrongMessageWith (RightPart x) (WrongPart x) (kind_rows x) bytes why) same wrong)

-- ---- what a reader answers

pub only : (number : ℕ) (bytes : List ℕ) (r : Result Marker MarkerFault) → IfOk r (IsMarkerText number bytes) → IfErr r (IsWrongOrMemory (WrongMarker number bytes)) → (m : Marker) → IsMarkerText number bytes m → Answers fault.Memory r (Ok m)
only number bytes (Ok n) found wrong m h = inr (let same = marker_one number bytes m n h found in cc)
only number bytes (Err fault.Memory) found wrong m h = inl refl
only number bytes (Err (fault.UnknownKind x)) found wrong m h = absurd (fault_sound number bytes m (fault.UnknownKind x) h wrong)
only number bytes (Err (fault.Pb x)) found wrong m h = absurd (fault_sound number bytes m (fault.Pb x) h wrong)
only number bytes (Err (fault.WrongWire x)) found wrong m h = absurd (fault_sound number bytes m (fault.WrongWire x) h wrong)
only number bytes (Err (fault.NotText x)) found wrong m h = absurd (fault_sound number bytes m (fault.NotText x) h wrong)
only number bytes (Err (fault.Missing x)) found wrong m h = absurd (fault_sound number bytes m (fault.Missing x) h wrong)

pub refused : (number : ℕ) (bytes : List ℕ) (r : Result Marker MarkerFault) → IfOk r (IsMarkerText number bytes) → IfErr r (IsWrongOrMemory (WrongMarker number bytes)) → (e : MarkerFault) → WrongMarker number bytes e → Answers fault.Memory r (Err e)
refused number bytes (Ok m) found wrong e h = absurd (fault_sound number bytes m e found h)
refused number bytes (Err fault.Memory) found wrong e h = inl refl
refused number bytes (Err (fault.UnknownKind x)) found wrong e h = inr (let same = fault_one number bytes (fault.UnknownKind x) e wrong h in cc)
refused number bytes (Err (fault.Pb x)) found wrong e h = inr (let same = fault_one number bytes (fault.Pb x) e wrong h in cc)
refused number bytes (Err (fault.WrongWire x)) found wrong e h = inr (let same = fault_one number bytes (fault.WrongWire x) e wrong h in cc)
refused number bytes (Err (fault.NotText x)) found wrong e h = inr (let same = fault_one number bytes (fault.NotText x) e wrong h in cc)
refused number bytes (Err (fault.Missing x)) found wrong e h = inr (let same = fault_one number bytes (fault.Missing x) e wrong h in cc)

-- a fault of the message is one of the marker
pub fault_of : (number : ℕ) (k : MarkerKind) (bytes : List ℕ) (why : MessageFault) → number ≡ kind_number k → IsWrongMessageOrMemory (WrongMessageWith (RightPart k) (WrongPart k) (kind_rows k) bytes) why → IsWrongOrMemory (WrongMarker number bytes) (marker_fault why)
fault_of number k bytes message_fault.Memory is h = tt
fault_of number k bytes (message_fault.Pb x) is h = no_message k (message_fault.Pb x) is h refl
fault_of number k bytes (message_fault.WrongWire x) is h = no_message k (message_fault.WrongWire x) is h refl
fault_of number k bytes (message_fault.NotText x) is h = no_message k (message_fault.NotText x) is h refl
fault_of number k bytes (message_fault.Missing x) is h = no_message k (message_fault.Missing x) is h refl
