-- Any number and bytes are a text of a marker, or something is wrong with them.
use Rattle.std.proofs.Common.{◌≡◌, ◌≢◌, ℕ, List, [], ◌∷◌, refl, sym, subst, ◌⊎◌, inl, inr}
use Rattle.std.specs.List.{AllByRecursion}
use Rattle.std.proofs.lemmas.Bool.{cases_eq}
use Rattle.geo_base.specs.declared.position.Position.{Position}
use Rattle.pb_fields.specs.declared.field.Field.{Field}
use Rattle.pb_fields.specs.declared.field.Value.{Value}
use Rattle.pb_fields.specs.Message.{values}
use Rattle.pb_fields.specs.Embedded.{IsMessageWith, AnyContent, NoFault}
use Rattle.pb_fields.proofs.Nested.{IsHeld, message_of}
use Rattle.marker_codec.specs.declared.fault.MarkerFault.{MarkerFault}
use Rattle.marker_codec.specs.declared.fault.MarkerFault.TheVariants as fault
use Rattle.marker_codec.specs.declared.kind.MarkerKind.{MarkerKind}
use Rattle.marker_codec.specs.declared.kind.MarkerKind.TheVariants as kind
use Rattle.marker_codec.specs.declared.marker.ClusterMessageId.{ClusterMessageId}
use Rattle.marker_codec.specs.declared.marker.Marker.{Marker}
use Rattle.marker_codec.specs.declared.marker.Marker.TheVariants as marker
use Rattle.marker_codec.specs.Table.{cluster_rows, position_rows, request_rows, response_rows, snapshot_rows, update_rows}
use Rattle.marker_codec.specs.Kinds.{kind_number, kind_rows, marker_kind, RightPosition, WrongPosition, RightCluster, WrongCluster, RightInSnapshot, WrongInSnapshot, local, clusters, RightPart, WrongPart}
use Rattle.marker_codec.specs.Markers.{IsPositionText, IsClusterText, AreClusters, Says, IsMarkerText}
use Rattle.marker_codec.specs.Faults.{marker_fault, IsNoKind, WrongMarker, no_kind, no_message}
use Rattle.codec_laws.specs.Answers.{AreBytes, HasAnswer, right, wrong}
use Rattle.codec_laws.proofs.Messages.{AreJudged, MessageAnswer, any_judged, message_answer, table_judged}
use Rattle.codec_laws.proofs.Values.{required_text, required_number, required_held, repeated_held}

-- ---- what markers hold is judged

position_judged : AreJudged RightPosition WrongPosition
position_judged = table_judged AnyContent NoFault any_judged position_rows

cluster_judged : AreJudged RightCluster WrongCluster
cluster_judged = table_judged RightPosition WrongPosition position_judged cluster_rows

snapshot_judged : AreJudged RightInSnapshot WrongInSnapshot
snapshot_judged n content are =
    elim (cases_eq n 2) [
      | inl same ↦ elim (position_judged n content are) [
        | inl good ↦ inl (record { local = λ e. good; clusters = λ other. absurd (other same) })
        | inr bad ↦ inr (bad.0, local same bad.1)
      ]
      | inr other ↦ elim (cluster_judged n content are) [
        | inl good ↦ inl (record { local = λ e. absurd (other e); clusters = λ e. good })
        | inr bad ↦ inr (bad.0, clusters other bad.1)
      ]
    ]

part_judged : (k : MarkerKind) → AreJudged (RightPart k) (WrongPart k)
part_judged kind.Request = any_judged
part_judged kind.Response = cluster_judged
part_judged kind.Snapshot = snapshot_judged
part_judged kind.Update = cluster_judged

-- ---- what is held

position_in : (n : ℕ) (content : List ℕ) → RightPosition n content → (p : Position) × IsPositionText content p
position_in n content h =
    let message = message_of AnyContent position_rows h.fields h.message in
    let ledger = required_number position_rows 1 h.fields refl message in
    let entry = required_number position_rows 2 h.fields refl message in
    (record { ledger = ledger.0; entry = entry.0 }, record { fields = h.fields; text = h.text; message = h.message; says = record { ledger_id = ledger.1; entry_id = entry.1 } })

cluster_in : (n : ℕ) (content : List ℕ) → RightCluster n content → (c : ClusterMessageId) × IsClusterText content c
cluster_in n content h =
    let name = required_text cluster_rows 1 h.fields refl (message_of RightPosition cluster_rows h.fields h.message) in
    let held = required_held RightPosition cluster_rows 2 h.fields refl h.message in
    let position = position_in 2 held.0 held.1.1 in (
      record { cluster = name.0; message_id = position.0 },
      record {
        fields = h.fields;
        text = h.text;
        message = h.message;
        says = record { cluster = name.1; message_id = record { content = held.0; last = held.1.0; means = position.1 } };
      },
    )

-- one for each value that is held
clusters_in : (P : List ℕ → Type 0) → ((content : List ℕ) → P content → (c : ClusterMessageId) × IsClusterText content c) → (vs : List Value) → AllByRecursion (IsHeld P) vs → (cs : List ClusterMessageId) × AreClusters vs cs
clusters_in P read [] h = ([], tt)
clusters_in P read (v ∷ vs) h =
    let held = h.0 in
    let c = read held.content held.right in
    let rest = clusters_in P read vs h.1 in
    (c.0 ∷ rest.0, (record { content = held.content; is = held.is; means = c.1 }, rest.1))

-- ---- what the fields of a kind say

-- a marker of the kind that the fields say
abbrev SaysOf : MarkerKind → List Field → Type 0
SaysOf k fs = (m : Marker) × ((marker_kind m ≡ k) × Says fs m)

request_of : (fs : List Field) → IsMessageWith AnyContent request_rows fs → SaysOf kind.Request fs
request_of fs h =
    let message = message_of AnyContent request_rows fs h in
    let id = required_text request_rows 1 fs refl message in
    let source = required_text request_rows 2 fs refl message in
    (marker.Request id.0 source.0, (refl, record { snapshot_id = id.1; source_cluster = source.1 }))

response_of : (fs : List Field) → IsMessageWith RightCluster response_rows fs → SaysOf kind.Response fs
response_of fs h =
    let id = required_text response_rows 1 fs refl (message_of RightCluster response_rows fs h) in
    let held = required_held RightCluster response_rows 2 fs refl h in
    let c = cluster_in 2 held.0 held.1.1 in
    (marker.Response id.0 c.0, (refl, record { snapshot_id = id.1; cluster = record { content = held.0; last = held.1.0; means = c.1 } }))

snapshot_of : (fs : List Field) → IsMessageWith RightInSnapshot snapshot_rows fs → SaysOf kind.Snapshot fs
snapshot_of fs h =
    let id = required_text snapshot_rows 1 fs refl (message_of RightInSnapshot snapshot_rows fs h) in
    let held = required_held RightInSnapshot snapshot_rows 2 fs refl h in
    let own = position_in 2 held.0 (held.1.1.local refl) in
    let others = clusters_in (RightInSnapshot 3) (λ content good. cluster_in 3 content (good.clusters (λ e. absurd cc))) (values 3 fs) (repeated_held RightInSnapshot snapshot_rows 3 fs refl h) in (
      marker.Snapshot id.0 own.0 others.0,
      (
        refl {a = kind.Snapshot},
        record {
          snapshot_id = id.1;
          local_message_id = record { content = held.0; last = held.1.0; means = own.1 };
          clusters = others.1;
        },
      ),
    )

update_of : (fs : List Field) → IsMessageWith RightCluster update_rows fs → SaysOf kind.Update fs
update_of fs h =
    let name = required_text update_rows 1 fs refl (message_of RightCluster update_rows fs h) in
    let others = clusters_in (RightCluster 2) (λ content good. cluster_in 2 content good) (values 2 fs) (repeated_held RightCluster update_rows 2 fs refl h) in
    (marker.Update name.0 others.0, (refl, record { subscription_name = name.1; clusters = others.1 }))

says_of : (k : MarkerKind) (fs : List Field) → IsMessageWith (RightPart k) (kind_rows k) fs → SaysOf k fs
says_of kind.Request fs h = request_of fs h
says_of kind.Response fs h = response_of fs h
says_of kind.Snapshot fs h = snapshot_of fs h
says_of kind.Update fs h = update_of fs h

-- ---- bytes

abbrev pub MarkerAnswer : ℕ → List ℕ → Type 0
MarkerAnswer number bytes = HasAnswer {X = Marker} {E = MarkerFault} (λ m. IsMarkerText number bytes m) (λ e. WrongMarker number bytes e)

of_kind : (number : ℕ) (bytes : List ℕ) (k : MarkerKind) → number ≡ kind_number k → MessageAnswer (RightPart k) (WrongPart k) (part_judged k) (kind_rows k) bytes → MarkerAnswer number bytes
of_kind number bytes k is (wrong e h) = wrong (marker_fault e) (no_message k e is h refl)
of_kind number bytes k is (right fs h) =
    let m = says_of k fs h.1 in
    right m.0 (record {
      kind = rw m.1.0 is;
      fields = fs;
      text = h.0;
      means = record { message = subst (λ (j : MarkerKind). IsMessageWith (RightPart j) (kind_rows j) fs) (sym m.1.0) h.1; says = m.1.1 };
    })

none_of : (n : ℕ) → n ≢ 10 → n ≢ 11 → n ≢ 12 → n ≢ 13 → IsNoKind n
none_of n a b c d kind.Request = a
none_of n a b c d kind.Response = b
none_of n a b c d kind.Snapshot = c
none_of n a b c d kind.Update = d

kind_in : (n : ℕ) → ((k : MarkerKind) × (n ≡ kind_number k)) ⊎ IsNoKind n
kind_in n =
    elim (cases_eq n 10) [
      | inl is ↦ inl (kind.Request, is)
      | inr a ↦ elim (cases_eq n 11) [
        | inl is ↦ inl (kind.Response, is)
        | inr b ↦ elim (cases_eq n 12) [
          | inl is ↦ inl (kind.Snapshot, is)
          | inr c ↦ elim (cases_eq n 13) [ inl is ↦ inl (kind.Update, is) | inr d ↦ inr (none_of n a b c d) ]
        ]
      ]
    ]

pub marker_answer : (number : ℕ) (bytes : List ℕ) → AreBytes bytes → MarkerAnswer number bytes
marker_answer number bytes are =
    elim (kind_in number) [
      | inr none ↦ wrong (fault.UnknownKind number) (no_kind none refl)
      | inl k ↦ of_kind number bytes k.0 k.1 (message_answer (RightPart k.0) (WrongPart k.0) (part_judged k.0) (kind_rows k.0) bytes are)
    ]
