-- What the tests of an audit say where they hold: entries that are equal in all that a line shows are equal there.
use Rattle.std.proofs.Common.{◌≡◌, ℕ, zero, suc, ◌<◌, true, List, [], ◌∷◌, refl, ap, subst, ◌==◌, arith}
use Rattle.std.specs.Prelude.{◌&&◌}
use Rattle.std.specs.Str.{bytes_eq}
use Rattle.std.proofs.lemmas.Bool.{eqb-true, false≢true}
use Rattle.std.proofs.lemmas.Slice.Eq.{bytes_eq-Decides}
use Rattle.world_laws.proofs.Types.{ClusterPosition, Content, Entry, Ident, Marker, ClusterRef, Position, Targets}
use Rattle.world_laws.proofs.Types.content
use Rattle.world_laws.proofs.Types.marker
use Rattle.world_laws.proofs.Types.cluster_ref
use Rattle.world_laws.proofs.Types.targets
use Rattle.geo_base.specs.Entry.{same_ident, same_stream}
use Rattle.geo_base.specs.Position.{same_position}
use Rattle.geo_base.specs.Updating.{positions_for}
use Rattle.std.proofs.lemmas.Bool.Decides.{nat_tests}
use Rattle.world_laws.proofs.Walks.Walk.{by_test, left, right}
use Rattle.geo_base.specs.TraceItems.{names_same, same_positions}
use Rattle.geo_base.specs.Audit.{same_content, same_entry, same_key, same_marker, same_pair, same_pairs, same_cluster_ref, same_targets}

bytes_are : (m n : List ℕ) → bytes_eq m n ≡ true → m ≡ n
bytes_are m n h = (bytes_eq-Decides m n).0 h

pair_ap : {A B C : Type 0} (f : A → B → C) {a b : A} {x y : B} → a ≡ b → x ≡ y → f a x ≡ f b y
pair_ap f e g = λ i. f (e i) (g i)

pub positions_are : (p q : Position) → same_position p q ≡ true → p ≡ q
positions_are p q h =
    let make : ℕ → ℕ → Position = λ a b. record { ledger = a; entry = b } in
    pair_ap make (eqb-true p.ledger q.ledger (left (p.ledger == q.ledger) (p.entry == q.entry) h)) (eqb-true p.entry q.entry (right (p.ledger == q.ledger) (p.entry == q.entry) h))

places_are : (a b : ClusterRef) → same_cluster_ref a b ≡ true → a ≡ b
places_are (cluster_ref.Known x) (cluster_ref.Known y) h = ap (λ (n : ℕ). cluster_ref.Known n) (eqb-true x y h)
places_are (cluster_ref.Stranger m) (cluster_ref.Stranger n) h = ap (λ (l : List ℕ). cluster_ref.Stranger l) (bytes_are m n h)
places_are (cluster_ref.Known x) (cluster_ref.Stranger n) h = absurd (false≢true h)
places_are (cluster_ref.Stranger m) (cluster_ref.Known y) h = absurd (false≢true h)

pairs_are_one : (r q : ClusterPosition) → same_pair r q ≡ true → r ≡ q
pairs_are_one r q h =
    let make : ClusterRef → Position → ClusterPosition = λ a p. record { cluster = a; position = p } in
    pair_ap make (places_are r.cluster q.cluster (left (same_cluster_ref r.cluster q.cluster) (same_position r.position q.position) h))
    (positions_are r.position q.position (right (same_cluster_ref r.cluster q.cluster) (same_position r.position q.position) h))

pairs_are : (rs qs : List ClusterPosition) → same_pairs rs qs ≡ true → rs ≡ qs
pairs_are [] [] h = refl
pairs_are [] (q ∷ qs) h = absurd (false≢true h)
pairs_are (r ∷ rs) [] h = absurd (false≢true h)
pairs_are (r ∷ rs) (q ∷ qs) h =
    pair_ap (λ (a : ClusterPosition) (l : List ClusterPosition). a ∷ l) (pairs_are_one r q (left (same_pair r q) (same_pairs rs qs) h))
    (pairs_are rs qs (right (same_pair r q) (same_pairs rs qs) h))

markers_are : (m n : Marker) → same_marker m n ≡ true → m ≡ n
markers_are (marker.Request i a) (marker.Request j b) h =
    pair_ap (λ (l : List ℕ) (c : ClusterRef). marker.Request l c) (bytes_are i j (left (bytes_eq i j) (same_cluster_ref a b) h)) (places_are a b (right (bytes_eq i j) (same_cluster_ref a b) h))
markers_are (marker.Response i a) (marker.Response j b) h =
    pair_ap (λ (l : List ℕ) (c : ClusterPosition). marker.Response l c) (bytes_are i j (left (bytes_eq i j) (same_pair a b) h))
    (pairs_are_one a b (right (bytes_eq i j) (same_pair a b) h))
markers_are (marker.Snapshot i p rs) (marker.Snapshot j q qs) h =
    let two = left (bytes_eq i j && same_position p q) (same_pairs rs qs) h in
    let first : List ℕ → Position → List ClusterPosition → Marker = λ l a b. marker.Snapshot l a b in
    λ k. first (bytes_are i j (left (bytes_eq i j) (same_position p q) two) k)
    (positions_are p q (right (bytes_eq i j) (same_position p q) two) k) (pairs_are rs qs (right (bytes_eq i j && same_position p q) (same_pairs rs qs) h) k)
markers_are (marker.Update m rs) (marker.Update n qs) h =
    pair_ap (λ (l : List ℕ) (b : List ClusterPosition). marker.Update l b) (bytes_are m n (left (bytes_eq m n) (same_pairs rs qs) h))
    (pairs_are rs qs (right (bytes_eq m n) (same_pairs rs qs) h))
markers_are (marker.Request i a) (marker.Response j b) h = absurd (false≢true h)
markers_are (marker.Request i a) (marker.Snapshot j q qs) h = absurd (false≢true h)
markers_are (marker.Request i a) (marker.Update n qs) h = absurd (false≢true h)
markers_are (marker.Response i a) (marker.Request j b) h = absurd (false≢true h)
markers_are (marker.Response i a) (marker.Snapshot j q qs) h = absurd (false≢true h)
markers_are (marker.Response i a) (marker.Update n qs) h = absurd (false≢true h)
markers_are (marker.Snapshot i p rs) (marker.Request j b) h = absurd (false≢true h)
markers_are (marker.Snapshot i p rs) (marker.Response j b) h = absurd (false≢true h)
markers_are (marker.Snapshot i p rs) (marker.Update n qs) h = absurd (false≢true h)
markers_are (marker.Update m rs) (marker.Request j b) h = absurd (false≢true h)
markers_are (marker.Update m rs) (marker.Response j b) h = absurd (false≢true h)
markers_are (marker.Update m rs) (marker.Snapshot j q qs) h = absurd (false≢true h)

contents_are : (c d : Content) → same_content c d ≡ true → c ≡ d
contents_are content.Data content.Data h = refl
contents_are (content.Marked m) (content.Marked n) h = ap (λ (k : Marker). content.Marked k) (markers_are m n h)
contents_are (content.Unread i) (content.Unread j) h = ap (λ (k : ℕ). content.Unread k) (eqb-true i j h)
contents_are content.Data (content.Marked n) h = absurd (false≢true h)
contents_are content.Data (content.Unread j) h = absurd (false≢true h)
contents_are (content.Marked m) content.Data h = absurd (false≢true h)
contents_are (content.Marked m) (content.Unread j) h = absurd (false≢true h)
contents_are (content.Unread i) content.Data h = absurd (false≢true h)
contents_are (content.Unread i) (content.Marked n) h = absurd (false≢true h)

targets_are : (a b : Targets) → same_targets a b ≡ true → a ≡ b
targets_are targets.All targets.All h = refl
targets_are (targets.Only m) (targets.Only n) h = ap (λ (k : ℕ). targets.Only k) (eqb-true m n h)
targets_are targets.All (targets.Only n) h = absurd (false≢true h)
targets_are (targets.Only m) targets.All h = absurd (false≢true h)

pub idents_are : (i j : Ident) → same_ident i j ≡ true → i ≡ j
idents_are i j h =
    let stream = left (same_stream i j) (i.seq == j.seq) h in
    let origin = eqb-true i.origin j.origin (left (i.origin == j.origin) (bytes_eq i.producer j.producer) stream) in
    let producer = bytes_are i.producer j.producer (right (i.origin == j.origin) (bytes_eq i.producer j.producer) stream) in
    let seq = eqb-true i.seq j.seq (right (same_stream i j) (i.seq == j.seq) h) in
    λ k. record { origin = origin k; producer = producer k; seq = seq k }

-- equal in all that says what an entry is and who it is for
pub record AreSame (e f : Entry) : Type 0 where
  pub ident : e.ident ≡ f.ident
  pub to : e.to ≡ f.to
  pub content : e.content ≡ f.content

pub entries_are : (e f : Entry) → same_entry e f ≡ true → AreSame e f
entries_are e f h =
    let a = same_ident e.ident f.ident in let b = same_targets e.to f.to in let c = same_content e.content f.content in
    let d = same_key e.meta.key f.meta.key in let g = bytes_eq e.payload f.payload in
    let three = left (a && b && c) d (left (a && b && c && d) g h) in let two = left (a && b) c three in
    record {
      ident = idents_are e.ident f.ident (left a b two);
      to = targets_are e.to f.to (right a b two);
      content = contents_are e.content f.content (right (a && b) c three);
    }

-- lists that name the same positions
positions_list : (ps qs : List Position) → same_positions ps qs ≡ true → ps ≡ qs
positions_list [] [] h = refl
positions_list [] (q ∷ qs) h = absurd (false≢true h)
positions_list (p ∷ ps) [] h = absurd (false≢true h)
positions_list (p ∷ ps) (q ∷ qs) h =
    pair_ap (λ (a : Position) (l : List Position). a ∷ l) (positions_are p q (left (same_position p q) (same_positions ps qs) h))
    (positions_list ps qs (right (same_position p q) (same_positions ps qs) h))

pub names_at : (n : ℕ) (rs qs : List ClusterPosition) (y : ℕ) → names_same n rs qs ≡ true → y < n → positions_for y rs ≡ positions_for y qs
names_at zero rs qs y h lt = absurd (omega (arith, lt))
names_at (suc n) rs qs y h lt =
    let here = left (same_positions (positions_for n rs) (positions_for n qs)) (names_same n rs qs) h in
    let more = right (same_positions (positions_for n rs) (positions_for n qs)) (names_same n rs qs) h in
    by_test (n == y) (λ e. subst (λ (z : ℕ). positions_for z rs ≡ positions_for z qs) (eqb-true n y e) (positions_list _ _ here))
    (λ other. names_at n rs qs y more (grind (arith, nat_tests, other, lt)))
