-- RULE 5: the snapshot marker of a builder that is done names each other cluster once and only stored positions, and is a cut.
use Rattle.std.proofs.Common.{◌≡◌, ℕ, zero, suc, ◌+◌, ◌<◌, ◌≤◌, Bool, true, false, List, [], ◌∷◌, length, map, refl, sym, ap, subst, ◌∙◌, ◌==◌, arith, not}
use Rattle.std.specs.Prelude.{◌≢◌, ◌&&◌, ◌||◌, Option, Some, None, slice_get, slice_index_or, take}
use Rattle.std.specs.List.{list_all, list_any, range_with_len}
use Rattle.std.specs.Str.{bytes_eq}
use Rattle.std.proofs.lemmas.Bool.{eq-eqb, false≢true}
use Rattle.std.proofs.lemmas.Option.{none-some, same_Some}
use Rattle.world_laws.proofs.Types.{ClusterPosition, Content, Cut, Entry, Marker, ClusterRef, Position, Targets}
use Rattle.world_laws.proofs.Types.content
use Rattle.world_laws.proofs.Types.marker
use Rattle.world_laws.proofs.Types.cluster_ref
use Rattle.world_laws.proofs.Types.targets
use Rattle.geo_base.specs.Broker.{Broker, no_broker}
use Rattle.geo_base.specs.SnapshotBuilder.{named, named_from}
use Rattle.geo_base.specs.Cuts.{Covers, CoversCluster, IsCut}
use Rattle.geo_base.specs.Entry.{is_data, meant_for, same_ident, same_stream}
use Rattle.geo_base.specs.Setup.{Setup}
use Rattle.geo_base.specs.Updating.{positions_for}
use Rattle.geo_base.specs.World.{World, topic_at}
use Rattle.world_laws.proofs.Snapshotting.Answering.{Numbered}
use Rattle.world_laws.proofs.Replicating.Cursors.{or_left, or_right}
use Rattle.world_laws.proofs.Telling.Passing.{names_one}
use Rattle.world_laws.proofs.Replicating.Prefixes.{same_self}
use Rattle.world_laws.proofs.Replicating.Sizes.{IsThere}
use Rattle.world_laws.proofs.Walks.Walk.{both, by_test}
use Rattle.geo_base.specs.Mirror.{Mirror, index_at, mirror_at, no_mirror, mirror_number}
use Rattle.geo_base.specs.Audit.{covers, index_named, is_covered, is_cut, is_named_once, may_snapshot, names_each, position_named, same_content, same_entry, same_key, same_marker, same_pair, same_pairs, same_cluster_ref, same_targets}
use Rattle.trace_laws.specs.Seen.{seen, world_seen}
use Rattle.trace_laws.proofs.Lists.{of_take, in_take}
use Rattle.trace_laws.proofs.Places.{index_seen, position_itself}
use Rattle.geo_base.proofs.Lists.{bytes_eq_itself}

-- ---- an entry is the same as itself

place_itself : (a : ClusterRef) → same_cluster_ref a a ≡ true
place_itself (cluster_ref.Known x) = eq-eqb x x refl
place_itself (cluster_ref.Stranger n) = bytes_eq_itself n

pair_itself : (r : ClusterPosition) → same_pair r r ≡ true
pair_itself r = both (same_cluster_ref r.cluster r.cluster) _ (place_itself r.cluster) (position_itself r.position r.position refl)

pairs_themselves : (rs : List ClusterPosition) → same_pairs rs rs ≡ true
pairs_themselves [] = refl
pairs_themselves (r ∷ rs) = both (same_pair r r) (same_pairs rs rs) (pair_itself r) (pairs_themselves rs)

marker_itself : (m : Marker) → same_marker m m ≡ true
marker_itself (marker.Request i a) = both (bytes_eq i i) (same_cluster_ref a a) (bytes_eq_itself i) (place_itself a)
marker_itself (marker.Response i a) = both (bytes_eq i i) (same_pair a a) (bytes_eq_itself i) (pair_itself a)
marker_itself (marker.Snapshot i p rs) =
    both _ (same_pairs rs rs) (both (bytes_eq i i) _ (bytes_eq_itself i) (position_itself p p refl)) (pairs_themselves rs)
marker_itself (marker.Update n rs) = both (bytes_eq n n) (same_pairs rs rs) (bytes_eq_itself n) (pairs_themselves rs)

content_itself : (c : Content) → same_content c c ≡ true
content_itself content.Data = refl
content_itself (content.Marked m) = marker_itself m
content_itself (content.Unread k) = eq-eqb k k refl

targets_themselves : (t : Targets) → same_targets t t ≡ true
targets_themselves targets.All = refl
targets_themselves (targets.Only b) = eq-eqb b b refl

key_itself : (k : Option (List ℕ)) → same_key k k ≡ true
key_itself None = refl
key_itself (Some k) = bytes_eq_itself k

pub entry_itself : (e : Entry) → same_entry e e ≡ true
entry_itself e =
    let a = same_ident e.ident e.ident in let b = same_targets e.to e.to in let c = same_content e.content e.content in
    let d = same_key e.meta.key e.meta.key in let g = bytes_eq e.payload e.payload in
    both (a && b && c && d) g
    (both (a && b && c) d
    (both (a && b) c (both a b (both (same_stream e.ident e.ident) (e.ident.seq == e.ident.seq) (same_self e.ident) (eq-eqb e.ident.seq e.ident.seq refl)) (targets_themselves e.to))
    (content_itself e.content)) (key_itself e.meta.key)) (bytes_eq_itself e.payload)

-- ---- tests over lists

pub all_of : {X : Type 0} (p : X → Bool) (xs : List X) → ((i : ℕ) (x : X) → slice_get xs i ≡ Some x → p x ≡ true) → list_all p xs ≡ true
all_of p [] h = refl
all_of p (x ∷ xs) h = both (p x) (list_all p xs) (h zero x refl) (all_of p xs (λ i y at. h (suc i) y at))

pub any_of : {X : Type 0} (p : X → Bool) (xs : List X) (i : ℕ) (x : X) → slice_get xs i ≡ Some x → p x ≡ true → list_any p xs ≡ true
any_of p [] i x at h = absurd (none-some x at)
any_of p (a ∷ xs) zero x at h = or_left (p a) (list_any p xs) (subst (λ y. p y ≡ true) (sym (same_Some a x at)) h)
any_of p (a ∷ xs) (suc i) x at h = or_right (p a) (list_any p xs) (any_of p xs i x at h)

range_from : (p : ℕ → Bool) (a n : ℕ) → ((y : ℕ) → y < a + n → p y ≡ true) → list_all p (range_with_len a n) ≡ true
range_from p a zero h = refl
range_from p a (suc n) h = both (p a) _ (h a (omega arith)) (range_from p (a + 1) n (λ y lt. h y (omega (arith, lt))))

pub all_in_range : (p : ℕ → Bool) (n : ℕ) → ((y : ℕ) → y < n → p y ≡ true) → list_all p (range_with_len 0 n) ≡ true
all_in_range p n h = range_from p 0 n (λ y lt. h y (omega (arith, lt)))

-- ---- what an audit sees of a topic

pub mirror_is : (s : Setup) (w : World) (t x : ℕ) → mirror_at s (world_seen w) t x ≡ seen (topic_at s w t x)
mirror_is s w t x = map_at w.brokers (mirror_number s t x)
  where
    map_at : (bs : List Broker) (k : ℕ) → slice_index_or (map seen bs) k no_mirror ≡ seen (slice_index_or bs k no_broker)
    map_at [] k = refl
    map_at (b ∷ bs) zero = refl
    map_at (b ∷ bs) (suc k) = map_at bs k

-- ---- the places of a cut

abbrev Places : Type 0
Places = List (Option Position)

all_named : (c : ℕ) (ps : Places) → ((y : ℕ) → y < length ps → (p : Position) × (slice_index_or ps y None ≡ Some p)) → length (named_from c ps) ≡ length ps
all_named c [] h = refl
all_named c (None ∷ ps) h = let none = h zero (omega arith) in absurd (none-some none.0 none.1)
all_named c (Some p ∷ ps) h = let rest = all_named (c + 1) ps (λ y lt. h (suc y) (omega (arith, lt))) in omega (arith, rest)

named_length : (own c : ℕ) (ps : Places) → own < length ps → slice_index_or ps own None ≡ None
    → ((y : ℕ) → y < length ps → own ≢ y → (p : Position) × (slice_index_or ps y None ≡ Some p)) → length (named_from c ps) + 1 ≡ length ps
named_length own c [] lt empty h = absurd (omega (arith, lt))
named_length zero c (None ∷ ps) lt empty h =
    let rest = all_named (c + 1) ps (λ y lt'. h (suc y) (omega (arith, lt')) (λ e. absurd (omega (arith, e)))) in omega (arith, rest)
named_length zero c (Some p ∷ ps) lt empty h = absurd (none-some p (sym empty))
named_length (suc own) c (None ∷ ps) lt empty h = let none = h zero (omega arith) (λ e. absurd (omega (arith, e))) in absurd (none-some none.0 none.1)
named_length (suc own) c (Some p ∷ ps) lt empty h =
    let rest = named_length own (c + 1) ps (omega (arith, lt)) empty (λ y lt' other. h (suc y) (omega (arith, lt')) (λ e. other (omega (arith, e)))) in omega (arith, rest)

-- ---- the rule

-- a cut as a builder makes it: a place for each cluster, the own one empty
pub record IsMade (n x : ℕ) (cut : Cut) : Type 0 where
  pub places : length cut.remote ≡ n
  pub empty : slice_index_or cut.remote x None ≡ None

covered_by : (x l : ℕ) (at_x at_y : Broker) (j : ℕ) → Covers x at_x at_y l j → (i : ℕ) (f : Entry) → i ≤ j → slice_get at_y.entries i ≡ Some f → is_covered x (seen at_x) l f ≡ true
covered_by x l at_x at_y j c i f le at = by (is_data f.content) (meant_for x f) refl refl
  where
    any : Bool
    any = list_any (same_entry f) (take (l + 1) at_x.entries)

    by : (d m : Bool) → is_data f.content ≡ d → meant_for x f ≡ m → (not (d && m) || any) ≡ true
    by false m message meant = refl
    by true false message meant = refl
    by true true message meant =
        let r = c i f le at message meant in
        let below = r.1 in
        any_of (same_entry f) (take (l + 1) at_x.entries) r.0 f (in_take (l + 1) at_x.entries r.0 f (omega (arith, below)) r.2) (entry_itself f)

covers_seen : (s : Setup) (w : World) (t x y l : ℕ) (p : Position) → Numbered (topic_at s w t y).entries (topic_at s w t y).ledgers → CoversCluster s w t x l y p
    → covers x (seen (topic_at s w t x)) (seen (topic_at s w t y)) l (index_named (seen (topic_at s w t y)) (Some p)) ≡ true
covers_seen s w t x y l p numbered c =
    let at_x = topic_at s w t x in let at_y = topic_at s w t y in
    let C : Option ℕ → Type 0 = λ o. covers x (seen at_x) (seen at_y) l o ≡ true in
    subst C (sym (index_seen at_y p numbered ∙ c.1))
    (all_of (is_covered x (seen at_x) l) (take (c.0 + 1) at_y.entries)
    (λ i f at. let o = of_take (c.0 + 1) at_y.entries i f at in let lt = o.0 in covered_by x l at_x at_y c.0 c.2 i f (omega (arith, lt)) o.1))

pub snapshot_accepted : (s : Setup) (w : World) (t x : ℕ) (e : Entry) (id : List ℕ) (cut : Cut) → IsThere s t x
    → ((u v : ℕ) → IsThere s u v → Numbered (topic_at s w u v).entries (topic_at s w u v).ledgers) → IsMade (length s.clusters) x cut → IsCut s w t x cut
    → may_snapshot s (world_seen w) t x e (content.Marked (marker.Snapshot id cut.local (named cut))) ≡ true
snapshot_accepted s w t x e id cut there numbered made is =
    or_right (not (e.ident.origin == x)) _
    (both (names_each x n (named cut)) (is_cut s (world_seen w) t x (named cut) (index_at (mirror_at s (world_seen w) t x) cut.local)) names
    (subst (λ (o : Option ℕ). is_cut s (world_seen w) t x (named cut) o ≡ true) (sym local) cuts))
  where
    n : ℕ
    n = length s.clusters

    b : Broker
    b = topic_at s w t x

    one : (y : ℕ) → y < n → x ≢ y → (p : Position) × (positions_for y (named cut) ≡ p ∷ []) × CoversCluster s w t x is.0 y p
    one y lt other = let h = is.2 y lt other in (h.0, names_one y cut.remote h.0 h.1, h.2)

    whole : length (named cut) + 1 ≡ n
    whole =
        let size = made.places in let small = there.1 in
        named_length x 0 cut.remote (omega (arith, size, small)) made.empty
        (λ y lt other. let h = is.2 y (omega (arith, lt, size)) other in (h.0, h.1)) ∙ size

    names : names_each x n (named cut) ≡ true
    names =
        both (length (named cut) + 1 == n) _ (eq-eqb (length (named cut) + 1) n whole)
        (all_in_range (λ y. is_named_once x y (named cut)) n (λ y lt.
        by_test (x == y) (λ same. or_left (x == y) _ same)
        (λ other.
        let o = one y lt (λ e'. false≢true (sym other ∙ eq-eqb x y e')) in
        or_right (x == y) _ (ap (λ (ps : List Position). length ps == 1) o.1))))

    local : index_at (mirror_at s (world_seen w) t x) cut.local ≡ Some is.0
    local = ap (λ (m : Mirror). index_at m cut.local) (mirror_is s w t x) ∙ (index_seen b cut.local (numbered t x there) ∙ is.1)

    cuts : is_cut s (world_seen w) t x (named cut) (Some is.0) ≡ true
    cuts =
        all_in_range
        (λ y. (x == y) || covers x (mirror_at s (world_seen w) t x) (mirror_at s (world_seen w) t y) is.0 (index_named (mirror_at s (world_seen w) t y) (position_named y (named cut)))) n
        (λ y lt.
        by_test (x == y) (λ same. or_left (x == y) _ same)
        (λ other.
        let o = one y lt (λ e'. false≢true (sym other ∙ eq-eqb x y e')) in
        let at_y = topic_at s w t y in
        let M : Mirror → Mirror → Type 0 = λ m k. covers x m k is.0 (index_named k (position_named y (named cut))) ≡ true in
        let P : List Position → Type 0 = λ ps. covers x (seen b) (seen at_y) is.0 (index_named (seen at_y) (slice_get ps 0)) ≡ true in
        or_right (x == y) _
        (subst (λ (k : Mirror). M (mirror_at s (world_seen w) t x) k) (sym (mirror_is s w t y))
        (subst (λ (m : Mirror). M m (seen at_y)) (sym (mirror_is s w t x))
        (subst P (sym o.1) (covers_seen s w t x y is.0 o.0 (numbered t y (there.0, lt)) o.2))))))
