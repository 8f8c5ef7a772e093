-- The snapshot that a trace names after an own update: of the own snapshots with the same remote positions the one with the least local
-- position. Where a mark-delete passes one of them it passes that one too, so the line is accepted.
use Rattle.std.proofs.Common.{◌≡◌, ℕ, zero, suc, ◌+◌, ◌<◌, ◌≤◌, Bool, true, false, List, [], ◌∷◌, ◌++◌, length, refl, sym, ap, subst, ◌∙◌, ◌==◌, arith, inl, inr}
use Rattle.std.specs.Prelude.{◌⊎◌, ◌&&◌, Option, Some, if◌then◌else◌, slice_get}
use Rattle.std.proofs.lemmas.Bool.{eq-eqb, lt-ltb}
use Rattle.std.proofs.lemmas.Bool.Decides.{nat_tests}
use Rattle.std.proofs.lemmas.Option.{none-some, same_Some, slice_get_within}
use Rattle.world_laws.proofs.Types.{CachedSnapshot, ClusterPosition, Content, Cut, Entry, Position}
use Rattle.world_laws.proofs.Types.content
use Rattle.world_laws.proofs.Types.marker
use Rattle.geo_base.specs.Broker.{Broker, Site}
use Rattle.geo_base.specs.SnapshotBuilder.{named}
use Rattle.geo_base.specs.Cache.{cut_of}
use Rattle.geo_base.specs.Cursor.{mark}
use Rattle.geo_base.specs.Position.{position_le, position_lt}
use Rattle.geo_base.specs.Subscription.{Subscription}
use Rattle.geo_base.specs.Topic.{index_of, position_at}
use Rattle.geo_base.specs.Updating.{positions_for}
use Rattle.world_laws.proofs.Snapshotting.Answering.{Numbered}
use Rattle.world_laws.proofs.TopicOrder.Ledgers.{at_index}
use Rattle.world_laws.proofs.OnceInOrder.Members.{Stands, stands_next}
use Rattle.world_laws.proofs.TopicOrder.NextPosition.{le_index}
use Rattle.world_laws.proofs.Replicating.Prefixes.{is_of}
use Rattle.world_laws.proofs.Walks.Walk.{both, left, right}
use Rattle.geo_base.specs.TraceItems.{names_same, same_positions}
use Rattle.geo_base.specs.Traced.{SnapshotAt, least_of, least_snapshot, snapshot_in, snapshot_position, snapshots_from}
use Rattle.geo_base.specs.Mirror.{MirrorSub, index_at, mirror_sub}
use Rattle.geo_base.specs.Audit.{entry_at, entry_by, passes_local, tells_content, tells_entry}
use Rattle.trace_laws.specs.Seen.{seen, sub_seen}
use Rattle.trace_laws.proofs.Places.{index_seen, position_itself}
use Rattle.trace_laws.proofs.Stems.{StemsFrom}

-- ---- the same positions

positions_themselves : (ps : List Position) → same_positions ps ps ≡ true
positions_themselves [] = refl
positions_themselves (p ∷ ps) = both _ (same_positions ps ps) (position_itself p p refl) (positions_themselves ps)

pub names_themselves : (n : ℕ) (rs : List ClusterPosition) → names_same n rs rs ≡ true
names_themselves zero rs = eq-eqb (length rs) (length rs) refl
names_themselves (suc n) rs = both (same_positions (positions_for n rs) (positions_for n rs)) (names_same n rs rs) (positions_themselves (positions_for n rs)) (names_themselves n rs)

-- ---- the marks of a topic

-- a mark is that of an own snapshot with these remote positions, i being the index of the first entry
pub record IsSnapshotAt (own n : ℕ) (remote : List ClusterPosition) (i : ℕ) (es : List Entry) (m : SnapshotAt) : Type 0 where
  pub place : ℕ
  pub entry : Entry
  pub id : List ℕ
  pub other : List ClusterPosition
  pub index : m.index ≡ i + place
  pub at : slice_get es place ≡ Some entry
  pub of : is_of own entry ≡ true
  pub is : entry.content ≡ content.Marked (marker.Snapshot id m.local other)
  pub same : names_same n other remote ≡ true

later : (own n : ℕ) (remote : List ClusterPosition) (i : ℕ) (e : Entry) (es : List Entry) (m : SnapshotAt) → IsSnapshotAt own n remote (i + 1) es m → IsSnapshotAt own n remote i (e ∷ es) m
later own n remote i e es m r =
    record { place = suc r.place; entry = r.entry; id = r.id; other = r.other; index = (let same = r.index in omega (arith, same)); at = r.at; of = r.of; is = r.is; same = r.same }

-- the first of a list, or one of the others
first_or : {X : Type 0} (x : X) (xs : List X) (y : X) → Stands (x ∷ xs) y → (x ≡ y) ⊎ Stands xs y
first_or x xs y s = by s.place s.is
  where
    by : (k : ℕ) → slice_get (x ∷ xs) k ≡ Some y → (x ≡ y) ⊎ Stands xs y
    by zero at = inl (same_Some x y at)
    by (suc k) at = inr (record { place = k; is = at })

pub snapshots_are : (own n : ℕ) (remote : List ClusterPosition) (i : ℕ) (es : List Entry) (m : SnapshotAt) → Stands (snapshots_from own n remote i es) m → IsSnapshotAt own n remote i es m
snapshots_are own n remote i [] m s = absurd (none-some m s.is)
snapshots_are own n remote i (e ∷ es) m s = by (λ r. later own n remote i e es m (snapshots_are own n remote (i + 1) es m r)) e.content refl s
  where
    Rest : Type 0
    Rest = Stands (snapshots_from own n remote (i + 1) es) m → IsSnapshotAt own n remote i (e ∷ es) m

    one : Rest → (id : List ℕ) (local : Position) (other : List ClusterPosition) → e.content ≡ content.Marked (marker.Snapshot id local other) → (b : Bool)
        → (is_of own e && names_same n other remote) ≡ b → Stands ((if b then record { local = local; index = i } ∷ [] else []) ++ snapshots_from own n remote (i + 1) es) m
        → IsSnapshotAt own n remote i (e ∷ es) m
    one rest id local other is false t r = rest r
    one rest id local other is true t r =
        elim (first_or (record { local = local; index = i }) (snapshots_from own n remote (i + 1) es) m r) [
          | inl here ↦
              subst (IsSnapshotAt own n remote i (e ∷ es)) here
              (record {
                place = zero;
                entry = e;
                id = id;
                other = other;
                index = omega arith;
                at = refl;
                of = left (is_of own e) (names_same n other remote) t;
                is = is;
                same = right (is_of own e) (names_same n other remote) t;
              })
          | inr more ↦ rest more
        ]

    by : Rest → (c : Content) → e.content ≡ c → Stands (snapshot_in own n remote i e c ++ snapshots_from own n remote (i + 1) es) m → IsSnapshotAt own n remote i (e ∷ es) m
    by rest (content.Marked (marker.Snapshot id local other)) is r = one rest id local other is (is_of own e && names_same n other remote) refl r
    by rest (content.Marked (marker.Request id source)) is r = rest r
    by rest (content.Marked (marker.Response id answer)) is r = rest r
    by rest (content.Marked (marker.Update m' other)) is r = rest r
    by rest content.Data is r = rest r
    by rest (content.Unread k) is r = rest r

-- after others
behind : {X : Type 0} (xs ys : List X) (y : X) → Stands ys y → Stands (xs ++ ys) y
behind [] ys y s = s
behind (x ∷ xs) ys y s = stands_next x (xs ++ ys) y (behind xs ys y s)

pub marks_have : (own n : ℕ) (remote : List ClusterPosition) (i : ℕ) (es : List Entry) (j : ℕ) (e : Entry) (id : List ℕ) (local : Position) (other : List ClusterPosition)
    → slice_get es j ≡ Some e → is_of own e ≡ true → e.content ≡ content.Marked (marker.Snapshot id local other) → names_same n other remote ≡ true
    → Stands (snapshots_from own n remote i es) (record { local = local; index = i + j })
marks_have own n remote i [] j e id local other at of is same = absurd (none-some e at)
marks_have own n remote i (a ∷ es) zero e id local other at of is same =
    let C : Content → Type 0 = λ c. Stands (snapshot_in own n remote i a c ++ snapshots_from own n remote (i + 1) es) (record { local = local; index = i + zero }) in
    let one : a ≡ e = same_Some a e at in
    let test : (is_of own a && names_same n other remote) ≡ true = both (is_of own a) (names_same n other remote) (ap (is_of own) one ∙ of) same in
    let here : i ≡ i + zero = omega arith in
    let mine : SnapshotAt = record { local = local; index = i } in
    let L : Bool → Type 0 = λ b. Stands ((if b then mine ∷ [] else []) ++ snapshots_from own n remote (i + 1) es) (record { local = local; index = i + zero }) in
    subst C (sym (ap (λ (z : Entry). z.content) one ∙ is))
    (subst L (sym test)
    (subst (λ (k : ℕ). Stands (mine ∷ snapshots_from own n remote (i + 1) es) (record { local = local; index = k })) here (record { place = zero; is = refl })))
marks_have own n remote i (a ∷ es) (suc j) e id local other at of is same =
    let there : (i + 1) + j ≡ i + suc j = omega arith in
    subst (λ (k : ℕ). Stands (snapshots_from own n remote i (a ∷ es)) (record { local = local; index = k })) there
    (behind (snapshot_in own n remote i a a.content) (snapshots_from own n remote (i + 1) es) (record { local = local; index = (i + 1) + j })
    (marks_have own n remote (i + 1) es j e id local other at of is same))

-- ---- the least

abbrev le : SnapshotAt → SnapshotAt → Type 0
le k m = position_le k.local m.local ≡ true

le_itself : (p : Position) → position_le p p ≡ true
le_itself p = grind (arith, nat_tests)

le_step : (p q r : Position) → position_lt q p ≡ true → position_le p r ≡ true → position_le q r ≡ true
le_step p q r h k = grind (arith, nat_tests, h, k)

le_both : (p q r : Position) → position_le p q ≡ true → position_lt r q ≡ false → position_le p r ≡ true
le_both p q r h k = grind (arith, nat_tests, h, k)

lt_le : (p q : Position) → position_lt p q ≡ true → position_le p q ≡ true
lt_le p q h = grind (arith, nat_tests, h)

pub record IsLeast (m : SnapshotAt) (ms : List SnapshotAt) : Type 0 where
  pub stands : Stands (m ∷ ms) (least_of m ms)
  pub least : (k : SnapshotAt) → Stands (m ∷ ms) k → le (least_of m ms) k

-- the least of a list is not after its first
not_after_first : (m : SnapshotAt) (ms : List SnapshotAt) → le (least_of m ms) m
not_after_first m [] = le_itself m.local
not_after_first m (k ∷ ks) = by (position_lt k.local m.local) refl (not_after_first k ks) (not_after_first m ks)
  where
    by : (b : Bool) → position_lt k.local m.local ≡ b → le (least_of k ks) k → le (least_of m ks) m → le (if b then least_of k ks else least_of m ks) m
    by true t n o = grind (arith, nat_tests, t, n)
    by false t n o = o

pub least_is : (m : SnapshotAt) (ms : List SnapshotAt) → IsLeast m ms
least_is m [] = record { stands = record { place = zero; is = refl }; least = λ k s. elim (first_or m [] k s) [ inl e ↦ subst (le m) e (le_itself m.local) | inr none ↦ absurd (none-some k none.is) ] }
least_is m (k ∷ ks) = let r = by (position_lt k.local m.local) refl (least_is k ks) (least_is m ks) in record { stands = r.0; least = r.1 }
  where
    by : (b : Bool) → position_lt k.local m.local ≡ b → IsLeast k ks → IsLeast m ks
        → (Stands (m ∷ k ∷ ks) (if b then least_of k ks else least_of m ks)) × ((j : SnapshotAt) → Stands (m ∷ k ∷ ks) j → le (if b then least_of k ks else least_of m ks) j)
    by true t a c = (
      stands_next m (k ∷ ks) _ a.stands,
      λ j s. elim (first_or m (k ∷ ks) j s) [
        | inl e ↦ subst (le (least_of k ks)) e (let n = not_after_first k ks in grind (arith, nat_tests, t, n))
        | inr r ↦ a.least j r
      ],
    )
    by false t a c = (
      deeper c.stands,
      λ j s. elim (first_or m (k ∷ ks) j s) [
        | inl e ↦ subst (le (least_of m ks)) e (not_after_first m ks)
        | inr r ↦ elim (first_or k ks j r) [
          | inl e ↦ subst (le (least_of m ks)) e (let n = not_after_first m ks in grind (arith, nat_tests, t, n))
          | inr q ↦ c.least j (stands_next m ks j q)
        ]
      ],
    )
      where
        deeper : Stands (m ∷ ks) (least_of m ks) → Stands (m ∷ k ∷ ks) (least_of m ks)
        deeper s = elim (first_or m ks (least_of m ks) s) [ inl e ↦ record { place = zero; is = ap (λ (z : SnapshotAt). Some z) e } | inr r ↦ stands_next m (k ∷ ks) _ (stands_next k ks _ r) ]

-- ---- RULE 6

-- a mark of the list is told where there is one
told_some : (ms : List SnapshotAt) (k : SnapshotAt) → Stands ms k → (m : SnapshotAt) × (least_snapshot ms ≡ Some m) × Stands ms m × le m k
told_some [] k s = absurd (none-some k s.is)
told_some (m ∷ ms) k s = let l = least_is m ms in (least_of m ms, refl, l.stands, l.least k s)

-- what the machine keeps of a topic's snapshots: an own snapshot has a stored local position
abbrev pub LocalStored : ℕ → Broker → Type 0
LocalStored x b = (i : ℕ) (e : Entry) (id : List ℕ) (local : Position) (remote : List ClusterPosition) → slice_get b.entries i ≡ Some e → is_of x e ≡ true
    → e.content ≡ content.Marked (marker.Snapshot id local remote) → (l : ℕ) × (index_of b.ledgers local ≡ Some l)

-- an own snapshot with the same remote positions, whose local position is not after one that a mark-delete passes, is told
told_passes : (s : ℕ) (x : ℕ) (b : Broker) (n : List ℕ) (remote : List ClusterPosition) (k : SnapshotAt) (local : Position) (top : ℕ) (v : Subscription) → Numbered b.entries b.ledgers
    → LocalStored x b → IsSnapshotAt x s remote 0 b.entries k → position_le k.local local ≡ true → index_of b.ledgers local ≡ Some top → top < mark v.cursor
    → mirror_sub (seen b) n ≡ Some (sub_seen v) → tells_entry x s (seen b) n remote (entry_by (seen b) (Some (position_at b.ledgers k.index))) ≡ true
told_passes s x b n remote k local top v numbered stored m low at below sub =
    let lt : m.place < length b.entries = slice_get_within b.entries m.place m.entry m.at in
    let index : k.index ≡ m.place = let e = m.index in omega (arith, e) in
    let whole = numbered.whole in
    let at_k : index_at (seen b) (position_at b.ledgers k.index) ≡ Some m.place =
    ap (λ (j : ℕ). index_at (seen b) (position_at b.ledgers j)) index
    ∙ (index_seen b (position_at b.ledgers m.place) numbered ∙ at_index b.ledgers m.place (omega (arith, lt, whole))) in
    let found : entry_by (seen b) (Some (position_at b.ledgers k.index)) ≡ Some m.entry = ap (entry_at (seen b)) at_k ∙ m.at in
    let l = stored m.place m.entry m.id k.local m.other m.at m.of m.is in
    let low' : l.0 ≤ top = le_index b.ledgers k.local local l.0 top l.1 at low in
    let passed : passes_local (seen b) (mirror_sub (seen b) n) (index_at (seen b) k.local) ≡ true =
    ap (λ (o : Option MirrorSub). passes_local (seen b) o (index_at (seen b) k.local)) sub
    ∙ (ap (passes_local (seen b) (Some (sub_seen v))) (index_seen b k.local numbered ∙ l.1) ∙ lt-ltb l.0 (mark v.cursor) (omega (arith, low', below))) in
    let C : Content → Type 0 = λ c. ((m.entry.ident.origin == x) && tells_content s (seen b) n remote c) ≡ true in
    let told : ((m.entry.ident.origin == x) && tells_content s (seen b) n remote m.entry.content) ≡ true =
    subst C (sym m.is) (both (is_of x m.entry) (names_same s m.other remote && passes_local (seen b) (mirror_sub (seen b) n) (index_at (seen b) k.local)) m.of
    (both (names_same s m.other remote) (passes_local (seen b) (mirror_sub (seen b) n) (index_at (seen b) k.local)) m.same passed)) in
    ap (tells_entry x s (seen b) n remote) found ∙ told

-- an own snapshot names just the places of its cut, in their order
abbrev pub NamesItsCut : ℕ → ℕ → List Entry → Type 0
NamesItsCut n x es = (i : ℕ) (e : Entry) (id : List ℕ) (local : Position) (remote : List ClusterPosition) → slice_get es i ≡ Some e → is_of x e ≡ true
    → e.content ≡ content.Marked (marker.Snapshot id local remote) → remote ≡ named (cut_of x n local remote)

-- the update that follows a cursor's write: h is the site, b the broker after that write, c the cached snapshot that the mark-delete passes
pub update_accepted : (h : Site) (b : Broker) (n : List ℕ) (cut : Cut) (c : CachedSnapshot) (v : Subscription) → Numbered b.entries b.ledgers
    → NamesItsCut (length h.clusters) h.own b.entries → LocalStored h.own b → StemsFrom (length h.clusters) h.own b.entries b.ledgers c → c.cut ≡ cut → c.index < mark v.cursor → mirror_sub (seen b) n ≡ Some (sub_seen v)
    → tells_entry h.own (length h.clusters) (seen b) n (named cut)
    (entry_by (seen b) (snapshot_position b.ledgers (least_snapshot (snapshots_from h.own (length h.clusters) (named cut) 0 b.entries)))) ≡ true
update_accepted h b n cut c v numbered names stored from is below sub =
    let s = length h.clusters in
    let same : from.remote ≡ named cut =
    names from.index from.entry from.id from.local from.remote from.stands from.own from.is ∙ ap named (sym from.cut ∙ is) in
    let mine : names_same s from.remote (named cut) ≡ true = subst (λ (rs : List ClusterPosition). names_same s from.remote rs ≡ true) same (names_themselves s from.remote) in
    let there = marks_have h.own s (named cut) 0 b.entries from.index from.entry from.id from.local from.remote from.stands from.own from.is mine in
    let least = told_some (snapshots_from h.own s (named cut) 0 b.entries) (record { local = from.local; index = 0 + from.index }) there in
    let m = snapshots_are h.own s (named cut) 0 b.entries least.0 least.2 in
    ap (λ (o : Option SnapshotAt). tells_entry h.own s (seen b) n (named cut) (entry_by (seen b) (snapshot_position b.ledgers o))) least.1
    ∙ told_passes s h.own b n (named cut) least.0 from.local c.index v numbered stored m least.3 from.at below sub
