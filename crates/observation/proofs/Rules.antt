-- Rule by rule: nothing is found exactly where the fact holds.
use Rattle.std.proofs.Common.{◌≡◌, ℕ, zero, suc, ◌+◌, ◌<◌, ◌≤◌, Bool, true, false, cond, List, [], ◌∷◌, length, map, refl, sym, ap, subst, ◌∙◌, ◌==◌, arith, inl, inr, ◌⊎◌}
use Rattle.std.specs.Prelude.{◌≢◌, if◌then◌else◌, Option, Some, None, slice_get, take, filter, not, nat_lt, is_some, ◌&&◌, ◌||◌}
use Rattle.std.specs.List.{list_any}
use Rattle.std.proofs.lemmas.Bool.{and_from, and_parts, eq-eqb, eqb-true, false≢true, le-leb, leb-true, lt-ltb, ltb-true, or_left, or_right}
use Rattle.std.proofs.lemmas.Option.{none-some, same_Some}
use Rattle.geo_base.specs.declared.entry.Content.{Content}
use Rattle.geo_base.specs.declared.entry.Content.TheVariants as content
use Rattle.geo_base.specs.declared.entry.Entry.{Entry}
use Rattle.geo_base.specs.declared.entry.Ident.{Ident}
use Rattle.geo_base.specs.declared.marker.ClusterPosition.{ClusterPosition}
use Rattle.geo_base.specs.declared.marker.Marker.TheVariants as marker
use Rattle.geo_base.specs.declared.position.Position.{Position}
use Rattle.geo_base.specs.Audit.{names_each, position_named, same_entry}
use Rattle.geo_base.specs.Cursor.{has}
use Rattle.geo_base.specs.Entry.{is_data, is_outbound, means_cluster, meant_for, same_ident, same_stream}
use Rattle.geo_base.specs.Mirror.{MirrorSub, index_at}
use Rattle.geo_base.specs.Setup.{Setup}
use Rattle.geo_base.specs.Topic.{accepts}
use Rattle.observation.specs.declared.finding.Finding.{Finding}
use Rattle.observation.specs.declared.finding.Finding.TheVariants as finding
use Rattle.observation.specs.declared.said.Said.{Said}
use Rattle.observation.specs.declared.said.Said.TheVariants as said
use Rattle.observation.specs.Findings.{Placed, apart, are_covered, begins, brought, brought_from, common_placed, covers_one, cuts, cuts_at, cuts_in, cuts_of, each_at, is_covered, is_judged_apart, is_stored, is_there, is_upto, lost, lost_in, parted, placed_from, skipped, skipped_of, stands_in, tells_one, tells_upto, told, told_in, told_of, twice, unless, unreceived}
use Rattle.observation.specs.Observed.{Observation, entries_seen, is_dealt_with, is_read, may_be_later, received_at, stands_at, topic_seen}
use Rattle.observation.specs.Safe.{AreAlike, Begins, CoversAt, IsBrought, IsCovered, IsCutSeen, IsReceived, IsStored, OnceIn, Stands, TellsAt, TellsSettled, came_from, common, is_common, went_to}
use Rattle.observation.proofs.Bringing.{begins_brought, brought_begins}
use Rattle.observation.proofs.Empty.{all_at, all_of, here_none, held, in_take, none_here, not_empty, of_take, other_none, others_none, unless_held}
use Rattle.geo_base.proofs.Bools.{or_cases}

-- ---- tests

-- one of two, where the first is not
other_one : (a b : Bool) → (not a || b) ≡ true → a ≡ true → b ≡ true
other_one true b h is = h
other_one false b h is = absurd (false≢true is)

if_first : (a b : Bool) → (a ≡ true → b ≡ true) → (not a || b) ≡ true
if_first true b h = h refl
if_first false b h = refl

any_at : {X : Type 0} (p : X → Bool) (xs : List X) → list_any p xs ≡ true → (i : ℕ) × (x : X) × (slice_get xs i ≡ Some x) × (p x ≡ true)
any_at p [] h = absurd (false≢true h)
any_at p (a ∷ xs) h =
    elim (or_cases (p a) (list_any p xs) h) [
      | inl e ↦ (zero, a, refl, e)
      | inr l ↦ let r = any_at p xs l in (suc r.0, r.1, r.2, r.3)
    ]

any_of : {X : Type 0} (p : X → Bool) (xs : List X) (i : ℕ) (x : X) → slice_get xs i ≡ Some x → p x ≡ true → list_any p xs ≡ true
any_of p [] i x at h = absurd (none-some x at)
any_of p (a ∷ xs) zero x at h = or_left (p a) (list_any p xs) (subst (λ y. p y ≡ true) (sym (same_Some a x at)) h)
any_of p (a ∷ xs) (suc i) x at h = or_right (p a) (list_any p xs) (any_of p xs i x at h)

-- where an option's test holds
some_there : (o : Option ℕ) → is_some o ≡ true → (k : ℕ) × (o ≡ Some k)
some_there None h = absurd (false≢true h)
some_there (Some k) h = (k, refl)

-- ---- lost

pub lost_none : (s : Setup) (o : Observation) (t k : ℕ) (g : Ident) (p : Position) → lost s o t ≡ [] → slice_get o.said k ≡ Some (said.Receipt t g p) → IsStored s o t g p
unfolding lost
lost_none s o t k g p h at =
    let here : lost_in s o t (said.Receipt t g p) ≡ [] = none_here (λ (n : ℕ) (l : Said). lost_in s o t l) o.said k (said.Receipt t g p) h at in
    let own : unless (is_stored s o t g p) (finding.Lost t g p) ≡ [] =
    subst (λ (b : Bool). cond b (unless (is_stored s o t g p) (finding.Lost t g p)) [] ≡ []) (eq-eqb t t refl) here in
    elim (or_cases (may_be_later s o t g.origin p) _ (held (is_stored s o t g p) (finding.Lost t g p) own)) [
      | inl later ↦ inl later
      | inr any ↦ let r = any_at (λ (e : Entry). same_ident e.ident g) (entries_seen s o t g.origin) any in inr (r.0, r.1, r.2, r.3)
    ]

pub none_lost : (s : Setup) (o : Observation) (t : ℕ) → ((k : ℕ) (g : Ident) (p : Position) → slice_get o.said k ≡ Some (said.Receipt t g p) → IsStored s o t g p) → lost s o t ≡ []
unfolding lost
none_lost s o t h = here_none (λ (n : ℕ) (l : Said). lost_in s o t l) o.said each
  where
    stored : (g : Ident) (p : Position) → IsStored s o t g p → is_stored s o t g p ≡ true
    stored g p (inl later) = or_left (may_be_later s o t g.origin p) (list_any (λ (e : Entry). same_ident e.ident g) (entries_seen s o t g.origin)) later
    stored g p (inr r) =
        or_right (may_be_later s o t g.origin p) (list_any (λ (e : Entry). same_ident e.ident g) (entries_seen s o t g.origin))
        (any_of (λ (e : Entry). same_ident e.ident g) (entries_seen s o t g.origin) r.0 r.1 r.2 r.3)

    by : (k u : ℕ) (g : Ident) (p : Position) (b : Bool) → (u == t) ≡ b → slice_get o.said k ≡ Some (said.Receipt u g p)
        → cond b (unless (is_stored s o t g p) (finding.Lost t g p)) [] ≡ []
    by k u g p true is at =
        unless_held (is_stored s o t g p) (finding.Lost t g p)
        (stored g p (h k g p (subst (λ (n : ℕ). slice_get o.said k ≡ Some (said.Receipt n g p)) (eqb-true u t is) at)))
    by k u g p false is at = refl

    each : (k : ℕ) (l : Said) → slice_get o.said k ≡ Some l → lost_in s o t l ≡ []
    each k (said.Receipt u g p) at = by k u g p (u == t) refl at
    each k (said.Done u m g) at = refl
    each k (said.Below u x m n) at = refl
    each k (said.Unsure u x m) at = refl

-- ---- twice

newer_at : (es : List Entry) (g : Ident) (i : ℕ) (e : Entry) → accepts es g ≡ true → slice_get es i ≡ Some e → same_stream e.ident g ≡ true → e.ident.seq < g.seq
newer_at [] g i e h at same = absurd (none-some e at)
newer_at (a ∷ es) g zero e h at same =
    let first = (and_parts (not (same_stream a.ident g) || nat_lt a.ident.seq g.seq) (accepts es g) h).0 in
    let here : (not (same_stream e.ident g) || nat_lt e.ident.seq g.seq) ≡ true =
    subst (λ (d : Entry). (not (same_stream d.ident g) || nat_lt d.ident.seq g.seq) ≡ true) (same_Some _ _ at) first in
    ltb-true e.ident.seq g.seq (other_one (same_stream e.ident g) (nat_lt e.ident.seq g.seq) here same)
newer_at (a ∷ es) g (suc i) e h at same =
    newer_at es g i e (and_parts (not (same_stream a.ident g) || nat_lt a.ident.seq g.seq) (accepts es g) h).1 at same

newer_all : (es : List Entry) (g : Ident) → ((i : ℕ) (e : Entry) → slice_get es i ≡ Some e → same_stream e.ident g ≡ true → e.ident.seq < g.seq) → accepts es g ≡ true
newer_all [] g h = refl
newer_all (a ∷ es) g h =
    and_from (not (same_stream a.ident g) || nat_lt a.ident.seq g.seq) (accepts es g)
    (if_first (same_stream a.ident g) (nat_lt a.ident.seq g.seq) (λ same. lt-ltb a.ident.seq g.seq (h zero a refl same)))
    (newer_all es g (λ i e at same. h (suc i) e at same))

pub twice_none : (s : Setup) (o : Observation) (t x : ℕ) → twice s o t x ≡ [] → OnceIn (entries_seen s o t x)
unfolding twice
twice_none s o t x h i j e f lt ati atj same =
    let es = entries_seen s o t x in
    let fresh : accepts (take j es) f.ident ≡ true =
    held (accepts (take j es) f.ident) (finding.Twice t x j)
    (none_here (λ (n : ℕ) (d : Entry). unless (accepts (take n es) d.ident) (finding.Twice t x n)) es j f h atj) in
    newer_at (take j es) f.ident i e fresh (in_take j es i e lt ati) same

pub none_twice : (s : Setup) (o : Observation) (t x : ℕ) → OnceIn (entries_seen s o t x) → twice s o t x ≡ []
unfolding twice
none_twice s o t x once =
    let es = entries_seen s o t x in
    here_none (λ (n : ℕ) (d : Entry). unless (accepts (take n es) d.ident) (finding.Twice t x n)) es
    (λ j f at. unless_held (accepts (take j es) f.ident) (finding.Twice t x j)
    (newer_all (take j es) f.ident (λ i e ati same. let r = of_take j es i e ati in once i j e f r.0 r.1 at same)))

-- ---- brought

begins_are : (es fs : List Entry) → begins es fs ≡ true → Begins es fs
begins_are [] fs h k e at = absurd (none-some e at)
begins_are (a ∷ es) [] h k e at = absurd (false≢true h)
begins_are (a ∷ es) (b ∷ fs) h zero e at = (b, refl, subst (λ (d : Entry). same_entry d b ≡ true) (same_Some _ _ at) (and_parts (same_entry a b) (begins es fs) h).0)
begins_are (a ∷ es) (b ∷ fs) h (suc k) e at = begins_are es fs (and_parts (same_entry a b) (begins es fs) h).1 k e at

are_begins : (es fs : List Entry) → Begins es fs → begins es fs ≡ true
are_begins [] fs h = refl
are_begins (a ∷ es) [] h = let r = h zero a refl in absurd (none-some r.0 r.1)
are_begins (a ∷ es) (b ∷ fs) h =
    let r = h zero a refl in
    and_from (same_entry a b) (begins es fs) (subst (λ (d : Entry). same_entry a d ≡ true) (sym (same_Some _ _ r.1)) r.2) (are_begins es fs (λ k e at. h (suc k) e at))

pub brought_none : (s : Setup) (o : Observation) (t x y : ℕ) → brought s o t x y ≡ [] → is_read s o t x ≡ true → is_read s o t y ≡ true → OnceIn (entries_seen s o t y)
    → IsBrought s o t x y
unfolding brought
brought_none s o t x y h here there once =
    let walk = brought_from t y x (entries_seen s o t x) (entries_seen s o t y) 0 0 (entries_seen s o t x) in
    let ahead = not o.quiet && begins (went_to s o t y x) (came_from s o t y x) in
    let both : (is_read s o t x && is_read s o t y) ≡ true = and_from (is_read s o t x) (is_read s o t y) here there in
    by ahead refl (subst (λ (b : Bool). cond (not b || ahead) [] walk ≡ []) both h)
  where
    quiet_not : (b : Bool) → not b ≡ true → b ≡ false
    quiet_not true is = absurd (false≢true is)
    quiet_not false is = refl

    by : (b : Bool) → (not o.quiet && begins (went_to s o t y x) (came_from s o t y x)) ≡ b
        → cond b [] (brought_from t y x (entries_seen s o t x) (entries_seen s o t y) 0 0 (entries_seen s o t x)) ≡ [] → IsBrought s o t x y
    by true is found =
        let r = and_parts (not o.quiet) (begins (went_to s o t y x) (came_from s o t y x)) is in
        inr (quiet_not o.quiet r.0, begins_are (went_to s o t y x) (came_from s o t y x) r.1)
    by false is found = inl (brought_begins t y x (entries_seen s o t x) (entries_seen s o t y) once found)

pub none_brought : (s : Setup) (o : Observation) (t x y : ℕ) → (is_read s o t x ≡ true → is_read s o t y ≡ true → IsBrought s o t x y) → OnceIn (entries_seen s o t y)
    → brought s o t x y ≡ []
unfolding brought
none_brought s o t x y h once = by (is_read s o t x && is_read s o t y) refl
  where
    walk : List Finding
    walk = brought_from t y x (entries_seen s o t x) (entries_seen s o t y) 0 0 (entries_seen s o t x)

    ahead : Bool
    ahead = not o.quiet && begins (went_to s o t y x) (came_from s o t y x)

    either_way : (b : Bool) → walk ≡ [] → cond b [] walk ≡ []
    either_way true is = refl
    either_way false is = is

    go : IsBrought s o t x y → cond ahead [] walk ≡ []
    go (inl begun) = either_way ahead (begins_brought t y x (entries_seen s o t x) (entries_seen s o t y) once begun)
    go (inr moved) =
        let yes : ahead ≡ true = and_from (not o.quiet) (begins (went_to s o t y x) (came_from s o t y x)) (ap not moved.0) (are_begins (went_to s o t y x) (came_from s o t y x) moved.1) in
        ap (λ (b : Bool). cond b [] walk) yes

    by : (b : Bool) → (is_read s o t x && is_read s o t y) ≡ b → cond (not (is_read s o t x && is_read s o t y) || ahead) [] walk ≡ []
    by true is =
        let r = and_parts (is_read s o t x) (is_read s o t y) is in subst (λ (c : Bool). cond (not c || ahead) [] walk ≡ []) (sym is) (go (h r.0 r.1))
    by false is = ap (λ (c : Bool). cond (not c || ahead) [] walk) is

-- ---- apart

abbrev entry_of : Placed → Entry
entry_of p = p.entry

placed_common : (y z i : ℕ) (es : List Entry) → map entry_of (filter (λ (p : Placed). is_common y z p.entry) (placed_from i es)) ≡ filter (is_common y z) es
placed_common y z i [] = refl
placed_common y z i (e ∷ es) = by (is_common y z e) (placed_common y z (i + 1) es)
  where
    by : (b : Bool) → map entry_of (filter (λ (p : Placed). is_common y z p.entry) (placed_from (i + 1) es)) ≡ filter (is_common y z) es
        → map entry_of (cond b (record { index = i; entry = e } ∷ filter (λ (p : Placed). is_common y z p.entry) (placed_from (i + 1) es)) (filter (λ (p : Placed). is_common y z p.entry) (placed_from (i + 1) es)))
        ≡ cond b (e ∷ filter (is_common y z) es) (filter (is_common y z) es)
    by true h = ap (λ (l : List Entry). e ∷ l) h
    by false h = h

abbrev Agree : List Entry → List Entry → Type 0
Agree es fs = (k : ℕ) (e f : Entry) → slice_get es k ≡ Some e → slice_get fs k ≡ Some f → same_entry e f ≡ true

parted_agree : (t y x z : ℕ) (ps qs : List Placed) → parted t y x z ps qs ≡ [] → Agree (map entry_of ps) (map entry_of qs)
parted_agree t y x z [] qs h k e f ate atf = absurd (none-some e ate)
parted_agree t y x z (p ∷ ps) [] h k e f ate atf = absurd (none-some f atf)
parted_agree t y x z (p ∷ ps) (q ∷ qs) h k e f ate atf = by (same_entry p.entry q.entry) refl (parted_agree t y x z ps qs) h k ate atf
  where
    by : (b : Bool) → same_entry p.entry q.entry ≡ b → (parted t y x z ps qs ≡ [] → Agree (map entry_of ps) (map entry_of qs)) → cond b (parted t y x z ps qs) (finding.Apart t y x p.index z q.index ∷ []) ≡ [] → (k : ℕ)
        → slice_get (p.entry ∷ map entry_of ps) k ≡ Some e → slice_get (q.entry ∷ map entry_of qs) k ≡ Some f → same_entry e f ≡ true
    by false is rest found k ate atf = absurd (not_empty (finding.Apart t y x p.index z q.index) [] found)
    by true is rest found zero ate atf =
        subst (λ (d : Entry). same_entry d f ≡ true) (same_Some _ _ ate) (subst (λ (d : Entry). same_entry p.entry d ≡ true) (same_Some _ _ atf) is)
    by true is rest found (suc k) ate atf = rest found k e f ate atf

agree_parted : (t y x z : ℕ) (ps qs : List Placed) → Agree (map entry_of ps) (map entry_of qs) → parted t y x z ps qs ≡ []
agree_parted t y x z [] qs h = refl
agree_parted t y x z (p ∷ ps) [] h = refl
agree_parted t y x z (p ∷ ps) (q ∷ qs) h =
    ap (λ (b : Bool). cond b (parted t y x z ps qs) (finding.Apart t y x p.index z q.index ∷ [])) (h zero p.entry q.entry refl refl)
    ∙ agree_parted t y x z ps qs (λ k e f ate atf. h (suc k) e f ate atf)

is_apart_of : (s : Setup) (o : Observation) (t y x z : ℕ) → x < z → x ≢ y → z ≢ y → is_read s o t y ≡ false → is_read s o t x ≡ true → is_read s o t z ≡ true
    → is_judged_apart s o t y x z ≡ true
is_apart_of s o t y x z lt a b unread here there =
    and_from (nat_lt x z) _ (lt-ltb x z lt)
    (and_from (not (x == y)) _ (not_same x y a)
    (and_from (not (z == y)) _ (not_same z y b)
    (and_from (not (is_read s o t y)) _ (ap not unread) (and_from (is_read s o t x) (is_read s o t z) here there))))
  where
    by : (m n : ℕ) (c : Bool) → (m == n) ≡ c → (m ≡ n → ⊥) → not (m == n) ≡ true
    by m n true is differ = absurd (differ (eqb-true m n is))
    by m n false is differ = ap not is

    not_same : (m n : ℕ) → m ≢ n → not (m == n) ≡ true
    not_same m n differ = by m n (m == n) refl differ

pub apart_none : (s : Setup) (o : Observation) (t y x z : ℕ) → apart s o t y x z ≡ [] → x < z → x ≢ y → z ≢ y
    → is_read s o t y ≡ false → is_read s o t x ≡ true → is_read s o t z ≡ true → AreAlike s o t y x z
unfolding apart
apart_none s o t y x z h lt a b unread here there =
    let found : parted t y x z (common_placed s o t y x z) (common_placed s o t y z x) ≡ [] =
    subst (λ (c : Bool). cond c (parted t y x z (common_placed s o t y x z) (common_placed s o t y z x)) [] ≡ []) (is_apart_of s o t y x z lt a b unread here there) h in
    let both = parted_agree t y x z (common_placed s o t y x z) (common_placed s o t y z x) found in
    subst (λ (l : List Entry). Agree l (common s o t y z x)) (placed_common y z 0 (entries_seen s o t x))
    (subst (λ (l : List Entry). Agree (map entry_of (common_placed s o t y x z)) l) (placed_common y x 0 (entries_seen s o t z)) both)

pub none_apart : (s : Setup) (o : Observation) (t y x z : ℕ)
    → (x < z → x ≢ y → z ≢ y → is_read s o t y ≡ false → is_read s o t x ≡ true → is_read s o t z ≡ true → AreAlike s o t y x z) → apart s o t y x z ≡ []
unfolding apart
none_apart s o t y x z h = by (is_judged_apart s o t y x z) refl
  where
    differ : (m n : ℕ) → not (m == n) ≡ true → m ≢ n
    differ m n is same = false≢true (ap not (sym (eq-eqb m n same)) ∙ is)

    unread : (b : Bool) → not b ≡ true → b ≡ false
    unread true is = absurd (false≢true is)
    unread false is = refl

    alike : is_judged_apart s o t y x z ≡ true → AreAlike s o t y x z
    alike is =
        let one = and_parts (nat_lt x z) _ is in let two = and_parts (not (x == y)) _ one.1 in let three = and_parts (not (z == y)) _ two.1 in
        let four = and_parts (not (is_read s o t y)) _ three.1 in let five = and_parts (is_read s o t x) (is_read s o t z) four.1 in
        h (ltb-true x z one.0) (differ x y two.0) (differ z y three.0) (unread (is_read s o t y) four.0) five.0 five.1

    by : (c : Bool) → is_judged_apart s o t y x z ≡ c → cond c (parted t y x z (common_placed s o t y x z) (common_placed s o t y z x)) [] ≡ []
    by true is =
        agree_parted t y x z (common_placed s o t y x z) (common_placed s o t y z x)
        (subst (λ (l : List Entry). Agree l (map entry_of (common_placed s o t y z x))) (sym (placed_common y z 0 (entries_seen s o t x)))
        (subst (λ (l : List Entry). Agree (common s o t y x z) l) (sym (placed_common y x 0 (entries_seen s o t z))) (alike is)))
    by false is = refl

-- ---- unreceived

pub unreceived_none : (s : Setup) (o : Observation) (t x y : ℕ) → unreceived s o t x y ≡ [] → is_read s o t x ≡ true → is_read s o t y ≡ true → IsReceived s o t x y
unfolding unreceived
unreceived_none s o t x y h here there i e has_it at out =
    let walk = each_at (λ (n : ℕ) (d : Entry). unless (is_there s o t x y n d) (finding.Unreceived t x y n)) 0 (entries_seen s o t x) in
    let found : walk ≡ [] = subst (λ (c : Bool). cond c walk [] ≡ []) (and_from (is_read s o t x) (is_read s o t y) here there) h in
    let there_is : is_there s o t x y i e ≡ true =
    held (is_there s o t x y i e) (finding.Unreceived t x y i)
    (none_here (λ (n : ℕ) (d : Entry). unless (is_there s o t x y n d) (finding.Unreceived t x y n)) (entries_seen s o t x) i e found at) in
    some_there (stands_at e (entries_seen s o t y))
    (other_one (has (received_at s o t x y) i && is_outbound x y e) (stands_in e (entries_seen s o t y)) there_is (and_from (has (received_at s o t x y) i) (is_outbound x y e) has_it out))

pub none_unreceived : (s : Setup) (o : Observation) (t x y : ℕ) → (is_read s o t x ≡ true → is_read s o t y ≡ true → IsReceived s o t x y) → unreceived s o t x y ≡ []
unfolding unreceived
none_unreceived s o t x y h = by (is_read s o t x && is_read s o t y) refl
  where
    each : IsReceived s o t x y → (i : ℕ) (e : Entry) → slice_get (entries_seen s o t x) i ≡ Some e → unless (is_there s o t x y i e) (finding.Unreceived t x y i) ≡ []
    each all i e at =
        unless_held (is_there s o t x y i e) (finding.Unreceived t x y i)
        (if_first (has (received_at s o t x y) i && is_outbound x y e) (stands_in e (entries_seen s o t y))
        (λ both. let r = and_parts (has (received_at s o t x y) i) (is_outbound x y e) both in let there = all i e r.0 at r.1 in ap is_some there.1))

    by : (c : Bool) → (is_read s o t x && is_read s o t y) ≡ c
        → cond c (each_at (λ (n : ℕ) (d : Entry). unless (is_there s o t x y n d) (finding.Unreceived t x y n)) 0 (entries_seen s o t x)) [] ≡ []
    by true is =
        let r = and_parts (is_read s o t x) (is_read s o t y) is in
        here_none (λ (n : ℕ) (d : Entry). unless (is_there s o t x y n d) (finding.Unreceived t x y n)) (entries_seen s o t x) (each (h r.0 r.1))
    by false is = refl

-- ---- cut

upto_is : (l : ℕ) (o : Option ℕ) → is_upto l o ≡ true → (i : ℕ) × (i ≤ l) × (o ≡ Some i)
upto_is l None h = absurd (false≢true h)
upto_is l (Some i) h = (i, leb-true i l h, refl)

covers_is : (s : Setup) (o : Observation) (t x l y : ℕ) (remote : List ClusterPosition) (q : Option Position) → position_named y remote ≡ q → covers_one s o t x l y q ≡ true
    → IsCovered s o t x l y remote
covers_is s o t x l y remote None named h = absurd (false≢true h)
covers_is s o t x l y remote (Some p) named h =
    (p, named, elim (or_cases (may_be_later s o t y p) _ h) [ inl later ↦ inl later | inr all ↦ inr (at (index_at (topic_seen s o t y) p) refl all) ])
  where
    at : (j : Option ℕ) → index_at (topic_seen s o t y) p ≡ j → are_covered x (entries_seen s o t x) l (entries_seen s o t y) j ≡ true → CoversAt s o t x l y p
    at None is all = absurd (false≢true all)
    at (Some j) is all = (
      j,
      is,
      λ k f le stands message meant.
          let one : is_covered x (entries_seen s o t x) l f ≡ true =
          all_at (is_covered x (entries_seen s o t x) l) (take (j + 1) (entries_seen s o t y)) k f all (in_take (j + 1) (entries_seen s o t y) k f (omega (arith, le)) stands) in
          let r = upto_is l (stands_at f (entries_seen s o t x))
          (other_one (is_data f.content && meant_for x f) (is_upto l (stands_at f (entries_seen s o t x))) one (and_from (is_data f.content) (meant_for x f) message meant)) in
          (r.0, r.1, r.2),
    )

is_covers : (s : Setup) (o : Observation) (t x l y : ℕ) (remote : List ClusterPosition) → IsCovered s o t x l y remote → covers_one s o t x l y (position_named y remote) ≡ true
is_covers s o t x l y remote h = ap (covers_one s o t x l y) h.1 ∙ by h.2
  where
    p : Position
    p = h.0

    by : ((may_be_later s o t y p ≡ true) ⊎ CoversAt s o t x l y p) → covers_one s o t x l y (Some p) ≡ true
    by (inl later) = or_left (may_be_later s o t y p) (are_covered x (entries_seen s o t x) l (entries_seen s o t y) (index_at (topic_seen s o t y) p)) later
    by (inr at) =
        or_right (may_be_later s o t y p) (are_covered x (entries_seen s o t x) l (entries_seen s o t y) (index_at (topic_seen s o t y) p))
        (ap (are_covered x (entries_seen s o t x) l (entries_seen s o t y)) at.1
        ∙ all_of (is_covered x (entries_seen s o t x) l) (take (at.0 + 1) (entries_seen s o t y))
        (λ k f taken. let r = of_take (at.0 + 1) (entries_seen s o t y) k f taken in let less = r.0 in
        if_first (is_data f.content && meant_for x f) (is_upto l (stands_at f (entries_seen s o t x)))
        (λ both. let d = and_parts (is_data f.content) (meant_for x f) both in let there = at.2 k f (omega (arith, less)) r.1 d.0 d.1 in
        ap (is_upto l) there.2 ∙ le-leb there.0 l there.1)))

cut_is : (s : Setup) (o : Observation) (t x i : ℕ) (local : Position) (remote : List ClusterPosition) → cuts_in s o t x i local remote ≡ [] → IsCutSeen s o t x local remote
cut_is s o t x i local remote h = by (names_each x (length s.clusters) remote) refl h
  where
    at : (l : Option ℕ) → index_at (topic_seen s o t x) local ≡ l → names_each x (length s.clusters) remote ≡ true → cuts_at s o t x i remote l ≡ [] → IsCutSeen s o t x local remote
    at None is named found = absurd (not_empty (finding.Unplaced t x i) [] found)
    at (Some l) is named found = (
      named,
      l,
      is,
      λ y lt differ.
          covers_is s o t x l y remote (position_named y remote) refl
          (held (covers_one s o t x l y (position_named y remote)) (finding.Cut t x i y)
          (other_none s x (λ (z : ℕ). unless (covers_one s o t x l z (position_named z remote)) (finding.Cut t x i z)) y found lt differ)),
    )

    by : (b : Bool) → names_each x (length s.clusters) remote ≡ b → cond b (cuts_at s o t x i remote (index_at (topic_seen s o t x) local)) (finding.Unplaced t x i ∷ []) ≡ []
        → IsCutSeen s o t x local remote
    by true named found = at (index_at (topic_seen s o t x) local) refl named found
    by false named found = absurd (not_empty (finding.Unplaced t x i) [] found)

is_cut_none : (s : Setup) (o : Observation) (t x i : ℕ) (local : Position) (remote : List ClusterPosition) → IsCutSeen s o t x local remote → cuts_in s o t x i local remote ≡ []
is_cut_none s o t x i local remote h =
    ap (λ (b : Bool). cond b (cuts_at s o t x i remote (index_at (topic_seen s o t x) local)) (finding.Unplaced t x i ∷ [])) h.0
    ∙ ap (cuts_at s o t x i remote) h.2
    ∙ others_none s x (λ (z : ℕ). unless (covers_one s o t x h.1 z (position_named z remote)) (finding.Cut t x i z))
    (λ y lt differ. unless_held (covers_one s o t x h.1 y (position_named y remote)) (finding.Cut t x i y) (is_covers s o t x h.1 y remote (h.3 y lt differ)))

pub cuts_none : (s : Setup) (o : Observation) (t x i : ℕ) (e : Entry) (id : List ℕ) (local : Position) (remote : List ClusterPosition) → cuts s o t x ≡ []
    → Stands s o t x i e → e.ident.origin ≡ x → e.content ≡ content.Marked (marker.Snapshot id local remote) → IsCutSeen s o t x local remote
unfolding cuts
cuts_none s o t x i e id local remote h at own is =
    let here : cuts_of s o t x i e e.content ≡ [] = none_here (λ (n : ℕ) (d : Entry). cuts_of s o t x n d d.content) (entries_seen s o t x) i e h at in
    let snapshot : cuts_of s o t x i e (content.Marked (marker.Snapshot id local remote)) ≡ [] = subst (λ (c : Content). cuts_of s o t x i e c ≡ []) is here in
    cut_is s o t x i local remote (subst (λ (b : Bool). cond b (cuts_in s o t x i local remote) [] ≡ []) (eq-eqb e.ident.origin x own) snapshot)

pub none_cuts : (s : Setup) (o : Observation) (t x : ℕ)
    → ((i : ℕ) (e : Entry) (id : List ℕ) (local : Position) (remote : List ClusterPosition) → Stands s o t x i e → e.ident.origin ≡ x
    → e.content ≡ content.Marked (marker.Snapshot id local remote) → IsCutSeen s o t x local remote) → cuts s o t x ≡ []
unfolding cuts
none_cuts s o t x h = here_none (λ (n : ℕ) (d : Entry). cuts_of s o t x n d d.content) (entries_seen s o t x) (λ i e at. each i e e.content at refl)
  where
    by : (i : ℕ) (e : Entry) (id : List ℕ) (local : Position) (remote : List ClusterPosition) (b : Bool) → Stands s o t x i e → (e.ident.origin == x) ≡ b
        → e.content ≡ content.Marked (marker.Snapshot id local remote) → cond b (cuts_in s o t x i local remote) [] ≡ []
    by i e id local remote true at own is = is_cut_none s o t x i local remote (h i e id local remote at (eqb-true e.ident.origin x own) is)
    by i e id local remote false at own is = refl

    each : (i : ℕ) (e : Entry) (c : Content) → Stands s o t x i e → e.content ≡ c → cuts_of s o t x i e c ≡ []
    each i e (content.Marked (marker.Snapshot id local remote)) at is = by i e id local remote (e.ident.origin == x) at refl is
    each i e (content.Marked (marker.Request id a)) at is = refl
    each i e (content.Marked (marker.Response id a)) at is = refl
    each i e (content.Marked (marker.Update n r)) at is = refl
    each i e content.Data at is = refl
    each i e (content.Unread k) at is = refl

-- ---- told

tells_is : (s : Setup) (o : Observation) (t a : ℕ) (n : List ℕ) (y : ℕ) (p : Position) → tells_one s o t a n y p ≡ true → (may_be_later s o t y p ≡ true) ⊎ TellsAt s o t a n y p
tells_is s o t a n y p h = elim (or_cases (may_be_later s o t y p) _ h) [ inl later ↦ inl later | inr all ↦ inr (at (index_at (topic_seen s o t y) p) refl all) ]
  where
    at : (j : Option ℕ) → index_at (topic_seen s o t y) p ≡ j → tells_upto s o t a n (entries_seen s o t y) j ≡ true → TellsAt s o t a n y p
    at None is all = absurd (false≢true all)
    at (Some j) is all = (
      j,
      is,
      λ k f le stands meant.
          other_one (meant_for a f) (is_dealt_with s o t n f)
          (all_at (λ (d : Entry). not (meant_for a d) || is_dealt_with s o t n d) (take (j + 1) (entries_seen s o t y)) k f all
          (in_take (j + 1) (entries_seen s o t y) k f (omega (arith, le)) stands)) meant,
    )

is_tells : (s : Setup) (o : Observation) (t a : ℕ) (n : List ℕ) (y : ℕ) (p : Position) → ((may_be_later s o t y p ≡ true) ⊎ TellsAt s o t a n y p) → tells_one s o t a n y p ≡ true
is_tells s o t a n y p (inl later) = or_left (may_be_later s o t y p) (tells_upto s o t a n (entries_seen s o t y) (index_at (topic_seen s o t y) p)) later
is_tells s o t a n y p (inr at) =
    or_right (may_be_later s o t y p) (tells_upto s o t a n (entries_seen s o t y) (index_at (topic_seen s o t y) p))
    (ap (tells_upto s o t a n (entries_seen s o t y)) at.1
    ∙ all_of (λ (d : Entry). not (meant_for a d) || is_dealt_with s o t n d) (take (at.0 + 1) (entries_seen s o t y))
    (λ k f taken. let r = of_take (at.0 + 1) (entries_seen s o t y) k f taken in let less = r.0 in
    if_first (meant_for a f) (is_dealt_with s o t n f) (λ meant. at.2 k f (omega (arith, less)) r.1 meant)))

pub told_none : (s : Setup) (o : Observation) (t x i : ℕ) (e : Entry) (n : List ℕ) (remote : List ClusterPosition) → told s o t x ≡ []
    → Stands s o t x i e → e.content ≡ content.Marked (marker.Update n remote) → TellsSettled s o t e.ident.origin n remote
unfolding told
told_none s o t x i e n remote h at is k y r atr lt differ place =
    let a = e.ident.origin in
    let here : told_in s o t x i e e.content ≡ [] = none_here (λ (m : ℕ) (d : Entry). told_in s o t x m d d.content) (entries_seen s o t x) i e h at in
    let update : told_in s o t x i e (content.Marked (marker.Update n remote)) ≡ [] = subst (λ (c : Content). told_in s o t x i e c ≡ []) is here in
    let one : told_of s o t x i a n r ≡ [] = none_here (λ (m : ℕ) (q : ClusterPosition). told_of s o t x i a n q) remote k r update atr in
    let of_y : cond (means_cluster y r.cluster) (unless (tells_one s o t a n y r.position) (finding.Told t x i y)) [] ≡ [] =
    other_none s a (λ (z : ℕ). if means_cluster z r.cluster then unless (tells_one s o t a n z r.position) (finding.Told t x i z) else []) y one lt (λ same. differ (sym same)) in
    tells_is s o t a n y r.position
    (held (tells_one s o t a n y r.position) (finding.Told t x i y)
    (subst (λ (b : Bool). cond b (unless (tells_one s o t a n y r.position) (finding.Told t x i y)) [] ≡ []) place of_y))

pub none_told : (s : Setup) (o : Observation) (t x : ℕ)
    → ((i : ℕ) (e : Entry) (n : List ℕ) (remote : List ClusterPosition) → Stands s o t x i e → e.content ≡ content.Marked (marker.Update n remote)
    → TellsSettled s o t e.ident.origin n remote) → told s o t x ≡ []
unfolding told
none_told s o t x h = here_none (λ (m : ℕ) (d : Entry). told_in s o t x m d d.content) (entries_seen s o t x) (λ i e at. each i e e.content at refl)
  where
    by : (i : ℕ) (e : Entry) (n : List ℕ) (remote : List ClusterPosition) → TellsSettled s o t e.ident.origin n remote → (k : ℕ) (r : ClusterPosition) → slice_get remote k ≡ Some r
        → (y : ℕ) (b : Bool) → y < length s.clusters → e.ident.origin ≢ y → means_cluster y r.cluster ≡ b
        → cond b (unless (tells_one s o t e.ident.origin n y r.position) (finding.Told t x i y)) [] ≡ []
    by i e n remote all k r atr y true lt differ place =
        unless_held (tells_one s o t e.ident.origin n y r.position) (finding.Told t x i y)
        (is_tells s o t e.ident.origin n y r.position (all k y r atr lt (λ same. differ (sym same)) place))
    by i e n remote all k r atr y false lt differ place = refl

    each : (i : ℕ) (e : Entry) (c : Content) → Stands s o t x i e → e.content ≡ c → told_in s o t x i e c ≡ []
    each i e (content.Marked (marker.Update n remote)) at is =
        let a = e.ident.origin in let all = h i e n remote at is in
        here_none (λ (m : ℕ) (q : ClusterPosition). told_of s o t x i a n q) remote
        (λ k r atr. others_none s a (λ (z : ℕ). if means_cluster z r.cluster then unless (tells_one s o t a n z r.position) (finding.Told t x i z) else [])
        (λ y lt differ. by i e n remote all k r atr y (means_cluster y r.cluster) lt differ refl))
    each i e (content.Marked (marker.Request id a)) at is = refl
    each i e (content.Marked (marker.Response id a)) at is = refl
    each i e (content.Marked (marker.Snapshot id l r)) at is = refl
    each i e content.Data at is = refl
    each i e (content.Unread k) at is = refl

-- ---- skipped

pub skipped_none : (s : Setup) (o : Observation) (t x k i : ℕ) (v : MirrorSub) (e : Entry) → skipped s o t x ≡ [] → slice_get (topic_seen s o t x).subs k ≡ Some v
    → has v.cursor i ≡ true → Stands s o t x i e → is_dealt_with s o t v.name e ≡ true
unfolding skipped
skipped_none s o t x k i v e h sub inside at =
    let of_sub : skipped_of s o t x v ≡ [] = none_here (λ (n : ℕ) (w : MirrorSub). skipped_of s o t x w) (topic_seen s o t x).subs k v h sub in
    other_one (has v.cursor i) (is_dealt_with s o t v.name e)
    (held (not (has v.cursor i) || is_dealt_with s o t v.name e) (finding.Skipped t x v.name i)
    (none_here (λ (n : ℕ) (d : Entry). unless (not (has v.cursor n) || is_dealt_with s o t v.name d) (finding.Skipped t x v.name n)) (entries_seen s o t x) i e of_sub at)) inside

pub none_skipped : (s : Setup) (o : Observation) (t x : ℕ)
    → ((k i : ℕ) (v : MirrorSub) (e : Entry) → slice_get (topic_seen s o t x).subs k ≡ Some v → has v.cursor i ≡ true → Stands s o t x i e → is_dealt_with s o t v.name e ≡ true)
    → skipped s o t x ≡ []
unfolding skipped
none_skipped s o t x h =
    here_none (λ (n : ℕ) (w : MirrorSub). skipped_of s o t x w) (topic_seen s o t x).subs
    (λ k v sub. here_none (λ (n : ℕ) (d : Entry). unless (not (has v.cursor n) || is_dealt_with s o t v.name d) (finding.Skipped t x v.name n)) (entries_seen s o t x)
    (λ i e at. unless_held (not (has v.cursor i) || is_dealt_with s o t v.name e) (finding.Skipped t x v.name i)
    (if_first (has v.cursor i) (is_dealt_with s o t v.name e) (λ inside. h k i v e sub inside at))))
