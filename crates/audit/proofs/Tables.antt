-- The tables of a topic's entries: what they say of a place, and what one more entry leaves of them.
use Rattle.std.proofs.Common.{◌≡◌, ℕ, zero, suc, ◌+◌, ◌<◌, ◌≤◌, ◌==◌, nat_lt, Bool, true, false, List, [], ◌∷◌, ◌++◌, length, take, inl, inr, refl, sym, ap, subst, ◌∙◌, arith}
use Rattle.std.specs.Prelude.{◌⊎◌, ◌&&◌, ◌||◌, not, Option, Some, None, if◌then◌else◌, slice_get, slice_index_or}
use Rattle.std.specs.List.{list_any}
use Rattle.std.specs.Str.{bytes_eq}
use Rattle.std.specs.List.Sorted.{IsPartitionPoint, IsPartitionedBy}
use Rattle.std.proofs.lemmas.Bool.{cases_lt, eqb-true, false≢true, lt-ltb, ltb-true}
use Rattle.std.proofs.lemmas.Bool.Decides.{nat_tests}
use Rattle.std.proofs.lemmas.Option.{none-some, same_Some, slice_get_within}
use Rattle.std.proofs.lemmas.Slice.Eq.{bytes_eq-Decides}
use Rattle.topic_store.specs.Table.{Row as StreamRow, noted, stream_of}
use Rattle.geo_base.specs.declared.entry.Entry.{Entry}
use Rattle.geo_base.specs.declared.position.Position.{Position}
use Rattle.geo_base.specs.Audit.{is_above, same_entry, same_targets}
use Rattle.geo_base.specs.Entry.{same_ident, same_stream}
use Rattle.geo_base.specs.Position.{position_lt, same_position}
use Rattle.geo_base.specs.Mirror.{index_from}
use Rattle.geo_base.specs.Topic.{accepts}
use Rattle.indexmap.specs.IndexMap.{insert_entry}
use Rattle.topic_store.proofs.Tells.{tells_more, tells_none}
use Rattle.audit.specs.declared.identity.Identity.{Identity}
use Rattle.audit.specs.Stored.{AreTold, Ascend, FindsAll, Row, StandsAt, StandsNowhere, identity_of, is_identity, is_same_at, place_in}
use Rattle.geo_base.proofs.Bools.{and_first, and_of_both, and_second, ifs_swap}
use Rattle.geo_base.proofs.Lists.{length_push, take_whole}

-- ---- identities

record SameParts (a b : Identity) : Type 0 where
  origin : a.origin ≡ b.origin
  producer : a.producer ≡ b.producer
  seq : a.seq ≡ b.seq

same_parts : (a b : Identity) → is_identity a b ≡ true → SameParts a b
same_parts a b h =
    let o = a.origin == b.origin in let p = bytes_eq a.producer b.producer in let s = a.seq == b.seq in
    let both = and_first (o && p) s h in
    record {
      origin = eqb-true a.origin b.origin (and_first o p both);
      producer = (bytes_eq-Decides a.producer b.producer).0 (and_second o p both);
      seq = eqb-true a.seq b.seq (and_second (o && p) s h);
    }

is_identity-self : (a : Identity) → is_identity a a ≡ true
is_identity-self a =
    let o : (a.origin == a.origin) ≡ true = grind (arith, nat_tests) in
    let s : (a.seq == a.seq) ≡ true = grind (arith, nat_tests) in
    and_of_both ((a.origin == a.origin) && bytes_eq a.producer a.producer) (a.seq == a.seq) (and_of_both (a.origin == a.origin) (bytes_eq a.producer a.producer) o ((bytes_eq-Decides a.producer a.producer).1 refl)) s

identity_from : (a b : Identity) → SameParts a b → is_identity a b ≡ true
identity_from a b h =
    let o : (a.origin == b.origin) ≡ true = let e = h.origin in grind (arith, nat_tests, e) in
    let s : (a.seq == b.seq) ≡ true = let e = h.seq in grind (arith, nat_tests, e) in
    and_of_both ((a.origin == b.origin) && bytes_eq a.producer b.producer) (a.seq == b.seq) (and_of_both (a.origin == b.origin) (bytes_eq a.producer b.producer) o ((bytes_eq-Decides a.producer b.producer).1 h.producer)) s

-- ---- a row more

one_test : (a b : Bool) (x y z : Option ℕ) → a ≡ b → (if a then x else z) ≡ (if b then x else if a then y else z)
one_test true true x y z e = refl
one_test false false x y z e = refl
one_test true false x y z e = absurd (false≢true (sym e))
one_test false true x y z e = absurd (false≢true e)

pub place_noted : (rows : List Row) (k : Identity) (v : ℕ) (q : Identity) → place_in (insert_entry is_identity rows k v) q ≡ (if is_identity q k then Some v else place_in rows q)
place_noted [] k v q = refl
place_noted (r ∷ rows) k v q = by (is_identity k r.0) refl (place_noted rows k v q)
  where
    right : is_identity k r.0 ≡ true → is_identity q r.0 ≡ is_identity q k
    right e = let p = same_parts k r.0 e in rw (p.origin, p.producer, p.seq) refl

    by : (b : Bool) → is_identity k r.0 ≡ b → place_in (insert_entry is_identity rows k v) q ≡ (if is_identity q k then Some v else place_in rows q)
        → place_in (if b then (r.0, v) ∷ rows else r ∷ insert_entry is_identity rows k v) q ≡ (if is_identity q k then Some v else if is_identity q r.0 then Some r.1 else place_in rows q)
    by true e ih = one_test (is_identity q r.0) (is_identity q k) (Some v) (Some r.1) (place_in rows q) (right e)
    by false e ih =
        ap (λ (o : Option ℕ). if is_identity q r.0 then Some r.1 else o) ih
        ∙ ifs_swap (is_identity q r.0) (is_identity q k) (Some r.1) (Some v) (place_in rows q)
        (λ a b.
        let p = same_parts q r.0 a in let s = same_parts q k b in
        false≢true (sym e ∙ identity_from k r.0 (record { origin = sym s.origin ∙ p.origin; producer = sym s.producer ∙ p.producer; seq = sym s.seq ∙ p.seq })))

-- an accepted identity is not that of an entry which stands
accepted_new : (es : List Entry) (e f : Entry) (i : ℕ) → accepts es e.ident ≡ true → slice_get es i ≡ Some f → is_identity (identity_of f.ident) (identity_of e.ident) ≡ false
accepted_new [] e f i h at = absurd (none-some f at)
accepted_new (g ∷ es) e f zero h at =
    by (is_identity (identity_of f.ident) (identity_of e.ident)) refl
  where
    P : Entry → Type 0
    P x = (not (same_stream x.ident e.ident) || nat_lt x.ident.seq e.ident.seq) ≡ true

    new : P f
    new = subst P (same_Some g f at) (and_first (not (same_stream g.ident e.ident) || nat_lt g.ident.seq e.ident.seq) (accepts es e.ident) h)

    by : (b : Bool) → is_identity (identity_of f.ident) (identity_of e.ident) ≡ b → is_identity (identity_of f.ident) (identity_of e.ident) ≡ false
    by false is = is
    by true is =
        let stream : same_stream f.ident e.ident ≡ true = and_first (same_stream f.ident e.ident) (f.ident.seq == e.ident.seq) is in
        let seq : f.ident.seq ≡ e.ident.seq = eqb-true f.ident.seq e.ident.seq (and_second (same_stream f.ident e.ident) (f.ident.seq == e.ident.seq) is) in
        absurd (less (same_stream f.ident e.ident) stream new seq)
      where
        less : (s : Bool) → s ≡ true → (not s || nat_lt f.ident.seq e.ident.seq) ≡ true → f.ident.seq ≡ e.ident.seq → ⊥
        less true k lt same = let l = ltb-true f.ident.seq e.ident.seq lt in omega (arith, l, same)
        less false k lt same = false≢true k
accepted_new (g ∷ es) e f (suc i) h at = accepted_new es e f i (and_second (not (same_stream g.ident e.ident) || nat_lt g.ident.seq e.ident.seq) (accepts es e.ident) h) at

-- what stands in a list with one more after it
pub behind : {X : Type 0} (xs : List X) (y : X) (i : ℕ) (x : X) → slice_get (xs ++ y ∷ []) i ≡ Some x → (slice_get xs i ≡ Some x) ⊎ (i ≡ length xs) × (y ≡ x)
behind [] y zero x at = inr (refl, same_Some y x at)
behind [] y (suc i) x at = absurd (none-some x at)
behind (z ∷ xs) y zero x at = inl at
behind (z ∷ xs) y (suc i) x at =
    elim (behind xs y i x at) [
      | inl old ↦ inl old
      | inr new ↦ inr ((let is = new.0 in omega (arith, is)), new.1)
    ]

finds_more : (rows : List Row) (es : List Entry) (e : Entry) → FindsAll rows es → accepts es e.ident ≡ true → FindsAll (insert_entry is_identity rows (identity_of e.ident) (length es)) (es ++ e ∷ [])
finds_more rows es e h new = record { at = λ i f at. by i f (behind es e i f at) }
  where
    rows' : List Row
    rows' = insert_entry is_identity rows (identity_of e.ident) (length es)

    by : (i : ℕ) (f : Entry) → (slice_get es i ≡ Some f) ⊎ (i ≡ length es) × (e ≡ f) → place_in rows' (identity_of f.ident) ≡ Some i
    by i f (inl old) =
        place_noted rows (identity_of e.ident) (length es) (identity_of f.ident)
        ∙ (ap (λ (b : Bool). if b then Some (length es) else place_in rows (identity_of f.ident)) (accepted_new es e f i new old) ∙ h.at i f old)
    by i f (inr one) =
        subst (λ (g : Entry). place_in rows' (identity_of g.ident) ≡ Some i) one.1
        (place_noted rows (identity_of e.ident) (length es) (identity_of e.ident)
        ∙ (ap (λ (b : Bool). if b then Some (length es) else place_in rows (identity_of e.ident)) (is_identity-self (identity_of e.ident)) ∙ ap Some (sym one.0)))

-- ---- positions ascend

pub lt_trans : (p q r : Position) → position_lt p q ≡ true → position_lt q r ≡ true → position_lt p r ≡ true
lt_trans p q r a b = grind (arith, nat_tests, a, b)

above_each : (ps : List Position) (p d : Position) (i : ℕ) → Ascend ps → is_above ps p ≡ true → i < length ps → position_lt (slice_index_or ps i d) p ≡ true
above_each [] p d i h above lt = absurd (omega (arith, lt))
above_each (q ∷ []) p d zero h above lt = above
above_each (q ∷ []) p d (suc i) h above lt = absurd (omega (arith, lt))
above_each (q ∷ r ∷ rs) p d zero h above lt =
    lt_trans q r p (h 0 1 d (omega arith) (omega arith)) (above_each (r ∷ rs) p d 0 (λ i j e a b. h (suc i) (suc j) e (omega (arith, a)) (omega (arith, b))) above (omega arith))
above_each (q ∷ r ∷ rs) p d (suc i) h above lt = above_each (r ∷ rs) p d i (λ k j e a b. h (suc k) (suc j) e (omega (arith, a)) (omega (arith, b))) above (omega (arith, lt))

get_before : (ps : List Position) (p d : Position) (i : ℕ) → i < length ps → slice_index_or (ps ++ p ∷ []) i d ≡ slice_index_or ps i d
get_before [] p d i lt = absurd (omega (arith, lt))
get_before (q ∷ ps) p d zero lt = refl
get_before (q ∷ ps) p d (suc i) lt = get_before ps p d i (omega (arith, lt))

get_last : (ps : List Position) (p d : Position) (i : ℕ) → i ≡ length ps → slice_index_or (ps ++ p ∷ []) i d ≡ p
get_last [] p d zero is = refl
get_last [] p d (suc i) is = absurd (omega (arith, is))
get_last (q ∷ ps) p d zero is = absurd (omega (arith, is))
get_last (q ∷ ps) p d (suc i) is = get_last ps p d i (omega (arith, is))

ascend_more : (ps : List Position) (p : Position) → Ascend ps → is_above ps p ≡ true → Ascend (ps ++ p ∷ [])
ascend_more ps p h above i j d lt within =
    let size = length_push ps p in
    elim (cases_lt j (length ps)) [
      | inl old ↦ rw (get_before ps p d i (omega (arith, lt, old)), get_before ps p d j old) (h i j d lt old)
      | inr past ↦ rw (get_before ps p d i (omega (arith, lt, within, size)), get_last ps p d j (omega (arith, past, within, size))) (above_each ps p d i h above (omega (arith, lt, within, size)))
    ]

-- ---- all of them

pub told_none : AreTold [] [] [] []
told_none = record {
  told = tells_none;
  finds = record { at = λ i e at. absurd (none-some e at) };
  ascend = λ i j d lt within. absurd (omega (arith, within));
  sized = refl;
}

pub told_more : (streams : List StreamRow) (rows : List Row) (es : List Entry) (ps : List Position) (e : Entry) (p : Position) → AreTold streams rows es ps → is_above ps p ≡ true → accepts es e.ident ≡ true
    → AreTold (noted streams (stream_of e.ident) e.ident.seq) (insert_entry is_identity rows (identity_of e.ident) (length es)) (es ++ e ∷ []) (ps ++ p ∷ [])
told_more streams rows es ps e p h above new = record {
  told = tells_more streams es e h.told new;
  finds = finds_more rows es e h.finds new;
  ascend = ascend_more ps p h.ascend above;
  sized = let same = h.sized in let a = length_push ps p in let b = length_push es e in omega (arith, same, a, b);
}

-- ---- where a position is

pub ascend_parted : (ps : List Position) (p : Position) → Ascend ps → IsPartitionedBy (λ (q : Position). position_lt q p) ps
ascend_parted ps p h i j d le lt low =
    elim (cases_lt i j) [
      | inl before ↦ lt_trans (slice_index_or ps i d) (slice_index_or ps j d) p (h i j d before lt) low
      | inr past ↦ let same : i ≡ j = omega (arith, le, past) in rw same low
    ]

lt_not_same : (p q : Position) → position_lt p q ≡ true → same_position p q ≡ false
lt_not_same p q h = grind (arith, nat_tests, h)

-- a position that is not below another and is not the same is above it
lt_other : (p q : Position) → position_lt p q ≡ false → same_position p q ≡ false → position_lt q p ≡ true
lt_other p q a b = grind (arith, nat_tests, a, b)

gt_not_same : (p q : Position) → position_lt q p ≡ true → same_position p q ≡ false
gt_not_same p q h = grind (arith, nat_tests, h)

index_skips : (k : ℕ) (ps : List Position) (p : Position) (i : ℕ) (d : Position) → ((j : ℕ) → j < i → same_position (slice_index_or ps j d) p ≡ false) → i < length ps → same_position (slice_index_or ps i d) p ≡ true
    → index_from k ps p ≡ Some (k + i)
index_skips k [] p i d before lt at = absurd (omega (arith, lt))
index_skips k (q ∷ ps) p zero d before lt at = rw at (ap Some (omega arith))
index_skips k (q ∷ ps) p (suc i) d before lt at =
    rw (before 0 (omega arith)) (index_skips (k + 1) ps p i d (λ j a. before (suc j) (omega (arith, a))) (omega (arith, lt)) at ∙ ap Some (omega arith))

index_none : (k : ℕ) (ps : List Position) (p d : Position) → ((j : ℕ) → j < length ps → same_position (slice_index_or ps j d) p ≡ false) → index_from k ps p ≡ None
index_none k [] p d other = refl
index_none k (q ∷ ps) p d other = rw (other 0 (omega arith)) (index_none (k + 1) ps p d (λ j a. other (suc j) (omega (arith, a))))

abbrev pub IsPointOf : List Position → Position → ℕ → Type 0
IsPointOf ps p at = IsPartitionPoint (λ (q : Position). position_lt q p ≡ true) (λ (q : Position). position_lt q p ≡ false) ps at

pub index_found : (ps : List Position) (p d : Position) (at : ℕ) → Ascend ps → IsPointOf ps p at → at < length ps → same_position (slice_index_or ps at d) p ≡ true → index_from 0 ps p ≡ Some at
index_found ps p d at h point lt is =
    let same : 0 + at ≡ at = omega arith in
    index_skips 0 ps p at d (λ j a. lt_not_same (slice_index_or ps j d) p (point.0 j d (omega arith) a)) lt is ∙ ap Some same

pub index_missing : (ps : List Position) (p d : Position) (at : ℕ) → Ascend ps → at ≤ length ps → IsPointOf ps p at → (at < length ps → same_position (slice_index_or ps at d) p ≡ false) → index_from 0 ps p ≡ None
index_missing ps p d at h le point other = index_none 0 ps p d each
  where
    each : (j : ℕ) → j < length ps → same_position (slice_index_or ps j d) p ≡ false
    each j lt =
        elim (cases_lt j at) [
          | inl before ↦ lt_not_same (slice_index_or ps j d) p (point.0 j d (omega arith) before)
          | inr past ↦
              elim (cases_lt at j) [
                | inl behind ↦
                    let within : at < length ps = omega (arith, behind, lt) in
                    let above = lt_other (slice_index_or ps at d) p (point.1 at d (omega arith) within) (other within) in
                    gt_not_same (slice_index_or ps j d) p (lt_trans p (slice_index_or ps at d) (slice_index_or ps j d) above (h at j d behind lt))
                | inr here ↦ let same : j ≡ at = omega (arith, past, here) in rw same (other (omega (arith, lt, same)))
              ]
        ]

-- ---- where an entry stands

same_is : (e f : Entry) → same_entry e f ≡ true → is_identity (identity_of f.ident) (identity_of e.ident) ≡ true
same_is e f h =
    let r1 = bytes_eq e.payload f.payload in
    let ident : same_ident e.ident f.ident ≡ true = and_first (same_ident e.ident f.ident) (same_targets e.to f.to) (and_first _ _ (and_first _ _ (and_first _ r1 h))) in
    let p = same_parts (identity_of e.ident) (identity_of f.ident) ident in
    identity_from (identity_of f.ident) (identity_of e.ident) (record { origin = sym p.origin; producer = sym p.producer; seq = sym p.seq })

record AnyTaken (p : Entry → Bool) (es : List Entry) (n : ℕ) : Type 0 where
  index : ℕ
  entry : Entry
  below : index < n
  at : slice_get es index ≡ Some entry
  passes : p entry ≡ true

any_take : (p : Entry → Bool) (es : List Entry) (n : ℕ) → list_any p (take n es) ≡ true → AnyTaken p es n
any_take p [] zero h = absurd (false≢true h)
any_take p [] (suc n) h = absurd (false≢true h)
any_take p (e ∷ es) zero h = absurd (false≢true h)
any_take p (e ∷ es) (suc n) h = by (p e) refl h (any_take p es n)
  where
    by : (b : Bool) → p e ≡ b → (b || list_any p (take n es)) ≡ true → (list_any p (take n es) ≡ true → AnyTaken p es n) → AnyTaken p (e ∷ es) (suc n)
    by true is g ih = record { index = 0; entry = e; below = omega arith; at = refl; passes = is }
    by false is g ih = let r = ih g in record { index = suc r.index; entry = r.entry; below = let lt = r.below in omega (arith, lt); at = r.at; passes = r.passes }

any_at : (p : Entry → Bool) (es : List Entry) (n i : ℕ) (f : Entry) → i < n → slice_get es i ≡ Some f → p f ≡ true → list_any p (take n es) ≡ true
any_at p [] n i f lt at h = absurd (none-some f at)
any_at p (e ∷ es) zero i f lt at h = absurd (omega (arith, lt))
any_at p (e ∷ es) (suc n) zero f lt at h = rw (ap p (same_Some e f at) ∙ h) refl
any_at p (e ∷ es) (suc n) (suc i) f lt at h = rw (any_at p es n i f (omega (arith, lt)) at h) (or_true (p e))
  where
    or_true : (b : Bool) → (b || true) ≡ true
    or_true true = refl
    or_true false = refl

-- each entry that is the same stands where the table says
same_cluster_ref : (rows : List Row) (es : List Entry) (e f : Entry) (i : ℕ) → FindsAll rows es → slice_get es i ≡ Some f → same_entry e f ≡ true → place_in rows (identity_of e.ident) ≡ Some i
same_cluster_ref rows es e f i h at same =
    let p = same_parts (identity_of f.ident) (identity_of e.ident) (same_is e f same) in
    subst (λ (k : Identity). place_in rows k ≡ Some i) (parts_one (identity_of f.ident) (identity_of e.ident) p) (h.at i f at)
  where
    parts_one : (a b : Identity) → SameParts a b → a ≡ b
    parts_one a b p = rw (p.origin, p.producer, p.seq) refl

stands_at : (rows : List Row) (es : List Entry) (e f : Entry) (i : ℕ) → FindsAll rows es → place_in rows (identity_of e.ident) ≡ Some i → slice_get es i ≡ Some f → same_entry e f ≡ true → StandsAt e es i
stands_at rows es e f i h found at same = record { within = slice_get_within es i f at; only = only }
  where
    only : (n : ℕ) → list_any (same_entry e) (take n es) ≡ nat_lt i n
    only n =
        elim (cases_lt i n) [
          | inl lt ↦ any_at (same_entry e) es n i f lt at same ∙ sym (lt-ltb i n lt)
          | inr past ↦ by (list_any (same_entry e) (take n es)) refl past
        ]
      where
        by : (b : Bool) → list_any (same_entry e) (take n es) ≡ b → n ≤ i → list_any (same_entry e) (take n es) ≡ nat_lt i n
        by false is past = let out : nat_lt i n ≡ false = grind (arith, nat_tests, past) in is ∙ sym out
        by true is past =
            let r = any_take (same_entry e) es n is in
            let one : r.index ≡ i = same_Some r.index i (sym (same_cluster_ref rows es e r.entry r.index h r.at r.passes) ∙ found) in
            absurd (let lt = r.below in omega (arith, lt, one, past))

stands_nowhere : (rows : List Row) (es : List Entry) (e : Entry) → FindsAll rows es → ((i : ℕ) (f : Entry) → place_in rows (identity_of e.ident) ≡ Some i → slice_get es i ≡ Some f → same_entry e f ≡ false) → StandsNowhere e es
stands_nowhere rows es e h other n = by (list_any (same_entry e) (take n es)) refl
  where
    by : (b : Bool) → list_any (same_entry e) (take n es) ≡ b → list_any (same_entry e) (take n es) ≡ false
    by false is = is
    by true is =
        let r = any_take (same_entry e) es n is in
        absurd (false≢true (sym (other r.index r.entry (same_cluster_ref rows es e r.entry r.index h r.at r.passes) r.at) ∙ r.passes))

-- the table has no place; the entry stands at the place that it has; or another one does, or none
pub stands_unknown : (rows : List Row) (es : List Entry) (e : Entry) → FindsAll rows es → place_in rows (identity_of e.ident) ≡ None → StandsNowhere e es
stands_unknown rows es e h none = stands_nowhere rows es e h (λ i f found at. absurd (none-some i (sym none ∙ found)))

pub stands_there : (rows : List Row) (es : List Entry) (e : Entry) (i : ℕ) → FindsAll rows es → place_in rows (identity_of e.ident) ≡ Some i → is_same_at e (slice_get es i) ≡ true → StandsAt e es i
stands_there rows es e i h is same = by (slice_get es i) refl same
  where
    by : (o : Option Entry) → slice_get es i ≡ o → is_same_at e o ≡ true → StandsAt e es i
    by None at s = absurd (false≢true s)
    by (Some f) at s = stands_at rows es e f i h is at s

pub stands_other : (rows : List Row) (es : List Entry) (e : Entry) (k : ℕ) → FindsAll rows es → place_in rows (identity_of e.ident) ≡ Some k → is_same_at e (slice_get es k) ≡ false → StandsNowhere e es
stands_other rows es e k h is differs =
    stands_nowhere rows es e h
    (λ i g found there.
    let same : k ≡ i = same_Some k i (sym is ∙ found) in
    sym (ap (is_same_at e) (ap (slice_get es) same ∙ there)) ∙ differs)

pub stands : (e : Entry) (es : List Entry) (i : ℕ) → StandsAt e es i → list_any (same_entry e) es ≡ true
stands e es i h = ap (list_any (same_entry e)) (sym (take_whole es)) ∙ (h.only (length es) ∙ lt-ltb i (length es) h.within)

pub stands_not : (e : Entry) (es : List Entry) → StandsNowhere e es → list_any (same_entry e) es ≡ false
stands_not e es h = ap (list_any (same_entry e)) (sym (take_whole es)) ∙ h (length es)

-- the tables after an append
pub told_after : (streams streams' : List StreamRow) (rows rows' : List Row) (es es' : List Entry) (ps ps' : List Position) (e : Entry) (p : Position) → AreTold streams rows es ps
    → is_above ps p ≡ true → accepts es e.ident ≡ true → streams' ≡ noted streams (stream_of e.ident) e.ident.seq → rows' ≡ insert_entry is_identity rows (identity_of e.ident) (length es)
    → es' ≡ es ++ e ∷ [] → ps' ≡ ps ++ p ∷ [] → AreTold streams' rows' es' ps'
told_after streams streams' rows rows' es es' ps ps' e p h above new a b c d = rw (a, b, c, d) (told_more streams rows es ps e p h above new)
