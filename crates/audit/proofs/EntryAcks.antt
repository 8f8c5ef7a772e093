-- Which entries of a range may be passed over, told from where runs begin.
use Rattle.std.proofs.Common.{◌≡◌, ℕ, zero, suc, ◌+◌, ◌-◌, ◌<◌, ◌≤◌, ◌==◌, Bool, true, false, List, [], ◌∷◌, ◌++◌, length, get_or, drop, inl, inr, refl, sym, ap, ◌∙◌, arith}
use Rattle.std.specs.Prelude.{◌&&◌, nat_le, Option, Some, None, if◌then◌else◌, slice_get, slice_index, slice_index_or}
use Rattle.std.specs.List.{list_all, range_with_len}
use Rattle.std.proofs.lemmas.Bool.{cases_lt}
use Rattle.std.proofs.lemmas.Bool.Decides.{nat_tests}
use Rattle.std.proofs.lemmas.List.{drop_more}
use Rattle.std.proofs.lemmas.List.Folds.{list_all-append}
use Rattle.cursor_acks.specs.declared.range.IndexRange.{IndexRange}
use Rattle.cursor_acks.specs.Acks.{from_to}
use Rattle.cursor_acks.specs.Ranges.{indexes_of}
use Rattle.geo_base.specs.declared.entry.Entry.{Entry}
use Rattle.audit.specs.declared.runs.AckCause.{AckCause}
use Rattle.audit.specs.Runs.{AreAllRunsOf, AreRunsOf, RunStarts, all_acked_by, is_acked_at, next_start, acked_by}
use Rattle.geo_base.proofs.Bools.{and_with_false}
use Rattle.geo_base.proofs.Lists.{index_before_push, index_pushed, length_push, range_push}

-- ---- ranges

-- all up to the last one, and that one
all_to : (q : ℕ → Bool) (k i : ℕ) → k ≤ i → list_all q (from_to k i) ≡ (list_all q (range_with_len k (i - k)) && q i)
all_to q k i le =
    let count : i + 1 - k ≡ suc (i - k) = omega (arith, le) in let last : k + (i - k) ≡ i = omega (arith, le) in
    ap (λ (n : ℕ). list_all q (range_with_len k n)) count
    ∙ (ap (list_all q) (range_push k (i - k) ∙ ap (λ (j : ℕ). range_with_len k (i - k) ++ j ∷ []) last)
    ∙ (list_all-append q (range_with_len k (i - k)) (i ∷ []) ∙ ap (λ (b : Bool). list_all q (range_with_len k (i - k)) && b) (and_true (q i))))
  where
    and_true : (b : Bool) → (b && true) ≡ b
    and_true true = refl
    and_true false = refl

-- tests that agree in a range
all_alike : (q p : ℕ → Bool) (a n : ℕ) → ((j : ℕ) → a ≤ j → j < a + n → q j ≡ p j) → list_all q (range_with_len a n) ≡ list_all p (range_with_len a n)
all_alike q p a zero h = refl
all_alike q p a (suc n) h =
    rw (h a (omega arith) (omega arith)) (ap (λ (b : Bool). p a && b) (all_alike q p (a + 1) n (λ j low high. h j (omega (arith, low)) (omega (arith, high)))))

-- a range, and those after it
pub all_step : (q : ℕ → Bool) (ranges : List IndexRange) (i : ℕ) (r : IndexRange) → i < length ranges → r ≡ get_or ranges i r
    → list_all q (indexes_of (drop i ranges)) ≡ (list_all q (from_to r.first r.last) && list_all q (indexes_of (drop (i + 1) ranges)))
all_step q ranges i r lt is =
    let cut : drop i ranges ≡ r ∷ drop (i + 1) ranges = drop_more ranges i r lt ∙ ap (λ (s : IndexRange). s ∷ drop (i + 1) ranges) (sym is) in
    ap (λ (rs : List IndexRange). list_all q (indexes_of rs)) cut ∙ list_all-append q (from_to r.first r.last) (indexes_of (drop (i + 1) ranges))

pub range_holds : (q : ℕ → Bool) (ranges : List IndexRange) (i : ℕ) (r : IndexRange) → i < length ranges → r ≡ get_or ranges i r → list_all q (from_to r.first r.last) ≡ true
    → list_all q (indexes_of (drop i ranges)) ≡ list_all q (indexes_of (drop (i + 1) ranges))
range_holds q ranges i r lt is holds = all_step q ranges i r lt is ∙ ap (λ (b : Bool). b && list_all q (indexes_of (drop (i + 1) ranges))) holds

pub range_fails : (q : ℕ → Bool) (ranges : List IndexRange) (i : ℕ) (r : IndexRange) → i < length ranges → r ≡ get_or ranges i r → list_all q (from_to r.first r.last) ≡ false
    → list_all q (indexes_of (drop i ranges)) ≡ false
range_fails q ranges i r lt is fails = all_step q ranges i r lt is ∙ ap (λ (b : Bool). b && list_all q (indexes_of (drop (i + 1) ranges))) fails

-- ---- ranges that end by an index

all_below : (a n most : ℕ) → a + n ≤ most + 1 → list_all (λ i. nat_le i most) (range_with_len a n) ≡ true
all_below a zero most le = refl
all_below a (suc n) most le =
    let low : nat_le a most ≡ true = grind (arith, nat_tests, le) in rw low (all_below (a + 1) n most (omega (arith, le)))

pub ends_by : (first last most : ℕ) → first ≤ last → list_all (λ i. nat_le i most) (from_to first last) ≡ nat_le last most
ends_by first last most le =
    elim (cases_lt most last) [
      | inl past ↦
          let out : nat_le last most ≡ false = grind (arith, nat_tests, past) in
          all_to (λ i. nat_le i most) first last le ∙ (ap (λ (b : Bool). list_all (λ i. nat_le i most) (range_with_len first (last - first)) && b) out ∙ (and_with_false (list_all (λ i. nat_le i most) (range_with_len first (last - first))) ∙ sym out))
      | inr in_it ↦
          let is : nat_le last most ≡ true = grind (arith, nat_tests, in_it) in
          all_below first (last + 1 - first) most (omega (arith, le, in_it)) ∙ sym is
    ]

-- ---- what stands at an index

pub nothing_at : {X : Type 0} (xs : List X) (i : ℕ) → length xs ≤ i → slice_get xs i ≡ None
nothing_at [] i le = refl
nothing_at (x ∷ xs) zero le = absurd (omega (arith, le))
nothing_at (x ∷ xs) (suc i) le = nothing_at xs i (omega (arith, le))

pub some_at : {X : Type 0} (xs : List X) (i : ℕ) (d : X) → i < length xs → slice_get xs i ≡ Some (slice_index_or xs i d)
some_at [] i d lt = absurd (omega (arith, lt))
some_at (x ∷ xs) zero d lt = refl
some_at (x ∷ xs) (suc i) d lt = some_at xs i d (omega (arith, lt))

same_before : {X : Type 0} (xs : List X) (y : X) (i : ℕ) → i < length xs → slice_get (xs ++ y ∷ []) i ≡ slice_get xs i
same_before [] y i lt = absurd (omega (arith, lt))
same_before (x ∷ xs) y zero lt = refl
same_before (x ∷ xs) y (suc i) lt = same_before xs y i (omega (arith, lt))

-- ---- one entry more is looked at

abbrev at_index : AckCause → List Entry → ℕ → Bool
at_index w es i = is_acked_at w (slice_get es i)

bound_step : (starts : List ℕ) (p : Bool) → ((i : ℕ) → i < length starts → slice_index starts i ≤ i + 1)
    → (if p then (if length starts == 0 then 0 else slice_index starts (length starts - 1)) else length starts + 1) ≤ length starts + 1
bound_step starts false h = omega arith
bound_step starts true h = by (length starts == 0) refl
  where
    by : (b : Bool) → (length starts == 0) ≡ b → (if b then 0 else slice_index starts (length starts - 1)) ≤ length starts + 1
    by true e = omega arith
    by false e =
        let some : 0 < length starts = grind (arith, nat_tests, e) in
        let le = h (length starts - 1) (omega (arith, some)) in omega (arith, some, le)

least_step : (es : List Entry) (r : RunStarts) (e : Entry) (k : ℕ) → AreRunsOf es r → slice_get es (length r.starts) ≡ Some e → k ≤ length r.starts
    → all_acked_by r.what es (from_to k (length r.starts)) ≡ nat_le (next_start r e) k
least_step es r e k h at le =
    all_to (at_index r.what es) k (length r.starts) le ∙ (ap (λ (o : Option Entry). list_all (at_index r.what es) (range_with_len k (length r.starts - k)) && is_acked_at r.what o) at ∙ by (acked_by r.what e))
  where
    before : List ℕ
    before = range_with_len k (length r.starts - k)

    first : (b : Bool) → (length r.starts == 0) ≡ b → (list_all (at_index r.what es) before && true) ≡ nat_le (if b then 0 else slice_index r.starts (length r.starts - 1)) k
    first true none =
        let nothing : length r.starts - k ≡ 0 = grind (arith, nat_tests, none) in
        let low : nat_le 0 k ≡ true = grind (arith, nat_tests) in
        rw (nothing, low) refl
    first false some_of =
        let some : 0 < length r.starts = grind (arith, nat_tests, some_of) in
        elim (cases_lt k (length r.starts)) [
          | inl lt ↦
              let same : length r.starts - 1 + 1 - k ≡ length r.starts - k = omega (arith, some) in
              and_true_ (list_all (at_index r.what es) before)
              ∙ (ap (λ (n : ℕ). list_all (at_index r.what es) (range_with_len k n)) (sym same)
              ∙ h.least k (length r.starts - 1) (omega (arith, lt)) (omega (arith, some)))
          | inr past ↦
              let nothing : length r.starts - k ≡ 0 = omega (arith, past) in
              let bound = h.bounded (length r.starts - 1) (omega (arith, some)) in
              let is : nat_le (slice_index r.starts (length r.starts - 1)) k ≡ true = grind (arith, nat_tests, bound, past, some) in
              rw (nothing, is) refl
        ]
      where
        and_true_ : (b : Bool) → (b && true) ≡ b
        and_true_ true = refl
        and_true_ false = refl

    by : (p : Bool) → (list_all (at_index r.what es) before && p) ≡ nat_le (if p then (if length r.starts == 0 then 0 else slice_index r.starts (length r.starts - 1)) else length r.starts + 1) k
    by true = first (length r.starts == 0) refl
    by false =
        let out : nat_le (length r.starts + 1) k ≡ false = grind (arith, nat_tests, le) in
        and_with_false (list_all (at_index r.what es) before) ∙ sym out

pub runs_more : (es : List Entry) (r : RunStarts) (e : Entry) → AreRunsOf es r → length r.starts < length es → slice_get es (length r.starts) ≡ Some e
    → AreRunsOf es (record { what = r.what; starts = r.starts ++ next_start r e ∷ [] })
runs_more es r e h lt at =
    let size = length_push r.starts (next_start r e) in
    record {
      within = omega (arith, size, lt);
      bounded = λ i small.
          elim (cases_lt i (length r.starts)) [
            | inl old ↦ rw (index_before_push r.starts (next_start r e) i old) (h.bounded i old)
            | inr past ↦
                let is : i ≡ length r.starts = omega (arith, past, small, size) in
                rw (index_pushed r.starts (next_start r e) i is) (rw is (bound_step r.starts (acked_by r.what e) h.bounded))
          ];
      least = λ k i le small.
          elim (cases_lt i (length r.starts)) [
            | inl old ↦ h.least k i le old ∙ ap (λ (s : ℕ). nat_le s k) (sym (index_before_push r.starts (next_start r e) i old))
            | inr past ↦
                let is : i ≡ length r.starts = omega (arith, past, small, size) in
                ap (λ (j : ℕ). all_acked_by r.what es (from_to k j)) is
                ∙ (least_step es r e k h at (omega (arith, le, is)) ∙ ap (λ (s : ℕ). nat_le s k) (sym (index_pushed r.starts (next_start r e) i is)))
          ];
    }

pub runs_none : (es : List Entry) (w : AckCause) → AreRunsOf es (record { what = w; starts = [] })
runs_none es w = record { within = omega arith; bounded = λ i lt. absurd (omega (arith, lt)); least = λ k i le lt. absurd (omega (arith, lt)) }

-- ---- a range

pub passed_past : (w : AckCause) (es : List Entry) (first last : ℕ) → first ≤ last → length es ≤ last → all_acked_by w es (from_to first last) ≡ false
passed_past w es first last le past =
    all_to (at_index w es) first last le
    ∙ (ap (λ (o : Option Entry). list_all (at_index w es) (range_with_len first (last - first)) && is_acked_at w o) (nothing_at es last past)
    ∙ and_with_false (list_all (at_index w es) (range_with_len first (last - first))))

-- ---- a topic that grows

pub runs_grow : (es : List Entry) (e : Entry) (r : RunStarts) → AreRunsOf es r → AreRunsOf (es ++ e ∷ []) r
runs_grow es e r h = record {
  within = let size = length_push es e in let le = h.within in omega (arith, size, le);
  bounded = h.bounded;
  least = λ k i le lt.
      all_alike (at_index r.what (es ++ e ∷ [])) (at_index r.what es) k (i + 1 - k)
      (λ j low high. ap (is_acked_at r.what) (same_before es e j (let w = h.within in omega (arith, high, lt, w, le))))
      ∙ h.least k i le lt;
}

pub all_runs_grow : (es : List Entry) (e : Entry) (rs : List RunStarts) → AreAllRunsOf es rs → AreAllRunsOf (es ++ e ∷ []) rs
all_runs_grow es e rs h i d lt = runs_grow es e (get_or rs i d) (h i d lt)
