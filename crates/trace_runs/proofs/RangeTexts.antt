-- The ranges that a cursor is kept as are those of its indexes.
use Rattle.std.proofs.Common.{◌≡◌, ℕ, zero, suc, ◌+◌, ◌-◌, ◌≤◌, ◌==◌, Bool, false, List, [], ◌∷◌, ◌++◌, refl, sym, ap, subst, append_assoc, ◌∙◌, arith}
use Rattle.std.proofs.lemmas.List.{append-nil}
use Rattle.std.specs.Prelude.{if◌then◌else◌, Err, Ok, OnOk, Result}
use Rattle.std.specs.List.{range_with_len}
use Rattle.std.proofs.lemmas.Bool.{eq-eqb}
use Rattle.std.proofs.lemmas.Bool.Decides.{nat_tests}
use Rattle.geo_base.specs.declared.memory.Memory.{Memory}
use Rattle.cursor_acks.specs.declared.range.IndexRange.{IndexRange as CursorRange}
use Rattle.cursor_acks.specs.Ranges.{AreApart, AreRangesOf, IsToldByRanges, indexes_of}
use Rattle.cursor_acks.proofs.Covered.{apart_tail, has_indexes}
use Rattle.cursor_acks.proofs.OneList.{one_list}
use Rattle.geo_base.specs.Cursor.{has}
use Rattle.geo_base.specs.TraceText.{IndexRange, joined, ranges_of, shown_range, shown_ranges}
use Rattle.trace_runs.specs.Ranges.{as_shown}

abbrev range : ℕ → ℕ → IndexRange
range f l = record { first = f; last = l }

-- indexes in a row before others that begin after a gap
in_a_row : (f n : ℕ) (rest : List ℕ) (rs : List IndexRange) → ranges_of rest ≡ rs → joined (f + n) rs ≡ range (f + n) (f + n) ∷ rs
    → ranges_of (range_with_len f (suc n) ++ rest) ≡ range f (f + n) ∷ rs
in_a_row f zero rest rs is gap =
    let same : f + 0 ≡ f = omega arith in
    ap (λ (qs : List IndexRange). joined f qs) is ∙ (ap (λ (i : ℕ). joined i rs) (sym same) ∙ (gap ∙ ap (λ (i : ℕ). range i (f + 0) ∷ rs) same))
in_a_row f (suc n) rest rs is gap =
    let same : f + 1 + n ≡ f + suc n = omega arith in
    let more : ranges_of (range_with_len (f + 1) (suc n) ++ rest) ≡ range (f + 1) (f + 1 + n) ∷ rs =
    in_a_row (f + 1) n rest rs is (subst (λ (i : ℕ). joined i rs ≡ range i i ∷ rs) (sym same) gap) in
    ap (λ (qs : List IndexRange). joined f qs) more
    ∙ (ap (λ (b : Bool). if b then range f (f + 1 + n) ∷ rs else range f f ∷ range (f + 1) (f + 1 + n) ∷ rs) (eq-eqb (f + 1) (f + 1) refl)
    ∙ ap (λ (l : ℕ). range f l ∷ rs) same)

pub ranges_told : (rs : List CursorRange) → AreApart rs → ranges_of (indexes_of rs) ≡ as_shown rs
ranges_told [] h = refl
ranges_told (r ∷ rs) h = by rs h (ranges_told rs (apart_tail r rs h))
  where
    order : (qs : List CursorRange) → AreApart (r ∷ qs) → r.first ≤ r.last
    order qs a = a.each 0 r (omega arith)

    whole : (qs : List CursorRange) → AreApart (r ∷ qs) → joined r.last (as_shown qs) ≡ range r.last r.last ∷ as_shown qs → ranges_of (indexes_of qs) ≡ as_shown qs
        → ranges_of (indexes_of (r ∷ qs)) ≡ as_shown (r ∷ qs)
    whole qs a gap is =
        let le = order qs a in
        let many : r.last + 1 - r.first ≡ suc (r.last - r.first) = omega (arith, le) in
        let last : r.first + (r.last - r.first) ≡ r.last = omega (arith, le) in
        ap (λ (m : ℕ). ranges_of (range_with_len r.first m ++ indexes_of qs)) many
        ∙ (in_a_row r.first (r.last - r.first) (indexes_of qs) (as_shown qs) is (subst (λ (i : ℕ). joined i (as_shown qs) ≡ range i i ∷ as_shown qs) (sym last) gap)
        ∙ ap (λ (l : ℕ). range r.first l ∷ as_shown qs) last)

    by : (qs : List CursorRange) → AreApart (r ∷ qs) → ranges_of (indexes_of qs) ≡ as_shown qs → ranges_of (indexes_of (r ∷ qs)) ≡ as_shown (r ∷ qs)
    by [] a is = whole [] a refl is
    by (q ∷ qs) a is =
        let lt = a.gaps 0 1 r (omega arith) (omega arith) in
        let other : (r.last + 1 == q.first) ≡ false = grind (arith, nat_tests, lt) in
        whole (q ∷ qs) a (ap (λ (b : Bool). if b then range r.last q.last ∷ as_shown qs else range r.last r.last ∷ as_shown (q ∷ qs)) other) is

told_ranges : (set : List ℕ) (rs : List CursorRange) → IsToldByRanges set → AreRangesOf set rs → ranges_of set ≡ as_shown rs
told_ranges set rs told are =
    let mine : AreRangesOf set told.ranges = record { apart = told.apart; same = λ i. sym (has_indexes told.ranges i) ∙ ap (λ (s : List ℕ). has s i) (sym told.is) } in
    let one : told.ranges ≡ rs = one_list set told.ranges rs mine are in
    ap ranges_of told.is ∙ (ranges_told told.ranges told.apart ∙ ap as_shown one)

pub all_told : (set : List ℕ) (rs ss : List CursorRange) (old new : List ℕ) (r : Result (Unit {0}) Memory) → IsToldByRanges set → AreRangesOf set rs → ss ≡ rs
    → OnOk r (new ≡ old ++ shown_ranges (as_shown ss)) → OnOk r (new ≡ old ++ shown_ranges (ranges_of set))
all_told set rs ss old new (Err f) told are same is = tt
all_told set rs ss old new (Ok u) told are same is =
    is ∙ ap (λ (qs : List IndexRange). old ++ shown_ranges qs) (sym (told_ranges set rs told are ∙ ap as_shown (sym same)))

-- ---- ranges with commas

-- each after a comma
abbrev pub behind_commas : List IndexRange → List ℕ
behind_commas [] = []
behind_commas (r ∷ rs) = 44 ∷ (shown_range r ++ behind_commas rs)

pub with_commas : (r : IndexRange) (rs : List IndexRange) → shown_ranges (r ∷ rs) ≡ shown_range r ++ behind_commas rs
with_commas r [] = sym (append-nil (shown_range r))
with_commas r (q ∷ rs) = ap (λ (t : List ℕ). shown_range r ++ (44 ∷ t)) (with_commas q rs)

-- what was shown of the first, and what each one more leaves
three : (a b c : List ℕ) → ((a ++ 44 ∷ []) ++ b) ++ c ≡ a ++ (44 ∷ (b ++ c))
three a b c = simp append_assoc

pub first_shown : (all : List CursorRange) (r : CursorRange) (rs : List CursorRange) (old new : List ℕ) → all ≡ r ∷ rs → new ≡ old ++ shown_range (range r.first r.last)
    → new ++ behind_commas (as_shown rs) ≡ old ++ shown_ranges (as_shown all)
first_shown all r rs old new these is =
    ap (λ (t : List ℕ). t ++ behind_commas (as_shown rs)) is
    ∙ (append_assoc old (shown_range (range r.first r.last)) (behind_commas (as_shown rs))
    ∙ (ap (λ (t : List ℕ). old ++ t) (sym (with_commas (range r.first r.last) (as_shown rs))) ∙ ap (λ (qs : List CursorRange). old ++ shown_ranges (as_shown qs)) (sym these)))

pub more_shown : (all rs : List CursorRange) (r : CursorRange) (old comma new whole : List ℕ) → all ≡ r ∷ rs → comma ≡ old ++ 44 ∷ []
    → new ≡ comma ++ shown_range (range r.first r.last)
    → old ++ behind_commas (as_shown all) ≡ whole → new ++ behind_commas (as_shown rs) ≡ whole
more_shown all rs r old comma new whole these e1 e2 before =
    let rest = behind_commas (as_shown rs) in
    ap (λ (t : List ℕ). t ++ rest) (e2 ∙ ap (λ (t : List ℕ). t ++ shown_range (range r.first r.last)) e1)
    ∙ (three old (shown_range (range r.first r.last)) rest ∙ (ap (λ (qs : List CursorRange). old ++ behind_commas (as_shown qs)) (sym these) ∙ before))

pub all_shown : (rs : List CursorRange) (new whole : List ℕ) → rs ≡ [] → new ++ behind_commas (as_shown rs) ≡ whole → new ≡ whole
all_shown rs new whole none before =
    sym (append-nil new) ∙ (ap (λ (qs : List CursorRange). new ++ behind_commas (as_shown qs)) (sym none) ∙ before)
