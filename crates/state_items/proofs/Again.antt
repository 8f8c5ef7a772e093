-- What was written is read again.
use Rattle.std.proofs.Common.{◌≡◌, ℕ, suc, ◌+◌, ◌-◌, ◌^◌, ◌<◌, ◌≤◌, true, false, ltb, List, [], ◌∷◌, ◌++◌, length, get_or, inl, inr, Ok, refl, sym, ap, subst, ◌∙◌, append_assoc, arith}
use Rattle.std.specs.Prelude.{nat_lt, nat_le}
use Rattle.std.specs.List.{flat_map}
use Rattle.std.specs.Int.{Width, w32, w64, byte_len, from_be_bytes, to_be_bytes}
use Rattle.std.proofs.lemmas.Bool.{cases_lt, le-ltb, true≢false}
use Rattle.std.proofs.lemmas.Bool.Decides.{nat_tests}
use Rattle.std.proofs.lemmas.List.{append-nil, drop_at, get_or_append_left, get_or_at, length-append, take_at}
use Rattle.std.proofs.lemmas.List.Concat.{flat_map-cons}
use Rattle.std.proofs.lemmas.Nat.{from_be_bytes-to_be_bytes_4, from_be_bytes-to_be_bytes_8}
use Rattle.geo_base.specs.Cursor.{has}
use Rattle.cursor_acks.specs.declared.range.IndexRange.{IndexRange}
use Rattle.cursor_acks.specs.Acks.{AreBelow}
use Rattle.cursor_acks.specs.Ranges.{covers}
use Rattle.cursor_acks.proofs.Covered.{has_indexes, uncovered}
use Rattle.state_items.specs.declared.rule.Rule.{Rule}
use Rattle.state_items.specs.Fitting.{AllFit, IsCursor}
use Rattle.state_items.specs.Ranges.{AreIn, IsNext, cursor_at, no_range, range_at, ranges_at}
use Rattle.state_items.specs.Reading.{Read, list_at, many, number_at, number_within, text_at, wide_at, word_at}
use Rattle.state_items.specs.Runs.{runs}
use Rattle.state_items.specs.Texts.{cursor, list, number, range, text, word}
use Rattle.state_items.proofs.Gaps.{few_ranges}
use Rattle.state_items.proofs.Runs.{runs_are}

-- ---- numbers and texts

record IsWide (w : Width) (limit : ℕ) : Type 0 where
  pub len : (n : ℕ) → length (to_be_bytes w n) ≡ byte_len w
  pub again : (n : ℕ) → n < limit → from_be_bytes w (to_be_bytes w n) ≡ n

wide32 : IsWide w32 (2 ^ 32)
wide32 = record { len = λ n. refl; again = λ n lt. from_be_bytes-to_be_bytes_4 n lt }

wide64 : IsWide w64 (2 ^ 64)
wide64 = record { len = λ n. refl; again = λ n lt. from_be_bytes-to_be_bytes_8 n lt }

wide_again : (w : Width) (limit : ℕ) (wide : IsWide w limit) (n : ℕ) (rest : List ℕ) → n < limit → wide_at w (to_be_bytes w n ++ rest) ≡ Ok (n, rest)
wide_again w limit wide n rest lt =
    let len = wide.len n in
    let long : ltb (length (to_be_bytes w n ++ rest)) (byte_len w) ≡ false = le-ltb _ _ (omega (arith, length-append (to_be_bytes w n) rest)) in
    rw (long, take_at (to_be_bytes w n) rest (byte_len w) len, drop_at (to_be_bytes w n) rest (byte_len w) len, wide.again n lt) refl

pub number_again : (n : ℕ) (rest : List ℕ) → n < 2 ^ 64 → number_at (number n ++ rest) ≡ Ok (n, rest)
unfolding number_at number
number_again n rest lt = wide_again w64 (2 ^ 64) wide64 n rest lt

pub word_again : (n : ℕ) (rest : List ℕ) → n < 2 ^ 32 → word_at (word n ++ rest) ≡ Ok (n, rest)
unfolding word_at word
word_again n rest lt = wide_again w32 (2 ^ 32) wide32 n rest lt

pub text_again : (t rest : List ℕ) → length t < 2 ^ 32 → text_at (text t ++ rest) ≡ Ok (t, rest)
unfolding text_at
text_again t rest lt =
    let long : ltb (length (t ++ rest)) (length t) ≡ false = le-ltb _ _ (omega (arith, length-append t rest)) in
    ap text_at (append_assoc (word (length t)) t rest)
    ∙ rw (word_again (length t) (t ++ rest) lt, long, take_at t rest (length t) refl, drop_at t rest (length t) refl) refl

pub within_again : (most n : ℕ) (r : Rule) (rest : List ℕ) → n ≤ most → n < 2 ^ 64 → number_within most r (number n ++ rest) ≡ Ok (n, rest)
unfolding number_within
within_again most n r rest le lt =
    let kept : nat_le n most ≡ true = grind (arith, nat_tests, le) in
    rw (number_again n rest lt, kept) refl

-- ---- lists

pub many_again : {A : Type 0} (one : List A → List ℕ → Read A) (text : A → List ℕ) (Fits : List A → A → Type 0)
    → ((before : List A) (x : A) (rest : List ℕ) → Fits before x → one before (text x ++ rest) ≡ Ok (x, rest))
    → (xs before : List A) (rest : List ℕ) → AllFit Fits before xs → many one (length xs) before (flat_map text xs ++ rest) ≡ Ok (before ++ xs, rest)
unfolding many
many_again one text Fits again [] before rest h = ap (λ (ys : List _). Ok (ys, rest)) (sym (append-nil before))
many_again one text Fits again (x ∷ xs) before rest h =
    let regrouped : flat_map text (x ∷ xs) ++ rest ≡ text x ++ (flat_map text xs ++ rest) =
    ap (λ (b : List ℕ). b ++ rest) (flat_map-cons text x xs) ∙ append_assoc (text x) (flat_map text xs) rest in
    ap (λ (b : List ℕ). many one (suc (length xs)) before b) regrouped
    ∙ rw (again before x (flat_map text xs ++ rest) h.0) (many_again one text Fits again xs (before ++ x ∷ []) rest h.1 ∙ ap (λ (ys : List _). Ok (ys, rest)) (append_assoc before (x ∷ []) xs))

pub list_again : {A : Type 0} (one : List A → List ℕ → Read A) (text : A → List ℕ) (Fits : List A → A → Type 0)
    → ((before : List A) (x : A) (rest : List ℕ) → Fits before x → one before (text x ++ rest) ≡ Ok (x, rest))
    → (xs : List A) (rest : List ℕ) → length xs < 2 ^ 64 → AllFit Fits [] xs → list_at one (list text xs ++ rest) ≡ Ok (xs, rest)
list_again one text Fits again xs rest lt h =
    ap (λ (b : List ℕ). list_at one b) (append_assoc (number (length xs)) (flat_map text xs) rest)
    ∙ rw (number_again (length xs) (flat_map text xs ++ rest) lt) (many_again one text Fits again xs [] rest h)

-- ---- cursors

range_again : (n : ℕ) → n < 2 ^ 64 → (before : List IndexRange) (r : IndexRange) (rest : List ℕ) → IsNext n before r → range_at n before (range r ++ rest) ≡ Ok (r, rest)
unfolding range_at
range_again n lt before r rest h =
    let below : nat_lt r.first n ≡ true = grind (arith, nat_tests, h.order, h.within) in
    let order : nat_le r.first r.last ≡ true = grind (arith, nat_tests, h.order) in
    let within : nat_lt r.last n ≡ true = grind (arith, nat_tests, h.within) in
    ap (λ (b : List ℕ). range_at n before b) (append_assoc (number r.first) (number r.last) rest)
    ∙ rw (number_again r.first (number r.last ++ rest) (omega (arith, h.order, h.within)), h.behind, below, number_again r.last rest (omega (arith, h.within)), order, within) refl

next_in : (n : ℕ) (before : List IndexRange) (r : IndexRange) (rs : List IndexRange) → AreIn n (before ++ r ∷ rs) → IsNext n before r
next_in n before r rs h =
    let len : length before < length (before ++ r ∷ rs) = omega (arith, length-append before (r ∷ rs)) in
    let here : get_or (before ++ r ∷ rs) (length before) r ≡ r = get_or_at before r rs r (length before) refl in
    let last : 0 < length before → (get_or before (length before - 1) no_range).last + 1 < r.first = λ some.
    let low : length before - 1 < length before = omega arith in
    let left : get_or (before ++ r ∷ rs) (length before - 1) no_range ≡ get_or before (length before - 1) no_range = get_or_append_left before (r ∷ rs) no_range (length before - 1) low in
    let here' : get_or (before ++ r ∷ rs) (length before) no_range ≡ r = get_or_at before r rs no_range (length before) refl in
    let gap = h.apart.gaps (length before - 1) (length before) no_range low len in
    rw (left, here') at gap in
    record {
      behind = grind (arith, nat_tests, last);
      order = rw here at (h.apart.each (length before) r len);
      within = rw here at (h.within (length before) r len);
    }

all_next : (n : ℕ) (rs before : List IndexRange) → AreIn n (before ++ rs) → AllFit (IsNext n) before rs
all_next n [] before h = tt
all_next n (r ∷ rs) before h =
    (next_in n before r rs h, all_next n rs (before ++ r ∷ []) (subst (λ (xs : List IndexRange). AreIn n xs) (sym (append_assoc before (r ∷ []) rs)) h))

pub cursor_below : (n : ℕ) (set : List ℕ) → IsCursor n set → AreBelow n set
cursor_below n set h i there =
    elim (cases_lt i n) [
      | inl lt ↦ lt
      | inr ge ↦
          let same : has set i ≡ covers h.ranges i = ap (λ (s : List ℕ). has s i) h.is ∙ has_indexes h.ranges i in
          absurd (true≢false (sym there ∙ same ∙ uncovered h.ranges i (λ k d m a b. omega (arith, h.inside.within k d m))))
    ]

runs_again : (n : ℕ) (set : List ℕ) (h : IsCursor n set) → runs set 0 n ≡ h.ranges
runs_again n set h =
    let same : (i : ℕ) → covers h.ranges i ≡ has set i = λ i. sym (has_indexes h.ranges i) ∙ ap (λ (s : List ℕ). has s i) (sym h.is) in
    runs_are n set h.ranges (record { apart = h.inside.apart; same = same }) (cursor_below n set h)

pub cursor_again : (n : ℕ) (set rest : List ℕ) → n < 2 ^ 64 → IsCursor n set → cursor_at n (cursor n set ++ rest) ≡ Ok (set, rest)
unfolding cursor_at
cursor_again n set rest lt h =
    let read : ranges_at n (list range h.ranges ++ rest) ≡ Ok (h.ranges, rest) =
    list_again (range_at n) range (IsNext n) (range_again n lt) h.ranges rest (omega (arith, few_ranges n h.ranges h.inside, lt)) (all_next n h.ranges [] h.inside) in
    rw (runs_again n set h, read) (ap (λ (s : List ℕ). Ok (s, rest)) (sym h.is))

pub number_long : (n : ℕ) → length (number n) ≡ 8
unfolding number
number_long n = refl

pub word_long : (n : ℕ) → length (word n) ≡ 4
unfolding word
word_long n = refl
