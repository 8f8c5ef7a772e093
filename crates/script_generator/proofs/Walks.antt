-- A walk over the lines of an input, up to the one that begins its trace.
use Rattle.std.proofs.Common.{◌≡◌, ℕ, ◌+◌, ◌-◌, ◌==◌, ◌<◌, ◌≤◌, Bool, true, false, List, [], ◌∷◌, length, take, drop, refl, sym, ap, ◌∙◌, arith}
use Rattle.std.specs.Prelude.{Some, None, if◌then◌else◌, codes, position}
use Rattle.std.specs.Str.{bytes_eq}
use Rattle.std.proofs.lemmas.List.{drop-drop, length-drop, length-take-le, take_rest}
use Rattle.std.proofs.lemmas.List.Quantifiers.{position-Some}
use Rattle.script_rows.specs.NameWords.{Word, cut_by}
use Rattle.script_rows.proofs.Cuts.{cut_found, cut_none, has_parts}
use Rattle.script_generator.specs.Starts.{trace_from, trace_start}

-- what is after so many bytes, as a slice has it
abbrev behind : List ℕ → ℕ → List ℕ
behind xs at = take (length xs - at) (drop at xs)

rest_is : (xs : List ℕ) (at : ℕ) → behind xs at ≡ drop at xs
rest_is xs at = rw take_rest refl

-- a line that ends, in front of what is after it
record IsFirst (xs : List ℕ) (at end : ℕ) : Type 0 where
  cut : cut_by 10 (drop at xs) ≡ take end (drop at xs) ∷ cut_by 10 (drop (at + (end + 1)) xs)
  inside : at + (end + 1) ≤ length xs
  size : length (take end (drop at xs)) ≡ end

first_line : (xs : List ℕ) (at end : ℕ) → at ≤ length xs → Some end ≡ position (λ b. b == 10) (behind xs at) → IsFirst xs at end
first_line xs at end within found =
    let e : position (λ b. b == 10) (drop at xs) ≡ Some end = ap (position (λ b. b == 10)) (sym (rest_is xs at)) ∙ sym found in
    let long : length (drop at xs) ≡ length xs - at = length-drop at xs in
    let short : end < length (drop at xs) = (position-Some (λ b. b == 10) (drop at xs) end 0 e).0 in
    record {
      cut = cut_found (λ b. b == 10) (drop at xs) end e
          ∙ ap (λ (ys : List ℕ). take end (drop at xs) ∷ cut_by 10 ys) (rest_is (drop at xs) (end + 1) ∙ drop-drop (end + 1) at xs);
      inside = omega (arith, long, short, within);
      size = length-take-le end (drop at xs) (omega (arith, short));
    }

-- the slice of a line, compared
pub piece_is : (xs : List ℕ) (at end : ℕ) (b r : Bool) → b ≡ r → b ≡ bytes_eq (take (at + end - at) (drop at xs)) (codes "trace") → bytes_eq (take end (drop at xs)) (codes "trace") ≡ r
piece_is xs at end b r is same =
    let e : at + end - at ≡ end = omega arith in
    ap (λ (k : ℕ). bytes_eq (take k (drop at xs)) (codes "trace")) (sym e) ∙ (sym same ∙ is)

-- the trace begins here where the line is `trace`
pub begins_here : (xs : List ℕ) (at end : ℕ) → at ≤ length xs → Some end ≡ position (λ b. b == 10) (behind xs at) → bytes_eq (take end (drop at xs)) (codes "trace") ≡ true
    → at + trace_from (cut_by 10 (drop at xs)) ≡ trace_start xs → at ≡ trace_start xs
begins_here xs at end within found trace before =
    let f = first_line xs at end within found in
    let none : trace_from (cut_by 10 (drop at xs)) ≡ 0 = ap trace_from f.cut ∙ by (cut_by 10 (drop (at + (end + 1)) xs)) (has_parts (λ b. b == 10) (drop (at + (end + 1)) xs)) in
    (let e : at ≡ at + trace_from (cut_by 10 (drop at xs)) = omega (arith, none) in e) ∙ before
  where
    by : (ws : List Word) → 0 < length ws → trace_from (take end (drop at xs) ∷ ws) ≡ 0
    by [] some = absurd (omega (arith, some))
    by (w ∷ ws) some = ap (λ (b : Bool). if b then 0 else length (take end (drop at xs)) + 1 + trace_from (w ∷ ws)) trace

-- else it begins where it does after the line
pub begins_later : (xs : List ℕ) (at end : ℕ) → at ≤ length xs → Some end ≡ position (λ b. b == 10) (behind xs at) → bytes_eq (take end (drop at xs)) (codes "trace") ≡ false
    → at + trace_from (cut_by 10 (drop at xs)) ≡ trace_start xs
    → (at + (end + 1) ≤ length xs) × (at + (end + 1) + trace_from (cut_by 10 (drop (at + (end + 1)) xs)) ≡ trace_start xs)
begins_later xs at end within found other before =
    let f = first_line xs at end within found in
    let more : trace_from (cut_by 10 (drop at xs)) ≡ length (take end (drop at xs)) + 1 + trace_from (cut_by 10 (drop (at + (end + 1)) xs)) =
    ap trace_from f.cut ∙ by (cut_by 10 (drop (at + (end + 1)) xs)) (has_parts (λ b. b == 10) (drop (at + (end + 1)) xs)) in
    let size = f.size in
    (f.inside, (let e : at + (end + 1) + trace_from (cut_by 10 (drop (at + (end + 1)) xs)) ≡ at + trace_from (cut_by 10 (drop at xs)) = omega (arith, more, size) in e) ∙ before)
  where
    by : (ws : List Word) → 0 < length ws → trace_from (take end (drop at xs) ∷ ws) ≡ length (take end (drop at xs)) + 1 + trace_from ws
    by [] some = absurd (omega (arith, some))
    by (w ∷ ws) some = ap (λ (b : Bool). if b then 0 else length (take end (drop at xs)) + 1 + trace_from (w ∷ ws)) other

-- and where no line ends, after all
pub begins_nowhere : (xs : List ℕ) (at : ℕ) → at ≤ length xs → None ≡ position (λ b. b == 10) (behind xs at) → at + trace_from (cut_by 10 (drop at xs)) ≡ trace_start xs → length xs ≡ trace_start xs
begins_nowhere xs at within none before =
    let e : position (λ b. b == 10) (drop at xs) ≡ None = ap (position (λ b. b == 10)) (sym (rest_is xs at)) ∙ sym none in
    let all : trace_from (cut_by 10 (drop at xs)) ≡ length (drop at xs) = ap trace_from (cut_none (λ b. b == 10) (drop at xs) e) in
    let long : length (drop at xs) ≡ length xs - at = length-drop at xs in
    (let f : length xs ≡ at + trace_from (cut_by 10 (drop at xs)) = omega (arith, all, long, within) in f) ∙ before
