-- A walk over the lines of an input, up to the one that is the head of an observation.
use Rattle.std.proofs.Common.{◌≡◌, ℕ, ◌+◌, ◌<◌, Bool, true, false, List, [], ◌∷◌, ◌++◌, length, refl, sym, ap, ◌∙◌, arith}
use Rattle.std.specs.Prelude.{is_some, if◌then◌else◌}
use Rattle.std.specs.List.{join_with_byte}
use Rattle.std.proofs.lemmas.List.{length-append}
use Rattle.std.proofs.lemmas.List.Splits.{join_with_byte-slice_split}
use Rattle.observed_text.proofs.Pieces.{some_piece}
use Rattle.script_rows.specs.NameWords.{Word, cut_by}
use Rattle.observed_text.specs.Starts.{head_of, observed_from}

-- a line with its line feed, in front of what is after it
pub cut_length : (rest l behind : List ℕ) → cut_by 10 rest ≡ l ∷ cut_by 10 behind → length rest ≡ length l + 1 + length behind
cut_length rest l behind cut =
    let is : rest ≡ l ++ (10 ∷ behind) =
    sym (join_with_byte-slice_split 10 rest) ∙ (ap (join_with_byte 10) cut
    ∙ (by (cut_by 10 behind) (some_piece 10 behind) ∙ ap (λ (b : List ℕ). l ++ (10 ∷ b)) (join_with_byte-slice_split 10 behind))) in
    let size = length-append l (10 ∷ behind) in
    ap length is ∙ (let e : length (l ++ (10 ∷ behind)) ≡ length l + 1 + length behind = omega (arith, size) in e)
  where
    by : (ls : List Word) → 0 < length ls → join_with_byte 10 (l ∷ ls) ≡ l ++ (10 ∷ join_with_byte 10 ls)
    by [] some = absurd (omega (arith, some))
    by (m ∷ ls) some = refl

-- the observation begins here where the line is a head
from_head : (l : Word) (ls : List Word) → 0 < length ls → is_some (head_of l) ≡ true → observed_from (l ∷ ls) ≡ 0
from_head l [] some is = absurd (omega (arith, some))
from_head l (k ∷ ls) some is = ap (λ (b : Bool). if b then 0 else length l + 1 + observed_from (k ∷ ls)) is

-- else where it does after the line
from_other : (l : Word) (ls : List Word) → 0 < length ls → is_some (head_of l) ≡ false → observed_from (l ∷ ls) ≡ length l + 1 + observed_from ls
from_other l [] some is = absurd (omega (arith, some))
from_other l (k ∷ ls) some is = ap (λ (b : Bool). if b then 0 else length l + 1 + observed_from (k ∷ ls)) is

pub begins_here : (rest l behind : List ℕ) → cut_by 10 rest ≡ l ∷ cut_by 10 behind → is_some (head_of l) ≡ true → observed_from (cut_by 10 rest) ≡ 0
begins_here rest l behind cut is = ap observed_from cut ∙ from_head l (cut_by 10 behind) (some_piece 10 behind) is

pub begins_later : (rest l behind : List ℕ) → cut_by 10 rest ≡ l ∷ cut_by 10 behind → is_some (head_of l) ≡ false
    → observed_from (cut_by 10 rest) ≡ length l + 1 + observed_from (cut_by 10 behind)
begins_later rest l behind cut is = ap observed_from cut ∙ from_other l (cut_by 10 behind) (some_piece 10 behind) is

pub begins_nowhere : (rest : List ℕ) → cut_by 10 rest ≡ rest ∷ [] → observed_from (cut_by 10 rest) ≡ length rest
begins_nowhere rest cut = ap observed_from cut
