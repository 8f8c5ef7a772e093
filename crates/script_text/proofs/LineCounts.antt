-- A script has no more lines than bytes.
use Rattle.std.proofs.Common.{ℕ, ◌≤◌, ◌==◌, false, List, [], ◌∷◌, length, arith, length-append, subst}
use Rattle.std.specs.List.{slice_split, join_with_byte}
use Rattle.std.proofs.lemmas.Bool.{cond_both, eqb-false}
use Rattle.std.proofs.lemmas.List.Splits.{join_with_byte-slice_split}
use Rattle.script_text.specs.Lines.{TextLine, lines_between, lines_of}

few_lines : (parts : List (List ℕ)) → length (lines_between parts) ≤ length (join_with_byte 10 parts)
few_lines [] = omega arith
few_lines (x ∷ []) =
    cond_both (length x == 0) [] (record { bytes = x; ended = false } ∷ []) (λ (ls : List TextLine). length ls ≤ length x) (λ _. omega arith) (λ some. omega (arith, eqb-false (length x) 0 some))
few_lines (x ∷ y ∷ more) =
    omega (arith, few_lines (y ∷ more), length-append x (10 ∷ join_with_byte 10 (y ∷ more)))

pub length_lines_of : (bytes : List ℕ) → length (lines_of bytes) ≤ length bytes
length_lines_of bytes =
    subst (λ (all : List ℕ). length (lines_of bytes) ≤ length all) (join_with_byte-slice_split 10 bytes) (few_lines (slice_split (λ b. b == 10) bytes))
