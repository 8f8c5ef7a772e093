-- Words, so many at most.
use Rattle.std.proofs.Common.{◌≡◌, ℕ, zero, suc, ◌-◌, ◌==◌, ◌≤◌, ◌<◌, List, [], ◌∷◌, length, arith, refl, ap, ◌∙◌}
use Rattle.std.specs.List.{join_with_byte}
use Rattle.std.proofs.lemmas.List.Splits.{join_with_byte-slice_split, length-slice_split}
use Rattle.script_rows.specs.Words.{gathered, words_of}
use Rattle.script_rows.specs.NameWords.{Word}

pub gathered_none : (n : ℕ) → gathered n [] ≡ []
gathered_none zero = refl
gathered_none (suc n) = refl

joined : (ws : List Word) → 0 < length ws → gathered 1 ws ≡ join_with_byte 32 ws ∷ []
joined [] some = absurd (omega arith)
joined (w ∷ ws) some = refl

pub gathered_last : (text : List ℕ) → gathered 1 (words_of text) ≡ text ∷ []
gathered_last text =
    joined (words_of text) (omega (arith, length-slice_split (λ (b : ℕ). b == 32) text)) ∙ ap (λ (t : List ℕ). t ∷ []) (join_with_byte-slice_split 32 text)

the_next : (n : ℕ) → suc (suc n) - 1 ≡ suc n
the_next n = omega arith

pub gathered_more : (n : ℕ) (w : Word) (ws : List Word) → 2 ≤ n → gathered n (w ∷ ws) ≡ w ∷ gathered (n - 1) ws
gathered_more zero w ws some = absurd (omega arith)
gathered_more (suc zero) w ws some = absurd (omega arith)
gathered_more (suc (suc n)) w ws some = rw (the_next n) refl
