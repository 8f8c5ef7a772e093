-- How many logs there are after one more topic.
use Rattle.std.proofs.Common.{◌≡◌, ℕ, ◌+◌, ◌*◌, ap, ◌∙◌}
use Rattle.std.proofs.Math.Nat.{add-mul, one-mul}

pub one_topic : (t c : ℕ) → (t + 1) * c ≡ t * c + c
one_topic t c = add-mul t 1 c ∙ ap (λ (k : ℕ). t * c + k) (one-mul c)
