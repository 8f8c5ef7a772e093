-- One more of what a loop adds.
use Rattle.std.proofs.Common.{◌≡◌, ℕ, ◌+◌, List, [], ◌++◌, refl, ap, add-one}
use Rattle.actors.specs.declared.role.Role.{Role}
use Rattle.actors.specs.Order.{for_each}

pub next : (n : ℕ) (f : ℕ → List Role) → for_each (n + 1) f ≡ for_each n f ++ f n
unfolding for_each
next n f = ap (λ (k : ℕ). for_each k f) (add-one n)

pub none : (f : ℕ → List Role) → for_each 0 f ≡ []
unfolding for_each
none f = refl
