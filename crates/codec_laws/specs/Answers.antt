-- That something is there: what bytes say, or what is wrong with them.
use Rattle.std.specs.Prelude.{ℕ, ◌<◌, List}
use Rattle.std.specs.List.{AllByRecursion}

-- numbers of eight bits
abbrev pub AreBytes : List ℕ → Type 0
AreBytes bytes = AllByRecursion (λ b. b < 256) bytes

-- One of the two is there: a value that is right, or something wrong.
pub data HasAnswer {X E : Type 0} (Right : X → Type 0) (Wrong : E → Type 0) : Type 0 where
  right : (x : X) → Right x → HasAnswer Right Wrong
  wrong : (e : E) → Wrong e → HasAnswer Right Wrong
