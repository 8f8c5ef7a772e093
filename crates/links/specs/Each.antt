-- Lists, and values that may be missing, pair by pair.
use Rattle.std.specs.Prelude.{List, [], ◌∷◌, Option, Some, None}

-- as many items in both, and each pair as R says
pub data Each {A B : Type 0} (R : A → B → Type 0) : List A → List B → Type 0 where
  none : Each R [] []
  more : {x : A} {y : B} {xs : List A} {ys : List B} → R x y → Each R xs ys → Each R (x ∷ xs) (y ∷ ys)

-- both are there, and as R says, or neither is
pub data Both {A B : Type 0} (R : A → B → Type 0) : Option A → Option B → Type 0 where
  neither : Both R None None
  both : {x : A} {y : B} → R x y → Both R (Some x) (Some y)
