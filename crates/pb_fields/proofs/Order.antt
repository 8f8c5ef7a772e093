-- Fields by ascending number, part by part.
use Rattle.std.proofs.Common.{◌≡◌, ℕ, ◌≤◌, List, [], ◌∷◌, ◌++◌, Option, Some, None, map, sym, subst, arith}
use Rattle.pb_fields.specs.declared.field.Field.{Field}
use Rattle.pb_fields.specs.Canonical.{optional, AscendFrom}

pub from_lower : (low n : ℕ) (fs : List Field) → low ≤ n → AscendFrom n fs → AscendFrom low fs
from_lower low n [] le h = tt
from_lower low n (f ∷ fs) le h = (omega (arith, le, h.0), h.1)

-- after fields of one number
pub behind_map : {X : Type 0} (low n : ℕ) (make : X → Field) (xs : List X) (fs : List Field) → ((x : X) → (make x).number ≡ n) → low ≤ n → AscendFrom n fs → AscendFrom low (map make xs ++ fs)
behind_map low n make [] fs is le h = from_lower low n fs le h
behind_map low n make (x ∷ xs) fs is le h =
    (omega (arith, le, is x), subst (λ (k : ℕ). AscendFrom k (map make xs ++ fs)) (sym (is x)) (behind_map n n make xs fs is (omega arith) h))

pub behind_optional : {X : Type 0} (low n : ℕ) (make : X → Field) (o : Option X) (fs : List Field) → ((x : X) → (make x).number ≡ n) → low ≤ n → AscendFrom n fs → AscendFrom low (optional make o ++ fs)
behind_optional low n make None fs is le h = from_lower low n fs le h
behind_optional low n make (Some x) fs is le h = (omega (arith, le, is x), subst (λ (k : ℕ). AscendFrom k fs) (sym (is x)) h)

pub ascend_map : {X : Type 0} (low n : ℕ) (make : X → Field) (xs : List X) → ((x : X) → (make x).number ≡ n) → low ≤ n → AscendFrom low (map make xs)
ascend_map low n make [] is le = tt
ascend_map low n make (x ∷ xs) is le =
    (omega (arith, le, is x), subst (λ (k : ℕ). AscendFrom k (map make xs)) (sym (is x)) (ascend_map n n make xs is (omega arith)))

pub ascend_optional : {X : Type 0} (low n : ℕ) (make : X → Field) (o : Option X) → ((x : X) → (make x).number ≡ n) → low ≤ n → AscendFrom low (optional make o)
ascend_optional low n make None is le = tt
ascend_optional low n make (Some x) is le = (omega (arith, le, is x), tt)
