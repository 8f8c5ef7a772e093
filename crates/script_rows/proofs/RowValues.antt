-- The values of a row, by their columns.
use Rattle.std.proofs.Common.{◌≡◌, ℕ, zero, suc, ◌<◌, List, [], ◌∷◌, slice_index_or, refl, subst}
use Rattle.script_rows.specs.declared.value.Value.{Value}
use Rattle.script_rows.specs.declared.value.Value.TheVariants as value
use Rattle.script_rows.specs.Values.{first, item, item_at, no_value, rest}
use Rattle.script_rows.specs.Written.{IsBelow}

-- the value of the i-th column
abbrev pub value_at : List Value → ℕ → Value
value_at vs zero = first vs
value_at vs (suc i) = value_at (rest vs) i

none_at : (i : ℕ) → value_at [] i ≡ no_value
none_at zero = refl
none_at (suc i) = none_at i

pub value_is : (vs : List Value) (i : ℕ) → value_at vs i ≡ slice_index_or vs i no_value
value_is [] i = none_at i
value_is (v ∷ vs) zero = refl
value_is (v ∷ vs) (suc i) = value_is vs i

below : (most : ℕ) (v : Value) → IsBelow most v → item v < most
below most (value.Item i) is = is
below most v is = absurd is

pub item_below : (vs : List Value) (i most : ℕ) → IsBelow most (value_at vs i) → item_at vs i < most
item_below vs i most is = below most (slice_index_or vs i no_value) (subst (IsBelow most) (value_is vs i) is)

pub item_same : (vs : List Value) (i : ℕ) → item (value_at vs i) ≡ item_at vs i
item_same vs i = rw (value_is vs i) refl
