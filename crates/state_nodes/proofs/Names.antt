-- Names are short.
use Rattle.std.proofs.Common.{◌≡◌, ℕ, ◌<◌, ◌≤◌, ◌^◌, true, List, length, arith}
use Rattle.std.specs.Prelude.{nat_lt, nat_le}
use Rattle.std.specs.List.{list_all}
use Rattle.std.proofs.lemmas.Bool.Decides.{nat_tests}
use Rattle.geo_base.specs.Name.{is_name, name_byte}
use Rattle.geo_base.proofs.Bools.{and_middle}

pub name_short : (n : List ℕ) → is_name n ≡ true → length n < 2 ^ 32
name_short n h =
    let le : nat_le (length n) 16 ≡ true = and_middle (nat_lt 0 (length n)) (nat_le (length n) 16) (list_all name_byte n) h in
    let few : length n ≤ 16 = grind (arith, nat_tests, le) in
    omega (arith, few)
