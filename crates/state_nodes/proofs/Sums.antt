-- Entries of ledgers, counted down from how many there are.
use Rattle.std.proofs.Common.{◌≡◌, ℕ, ◌+◌, ◌-◌, ◌<◌, ◌≤◌, ◌==◌, false, List, length, get_or, take, ap, arith}
use Rattle.std.specs.List.{sum}
use Rattle.std.proofs.lemmas.Bool.Decides.{nat_tests}
use Rattle.std.proofs.lemmas.List.{take_all}
use Rattle.std.proofs.lemmas.List.Sums.{sum_by_more, sum_by_more_le}

pub more : (ls : List ℕ) (i count left l : ℕ) → i < length ls → sum (take i ls) + left ≡ count → l ≡ get_or ls i 0 → l ≤ left → sum (take (i + 1) ls) + (left - l) ≡ count
more ls i count left l lt e same le = omega (arith, sum_by_more (λ x. x) ls i 0 lt, e, same, le)

pub too_many : (ls : List ℕ) (i count left l : ℕ) → i < length ls → sum (take i ls) + left ≡ count → l ≡ get_or ls i 0 → left < l → false ≡ (sum ls == count)
too_many ls i count left l lt e same gt =
    let over : count < sum ls = omega (arith, sum_by_more_le (λ x. x) ls i 0 lt, e, same, gt) in
    grind (arith, nat_tests, over)

pub all_ : (ls : List ℕ) (i count left : ℕ) → length ls ≤ i → sum (take i ls) + left ≡ count → (left == 0) ≡ (sum ls == count)
all_ ls i count left le e =
    let whole : sum (take i ls) ≡ sum ls = ap (λ (xs : List ℕ). sum xs) (take_all i ls le) in
    grind (arith, nat_tests, whole, e)
