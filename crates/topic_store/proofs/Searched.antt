-- What a binary search among first indexes finds.
use Rattle.std.proofs.Common.{◌≡◌, ℕ, ◌-◌, ◌<◌, ◌≤◌, nat_le, true, false, List, length, get_or, arith}
use Rattle.std.specs.List.Sorted.{IsPartitionPoint}
use Rattle.std.proofs.lemmas.Bool.Decides.{nat_tests}
use Rattle.topic_store.specs.Firsts.{IsLedgerOf}

-- the first ones begin at an index or before it, the others after it
abbrev pub Splits : List ℕ → ℕ → ℕ → Type 0
Splits fs index place = IsPartitionPoint (λ (f : ℕ). nat_le f index ≡ true) (λ (f : ℕ). nat_le f index ≡ false) fs place

pub place_above : (fs : List ℕ) (index place : ℕ) → 0 < length fs → get_or fs 0 0 ≡ 0 → place ≤ length fs → Splits fs index place → 0 < place
place_above fs index place o b h s = grind (arith, nat_tests, s.1 0 0, b, o)

pub ledger_found : (fs : List ℕ) (index place : ℕ) → 0 < length fs → get_or fs 0 0 ≡ 0 → place ≤ length fs → Splits fs index place → IsLedgerOf fs index (place - 1)
ledger_found fs index place o b h s =
    let p = place_above fs index place o b h s in
    record {
      one = omega arith;
      begun = grind (arith, nat_tests, s.0 (place - 1) 0);
      last = λ k low high. grind (arith, nat_tests, s.1 k 0);
    }
