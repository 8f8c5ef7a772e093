-- Lemmas on numbers that several crates use, each named by its statement.
use Rattle.std.proofs.Common.{ap, arith, false, refl, suc, sym, true, ℕ, ◌*◌, ◌+◌, ◌/◌, ◌==◌, ◌^◌, ◌∙◌, ◌≡◌}
use Rattle.std.proofs.Math.Nat.{div-div-eq-div-mul, one-mul, pow-suc, pow-zero}
use Rattle.std.proofs.lemmas.Bool.{eq-eqb}
use Rattle.std.proofs.lemmas.Bool.Decides.{nat_tests}
use Rattle.std.specs.Prelude.{max, nat_le}

pub eq_itself : (x : ℕ) → (x == x) ≡ true
eq_itself x = eq-eqb x x refl

pub eq_apart : (n x : ℕ) → (n ≡ x → ⊥) → (n == x) ≡ false
eq_apart n x other = grind (arith, nat_tests, other)

pub eq_next : (n : ℕ) → ((n + 1) == n) ≡ false
eq_next n = grind (arith, nat_tests)

pub le_of_max : (r i j : ℕ) → nat_le (max r (i + 1)) j ≡ true → nat_le r j ≡ true
le_of_max r i j h = grind (arith, nat_tests, h)

pub half_power : (k bits : ℕ) → bits / 2 ^ (k + 1) ≡ (bits / 2 ^ k) / 2
half_power k bits =
    let more : k + 1 ≡ suc k = omega arith in
    ap (λ (j : ℕ). bits / 2 ^ j) more ∙ ap (λ (j : ℕ). bits / j) (pow-suc 2 k) ∙ sym (div-div-eq-div-mul bits (2 ^ k) 2)

pub cube : (n : ℕ) → n ^ 3 ≡ n * n * n
cube n = pow-suc n 2 ∙ ap (λ (k : ℕ). k * n) (pow-suc n 1 ∙ ap (λ (k : ℕ). k * n) (pow-suc n 0 ∙ ap (λ (k : ℕ). k * n) (pow-zero n) ∙ one-mul n))
