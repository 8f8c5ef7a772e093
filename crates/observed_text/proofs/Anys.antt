-- Whether any number of a range is one, number by number.
use Rattle.std.proofs.Common.{◌≡◌, ℕ, suc, ◌+◌, ◌-◌, ◌<◌, ◌≤◌, Bool, true, false, sym, ap, ◌∙◌, arith}
use Rattle.std.specs.Prelude.{◌||◌}
use Rattle.std.specs.List.{list_any, range_with_len}

one_first : (p : ℕ → Bool) (c n : ℕ) → c < n → list_any p (range_with_len c (n - c)) ≡ (p c || list_any p (range_with_len (c + 1) (n - (c + 1))))
one_first p c n lt = let more : n - c ≡ suc (n - (c + 1)) = omega (arith, lt) in ap (λ (k : ℕ). list_any p (range_with_len c k)) more

pub any_here : (p : ℕ → Bool) (c n : ℕ) (b : Bool) → c < n → b ≡ p c → b ≡ true → list_any p (range_with_len c (n - c)) ≡ list_any p (range_with_len 0 n)
    → true ≡ list_any p (range_with_len 0 n)
any_here p c n b lt here is so_far =
    sym (ap (λ (a : Bool). a || list_any p (range_with_len (c + 1) (n - (c + 1)))) (sym here ∙ is)) ∙ (sym (one_first p c n lt) ∙ so_far)

pub any_later : (p : ℕ → Bool) (c n : ℕ) (b : Bool) → c < n → b ≡ p c → b ≡ false → list_any p (range_with_len c (n - c)) ≡ list_any p (range_with_len 0 n)
    → list_any p (range_with_len (c + 1) (n - (c + 1))) ≡ list_any p (range_with_len 0 n)
any_later p c n b lt here is so_far =
    sym (ap (λ (a : Bool). a || list_any p (range_with_len (c + 1) (n - (c + 1)))) (sym here ∙ is)) ∙ (sym (one_first p c n lt) ∙ so_far)

pub any_none : (p : ℕ → Bool) (c n : ℕ) → n ≤ c → list_any p (range_with_len c (n - c)) ≡ list_any p (range_with_len 0 n) → false ≡ list_any p (range_with_len 0 n)
any_none p c n past so_far = let none : n - c ≡ 0 = omega (arith, past) in ap (λ (k : ℕ). list_any p (range_with_len c k)) (sym none) ∙ so_far
