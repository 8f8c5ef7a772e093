-- Sizes as the code adds them.
use Rattle.std.proofs.Common.{◌≡◌, ℕ, zero, suc, ◌+◌, ◌-◌, ◌/◌, ◌^◌, ◌<◌, ◌≤◌, List, [], ◌∷◌, length, drop, refl, ◌∙◌, ap, arith, inl, inr, lt-ltb, le-ltb}
use Rattle.std.specs.Prelude.{min, nat_le}
use Rattle.std.proofs.lemmas.Bool.{cases_lt, lt-leb}
use Rattle.geo_base.specs.Sizes.{bytes_field, varint_groups, varint_size}
use Rattle.pb_fields.specs.Canonical.{varint}
use Rattle.pb_fields.proofs.Written.{varint-more}
use Rattle.pulsar_frames.specs.Counted.{counted}
use Rattle.frame_values.proofs.Sized.{length-varint}

groups_most : (k n : ℕ) → varint_groups k n ≤ k + 1
groups_most zero n = omega arith
groups_most (suc k) n =
    elim (cases_lt n 128) [
      | inl small ↦ rw (lt-ltb n 128 small) (omega arith)
      | inr le ↦ rw (le-ltb n 128 le) (omega (arith, groups_most k (n / 128)))
    ]

pub varint_most : (n : ℕ) → varint_size n < 11
varint_most n = omega (arith, groups_most 9 n)

pub varint_one : (n : ℕ) → n < 128 → varint_size n ≡ 1
varint_one n lt = rw (lt-ltb n 128 lt) refl

pub varint_next : (n : ℕ) → 128 ≤ n → n < 2 ^ 64 → varint_size n ≡ 1 + varint_size (n / 128)
varint_next n le lt =
    let more : length (varint n) ≡ suc (length (varint (n / 128))) = ap (λ (bs : List ℕ). length bs) (varint-more n le lt) in
    omega (arith, more, length-varint n, length-varint (n / 128))

-- ---- sums

pub sum : (a b x y : ℕ) → x ≡ counted a → y ≡ counted b → min (x + y) (2 ^ 64 - 1) ≡ counted (a + b)
sum a b x y h k = omega arith

-- one more of what was counted
pub more : (a b x y : ℕ) → x ≡ counted a → y ≡ counted (x + b) → y ≡ counted (a + b)
more a b x y h k = omega arith

pub fits : (a x : ℕ) → x ≡ counted a → x < 2 ^ 64
fits a x h = omega arith

-- one of those that are left
pub next : (s t r x whole : ℕ) → x ≡ counted (s + t) → counted (s + (t + r)) ≡ counted whole → counted (x + r) ≡ counted whole
next s t r x whole h k = omega arith

pub ended : (s whole : ℕ) → s < 2 ^ 64 → counted (s + 0) ≡ counted whole → s ≡ counted whole
ended s whole fits h = omega arith

pub all_parts : (p a b k t y r x1 x2 x3 x4 x5 x6 x7 : ℕ) → x1 ≡ counted (0 + p) → x2 ≡ counted (x1 + a) → x3 ≡ counted (x2 + b) → x4 ≡ counted (x3 + k) → x5 ≡ counted (x4 + t) → x6 ≡ counted (x5 + y)
    → x7 ≡ min (x6 + r) (2 ^ 64 - 1) → x7 ≡ counted (p + (a + (b + (k + (t + (y + r))))))
all_parts p a b k t y r x1 x2 x3 x4 x5 x6 x7 h1 h2 h3 h4 h5 h6 h7 =
    let e2 : x2 ≡ counted (0 + p + a) = more (0 + p) a x1 x2 h1 h2 in
    let e3 : x3 ≡ counted (0 + p + a + b) = more (0 + p + a) b x2 x3 e2 h3 in
    let e4 : x4 ≡ counted (0 + p + a + b + k) = more (0 + p + a + b) k x3 x4 e3 h4 in
    let e5 : x5 ≡ counted (0 + p + a + b + k + t) = more (0 + p + a + b + k) t x4 x5 e4 h5 in
    let e6 : x6 ≡ counted (0 + p + a + b + k + t + y) = more (0 + p + a + b + k + t) y x5 x6 e5 h6 in
    let e7 : x7 ≡ counted (0 + p + a + b + k + t + y + r) = more (0 + p + a + b + k + t + y) r x6 x7 e6 h7 in
    let same : 0 + p + a + b + k + t + y + r ≡ p + (a + (b + (k + (t + (y + r))))) = omega arith in
    e7 ∙ ap (λ (n : ℕ). counted n) same

-- the length of a counted length changes nothing, since either is too large
pub embedded : (s field len x : ℕ) → x ≡ counted len → counted (s + bytes_field field x) ≡ counted (s + bytes_field field len)
embedded s field len x h =
    elim (cases_lt len (2 ^ 64)) [
      | inl small ↦ let same : x ≡ len = omega arith in rw same refl
      | inr le ↦ let same : x ≡ 2 ^ 64 - 1 = omega arith in omega arith
    ]

pub within : (x : ℕ) (size : ℕ) → x ≡ counted size → nat_le x 5242880 ≡ nat_le size 5242880
within x size h =
    elim (cases_lt size (2 ^ 64)) [
      | inl small ↦ let same : x ≡ size = omega arith in rw same refl
      | inr le ↦ let same : x ≡ 2 ^ 64 - 1 = omega arith in rw (same, lt-leb size 5242880 (omega arith)) refl
    ]

pub none_left : {X : Type 0} (i : ℕ) (xs : List X) → length xs ≤ i → drop i xs ≡ []
none_left zero [] h = refl
none_left (suc i) [] h = refl
none_left zero (x ∷ xs) h = absurd (omega arith)
none_left (suc i) (x ∷ xs) h = none_left i xs (omega arith)
