-- Frames cut into parts.
use Rattle.std.proofs.Common.{◌≡◌, ℕ, ◌+◌, ◌-◌, ◌/◌, ◌%◌, ◌<◌, ◌≤◌, List, [], ◌∷◌, ◌++◌, length, refl, sym, ap, ◌∙◌, arith}
use Rattle.std.specs.Prelude.{take, drop, min, suc, zero}
use Rattle.std.specs.Int.{div_ceil}
use Rattle.std.specs.List.{concat}
use Rattle.std.proofs.Math.Nat.{add-div_right, add-mod_right, div-eq_of_lt, mod-eq_of_lt}
use Rattle.std.proofs.Math.Seq.{take-add}
use Rattle.std.proofs.lemmas.List.{append-nil, length-drop, length-take}
use Rattle.std.proofs.lemmas.List.Elements.{All-cons, All-nil, All-push}
use Rattle.std.proofs.lemmas.List.Folds.{concat-append}
use Rattle.wire_ends.specs.Parcels.{AreParts, parts_of}

-- a frame of one part at most is the first part
pub whole_frame : (first : List ℕ) (rest : List (List ℕ)) → length (parts_of first rest) ≤ 1 → concat (parts_of first rest) ≡ first
whole_frame [] rest few = refl
whole_frame (b ∷ bs) [] few = append-nil (b ∷ bs)
whole_frame (b ∷ bs) (r ∷ rs) few = absurd (omega (arith, few))

-- a first part that has a byte is one
pub first_part : (first : List ℕ) (rest : List (List ℕ)) → 0 < length first → parts_of first rest ≡ first ∷ rest
first_part [] rest some = absurd (omega (arith, some))
first_part (b ∷ bs) rest some = refl

-- HOW MANY PARTS

pub no_parts : (most : ℕ) → 0 < most → div_ceil 0 most ≡ 0
no_parts most some = ap (λ (n : ℕ). n + min 1 (0 % most)) (div-eq_of_lt some) ∙ ap (λ (n : ℕ). 0 + min 1 n) (mod-eq_of_lt some) ∙ omega arith

-- so many bytes more are one part more
pub part_more : (n most : ℕ) → 0 < most → div_ceil (n + most) most ≡ div_ceil n most + 1
part_more n most some =
    let d : (n + most) / most ≡ n / most + 1 = add-div_right n some in
    let m : (n + most) % most ≡ n % most = add-mod_right n most in
    ap (λ (q : ℕ). q + min 1 ((n + most) % most)) d ∙ ap (λ (r : ℕ). n / most + 1 + min 1 r) m ∙ omega arith

few_bytes : (n most : ℕ) → 0 < n → n < most → div_ceil n most ≡ 1
few_bytes n most some less =
    let d : n / most ≡ 0 = div-eq_of_lt less in
    let m : n % most ≡ n = mod-eq_of_lt less in
    ap (λ (q : ℕ). q + min 1 (n % most)) d ∙ ap (λ (r : ℕ). 0 + min 1 r) m ∙ omega (arith, some)

-- bytes that fit one part
pub one_part : (n most : ℕ) → 0 < n → n ≤ most → div_ceil n most ≡ 1
one_part n most some fit = by_less n most (few_bytes n most some) (λ same.
    ap (λ (k : ℕ). div_ceil k most) (omega (arith, same)) ∙ part_more 0 most (omega (arith, some, same)) ∙ ap (λ (k : ℕ). k + 1) (no_parts most (omega (arith, some, same))) ∙ omega arith) fit
  where
    by_less : {P : Type 0} (n m : ℕ) → (n < m → P) → (n ≡ m → P) → n ≤ m → P
    by_less zero zero f g h = g refl
    by_less zero (suc m) f g h = f (omega arith)
    by_less (suc n) zero f g h = absurd (omega (arith, h))
    by_less (suc n) (suc m) f g h = by_less n m (λ l. f (omega (arith, l))) (λ e. g (ap (λ (k : ℕ). suc k) e)) (omega (arith, h))

-- the first of more bytes than fit one part
pub first_more : (n most : ℕ) → 0 < most → most ≤ n → div_ceil n most ≡ div_ceil (n - most) most + 1
first_more n most some fit = ap (λ (k : ℕ). div_ceil k most) (omega (arith, fit)) ∙ part_more (n - most) most some

-- one more part of those that are left
pub part_less : (n most : ℕ) → 0 < n → 0 < most → div_ceil (n - min most n) most + 1 ≡ div_ceil n most
part_less n most some few = by_le n most
    (λ fit. ap (λ (k : ℕ). div_ceil k most + 1) (omega (arith, fit)) ∙ ap (λ (k : ℕ). k + 1) (no_parts most few) ∙ sym (one_part n most some fit))
    (λ more. ap (λ (k : ℕ). div_ceil k most + 1) (omega (arith, more)) ∙ sym (first_more n most few (omega (arith, more))))
  where
    by_le : {P : Type 0} (n m : ℕ) → (n ≤ m → P) → (m < n → P) → P
    by_le zero m f g = f (omega arith)
    by_le (suc n) zero f g = g (omega arith)
    by_le (suc n) (suc m) f g = by_le n m (λ l. f (omega (arith, l))) (λ l. g (omega (arith, l)))

-- WHICH BYTES

-- one more part after those of the first bytes
pub more_bytes : (bytes : List ℕ) (at n : ℕ) (parts : List (List ℕ)) → concat parts ≡ take at bytes
    → concat (parts ++ take n (drop at bytes) ∷ []) ≡ take (at + n) bytes
more_bytes bytes at n parts so_far =
    concat-append parts (take n (drop at bytes) ∷ [])
    ∙ ap (λ (m : List ℕ). concat parts ++ m) (append-nil (take n (drop at bytes)))
    ∙ ap (λ (m : List ℕ). m ++ take n (drop at bytes)) so_far
    ∙ sym (take-add at n bytes)

-- HOW LONG A PART IS

pub no_sizes : (most : ℕ) → AreParts most []
no_sizes most = All-nil (λ (part : List ℕ). (0 < length part) × (length part ≤ most))

pub first_sizes : (most : ℕ) (first : List ℕ) (rest : List (List ℕ)) → 0 < length first → length first ≤ most → AreParts most rest → AreParts most (first ∷ rest)
first_sizes most first rest some few sizes = All-cons (λ (part : List ℕ). (0 < length part) × (length part ≤ most)) first rest (some, few) sizes

pub one_size : (most : ℕ) (first : List ℕ) → length first ≤ most → AreParts most (parts_of first [])
one_size most [] few = no_sizes most
one_size most (b ∷ bs) few = first_sizes most (b ∷ bs) [] (omega arith) few (no_sizes most)

pub more_sizes : (bytes : List ℕ) (at n most : ℕ) (parts : List (List ℕ)) → 0 < n → n ≤ most → at + n ≤ length bytes → AreParts most parts
    → AreParts most (parts ++ take n (drop at bytes) ∷ [])
more_sizes bytes at n most parts some few fit sizes =
    let long : length (take n (drop at bytes)) ≡ n = omega (arith, length-take n (drop at bytes), length-drop at bytes, fit) in
    All-push (λ (part : List ℕ). (0 < length part) × (length part ≤ most)) parts (take n (drop at bytes)) sizes (omega (arith, long, some), omega (arith, long, few))
