-- Lines that their two ends cover.
use Rattle.std.proofs.Common.{◌≡◌, ℕ, ◌-◌, ◌+◌, ◌<◌, ◌≤◌, nat_eq, List, ◌++◌, length, take, drop, get_or, refl, sym, ap, ◌∙◌, arith, inl, inr}
use Rattle.std.specs.Int.{w32, w64, from_le_bytes, to_le_bytes}
use Rattle.std.specs.Str.{bytes_eq}
use Rattle.std.proofs.lemmas.Bool.{cases_Bool, cases_lt, eq-eqb, eqb-true, false_from_ne_true, false≢true}
use Rattle.std.proofs.lemmas.List.{drop-drop, get_or-drop, get_or-take, get_or_past, length-drop, length-take, take-append-drop}
use Rattle.std.proofs.lemmas.Nat.{le_bytes_4, le_bytes_8}
use Rattle.std.proofs.lemmas.Slice.Eq.{bytes_eq-Decides}

abbrev pub IsBytes : List ℕ → Type 0
IsBytes bs = (i : ℕ) → get_or bs i 0 < 256

bytes_before : (n : ℕ) (bs : List ℕ) → IsBytes bs → IsBytes (take n bs)
bytes_before n bs are i =
    elim (cases_lt i n) [
      | inl lt ↦ rw (get_or-take n bs i 0 lt) (are i)
      | inr le ↦ rw (get_or_past (take n bs) i 0 (omega (arith, length-take n bs))) (omega arith)
    ]

bytes_after : (n : ℕ) (bs : List ℕ) → IsBytes bs → IsBytes (drop n bs)
bytes_after n bs are i = rw (get_or-drop n bs i 0) (are (n + i))

-- the same number is that of the same bytes
same_of_eight : (xs ys : List ℕ) → IsBytes xs → IsBytes ys → length xs ≡ 8 → length ys ≡ 8 → from_le_bytes w64 xs ≡ from_le_bytes w64 ys → xs ≡ ys
same_of_eight xs ys a b m n same =
    sym (le_bytes_8 xs (from_le_bytes w64 xs) m a refl) ∙ ap (to_le_bytes w64) same ∙ le_bytes_8 ys (from_le_bytes w64 ys) n b refl

same_of_four : (xs ys : List ℕ) → IsBytes xs → IsBytes ys → length xs ≡ 4 → length ys ≡ 4 → from_le_bytes w32 xs ≡ from_le_bytes w32 ys → xs ≡ ys
same_of_four xs ys a b m n same =
    sym (le_bytes_4 xs (from_le_bytes w32 xs) m a refl) ∙ ap (to_le_bytes w32) same ∙ le_bytes_4 ys (from_le_bytes w32 ys) n b refl

-- two lines of one length whose n first bytes and n last are the same, where these are all of them
covered : (n : ℕ) (xs ys : List ℕ) → length ys ≡ length xs → n ≤ length xs → length xs ≤ n + n
    → take n xs ≡ take n ys → drop (length xs - n) xs ≡ drop (length ys - n) ys → xs ≡ ys
covered n xs ys same long short front back =
    let left : n ≡ (length xs - n) + (n - (length xs - n)) = omega arith in
    let right : (length ys - n) + (n - (length xs - n)) ≡ n = omega arith in
    let rest : drop n xs ≡ drop n ys =
    ap (λ (k : ℕ). drop k xs) left ∙ sym (drop-drop (n - (length xs - n)) (length xs - n) xs) ∙ ap (drop (n - (length xs - n))) back
    ∙ drop-drop (n - (length xs - n)) (length ys - n) ys ∙ ap (λ (k : ℕ). drop k ys) right in
    sym (take-append-drop n xs) ∙ ap (λ (zs : List ℕ). zs ++ drop n xs) front ∙ ap (λ (zs : List ℕ). take n ys ++ zs) rest ∙ take-append-drop n ys

decided : (c d : ℕ) (xs ys : List ℕ) → (c ≡ d → xs ≡ ys) → (xs ≡ ys → c ≡ d) → nat_eq c d ≡ bytes_eq xs ys
decided c d xs ys to from =
    elim (cases_Bool (nat_eq c d)) [
      | inl is ↦ is ∙ sym ((bytes_eq-Decides xs ys).1 (to (eqb-true c d is)))
      | inr differs ↦ differs ∙ sym (false_from_ne_true (bytes_eq xs ys) (λ is. false≢true (sym differs ∙ eq-eqb c d (from ((bytes_eq-Decides xs ys).0 is)))))
    ]

-- where the numbers of the first eight bytes are the same, those of the last eight decide
pub same_eights : (xs ys : List ℕ) (a b c d : ℕ) → IsBytes xs → IsBytes ys → length ys ≡ length xs → 8 ≤ length xs → length xs ≤ 16
    → a ≡ from_le_bytes w64 (take 8 xs) → b ≡ from_le_bytes w64 (take 8 ys)
    → c ≡ from_le_bytes w64 (drop (length xs - 8) xs) → d ≡ from_le_bytes w64 (drop (length ys - 8) ys)
    → a ≡ b → nat_eq c d ≡ bytes_eq xs ys
same_eights xs ys a b c d p q same long short ea eb ec ed first =
    let front : take 8 xs ≡ take 8 ys =
    same_of_eight (take 8 xs) (take 8 ys) (bytes_before 8 xs p) (bytes_before 8 ys q) (omega (arith, length-take 8 xs)) (omega (arith, length-take 8 ys))
    (sym ea ∙ first ∙ eb) in
    decided c d xs ys
    (λ is. covered 8 xs ys same long short front
    (same_of_eight (drop (length xs - 8) xs) (drop (length ys - 8) ys) (bytes_after (length xs - 8) xs p) (bytes_after (length ys - 8) ys q)
    (omega (arith, length-drop (length xs - 8) xs)) (omega (arith, length-drop (length ys - 8) ys)) (sym ec ∙ is ∙ ed)))
    (λ is. ec ∙ ap (λ (zs : List ℕ). from_le_bytes w64 (drop (length zs - 8) zs)) is ∙ sym ed)

-- the same of four
pub same_fours : (xs ys : List ℕ) (a b c d : ℕ) → IsBytes xs → IsBytes ys → length ys ≡ length xs → 4 ≤ length xs → length xs ≤ 8
    → a ≡ from_le_bytes w32 (take 4 xs) → b ≡ from_le_bytes w32 (take 4 ys)
    → c ≡ from_le_bytes w32 (drop (length xs - 4) xs) → d ≡ from_le_bytes w32 (drop (length ys - 4) ys)
    → a ≡ b → nat_eq c d ≡ bytes_eq xs ys
same_fours xs ys a b c d p q same long short ea eb ec ed first =
    let front : take 4 xs ≡ take 4 ys =
    same_of_four (take 4 xs) (take 4 ys) (bytes_before 4 xs p) (bytes_before 4 ys q) (omega (arith, length-take 4 xs)) (omega (arith, length-take 4 ys))
    (sym ea ∙ first ∙ eb) in
    decided c d xs ys
    (λ is. covered 4 xs ys same long short front
    (same_of_four (drop (length xs - 4) xs) (drop (length ys - 4) ys) (bytes_after (length xs - 4) xs p) (bytes_after (length ys - 4) ys q)
    (omega (arith, length-drop (length xs - 4) xs)) (omega (arith, length-drop (length ys - 4) ys)) (sym ec ∙ is ∙ ed)))
    (λ is. ec ∙ ap (λ (zs : List ℕ). from_le_bytes w32 (drop (length zs - 4) zs)) is ∙ sym ed)
