-- Reading a varint byte by byte.
use Rattle.std.proofs.Common.{◌≡◌, ℕ, suc, ◌+◌, ◌*◌, ◌^◌, ◌%◌, ◌<◌, ◌≤◌, List, [], ◌∷◌, ◌++◌, length, take, drop, get_or, refl, sym, ap, subst, ◌∙◌, append_assoc, arith, inl, inr}
use Rattle.std.specs.Prelude.{bit_and}
use Rattle.std.proofs.lemmas.Nat.{pow-add, and_mask, shl_whole, mod_below, mul-add-lt}
use Rattle.std.proofs.Math.Pow.{pow_mono}
use Rattle.std.proofs.lemmas.Bool.{cases_lt}
use Rattle.std.proofs.lemmas.List.{append-nil, take_more, take-append-drop, length-take}
use Rattle.std.proofs.Math.Seq.{drop-cons}
use Rattle.std.proofs.Math.ListN.{drop_of_length-le}
use Rattle.pb_fields.specs.declared.fault.FieldFault.TheVariants as fault
use Rattle.pb_fields.specs.Varint.{IsGroups, last, more, TakesVarint}
use Rattle.pb_fields.specs.Faults.{AllGoOn, BrokenVarint, ends, too_large}

pub AllGoOn-push : (bs : List ℕ) (b : ℕ) → AllGoOn bs → 128 ≤ b → AllGoOn (bs ++ b ∷ [])
AllGoOn-push [] b h le = (le, tt)
AllGoOn-push (a ∷ bs) b h le = (h.0, AllGoOn-push bs b h.1 le)

-- the value of a byte's group, shifted to its place
pub shifted : (b i : ℕ) → i ≤ 9 → (i ≡ 9 → b ≤ 1) → (bit_and b 127 * 2 ^ (7 * i)) % 2 ^ 64 ≡ (b % 128) * 2 ^ (7 * i)
shifted b i le tenth =
    rw (and_mask b 7) (elim (cases_lt i 9) [
      | inl lt ↦ shl_whole (b % 128) 7 (7 * i) 64 (mod_below b 128 (omega arith)) (omega arith)
      | inr ge ↦ shl_whole (b % 128) 1 (7 * i) 64 (omega (arith, tenth (omega arith))) (omega arith)
    ])

-- seven bits more
pub next_place : (i : ℕ) → 2 ^ (7 * (i + 1)) ≡ 2 ^ (7 * i) * 128
next_place i = ap (λ (k : ℕ). 2 ^ k) (let e : 7 * (i + 1) ≡ 7 * i + 7 = omega arith in e) ∙ pow-add 2 (7 * i) 7

-- what was read so far fits below the next place
pub below_next : (n b i : ℕ) → n < 2 ^ (7 * i) → n + (b % 128) * 2 ^ (7 * i) < 2 ^ (7 * (i + 1))
below_next n b i lt = rw (next_place i) (omega (arith, mul-add-lt (b % 128) (2 ^ (7 * i)) n 128 (mod_below b 128 (omega arith)) lt))

-- At nine bytes 63 bits are taken, so that the tenth may have one.
pub within_64 : (n b i : ℕ) → n < 2 ^ (7 * i) → i ≤ 9 → (i ≡ 9 → b ≤ 1) → n + (b % 128) * 2 ^ (7 * i) < 2 ^ 64
within_64 n b i lt le tenth =
    elim (cases_lt i 9) [
      | inl small ↦ omega (arith, below_next n b i lt, places i small)
      | inr ge ↦ let nine : i ≡ 9 = omega arith in let one : b ≤ 1 = tenth nine in let n-lt = subst (λ (k : ℕ). n < 2 ^ (7 * k)) nine lt in subst (λ (k : ℕ). n + (b % 128) * 2 ^ (7 * k) < 2 ^ 64) (sym nine) (omega (arith, n-lt, one))
    ]
  where
    places : (i : ℕ) → i < 9 → 2 ^ (7 * (i + 1)) ≤ 2 ^ 63
    places i lt = pow_mono {i = 7 * (i + 1)} {j = 63} (omega arith)

-- What stands before index i has been read as n, and a varint goes on there.
pub record HasRead (bytes : List ℕ) (i n : ℕ) : Type 0 where
  pub within : i ≤ 9
  pub below : n < 2 ^ (7 * i)
  pub go_on : AllGoOn (take i bytes)
  pub completes : (tail : List ℕ) (high : ℕ) → IsGroups tail high → IsGroups (take i bytes ++ tail) (n + 2 ^ (7 * i) * high)

pub HasRead-none : (bytes : List ℕ) → HasRead bytes 0 0
HasRead-none bytes = record {
  within = omega arith;
  below = omega arith;
  go_on = tt;
  completes = λ tail high h. subst (λ (k : ℕ). IsGroups tail k) (let e : high ≡ 0 + 2 ^ 0 * high = omega arith in e) h;
}

-- one group more: the byte goes on
pub HasRead-more : (bytes : List ℕ) (i n : ℕ) → HasRead bytes i n → i < length bytes → 128 ≤ get_or bytes i 0 → get_or bytes i 0 < 256 → (i ≡ 9 → get_or bytes i 0 ≤ 1)
    → HasRead bytes (i + 1) (n + (get_or bytes i 0 % 128) * 2 ^ (7 * i))
HasRead-more bytes i n h lt goes byte tenth =
    let b : ℕ = get_or bytes i 0 in
    let front : take (i + 1) bytes ≡ take i bytes ++ b ∷ [] = take_more bytes i 0 lt in
    record {
      within = elim (cases_lt i 9) [ inl small ↦ omega arith | inr nine ↦ omega (arith, tenth (omega (arith, h.within))) ];
      below = below_next n b i h.below;
      go_on = rw front (AllGoOn-push (take i bytes) b h.go_on goes);
      completes = λ tail high g.
          let here : IsGroups (b ∷ tail) (b % 128 + 128 * high) = more goes byte (let e : b % 128 + 128 * high + 128 ≡ b + 128 * high = omega arith in e) g in
          let split : take (i + 1) bytes ++ tail ≡ take i bytes ++ b ∷ tail = rw front (append_assoc (take i bytes) (b ∷ []) tail) in
          let value : n + 2 ^ (7 * i) * (b % 128 + 128 * high) ≡ n + (b % 128) * 2 ^ (7 * i) + 2 ^ (7 * (i + 1)) * high = rw (next_place i) (omega arith) in
          rw split (subst (λ (k : ℕ). IsGroups (take i bytes ++ b ∷ tail) k) value (h.completes (b ∷ tail) (b % 128 + 128 * high) here));
    }

-- the last byte
pub HasRead-last : (bytes : List ℕ) (i n : ℕ) → HasRead bytes i n → i < length bytes → get_or bytes i 0 < 128 → (i ≡ 9 → get_or bytes i 0 ≤ 1)
    → TakesVarint bytes (n + (get_or bytes i 0 % 128) * 2 ^ (7 * i)) (drop (i + 1) bytes)
HasRead-last bytes i n h lt small tenth =
    let b : ℕ = get_or bytes i 0 in
    let front : take (i + 1) bytes ≡ take i bytes ++ b ∷ [] = take_more bytes i 0 lt in
    let value : n + 2 ^ (7 * i) * b ≡ n + (b % 128) * 2 ^ (7 * i) = (let e : b % 128 ≡ b = omega arith in rw e (omega arith)) in
    record {
      text = take (i + 1) bytes;
      parts = sym (take-append-drop (i + 1) bytes);
      varint = record {
        groups = rw front (subst (λ (k : ℕ). IsGroups (take i bytes ++ b ∷ []) k) value (h.completes (b ∷ []) b (last small refl)));
        at_most_ten = omega (arith, length-take (i + 1) bytes, h.within);
        fits = within_64 n b i h.below h.within tenth;
      };
    }

-- the bytes end before the last
pub HasRead-ends : (bytes : List ℕ) (i n : ℕ) → HasRead bytes i n → length bytes ≤ i → BrokenVarint bytes fault.Truncated
HasRead-ends bytes i n h le =
    let nothing : drop i bytes ≡ [] = drop_of_length-le bytes le in
    let whole : take i bytes ≡ bytes = sym (append-nil (take i bytes)) ∙ ap (λ (xs : List ℕ). take i bytes ++ xs) (sym nothing) ∙ take-append-drop i bytes in
    ends (rw whole at h.go_on) (omega (arith, h.within))

-- a tenth byte above 1
pub HasRead-too_large : (bytes : List ℕ) (i n : ℕ) → HasRead bytes i n → i < length bytes → i ≡ 9 → 1 < get_or bytes i 0 → BrokenVarint bytes fault.Varint
HasRead-too_large bytes i n h lt nine above =
    let parts : bytes ≡ take i bytes ++ get_or bytes i 0 ∷ drop (suc i) bytes = sym (take-append-drop i bytes) ∙ ap (λ (xs : List ℕ). take i bytes ++ xs) (drop-cons bytes i 0 lt) in
    too_large (take i bytes) (get_or bytes i 0) (drop (suc i) bytes) parts h.go_on (omega (arith, length-take i bytes)) above
