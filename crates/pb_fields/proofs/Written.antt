-- The canonical text: how it is written, that it is a text, and that no varint is shorter.
use Rattle.std.proofs.Common.{◌≡◌, ℕ, zero, suc, ◌+◌, ◌*◌, ◌^◌, ◌/◌, ◌%◌, ◌<◌, ◌≤◌, List, [], ◌∷◌, ◌++◌, length, refl, sym, ap, ◌∙◌, append_assoc, arith, inl, inr}
use Rattle.std.specs.Prelude.{bit_and, bit_or}
use Rattle.std.proofs.Math.Nat.{pow-suc}
use Rattle.std.proofs.lemmas.Bool.{cases_lt, lt-ltb, le-ltb}
use Rattle.std.proofs.lemmas.Nat.{div_below, mod_below, and_mask, or_shifted}
use Rattle.std.proofs.lemmas.List.{take-append-le, length-take}
use Rattle.std.specs.List.{AllByRecursion}
use Rattle.std.proofs.lemmas.List.Concat.{flat_map-cons}
use Rattle.pb_fields.specs.declared.field.Field.{Field}
use Rattle.pb_fields.specs.declared.field.Value.{Value}
use Rattle.pb_fields.specs.declared.field.Value.TheVariants as value
use Rattle.pb_fields.specs.Field.{wire_number, wire_type, Fits, IsField}
use Rattle.pb_fields.specs.Text.{IsValue, IsFieldText, IsText, end, next}
use Rattle.pb_fields.specs.Text as text
use Rattle.pb_fields.proofs.Fields.{tag_fits}
use Rattle.pb_fields.specs.Varint.{IsGroups, last, more, IsVarint}
use Rattle.pb_fields.specs.Canonical.{groups, varint, value_text, field_text, Extends}
use Rattle.pb_fields.specs.Canonical as canonical_text

groups-small : (k n : ℕ) → n < 128 → groups k n ≡ n ∷ []
unfolding groups
groups-small zero n lt = refl
groups-small (suc k) n lt = rw (lt-ltb n 128 lt) refl

groups-more : (k n : ℕ) → 128 ≤ n → groups (suc k) n ≡ (128 + n % 128) ∷ groups k (n / 128)
unfolding groups
groups-more k n le = rw (le-ltb n 128 le) refl

-- a byte takes seven bits
below_place : (k n : ℕ) → n < 128 ^ (suc k + 1) → n / 128 < 128 ^ (k + 1)
below_place k n lt =
    let places : suc k + 1 ≡ suc (k + 1) = omega arith in
    let wider : 128 ^ (suc k + 1) ≡ 128 ^ (k + 1) * 128 = ap (λ (j : ℕ). 128 ^ j) places ∙ pow-suc 128 (k + 1) in
    div_below n 128 (128 ^ (k + 1)) (omega arith) (omega arith)

-- room for more bytes than are needed changes nothing
groups-enough : (k n : ℕ) → n < 128 ^ (k + 1) → groups k n ≡ groups (suc k) n
groups-enough zero n lt = let small : n < 128 = omega arith in groups-small zero n small ∙ sym (groups-small 1 n small)
groups-enough (suc k) n lt =
    elim (cases_lt n 128) [
      | inl small ↦ groups-small (suc k) n small ∙ sym (groups-small (suc (suc k)) n small)
      | inr le ↦ groups-more k n le ∙ ap (λ (xs : List ℕ). (128 + n % 128) ∷ xs) (groups-enough k (n / 128) (below_place k n lt)) ∙ sym (groups-more (suc k) n le)
    ]

pub varint-small : (n : ℕ) → n < 128 → varint n ≡ n ∷ []
unfolding varint
varint-small n lt = groups-small 9 n lt

pub varint-more : (n : ℕ) → 128 ≤ n → n < 2 ^ 64 → varint n ≡ (128 + n % 128) ∷ varint (n / 128)
unfolding varint
varint-more n le lt = groups-more 8 n le ∙ ap (λ (xs : List ℕ). (128 + n % 128) ∷ xs) (groups-enough 8 (n / 128) (omega arith))

-- ---- writing

-- a byte that goes on
pub goes_on : (n : ℕ) → bit_or 128 (bit_and n 127) ≡ 128 + n % 128
goes_on n = ap (λ (k : ℕ). bit_or 128 k) (and_mask n 7) ∙ or_shifted 1 7 (n % 128) (mod_below n 128 (omega arith))

pub varint-push : (out old : List ℕ) (n number : ℕ) → 128 ≤ n → n < 2 ^ 64 → out ++ varint n ≡ old ++ varint number → (out ++ (128 + n % 128) ∷ []) ++ varint (n / 128) ≡ old ++ varint number
varint-push out old n number le lt so_far = append_assoc out ((128 + n % 128) ∷ []) (varint (n / 128)) ∙ ap (λ (xs : List ℕ). out ++ xs) (sym (varint-more n le lt)) ∙ so_far

pub varint-end : (out old : List ℕ) (n number : ℕ) → n < 128 → out ++ varint n ≡ old ++ varint number → out ++ n ∷ [] ≡ old ++ varint number
varint-end out old n number lt so_far = ap (λ (xs : List ℕ). out ++ xs) (sym (varint-small n lt)) ∙ so_far

pub Extends-append : (old out added : List ℕ) → Extends old out → Extends old (out ++ added)
Extends-append old out added h =
    let long : length old ≤ length out = omega (arith, ap (λ (xs : List ℕ). length xs) h, length-take (length old) out) in
    take-append-le (length old) out added long ∙ h

-- ---- the canonical text is a text

groups-groups : (k n : ℕ) → n < 128 ^ (k + 1) → IsGroups (groups k n) n
groups-groups zero n lt = let small : n < 128 = omega arith in rw (groups-small 0 n small) (last small refl)
groups-groups (suc k) n lt =
    elim (cases_lt n 128) [
      | inl small ↦ rw (groups-small (suc k) n small) (last small refl)
      | inr le ↦ rw (groups-more k n le) (more {b = 128 + n % 128} {n = n} {high = n / 128} (omega arith) (omega (arith, mod_below n 128 (omega arith))) (omega arith) (groups-groups k (n / 128) (below_place k n lt)))
    ]

length-groups : (k n : ℕ) → length (groups k n) ≤ k + 1
unfolding groups
length-groups zero n = omega arith
length-groups (suc k) n =
    elim (cases_lt n 128) [
      | inl small ↦ rw (groups-small (suc k) n small) (omega arith)
      | inr le ↦ rw (groups-more k n le) (omega (arith, length-groups k (n / 128)))
    ]

pub varint-is : (n : ℕ) → n < 2 ^ 64 → IsVarint (varint n) n
unfolding varint
varint-is n lt = record { groups = groups-groups 9 n (omega arith); at_most_ten = length-groups 9 n; fits = lt }

-- no varint is shorter
groups-short : {bytes : List ℕ} {n : ℕ} → IsGroups bytes n → (k : ℕ) → length (groups k n) ≤ length bytes
groups-short (last {n = n} small is) k = rw (groups-small k n (omega arith)) (omega arith)
groups-short (more {n = n} {bs = bs} goes byte is g) zero = omega (arith, length-groups 0 n)
groups-short (more {n = n} {high = high} goes byte is g) (suc k) =
    elim (cases_lt n 128) [
      | inl small ↦ rw (groups-small (suc k) n small) (omega arith)
      | inr le ↦ let e : n / 128 ≡ high = omega arith in rw (groups-more k n le, e) (omega (arith, groups-short g k))
    ]

pub varint-short : (bytes : List ℕ) (n : ℕ) → IsVarint bytes n → length (varint n) ≤ length bytes
unfolding varint
varint-short bytes n h = groups-short h.groups 9

-- ---- fields

value-is : (v : Value) → Fits v → IsValue (value_text v) v
value-is (value.Varint n) fits = text.varint (varint-is n fits)
value-is (value.Fixed64 n) fits = text.fixed64 fits refl
value-is (value.Bytes content) fits = text.bytes (record { text = varint (length content); parts = refl; varint = varint-is (length content) fits })
value-is (value.Fixed32 n) fits = text.fixed32 fits refl

field-is : (f : Field) → IsField f → IsFieldText (field_text f) f
field-is f fits = record {
  value = value_text f.value;
  tag = record {
    text = varint (8 * f.number + wire_number (wire_type f.value));
    parts = refl;
    varint = varint-is (8 * f.number + wire_number (wire_type f.value)) (omega (arith, tag_fits f.number (wire_type f.value) fits.number.in_range));
  };
  value_is = value-is f.value fits.value;
  number = fits.number;
}

pub text-is : (fs : List Field) → AllByRecursion IsField fs → IsText (canonical_text.text fs) fs
text-is [] fits = end
text-is (f ∷ fs) fits = rw flat_map-cons (next (record { text = field_text f; parts = refl; field = field-is f fits.0 }) (text-is fs fits.1))

-- ---- what was read can be written

value-fits : {bytes : List ℕ} {v : Value} → IsValue bytes v → Fits v
value-fits (text.varint h) = h.fits
value-fits (text.fixed64 fits is) = fits
value-fits (text.bytes h) = h.varint.fits
value-fits (text.fixed32 fits is) = fits

pub text-fields : {bytes : List ℕ} {fs : List Field} → IsText bytes fs → AllByRecursion IsField fs
text-fields end = tt
text-fields (next t h) = (record { number = t.field.number; value = value-fits t.field.value_is }, text-fields h)
