-- A field whose tag is one byte, at the front of bytes.
use Rattle.std.proofs.Common.{◌≡◌, ℕ, ◌+◌, ◌*◌, ◌^◌, ◌<◌, List, [], ◌∷◌, ◌++◌, length, refl, arith}
use Rattle.pb_fields.specs.declared.field.WireType.TheVariants as wire
use Rattle.pb_fields.specs.Field.{bytes_field, varint_field}
use Rattle.pb_fields.specs.Front.{Fronts, IsShortNumber}
use Rattle.pb_fields.specs.Text.{TakesField, next}
use Rattle.pb_fields.specs.Varint.{TakesVarint, last}
use Rattle.pb_fields.proofs.Fields.{takes_field}
use Rattle.pb_fields.proofs.ValueTexts.{takes_bytes, takes_varint}

pub one_byte : (bytes rest : List ℕ) (tag : ℕ) → bytes ≡ tag ∷ rest → tag < 128 → TakesVarint bytes tag rest
one_byte bytes rest tag is small = record {
  text = tag ∷ [];
  parts = is;
  varint = record { groups = last small refl; at_most_ten = omega arith; fits = omega (arith, small) };
}

pub varint_fronts : (bytes rest after : List ℕ) (tag n v : ℕ) → bytes ≡ tag ∷ rest → tag ≡ 8 * n → IsShortNumber n → TakesVarint rest v after → Fronts bytes (varint_field n v ∷ []) after
varint_fronts bytes rest after tag n v is tagged short taken =
    let small : tag < 128 = omega (arith, tagged, short.below) in
    let numbered : tag ≡ 8 * n + 0 = omega (arith, tagged) in
    let wide : n < 2 ^ 29 = omega (arith, short.below) in
    let field : TakesField bytes (varint_field n v) after = takes_field bytes rest after tag wire.Varint (varint_field n v) (one_byte bytes rest tag is small) numbered short.above_zero wide (takes_varint rest v after taken) in
    record {
      text = λ gs t. next field t;
      writable = (record { number = record { above_zero = short.above_zero; in_range = wide }; value = taken.varint.fits }, tt);
    }

pub bytes_fronts : (bytes rest content after : List ℕ) (tag n : ℕ) → bytes ≡ tag ∷ rest → tag ≡ 8 * n + 2 → IsShortNumber n → TakesVarint rest (length content) (content ++ after) → Fronts bytes (bytes_field n content ∷ []) after
bytes_fronts bytes rest content after tag n is tagged short taken =
    let small : tag < 128 = omega (arith, tagged, short.below) in
    let wide : n < 2 ^ 29 = omega (arith, short.below) in
    let field : TakesField bytes (bytes_field n content) after = takes_field bytes rest after tag wire.Bytes (bytes_field n content) (one_byte bytes rest tag is small) tagged short.above_zero wide (takes_bytes rest content after taken) in
    record {
      text = λ gs t. next field t;
      writable = (record { number = record { above_zero = short.above_zero; in_range = wide }; value = taken.varint.fits }, tt);
    }

-- no field
pub absent_fronts : (bytes : List ℕ) → Fronts bytes [] bytes
absent_fronts bytes = record { text = λ gs t. t; writable = tt }
