-- A value at the front of bytes, read.
use Rattle.std.proofs.Common.{◌≡◌, ℕ, ◌^◌, ◌<◌, ◌≤◌, List, ◌++◌, length, take, drop, get_or, refl, sym, ap, ◌∙◌, append_assoc, arith, inl, inr}
use Rattle.std.specs.Int.{w32, w64, from_le_bytes, to_le_bytes}
use Rattle.std.proofs.lemmas.Nat.{le_bytes_4, le_bytes_8}
use Rattle.std.proofs.lemmas.Bool.{cases_lt}
use Rattle.std.proofs.lemmas.List.{take-append-drop, length-take, get_or-take, get_or_past}
use Rattle.pb_fields.specs.declared.field.Value.TheVariants as value
use Rattle.pb_fields.specs.declared.field.WireType.TheVariants as wire
use Rattle.pb_fields.specs.Varint.{TakesVarint}
use Rattle.pb_fields.specs.Text.{varint, fixed64, bytes, fixed32, TakesValue}

abbrev pub IsBytes : List ℕ → Type 0
IsBytes bs = (i : ℕ) → get_or bs i 0 < 256

IsBytes-take : (n : ℕ) (bs : List ℕ) → IsBytes bs → IsBytes (take n bs)
IsBytes-take n bs h i =
    elim (cases_lt i n) [
      | inl lt ↦ rw (get_or-take n bs i 0 lt) (h i)
      | inr le ↦ rw (get_or_past (take n bs) i 0 (omega (arith, length-take n bs))) (omega arith)
    ]

pub fixed32_front : (bs : List ℕ) → 4 ≤ length bs → IsBytes bs → bs ≡ to_le_bytes w32 (from_le_bytes w32 (take 4 bs)) ++ drop 4 bs
fixed32_front bs long are = sym (ap (λ (xs : List ℕ). xs ++ drop 4 bs) (le_bytes_4 (take 4 bs) (from_le_bytes w32 (take 4 bs)) (omega (arith, length-take 4 bs)) (IsBytes-take 4 bs are) refl) ∙ take-append-drop 4 bs)

pub fixed64_front : (bs : List ℕ) → 8 ≤ length bs → IsBytes bs → bs ≡ to_le_bytes w64 (from_le_bytes w64 (take 8 bs)) ++ drop 8 bs
fixed64_front bs long are = sym (ap (λ (xs : List ℕ). xs ++ drop 8 bs) (le_bytes_8 (take 8 bs) (from_le_bytes w64 (take 8 bs)) (omega (arith, length-take 8 bs)) (IsBytes-take 8 bs are) refl) ∙ take-append-drop 8 bs)

pub takes_varint : (bs : List ℕ) (n : ℕ) (rest : List ℕ) → TakesVarint bs n rest → TakesValue wire.Varint bs (value.Varint n) rest
takes_varint bs n rest t = record { text = t.text; parts = t.parts; value = varint t.varint; of_type = refl }

pub takes_fixed64 : (bs : List ℕ) (n : ℕ) (rest : List ℕ) → n < 2 ^ 64 → bs ≡ to_le_bytes w64 n ++ rest → TakesValue wire.Fixed64 bs (value.Fixed64 n) rest
takes_fixed64 bs n rest fits parts = record { text = to_le_bytes w64 n; parts = parts; value = fixed64 fits refl; of_type = refl }

pub takes_fixed32 : (bs : List ℕ) (n : ℕ) (rest : List ℕ) → n < 2 ^ 32 → bs ≡ to_le_bytes w32 n ++ rest → TakesValue wire.Fixed32 bs (value.Fixed32 n) rest
takes_fixed32 bs n rest fits parts = record { text = to_le_bytes w32 n; parts = parts; value = fixed32 fits refl; of_type = refl }

pub takes_bytes : (bs content rest : List ℕ) → TakesVarint bs (length content) (content ++ rest) → TakesValue wire.Bytes bs (value.Bytes content) rest
takes_bytes bs content rest t = record {
  text = t.text ++ content;
  parts = t.parts ∙ sym (append_assoc t.text content rest);
  value = bytes (record { text = t.text; parts = refl; varint = t.varint });
  of_type = refl;
}
