-- Fields and their values.
use Rattle.std.specs.Prelude.{ℕ, ◌<◌, ◌^◌, List, length}
use Rattle.pb_fields.specs.declared.field.Field.{Field}
use Rattle.pb_fields.specs.declared.field.Value.{Value}
use Rattle.pb_fields.specs.declared.field.Value.TheVariants as value
use Rattle.pb_fields.specs.declared.field.WireType.{WireType}
use Rattle.pb_fields.specs.declared.field.WireType.TheVariants as wire

-- the number of a wire type in a tag (Protocol Buffers encoding, "Message Structure")
abbrev pub wire_number : WireType → ℕ
wire_number wire.Varint = 0
wire_number wire.Fixed64 = 1
wire_number wire.Bytes = 2
wire_number wire.Fixed32 = 5

abbrev pub wire_type : Value → WireType
wire_type (value.Varint n) = wire.Varint
wire_type (value.Fixed64 n) = wire.Fixed64
wire_type (value.Bytes content) = wire.Bytes
wire_type (value.Fixed32 n) = wire.Fixed32

-- a field's number is 1 to 2^29 - 1
pub record IsFieldNumber (n : ℕ) : Type 0 where
  pub above_zero : 0 < n
  pub in_range : n < 2 ^ 29

abbrev pub HasNumber : Field → Type 0
HasNumber f = IsFieldNumber f.number

abbrev pub varint_field : ℕ → ℕ → Field
varint_field number n = record { number = number; value = value.Varint n }

abbrev pub bytes_field : ℕ → List ℕ → Field
bytes_field number content = record { number = number; value = value.Bytes content }

-- what a value has to be so that it can be written
abbrev pub Fits : Value → Type 0
Fits (value.Varint n) = n < 2 ^ 64
Fits (value.Fixed64 n) = n < 2 ^ 64
Fits (value.Bytes content) = length content < 2 ^ 64
Fits (value.Fixed32 n) = n < 2 ^ 32

pub record IsField (f : Field) : Type 0 where
  pub number : HasNumber f
  pub value : Fits f.value
