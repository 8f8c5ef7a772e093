-- Why bytes are no text of a list of fields: the first field without a reading, and the first thing wrong with it.
use Rattle.std.specs.Prelude.{◌≡◌, ◌≢◌, ℕ, ◌/◌, ◌%◌, ◌<◌, ◌≤◌, ◌^◌, List, ◌∷◌, ◌++◌, length, ◌⊎◌, Result, Err}
use Rattle.std.specs.List.{AllByRecursion}
use Rattle.pb_fields.specs.declared.field.Field.{Field}
use Rattle.pb_fields.specs.declared.field.WireType.{WireType}
use Rattle.pb_fields.specs.declared.field.WireType.TheVariants as wire
use Rattle.pb_fields.specs.declared.fault.FieldFault.{FieldFault}
use Rattle.pb_fields.specs.declared.fault.FieldFault.TheVariants as fault
use Rattle.pb_fields.specs.declared.fault.FieldError.{FieldError}
use Rattle.pb_fields.specs.declared.fault.FieldError.TheVariants as field_error
use Rattle.pb_fields.specs.declared.fault.PbFault.{PbFault}
use Rattle.pb_fields.specs.declared.fault.PbFault.TheVariants as pb
use Rattle.pb_fields.specs.Varint.{TakesVarint}
use Rattle.pb_fields.specs.Field.{wire_number}
use Rattle.pb_fields.specs.Text.{IsText}

-- bytes with the high bit set, after each of which another has to come
abbrev pub AllGoOn : List ℕ → Type 0
AllGoOn bytes = AllByRecursion (λ b. 128 ≤ b) bytes

-- No varint stands at the front: the bytes end within it, or its tenth byte is above 1. Then its number is 2^64 or
-- more, or it has more than ten bytes.
pub data BrokenVarint : List ℕ → FieldFault → Type 0 where
  ends : {bytes : List ℕ} → AllGoOn bytes → length bytes < 10 → BrokenVarint bytes fault.Truncated
  too_large : {bytes : List ℕ} (nine : List ℕ) (tenth : ℕ) (rest : List ℕ) → bytes ≡ nine ++ tenth ∷ rest → AllGoOn nine → length nine ≡ 9 → 1 < tenth → BrokenVarint bytes fault.Varint

-- No value of the wire type stands at the front. A length is judged as a varint before its content.
pub data BrokenValue : WireType → List ℕ → FieldFault → Type 0 where
  varint : {bytes : List ℕ} {why : FieldFault} → BrokenVarint bytes why → BrokenValue wire.Varint bytes why
  fixed64 : {bytes : List ℕ} → length bytes < 8 → BrokenValue wire.Fixed64 bytes fault.Truncated
  size : {bytes : List ℕ} {why : FieldFault} → BrokenVarint bytes why → BrokenValue wire.Bytes bytes why
  content : {bytes rest : List ℕ} {n : ℕ} → TakesVarint bytes n rest → length rest < n → BrokenValue wire.Bytes bytes fault.Truncated
  fixed32 : {bytes : List ℕ} → length bytes < 4 → BrokenValue wire.Fixed32 bytes fault.Truncated

-- What is wrong after a tag, in the order of judgement: the tag has more than 32 bits; its wire type is none of the
-- four; the field's number is 0; the value is broken.
pub data BrokenBehind (tag : ℕ) : List ℕ → FieldFault → Type 0 where
  too_large : {rest : List ℕ} → 2 ^ 32 ≤ tag → BrokenBehind tag rest fault.Varint
  wire_type : {rest : List ℕ} → tag < 2 ^ 32 → ((w : WireType) → tag % 8 ≢ wire_number w) → BrokenBehind tag rest fault.WireType
  number : {rest : List ℕ} (w : WireType) → tag < 2 ^ 32 → tag % 8 ≡ wire_number w → tag / 8 ≡ 0 → BrokenBehind tag rest fault.FieldZero
  value : {rest : List ℕ} {w : WireType} {why : FieldFault} → tag < 2 ^ 32 → tag % 8 ≡ wire_number w → 0 < tag / 8 → BrokenValue w rest why → BrokenBehind tag rest why

-- A field begins, and has no reading.
pub data BrokenField : List ℕ → FieldFault → Type 0 where
  tag : {b : ℕ} {bytes : List ℕ} {why : FieldFault} → BrokenVarint (b ∷ bytes) why → BrokenField (b ∷ bytes) why
  behind : {bytes rest : List ℕ} {n : ℕ} {why : FieldFault} → TakesVarint bytes n rest → BrokenBehind n rest why → BrokenField bytes why

-- After some whole fields comes one without a reading. Its tag begins at the given offset.
pub record HasFault (bytes : List ℕ) (why : FieldFault) (at : ℕ) : Type 0 where
  pub fields : List Field
  pub text : List ℕ
  pub rest : List ℕ
  pub parts : bytes ≡ text ++ rest
  pub before : IsText text fields
  pub broken : BrokenField rest why
  pub at_is : at ≡ length text

abbrev pub fault_at : FieldFault → ℕ → PbFault
fault_at fault.Truncated at = pb.Truncated at
fault_at fault.Varint at = pb.Varint at
fault_at fault.WireType at = pb.WireType at
fault_at fault.FieldZero at = pb.FieldZero at

-- The fault is that of the bytes. Want of memory says nothing of them.
abbrev pub IsFaultOf : List ℕ → PbFault → Type 0
IsFaultOf bytes (pb.Truncated at) = HasFault bytes fault.Truncated at
IsFaultOf bytes (pb.Varint at) = HasFault bytes fault.Varint at
IsFaultOf bytes (pb.WireType at) = HasFault bytes fault.WireType at
IsFaultOf bytes (pb.FieldZero at) = HasFault bytes fault.FieldZero at
IsFaultOf bytes pb.Memory = Unit {0}

-- The same of one field.
abbrev pub ForFault : (FieldFault → Type 0) → FieldError → Type 0
ForFault P (field_error.Fault why) = P why
ForFault P field_error.Memory = Unit {0}

-- A call gave the answer, unless memory ran out.
abbrev pub Answers : {X E : Type 0} → E → Result X E → Result X E → Type 0
Answers memory r answer = (r ≡ Err memory) ⊎ (r ≡ answer)
