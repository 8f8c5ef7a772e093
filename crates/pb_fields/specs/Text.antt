-- The texts of a list of fields (Protocol Buffers encoding, "Message Structure").
use Rattle.std.specs.Prelude.{◌≡◌, ℕ, ◌+◌, ◌*◌, ◌<◌, ◌^◌, List, [], ◌∷◌, ◌++◌, length}
use Rattle.std.specs.Int.{w32, w64, to_le_bytes}
use Rattle.pb_fields.specs.declared.field.Field.{Field}
use Rattle.pb_fields.specs.declared.field.Value.{Value}
use Rattle.pb_fields.specs.declared.field.Value.TheVariants as value
use Rattle.pb_fields.specs.declared.field.WireType.{WireType}
use Rattle.pb_fields.specs.Varint.{IsVarint, TakesVarint}
use Rattle.pb_fields.specs.Field.{wire_number, wire_type, HasNumber}

-- A varint; eight bytes, the least first; a length, which is a varint, and that many bytes; four bytes, the least first.
pub data IsValue : List ℕ → Value → Type 0 where
  varint : {text : List ℕ} {n : ℕ} → IsVarint text n → IsValue text (value.Varint n)
  fixed64 : {text : List ℕ} {n : ℕ} → n < 2 ^ 64 → text ≡ to_le_bytes w64 n → IsValue text (value.Fixed64 n)
  bytes : {text content : List ℕ} → TakesVarint text (length content) content → IsValue text (value.Bytes content)
  fixed32 : {text : List ℕ} {n : ℕ} → n < 2 ^ 32 → text ≡ to_le_bytes w32 n → IsValue text (value.Fixed32 n)

-- A value of the wire type stands at the front of the bytes, and rest comes after it.
pub record TakesValue (w : WireType) (bytes : List ℕ) (v : Value) (rest : List ℕ) : Type 0 where
  pub text : List ℕ
  pub parts : bytes ≡ text ++ rest
  pub value : IsValue text v
  pub of_type : wire_type v ≡ w

-- A field is a tag, which is a varint of eight times its number and its wire type, and its value.
pub record IsFieldText (text : List ℕ) (f : Field) : Type 0 where
  pub value : List ℕ
  pub tag : TakesVarint text (8 * f.number + wire_number (wire_type f.value)) value
  pub value_is : IsValue value f.value
  pub number : HasNumber f

-- A field stands at the front of the bytes, and rest comes after it.
pub record TakesField (bytes : List ℕ) (f : Field) (rest : List ℕ) : Type 0 where
  pub text : List ℕ
  pub parts : bytes ≡ text ++ rest
  pub field : IsFieldText text f

-- The fields one after another.
pub data IsText : List ℕ → List Field → Type 0 where
  end : IsText [] []
  next : {bytes rest : List ℕ} {f : Field} {fs : List Field} → TakesField bytes f rest → IsText rest fs → IsText bytes (f ∷ fs)
