-- The canonical text of a list of fields: the fields in their order, each varint as short as can be.
use Rattle.std.specs.Prelude.{◌≡◌, ℕ, zero, suc, ◌+◌, ◌*◌, ◌/◌, ◌%◌, ◌≤◌, List, [], ◌∷◌, ◌++◌, Option, Some, None, length, take, nat_lt, if◌then◌else◌}
use Rattle.std.specs.List.{flat_map}
use Rattle.std.specs.Int.{w32, w64, to_le_bytes}
use Rattle.pb_fields.specs.declared.field.Field.{Field}
use Rattle.pb_fields.specs.declared.field.Value.{Value}
use Rattle.pb_fields.specs.declared.field.Value.TheVariants as value
use Rattle.pb_fields.specs.declared.field.WireType.TheVariants as wire
use Rattle.pb_fields.specs.Field.{wire_number, wire_type}

-- the groups of a number that has at most so many after the first
unfoldable pub groups : ℕ → ℕ → List ℕ
groups zero n = n ∷ []
groups (suc more) n = if nat_lt n 128 then n ∷ [] else (128 + n % 128) ∷ groups more (n / 128)

-- the shortest varint of a number of 64 bits
unfoldable pub varint : ℕ → List ℕ
varint n = groups 9 n

abbrev pub value_text : Value → List ℕ
value_text (value.Varint n) = varint n
value_text (value.Fixed64 n) = to_le_bytes w64 n
value_text (value.Bytes content) = varint (length content) ++ content
value_text (value.Fixed32 n) = to_le_bytes w32 n

abbrev pub field_text : Field → List ℕ
field_text f = varint (8 * f.number + wire_number (wire_type f.value)) ++ value_text f.value

-- what precedes a content of so many bytes in its field's text: the tag and the length
abbrev pub head_text : ℕ → ℕ → List ℕ
head_text number len = varint (8 * number + wire_number wire.Bytes) ++ varint len

abbrev pub text : List Field → List ℕ
text fs = flat_map field_text fs

-- a field that is there or not
abbrev pub optional : {X : Type 0} → (X → Field) → Option X → List Field
optional make None = []
optional make (Some x) = make x ∷ []

-- The fields stand by ascending number, from low on; those of a repeated field, which have one number, side by side
-- (Protocol Buffers encoding, "Field Order", leaves the order to the writer; this one is own).
abbrev pub AscendFrom : ℕ → List Field → Type 0
AscendFrom low [] = Unit {0}
AscendFrom low (f ∷ fs) = (low ≤ f.number) × AscendFrom f.number fs

-- new begins as old
abbrev pub Extends : List ℕ → List ℕ → Type 0
Extends old new = take (length old) new ≡ old
