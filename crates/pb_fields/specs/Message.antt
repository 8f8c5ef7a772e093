-- Messages over fields: what the table of a message's fields asks, and the first thing that is wrong.
use Rattle.std.specs.Prelude.{◌≡◌, ◌≢◌, ℕ, ◌<◌, ◌==◌, min, Bool, ◌&&◌, not, List, ◌∷◌, Option, Some, None, is_none, map, filter, find, length, slice_index_or, slice_set, IsUtf8}
use Rattle.std.specs.List.{AllByRecursion, list_any, last_or, reduce}
use Rattle.pb_fields.specs.declared.field.Field.{Field}
use Rattle.pb_fields.specs.declared.field.Value.{Value}
use Rattle.pb_fields.specs.declared.field.Value.TheVariants as value
use Rattle.pb_fields.specs.declared.field.WireType.{WireType}
use Rattle.pb_fields.specs.declared.field.WireType.TheVariants as wire
use Rattle.pb_fields.specs.declared.fault.FieldFault.{FieldFault}
use Rattle.pb_fields.specs.declared.fault.PbFault.{PbFault}
use Rattle.pb_fields.specs.declared.fault.PbFault.TheVariants as pb
use Rattle.pb_fields.specs.declared.message.Form.{Form}
use Rattle.pb_fields.specs.declared.message.Form.TheVariants as form
use Rattle.pb_fields.specs.declared.message.Row.{Row}
use Rattle.pb_fields.specs.declared.message.MessageFault.{MessageFault}
use Rattle.pb_fields.specs.declared.message.MessageFault.TheVariants as fault
use Rattle.pb_fields.specs.Field.{wire_type}
use Rattle.pb_fields.specs.Text.{IsText}
use Rattle.pb_fields.specs.Faults.{HasFault, fault_at}

-- the row of a number, where the table has one
abbrev pub row_of : List Row → ℕ → Option Row
row_of rows n = find (λ r. r.number == n) rows

-- the table says of a number what it holds, and whether it is required
abbrev pub IsRow : List Row → ℕ → Form → Bool → Type 0
IsRow rows n f required = row_of rows n ≡ Some (record { number = n; form = f; required = required })

-- the type that values of a form have in the bytes
abbrev pub form_type : Form → WireType
form_type form.Varint = wire.Varint
form_type form.Text = wire.Bytes
form_type form.Message = wire.Bytes

-- a field whose number is in no row
abbrev pub IsUnknown : List Row → Field → Type 0
IsUnknown rows f = row_of rows f.number ≡ None

-- ---- what is right

-- A text is UTF-8. What an embedded message has to be is its own table's affair.
abbrev pub HasForm : Value → Form → Type 0
HasForm (value.Varint n) form.Varint = Unit {0}
HasForm (value.Bytes content) form.Text = IsUtf8 content
HasForm (value.Bytes content) form.Message = Unit {0}
HasForm v f = ⊥

-- A field whose number is in no row is unknown, and may hold anything.
abbrev pub Fits : List Row → Field → Type 0
Fits rows f = (r : Row) → row_of rows f.number ≡ Some r → HasForm f.value r.form

abbrev pub has : List Field → ℕ → Bool
has fields n = list_any (λ f. f.number == n) fields

-- the numbers of the required fields that are not there
abbrev pub absent : List Row → List Field → List ℕ
absent rows fields = map (λ r. r.number) (filter (λ r. r.required && not (has fields r.number)) rows)

-- the lowest of them
abbrev pub lowest_absent : List Row → List Field → Option ℕ
lowest_absent rows fields = reduce min (absent rows fields)

-- a message of the table
pub record IsMessage (rows : List Row) (fields : List Field) : Type 0 where
  pub fit : AllByRecursion (Fits rows) fields
  pub complete : lowest_absent rows fields ≡ None

-- ---- what is wrong

-- A known field has another type than its row, or a text is not UTF-8.
pub data IsWrong (rows : List Row) : Field → MessageFault → Type 0 where
  type_differs : {f : Field} {e : MessageFault} (r : Row) → row_of rows f.number ≡ Some r → wire_type f.value ≢ form_type r.form → e ≡ fault.WrongWire f.number → IsWrong rows f e
  not_text : {f : Field} {e : MessageFault} (r : Row) (content : List ℕ) → row_of rows f.number ≡ Some r → r.form ≡ form.Text → f.value ≡ value.Bytes content → ¬ (IsUtf8 content) → e ≡ fault.NotText f.number → IsWrong rows f e

-- Fields are judged in the order in which they stand, those that a later one replaces included. Right says which field
-- is right, and Wrong what is wrong with a field.
pub data FirstWrong (Right : Field → Type 0) (Wrong : Field → MessageFault → Type 0) : List Field → MessageFault → Type 0 where
  here : {f : Field} {fs : List Field} {e : MessageFault} → Wrong f e → FirstWrong Right Wrong (f ∷ fs) e
  later : {f : Field} {fs : List Field} {e : MessageFault} → Right f → FirstWrong Right Wrong fs e → FirstWrong Right Wrong (f ∷ fs) e

-- What is wrong with fields as a message: the first field that does not fit, and else the lowest required number that
-- is not there.
pub data WrongFields (rows : List Row) (fields : List Field) (e : MessageFault) : Type 0 where
  field : FirstWrong (Fits rows) (IsWrong rows) fields e → WrongFields rows fields e
  missing : (n : ℕ) → AllByRecursion (Fits rows) fields → lowest_absent rows fields ≡ Some n → e ≡ fault.Missing n → WrongFields rows fields e

-- What is wrong with bytes as a message: they are no fields, or the fields are wrong.
pub data WrongMessage (rows : List Row) (bytes : List ℕ) (e : MessageFault) : Type 0 where
  no_fields : (why : FieldFault) (at : ℕ) → HasFault bytes why at → e ≡ fault.Pb (fault_at why at) → WrongMessage rows bytes e
  wrong_fields : (fs : List Field) → IsText bytes fs → WrongFields rows fs e → WrongMessage rows bytes e

-- A fault is that of the bytes. Want of memory says nothing of them.
abbrev pub IsWrongOrMemory : (MessageFault → Type 0) → MessageFault → Type 0
IsWrongOrMemory P fault.Memory = Unit {0}
IsWrongOrMemory P e = P e

-- ---- what a message says

-- the values of a number, in their order
abbrev pub values : ℕ → List Field → List Value
values n fields = map (λ f. f.value) (filter (λ f. f.number == n) fields)

-- A field that is not repeated counts by its last value (Protocol Buffers encoding, "Last One Wins"), an embedded message too (own).
abbrev pub last_value : ℕ → List Field → Option Value
last_value n fields = last_or None (values n fields)

-- The last of some fields with a number is that of an index among all of them.
pub record IsLastAt (n : ℕ) (some all : List Field) (i : ℕ) : Type 0 where
  pub within : i < length all
  pub same : (d : Field) → (slice_index_or all i d).number ≡ n
  pub value : (d : Field) → last_value n some ≡ Some (slice_index_or all i d).value

-- the last value of a number was taken: where it stood, a field of that number says 0, and all else stays
pub record IsTaken (n : ℕ) (old new : List Field) : Type 0 where
  pub place : ℕ
  pub last : IsLastAt n old old place
  pub left : new ≡ slice_set old place (record { number = n; value = value.Varint 0 })

-- the fields whose numbers are in no row
abbrev pub unknown : List Row → List Field → List Field
unknown rows fields = filter (λ f. is_none (row_of rows f.number)) fields

-- a fault of the bytes as a fault of the message; want of memory is the same for both
abbrev pub pb_fault : PbFault → MessageFault
pb_fault pb.Memory = fault.Memory
pb_fault e = fault.Pb e
