-- Messages that hold messages. Right says by the number of a field which contents of an embedded message are right, and
-- Wrong what is wrong with the others.
use Rattle.std.specs.Prelude.{◌≡◌, ℕ, List, Some, None}
use Rattle.std.specs.List.{AllByRecursion}
use Rattle.pb_fields.specs.declared.field.Field.{Field}
use Rattle.pb_fields.specs.declared.field.Value.TheVariants as value
use Rattle.pb_fields.specs.declared.fault.FieldFault.{FieldFault}
use Rattle.pb_fields.specs.declared.message.Form.TheVariants as form
use Rattle.pb_fields.specs.declared.message.Row.{Row}
use Rattle.pb_fields.specs.declared.message.MessageFault.{MessageFault}
use Rattle.pb_fields.specs.declared.message.MessageFault.TheVariants as fault
use Rattle.pb_fields.specs.Text.{IsText}
use Rattle.pb_fields.specs.Faults.{HasFault, fault_at}
use Rattle.pb_fields.specs.Message.{row_of, Fits, lowest_absent, IsWrong, FirstWrong}

-- The field holds an embedded message by the table, of this content.
pub record Holds (rows : List Row) (f : Field) (content : List ℕ) : Type 0 where
  pub row : Row
  pub known : row_of rows f.number ≡ Some row
  pub message : row.form ≡ form.Message
  pub value : f.value ≡ value.Bytes content

-- ---- what is right

-- A field fits its row, and what it holds is right.
pub record FitsWith (Right : ℕ → List ℕ → Type 0) (rows : List Row) (f : Field) : Type 0 where
  pub fits : Fits rows f
  pub holds : (content : List ℕ) → Holds rows f content → Right f.number content

-- a message of the table
pub record IsMessageWith (Right : ℕ → List ℕ → Type 0) (rows : List Row) (fields : List Field) : Type 0 where
  pub fit : AllByRecursion (FitsWith Right rows) fields
  pub complete : lowest_absent rows fields ≡ None

-- Bytes are a text of a message of the table.
pub record IsMessageText (Right : ℕ → List ℕ → Type 0) (rows : List Row) (bytes : List ℕ) : Type 0 where
  pub fields : List Field
  pub text : IsText bytes fields
  pub message : IsMessageWith Right rows fields

-- ---- what is wrong

-- A field does not fit its row, or something is wrong with what it holds: then that is the fault, with its own numbers
-- and with offsets from the first byte of what it holds.
pub data IsWrongWith (Wrong : ℕ → List ℕ → MessageFault → Type 0) (rows : List Row) : Field → MessageFault → Type 0 where
  by_row : {f : Field} {e : MessageFault} → IsWrong rows f e → IsWrongWith Wrong rows f e
  within : {f : Field} {e : MessageFault} (content : List ℕ) → Holds rows f content → Wrong f.number content e → IsWrongWith Wrong rows f e

-- What is wrong with fields as a message: the first field that is wrong, what it holds included, and else the lowest
-- required number that is not there. So every occurrence of an embedded message is judged in its place, also one that a
-- later one replaces.
pub data WrongFieldsWith (Right : ℕ → List ℕ → Type 0) (Wrong : ℕ → List ℕ → MessageFault → Type 0) (rows : List Row) (fields : List Field) (e : MessageFault) : Type 0 where
  field : FirstWrong (FitsWith Right rows) (IsWrongWith Wrong rows) fields e → WrongFieldsWith Right Wrong rows fields e
  missing : (n : ℕ) → AllByRecursion (FitsWith Right rows) fields → lowest_absent rows fields ≡ Some n → e ≡ fault.Missing n → WrongFieldsWith Right Wrong rows fields e

-- What is wrong with bytes as a message: they are no fields, or the fields are wrong.
pub data WrongMessageWith (Right : ℕ → List ℕ → Type 0) (Wrong : ℕ → List ℕ → MessageFault → Type 0) (rows : List Row) (bytes : List ℕ) (e : MessageFault) : Type 0 where
  no_fields : (why : FieldFault) (at : ℕ) → HasFault bytes why at → e ≡ fault.Pb (fault_at why at) → WrongMessageWith Right Wrong rows bytes e
  wrong_fields : (fs : List Field) → IsText bytes fs → WrongFieldsWith Right Wrong rows fs e → WrongMessageWith Right Wrong rows bytes e

-- Contents are judged exactly: nothing is wrong with a right one, and one thing at most with any.
pub record IsExact (Right : ℕ → List ℕ → Type 0) (Wrong : ℕ → List ℕ → MessageFault → Type 0) : Type 0 where
  pub either : (n : ℕ) (content : List ℕ) (e : MessageFault) → Right n content → Wrong n content e → ⊥
  pub one : (n : ℕ) (content : List ℕ) (a b : MessageFault) → Wrong n content a → Wrong n content b → a ≡ b

-- ---- where nothing is asked of what a field holds

abbrev pub AnyContent : ℕ → List ℕ → Type 0
AnyContent number content = Unit {0}

abbrev pub NoFault : ℕ → List ℕ → MessageFault → Type 0
NoFault number content e = ⊥
