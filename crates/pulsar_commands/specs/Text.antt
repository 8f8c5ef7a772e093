-- The texts of a command.
use Rattle.std.specs.Prelude.{◌≡◌, ℕ, List, [], ◌∷◌, Some}
use Rattle.std.specs.List.{AllByRecursion}
use Rattle.pb_fields.specs.declared.field.Field.{Field}
use Rattle.pb_fields.specs.declared.field.Value.TheVariants as value
use Rattle.pb_fields.specs.declared.message.MessageFault.{MessageFault}
use Rattle.pb_fields.specs.Field.{varint_field, bytes_field}
use Rattle.pb_fields.specs.Text.{IsText}
use Rattle.pb_fields.specs.Message.{IsMessage, last_value}
use Rattle.pb_fields.specs.Embedded.{IsMessageWith, IsMessageText, WrongMessageWith, AnyContent, NoFault}
use Rattle.pulsar_commands.specs.declared.command.Command.{Command}
use Rattle.pulsar_commands.specs.declared.kind.Kind.{Kind}
use Rattle.pulsar_commands.specs.Table.{kind_number, type_rows, held_rows, id_rows, rows_of, choices_of, IsKnown}
use Rattle.pulsar_commands.specs.Part.{Says}
use Rattle.pulsar_commands.specs.Parts.{kind_of, parts}

-- ---- embedded messages: a command's own are ids, and a BaseCommand's is the command

abbrev pub IdRight : ℕ → List ℕ → Type 0
IdRight n = IsMessageText AnyContent id_rows

abbrev pub IdWrong : ℕ → List ℕ → MessageFault → Type 0
IdWrong n = WrongMessageWith AnyContent NoFault id_rows

abbrev pub BodyRight : Kind → ℕ → List ℕ → Type 0
BodyRight k n = IsMessageText IdRight (rows_of k)

abbrev pub BodyWrong : Kind → ℕ → List ℕ → MessageFault → Type 0
BodyWrong k n = WrongMessageWith IdRight IdWrong (rows_of k)

-- ---- what fields say

-- The fields of a BaseCommand name the type; its last value counts.
pub record HasType (fields : List Field) (k : Kind) : Type 0 where
  pub message : IsMessage type_rows fields
  pub is : last_value 1 fields ≡ Some (value.Varint (kind_number k))

-- The fields of the command's own message say this command.
pub record Tells (k : Kind) (fields : List Field) (c : Command) : Type 0 where
  pub kind : kind_of c ≡ k
  pub says : AllByRecursion (Says fields) (parts c)

-- Of several messages of the type's number the last counts (own): these are its fields.
pub record IsLast (k : Kind) (fields held : List Field) : Type 0 where
  pub content : List ℕ
  pub is : last_value (kind_number k) fields ≡ Some (value.Bytes content)
  pub text : IsText content held

-- All of them have to be right. In the one that counts the enumerations' values are known.
pub record Holds (k : Kind) (fields held : List Field) : Type 0 where
  pub right : IsMessageWith (BodyRight k) (held_rows k) fields
  pub last : IsLast k fields held
  pub known : AllByRecursion (IsKnown held) (choices_of k)

-- The fields of a BaseCommand say this command.
pub record IsCommand (fields : List Field) (c : Command) : Type 0 where
  pub kind : Kind
  pub type : HasType fields kind
  pub held : List Field
  pub holds : Holds kind fields held
  pub tells : Tells kind held c

-- The bytes are a text of the command.
pub record IsCommandText (bytes : List ℕ) (c : Command) : Type 0 where
  pub fields : List Field
  pub text : IsText bytes fields
  pub means : IsCommand fields c

-- The fields of a BaseCommand as writers make it: the type, and then the command's own message.
abbrev pub usual : Kind → List ℕ → List Field
usual k content = varint_field 1 (kind_number k) ∷ bytes_field (kind_number k) content ∷ []
