-- Why bytes are no text of a command, in the order of judgement.
use Rattle.std.specs.Prelude.{◌≡◌, ◌≢◌, ℕ, ◌≤◌, List, ◌∷◌, Some}
use Rattle.pb_fields.specs.declared.field.Field.{Field}
use Rattle.pb_fields.specs.declared.field.Value.TheVariants as value
use Rattle.pb_fields.specs.declared.message.MessageFault.{MessageFault}
use Rattle.pb_fields.specs.declared.message.MessageFault.TheVariants as message
use Rattle.pb_fields.specs.Text.{IsText}
use Rattle.pb_fields.specs.Message.{IsMessage, WrongMessage, last_value}
use Rattle.pb_fields.specs.Embedded.{IsMessageWith, WrongFieldsWith}
use Rattle.pulsar_commands.specs.declared.fault.CommandFault.{CommandFault}
use Rattle.pulsar_commands.specs.declared.fault.CommandFault.TheVariants as fault
use Rattle.pulsar_commands.specs.declared.kind.Kind.{Kind}
use Rattle.pulsar_commands.specs.declared.table.Choice.{Choice}
use Rattle.pulsar_commands.specs.Table.{kind_number, type_rows, held_rows, choices_of, IsKnown}
use Rattle.pulsar_commands.specs.Text.{BodyRight, BodyWrong, HasType, IsLast}

-- a fault of a message as a fault of the command
abbrev pub of_message : MessageFault → CommandFault
of_message (message.Pb why) = fault.Pb why
of_message (message.WrongWire n) = fault.WrongWire n
of_message (message.NotText n) = fault.NotText n
of_message (message.Missing n) = fault.Missing n
of_message message.Memory = fault.Memory

-- The first of the enumerations whose value is not known.
pub data FirstUnknown (fields : List Field) : List Choice → ℕ → Type 0 where
  here : {c : Choice} {cs : List Choice} {n : ℕ} → last_value c.number fields ≡ Some (value.Varint n) → c.size ≤ n → FirstUnknown fields (c ∷ cs) n
  later : {c : Choice} {cs : List Choice} {n : ℕ} → IsKnown fields c → FirstUnknown fields cs n → FirstUnknown fields (c ∷ cs) n

-- What is wrong with the fields of a BaseCommand of a type: the field of the type's number, with what it holds; then the
-- values of enumerations, in the message that counts.
pub data WrongOfType (k : Kind) (fields : List Field) (e : CommandFault) : Type 0 where
  body : (m : MessageFault) → WrongFieldsWith (BodyRight k) (BodyWrong k) (held_rows k) fields m → e ≡ of_message m → WrongOfType k fields e
  enumeration : (held : List Field) (n : ℕ) → IsMessageWith (BodyRight k) (held_rows k) fields → IsLast k fields held → FirstUnknown held (choices_of k) n → e ≡ fault.UnknownType n → WrongOfType k fields e

-- First the bytes as fields that name a type; then the type; then the rest.
pub data WrongCommand (bytes : List ℕ) (e : CommandFault) : Type 0 where
  no_type : (m : MessageFault) → WrongMessage type_rows bytes m → e ≡ of_message m → WrongCommand bytes e
  unknown_type : (fs : List Field) (n : ℕ) → IsText bytes fs → IsMessage type_rows fs → last_value 1 fs ≡ Some (value.Varint n) → ((k : Kind) → n ≢ kind_number k) → e ≡ fault.UnknownType n → WrongCommand bytes e
  of_type : (fs : List Field) (k : Kind) → IsText bytes fs → HasType fs k → WrongOfType k fs e → WrongCommand bytes e

-- A fault is that of the bytes. Want of memory says nothing of them.
abbrev pub IsFaultOrMemory : (CommandFault → Type 0) → CommandFault → Type 0
IsFaultOrMemory P fault.Memory = Unit {0}
IsFaultOrMemory P e = P e
