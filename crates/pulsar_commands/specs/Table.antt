-- The commands of the binary protocol (BaseCommand and the messages that it holds, in PulsarApi.proto): their types, and
-- the fields that are read.
use Rattle.std.specs.Prelude.{◌≡◌, ℕ, ◌<◌, true, false, List, [], ◌∷◌, Some}
use Rattle.pb_fields.specs.declared.field.Field.{Field}
use Rattle.pb_fields.specs.declared.field.Value.TheVariants as value
use Rattle.pb_fields.specs.declared.message.Form.{Form}
use Rattle.pb_fields.specs.declared.message.Form.TheVariants as form
use Rattle.pb_fields.specs.declared.message.Row.{Row}
use Rattle.pb_fields.specs.Message.{last_value}
use Rattle.pulsar_commands.specs.declared.kind.Kind.{Kind}
use Rattle.pulsar_commands.specs.declared.kind.Kind.TheVariants as kind
use Rattle.pulsar_commands.specs.declared.table.Choice.{Choice}

-- The number of a command's type, which is also the number of the field that holds the command.
abbrev pub kind_number : Kind → ℕ
kind_number kind.Connect = 2
kind_number kind.Connected = 3
kind_number kind.Subscribe = 4
kind_number kind.Producer = 5
kind_number kind.Send = 6
kind_number kind.SendReceipt = 7
kind_number kind.SendError = 8
kind_number kind.Message = 9
kind_number kind.Ack = 10
kind_number kind.Flow = 11
kind_number kind.Unsubscribe = 12
kind_number kind.Success = 13
kind_number kind.Error = 14
kind_number kind.CloseProducer = 15
kind_number kind.CloseConsumer = 16
kind_number kind.ProducerSuccess = 17
kind_number kind.Ping = 18
kind_number kind.Pong = 19

abbrev pub required : ℕ → Form → Row
required n f = record { number = n; form = f; required = true }

abbrev pub optional : ℕ → Form → Row
optional n f = record { number = n; form = f; required = false }

-- the type in a BaseCommand
abbrev pub type_rows : List Row
type_rows = required 1 form.Varint ∷ []

-- the command in a BaseCommand of its type; the fields of other commands count as unknown
abbrev pub held_rows : Kind → List Row
held_rows k = required (kind_number k) form.Message ∷ []

-- MessageIdData: ledgerId, entryId
abbrev pub id_rows : List Row
id_rows = required 1 form.Varint ∷ required 2 form.Varint ∷ []

abbrev pub rows_of : Kind → List Row
-- client_version, protocol_version
rows_of kind.Connect = required 1 form.Text ∷ optional 4 form.Varint ∷ []
-- server_version, protocol_version
rows_of kind.Connected = required 1 form.Text ∷ optional 2 form.Varint ∷ []
-- topic, subscription, subType, consumer_id, request_id, consumer_name, initialPosition, replicate_subscription_state
rows_of kind.Subscribe = required 1 form.Text ∷ required 2 form.Text ∷ required 3 form.Varint ∷ required 4 form.Varint ∷ required 5 form.Varint ∷ optional 6 form.Text ∷ optional 13 form.Varint ∷ optional 14 form.Varint ∷ []
-- topic, producer_id, request_id, producer_name
rows_of kind.Producer = required 1 form.Text ∷ required 2 form.Varint ∷ required 3 form.Varint ∷ optional 4 form.Text ∷ []
-- producer_id, sequence_id, num_messages
rows_of kind.Send = required 1 form.Varint ∷ required 2 form.Varint ∷ optional 3 form.Varint ∷ []
-- producer_id, sequence_id, message_id
rows_of kind.SendReceipt = required 1 form.Varint ∷ required 2 form.Varint ∷ optional 3 form.Message ∷ []
-- producer_id, sequence_id, error, message
rows_of kind.SendError = required 1 form.Varint ∷ required 2 form.Varint ∷ required 3 form.Varint ∷ required 4 form.Text ∷ []
-- consumer_id, message_id
rows_of kind.Message = required 1 form.Varint ∷ required 2 form.Message ∷ []
-- consumer_id, ack_type, message_id
rows_of kind.Ack = required 1 form.Varint ∷ required 2 form.Varint ∷ optional 3 form.Message ∷ []
-- consumer_id, messagePermits
rows_of kind.Flow = required 1 form.Varint ∷ required 2 form.Varint ∷ []
-- consumer_id, request_id
rows_of kind.Unsubscribe = required 1 form.Varint ∷ required 2 form.Varint ∷ []
-- request_id
rows_of kind.Success = required 1 form.Varint ∷ []
-- request_id, error, message
rows_of kind.Error = required 1 form.Varint ∷ required 2 form.Varint ∷ required 3 form.Text ∷ []
-- producer_id, request_id
rows_of kind.CloseProducer = required 1 form.Varint ∷ required 2 form.Varint ∷ []
-- consumer_id, request_id
rows_of kind.CloseConsumer = required 1 form.Varint ∷ required 2 form.Varint ∷ []
-- request_id, producer_name
rows_of kind.ProducerSuccess = required 1 form.Varint ∷ required 2 form.Text ∷ []
rows_of kind.Ping = []
rows_of kind.Pong = []

-- ---- enumerations

abbrev pub choice : ℕ → ℕ → Choice
choice n size = record { number = n; size = size }

-- The fields that hold a value of an enumeration, by ascending number. The values are those from 0 below a size.
abbrev pub choices_of : Kind → List Choice
-- subType: Exclusive, Shared, Failover, Key_Shared; initialPosition: Latest, Earliest
choices_of kind.Subscribe = choice 3 4 ∷ choice 13 2 ∷ []
-- ack_type: Individual, Cumulative
choices_of kind.Ack = choice 2 2 ∷ []
choices_of k = []

-- The value that counts, where there is one, is a value of the enumeration.
abbrev pub IsKnown : List Field → Choice → Type 0
IsKnown fields c = (n : ℕ) → last_value c.number fields ≡ Some (value.Varint n) → n < c.size
