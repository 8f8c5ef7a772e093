-- What each command says, by ascending numbers of its fields.
use Rattle.std.specs.Prelude.{ℕ, List, [], ◌∷◌}
use Rattle.geo_base.specs.declared.frame.AckKind.{AckKind}
use Rattle.geo_base.specs.declared.frame.AckKind.TheVariants as ack_kind
use Rattle.geo_base.specs.declared.frame.SubKind.{SubKind}
use Rattle.geo_base.specs.declared.frame.SubKind.TheVariants as sub_kind
use Rattle.pulsar_commands.specs.declared.command.Command.{Command}
use Rattle.pulsar_commands.specs.declared.command.Command.TheVariants as command
use Rattle.pulsar_commands.specs.declared.kind.Kind.{Kind}
use Rattle.pulsar_commands.specs.declared.kind.Kind.TheVariants as kind
use Rattle.pulsar_commands.specs.Part.{Part, text, optional_text, number, optional_number, number_or, flag, id, optional_id, ids}

abbrev pub kind_of : Command → Kind
kind_of (command.Connect version protocol) = kind.Connect
kind_of (command.Connected version protocol) = kind.Connected
kind_of (command.Subscribe topic subscription sub_type consumer request name earliest replicated) = kind.Subscribe
kind_of (command.Producer topic producer request name) = kind.Producer
kind_of (command.Send producer sequence messages) = kind.Send
kind_of (command.SendReceipt producer sequence position) = kind.SendReceipt
kind_of (command.SendError producer sequence error message) = kind.SendError
kind_of (command.Message consumer position) = kind.Message
kind_of (command.Ack consumer ack_type positions) = kind.Ack
kind_of (command.Flow consumer permits) = kind.Flow
kind_of (command.Unsubscribe consumer request) = kind.Unsubscribe
kind_of (command.Success request) = kind.Success
kind_of (command.Error request error message) = kind.Error
kind_of (command.CloseProducer producer request) = kind.CloseProducer
kind_of (command.CloseConsumer consumer request) = kind.CloseConsumer
kind_of (command.ProducerSuccess request name) = kind.ProducerSuccess
kind_of command.Ping = kind.Ping
kind_of command.Pong = kind.Pong

-- the values of subType
abbrev pub sub_number : SubKind → ℕ
sub_number sub_kind.Exclusive = 0
sub_number sub_kind.Shared = 1
sub_number sub_kind.Failover = 2
sub_number sub_kind.KeyShared = 3

-- the values of ack_type
abbrev pub ack_number : AckKind → ℕ
ack_number ack_kind.Individual = 0
ack_number ack_kind.Cumulative = 1

-- An initialPosition is a flag: Latest is 0, also where it is absent, and Earliest 1. A num_messages that is absent is 1.
abbrev pub parts : Command → List Part
parts (command.Connect version protocol) = text 1 version ∷ optional_number 4 protocol ∷ []
parts (command.Connected version protocol) = text 1 version ∷ optional_number 2 protocol ∷ []
parts (command.Subscribe topic subscription sub_type consumer request name earliest replicated) =
    text 1 topic ∷ text 2 subscription ∷ number 3 (sub_number sub_type) ∷ number 4 consumer ∷ number 5 request ∷ optional_text 6 name ∷ flag 13 earliest ∷ flag 14 replicated ∷ []
parts (command.Producer topic producer request name) = text 1 topic ∷ number 2 producer ∷ number 3 request ∷ optional_text 4 name ∷ []
parts (command.Send producer sequence messages) = number 1 producer ∷ number 2 sequence ∷ number_or 3 1 messages ∷ []
parts (command.SendReceipt producer sequence position) = number 1 producer ∷ number 2 sequence ∷ optional_id 3 position ∷ []
parts (command.SendError producer sequence error message) = number 1 producer ∷ number 2 sequence ∷ number 3 error ∷ text 4 message ∷ []
parts (command.Message consumer position) = number 1 consumer ∷ id 2 position ∷ []
parts (command.Ack consumer ack_type positions) = number 1 consumer ∷ number 2 (ack_number ack_type) ∷ ids 3 positions ∷ []
parts (command.Flow consumer permits) = number 1 consumer ∷ number 2 permits ∷ []
parts (command.Unsubscribe consumer request) = number 1 consumer ∷ number 2 request ∷ []
parts (command.Success request) = number 1 request ∷ []
parts (command.Error request error message) = number 1 request ∷ number 2 error ∷ text 3 message ∷ []
parts (command.CloseProducer producer request) = number 1 producer ∷ number 2 request ∷ []
parts (command.CloseConsumer consumer request) = number 1 consumer ∷ number 2 request ∷ []
parts (command.ProducerSuccess request name) = number 1 request ∷ text 2 name ∷ []
parts command.Ping = []
parts command.Pong = []
