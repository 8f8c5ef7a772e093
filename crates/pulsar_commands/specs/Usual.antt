-- Commands of the usual form (own): SEND, its receipt and MESSAGE with every field that they have, and ACK, whose positions stand one
-- after another after its other two.
use Rattle.std.specs.Prelude.{List, ℕ, Some, map}
use Rattle.std.specs.List.{AllByRecursion}
use Rattle.geo_base.specs.declared.position.Position.{Position}
use Rattle.pb_fields.specs.declared.field.Field.{Field}
use Rattle.pb_fields.specs.declared.field.Value.TheVariants as value
use Rattle.pb_fields.specs.Embedded.{IsMessageWith}
use Rattle.pb_fields.specs.Field.{bytes_field}
use Rattle.pb_fields.specs.Front.{Fronts}
use Rattle.pb_fields.specs.Text.{IsText}
use Rattle.pulsar_commands.specs.declared.acks.AckView.{AckView}
use Rattle.pulsar_commands.specs.declared.command.Command.{Command}
use Rattle.pulsar_commands.specs.declared.command.Command.TheVariants as command
use Rattle.pulsar_commands.specs.declared.kind.Kind.{Kind}
use Rattle.pulsar_commands.specs.declared.view.CommandView.{CommandView}
use Rattle.pulsar_commands.specs.declared.view.CommandView.TheVariants as view
use Rattle.pulsar_commands.specs.Part.{AreIds}
use Rattle.pulsar_commands.specs.Table.{choices_of, rows_of, IsKnown}
use Rattle.pulsar_commands.specs.Text.{IdRight, Tells}

-- the code's view of a command as the command
abbrev pub command_viewed : CommandView → Command
command_viewed (view.Send producer sequence messages) = command.Send producer sequence messages
command_viewed (view.SendReceipt producer sequence position) = command.SendReceipt producer sequence (Some position)
command_viewed (view.Message consumer position) = command.Message consumer position

abbrev pub ack_viewed : AckView → Command
ack_viewed v = command.Ack v.consumer_id v.ack_type v.message_id.now

-- The content is a text of the command's own message.
pub record IsHeldText (k : Kind) (content : List ℕ) (c : Command) : Type 0 where
  pub held : List Field
  pub text : IsText content held
  pub right : IsMessageWith IdRight (rows_of k) held
  pub known : AllByRecursion (IsKnown held) (choices_of k)
  pub tells : Tells k held c

-- The fields of an ACK's positions stand at the front of the bytes, and rest comes after them.
pub record FrontIds (bytes : List ℕ) (ps : List Position) (rest : List ℕ) : Type 0 where
  pub contents : List (List ℕ)
  pub fronts : Fronts bytes (map (bytes_field 3) contents) rest
  pub right : AllByRecursion (IdRight 0) contents
  pub said : AreIds (map value.Bytes contents) ps
