-- Commands that carry no message, by what they are about.
use Rattle.std.specs.Prelude.{⊤}
use Rattle.pulsar_commands.specs.declared.command.Command.{Command}
use Rattle.pulsar_commands.specs.declared.command.Command.TheVariants as command

-- a producer begins and ends
abbrev pub IsOfProducer : Command → Type 0
IsOfProducer (command.Producer topic id request name) = ⊤
IsOfProducer (command.ProducerSuccess request name) = ⊤
IsOfProducer (command.CloseProducer id request) = ⊤
IsOfProducer c = ⊥

-- a subscription begins and ends
abbrev pub IsOfSubscription : Command → Type 0
IsOfSubscription (command.Subscribe topic sub kind id request consumer earliest replicated) = ⊤
IsOfSubscription (command.Unsubscribe id request) = ⊤
IsOfSubscription c = ⊥

-- what a consumer says of its messages, and its end
abbrev pub IsOfConsumer : Command → Type 0
IsOfConsumer (command.Ack id kind positions) = ⊤
IsOfConsumer (command.Flow id permits) = ⊤
IsOfConsumer (command.CloseConsumer id request) = ⊤
IsOfConsumer c = ⊥

-- how a send or a request ended
abbrev pub IsAnswer : Command → Type 0
IsAnswer (command.SendReceipt id seq position) = ⊤
IsAnswer (command.SendError id seq code message) = ⊤
IsAnswer (command.Success request) = ⊤
IsAnswer (command.Error request code message) = ⊤
IsAnswer c = ⊥
