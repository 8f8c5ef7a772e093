-- Whose a command is: what a broker and a client say of their connection, and what a producer, a consumer and a broker send.
use Rattle.pulsar_commands.specs.declared.kind.Kind.{Kind}
use Rattle.pulsar_commands.specs.declared.kind.Kind.TheVariants as kind

abbrev pub IsOfConnection : Kind → Type 0
IsOfConnection kind.Connect = Unit {0}
IsOfConnection kind.Connected = Unit {0}
IsOfConnection kind.Ping = Unit {0}
IsOfConnection kind.Pong = Unit {0}
IsOfConnection k = ⊥

abbrev pub IsOfProducer : Kind → Type 0
IsOfProducer kind.Producer = Unit {0}
IsOfProducer kind.Send = Unit {0}
IsOfProducer kind.CloseProducer = Unit {0}
IsOfProducer k = ⊥

abbrev pub IsOfConsumer : Kind → Type 0
IsOfConsumer kind.Subscribe = Unit {0}
IsOfConsumer kind.Ack = Unit {0}
IsOfConsumer kind.Flow = Unit {0}
IsOfConsumer kind.Unsubscribe = Unit {0}
IsOfConsumer kind.CloseConsumer = Unit {0}
IsOfConsumer k = ⊥

abbrev pub IsOfBroker : Kind → Type 0
IsOfBroker kind.SendReceipt = Unit {0}
IsOfBroker kind.SendError = Unit {0}
IsOfBroker kind.Message = Unit {0}
IsOfBroker kind.Success = Unit {0}
IsOfBroker kind.Error = Unit {0}
IsOfBroker kind.ProducerSuccess = Unit {0}
IsOfBroker k = ⊥
