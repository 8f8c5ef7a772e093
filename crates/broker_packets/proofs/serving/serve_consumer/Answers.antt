use Rattle.broker_packets.proofs.Commands.{not_consumers}
use Rattle.broker_packets.proofs.serving.serve_consumer.Goals as goal

pub serve_other-requires-clause-consumers : goal.serve_other-requires-clause-consumers
serve_other-requires-clause-consumers c = not_consumers c.args.frame c.in_default.not-Subscribe c.in_default.not-Unsubscribe c.in_default.not-CloseConsumer
