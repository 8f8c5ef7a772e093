use Rattle.broker_packets.proofs.Commands.{not_producers}
use Rattle.broker_packets.proofs.serving.serve_command.Goals as goal

pub serve_consumer-requires-clause-other : goal.serve_consumer-requires-clause-other
serve_consumer-requires-clause-other c = not_producers c.args.frame c.in_default.not-Producer c.in_default.not-Send c.in_default.not-CloseProducer
