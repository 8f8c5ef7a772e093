use Rattle.std.proofs.Common.{◌≡◌, take}
use Rattle.geo_base.specs.Producing.{without_producer}
use Rattle.broker_packets.proofs.producing.without_producer.Given as goal

abbrev pub invariant-loop-producer : goal.invariant-loop-producer
invariant-loop-producer l = l.kept ≡ without_producer l.id (take l.producer-index l.producers)
