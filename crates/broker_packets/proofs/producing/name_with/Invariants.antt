use Rattle.std.proofs.Common.{◌≡◌, drop}
use Rattle.geo_base.specs.Producing.{name_with}
use Rattle.broker_packets.proofs.producing.name_with.Given as goal

abbrev pub invariant-loop-producer : goal.invariant-loop-producer
invariant-loop-producer l = name_with l.id l.producers ≡ name_with l.id (drop l.producer-index l.producers)
