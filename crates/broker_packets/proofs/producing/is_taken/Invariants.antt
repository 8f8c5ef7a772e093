use Rattle.std.proofs.Common.{◌≡◌, drop}
use Rattle.geo_base.specs.Producing.{is_taken}
use Rattle.broker_packets.proofs.producing.is_taken.Given as goal

abbrev pub invariant-loop-other : goal.invariant-loop-other
invariant-loop-other l = is_taken l.name l.client 0 l.sessions ≡ is_taken l.name l.client l.other (drop l.other l.sessions)
