use Rattle.std.specs.List.{range_with_len}
use Rattle.geo_base.specs.Run.{pairs_to}
use Rattle.world.proofs.PairLists.{IsLeft, numbers}
use Rattle.world.proofs.settling_events.SettlingEvents.add_source.Given as goal

-- those that were made, and those of the targets that are left
abbrev pub invariant-loop-target : goal.invariant-loop-target
invariant-loop-target l = IsLeft l.initial.self l.self (pairs_to l.topic l.source (numbers l.clusters l.target)) (pairs_to l.topic l.source (range_with_len 0 l.clusters))
