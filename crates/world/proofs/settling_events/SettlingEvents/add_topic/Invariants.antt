use Rattle.std.specs.List.{range_with_len}
use Rattle.geo_base.specs.Run.{pairs_from}
use Rattle.world.proofs.PairLists.{IsLeft, numbers}
use Rattle.world.proofs.settling_events.SettlingEvents.add_topic.Given as goal

-- those that were made, and those of the sources that are left
abbrev pub invariant-loop-source : goal.invariant-loop-source
invariant-loop-source l =
    IsLeft l.initial.self l.self (pairs_from l.topic (numbers l.clusters l.source) (range_with_len 0 l.clusters))
    (pairs_from l.topic (range_with_len 0 l.clusters) (range_with_len 0 l.clusters))
