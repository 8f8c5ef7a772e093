use Rattle.std.specs.List.{range_with_len}
use Rattle.geo_base.specs.Run.{pairs_of}
use Rattle.world.proofs.PairLists.{IsLeft, numbers}
use Rattle.world.proofs.settling_events.SettlingEvents.of.Given as goal

-- those that were made, and those of the topics that are left
abbrev pub invariant-loop-topic : goal.invariant-loop-topic
invariant-loop-topic l =
    IsLeft l.initial.events l.events (pairs_of (numbers l.topics l.topic) (range_with_len 0 l.clusters)) (pairs_of (range_with_len 0 l.topics) (range_with_len 0 l.clusters))
