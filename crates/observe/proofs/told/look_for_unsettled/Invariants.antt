use Rattle.std.proofs.Common.{◌≡◌, drop}
use Rattle.observation.specs.Observed.{entries_seen}
use Rattle.observe.specs.Telling.{first_unsettled}
use Rattle.observe.proofs.told.look_for_unsettled.Given as goal

abbrev pub invariant-loop-index : goal.invariant-loop-index
invariant-loop-index l =
    first_unsettled l.logs.setup l.logs.observed l.logs.topic l.update.origin l.update.sub.now l.index (drop l.index (entries_seen l.logs.setup l.logs.observed l.logs.topic l.of))
    ≡ first_unsettled l.logs.setup l.logs.observed l.logs.topic l.update.origin l.update.sub.now 0 (entries_seen l.logs.setup l.logs.observed l.logs.topic l.of)
