use Rattle.std.proofs.Common.{◌≡◌, ◌-◌, length}
use Rattle.std.specs.List.{list_any, range_with_len}
use Rattle.observed_text.specs.Observing.{is_told}
use Rattle.observed_text.proofs.so_far.LinesSoFar.is_any_told.Given as goal

abbrev pub invariant-loop-to : goal.invariant-loop-to
invariant-loop-to l =
    list_any (is_told l.scenario.setup l.self l.at.topic l.at.cluster) (range_with_len l.to (length l.scenario.setup.clusters - l.to))
    ≡ list_any (is_told l.scenario.setup l.self l.at.topic l.at.cluster) (range_with_len 0 (length l.scenario.setup.clusters))
