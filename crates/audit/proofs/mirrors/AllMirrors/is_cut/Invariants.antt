use Rattle.std.proofs.Common.{◌≡◌, ◌-◌, length}
use Rattle.std.specs.List.{list_all, range_with_len}
use Rattle.audit.proofs.LineSteps.{is_cut_at}
use Rattle.audit.proofs.mirrors.AllMirrors.is_cut.Given as goal

abbrev pub invariant-loop-other : goal.invariant-loop-other
invariant-loop-other l = record {
  same : l.self ≡ l.initial.self;
  rest : list_all (is_cut_at l.scenario.setup l.initial.self l.at.topic l.at.cluster l.remote l.local) (range_with_len l.other (length l.scenario.setup.clusters - l.other))
      ≡ list_all (is_cut_at l.scenario.setup l.initial.self l.at.topic l.at.cluster l.remote l.local) (range_with_len 0 (length l.scenario.setup.clusters));
}
