use Rattle.std.proofs.Common.{refl}
use Rattle.trace_runs.proofs.RangeTexts.{all_told}
use Rattle.trace_runs.proofs.ranges.add_ranges.Goals as goal

pub returns-clause-ok : goal.returns-clause-ok
returns-clause-ok c =
    all_told c.args.gained.now.indexes c.ranges-2.result.now.list c.ranges-2.result.now.list c.args.lines.now c.add_all.new.lines c.add_all.result c.is_told_by_ranges.ensures c.ranges-2.ensures refl c.add_all.ensures.ok
