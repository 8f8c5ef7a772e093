use Rattle.trace_runs.proofs.Gains.{each_end}
use Rattle.trace_runs.proofs.gained.gained_each.Goals as goal

pub returns : goal.returns
returns c = each_end c.args.cursor.now.indexes c.args.indexes.now c.loop-index.gained.indexes c.loop-index.index-index c.loop-index-test.false c.loop-index.invariant
