use Rattle.std.proofs.Common.{◌∙◌, sym, arith}
use Rattle.script_rows.proofs.Spaced.{all_written}
use Rattle.script_rows.proofs.names.Names.write_row.Goals as goal

pub returns-clause-ok : goal.returns-clause-ok
returns-clause-ok c =
    sym (all_written c.args.self.now c.loop-value.seen c.loop-value.left c.args.values.now c.loop-value.value-index c.loop-value.out (omega arith)) ∙ c.loop-value.invariant.so_far
