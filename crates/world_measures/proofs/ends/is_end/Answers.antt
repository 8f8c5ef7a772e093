use Rattle.std.proofs.Common.{rules, length}
use Rattle.world_measures.proofs.Ending.{end_from}
use Rattle.world_measures.proofs.ends.is_end.Goals as goal

pub returns : goal.returns
returns c = λ s w t i told.
    end_from s w t c.args.source c.args.end i c.args.entry.now (length c.args.tables.now) c.is_for_others-is_for_others.result c.in_ok-stands_elsewhere.stands_elsewhere c.in_ok-is_lacked.is_lacked
    c.is_of.result told.many (search rules) (rw c.len.ensures at c.is_for_others-is_for_others.ensures) (c.in_ok-stands_elsewhere.ensures s w t told) (c.in_ok-is_lacked.ensures s w t told) c.is_of.ensures
