use Rattle.frame_values.proofs.UsualValues.{entry_is, viewed_rest}
use Rattle.frame_values.proofs.usual.usual_entry.Goals as goal

pub returns-clause-is : goal.returns-clause-is
returns-clause-is c = entry_is c.args.names.now c.args.message c.in_ok-source.source c.in_ok-entry.entry c.in_ok-source.ensures c.in_ok-entry.ensures

pub returns-clause-rest : goal.returns-clause-rest
returns-clause-rest c = viewed_rest c.args.message c.in_ok-entry.entry c.in_ok-entry.ensures
