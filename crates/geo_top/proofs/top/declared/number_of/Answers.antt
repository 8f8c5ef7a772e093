use Rattle.std.proofs.Common.{sym, ◌∙◌}
use Rattle.geo_top.proofs.Losing.{found_number}
use Rattle.geo_top.proofs.top.declared.number_of.Goals as goal

pub returns-in-Some-clause-number : goal.returns-in-Some-clause-number
returns-in-Some-clause-number c = sym c.in-Some.is ∙ (c.broker_ref_of.ensures ∙ found_number c.args.clusters.now c.args.name.now)

pub returns-in-None-clause-number : goal.returns-in-None-clause-number
returns-in-None-clause-number c = sym c.in-None.is ∙ (c.broker_ref_of.ensures ∙ found_number c.args.clusters.now c.args.name.now)
