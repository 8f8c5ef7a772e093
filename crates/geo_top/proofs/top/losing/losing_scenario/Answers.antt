use Rattle.geo_top.proofs.Losing.{told_declared, told_undeclared}
use Rattle.geo_top.proofs.top.losing.losing_scenario.Goals as goal

pub returns-in-Some : goal.returns-in-Some
returns-in-Some c input at =
    told_declared c.args.cluster.now input c.args.with_names c.args.scenario.now c.clusters.result.now c.in-Some.cluster c.told.result c.clusters.ensures.names
    (rw c.in-Some.is at c.number_of.ensures.number) c.told.ensures

pub returns-in-None : goal.returns-in-None
returns-in-None c input at =
    told_undeclared c.args.cluster.now input c.args.with_names c.args.scenario.now c.clusters.result.now c.args.line c.undeclared.result c.clusters.ensures.names
    (rw c.in-None.is at c.number_of.ensures.number) at c.undeclared.ensures
