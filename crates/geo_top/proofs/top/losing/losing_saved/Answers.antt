use Rattle.state_file.specs.State.{state_of}
use Rattle.geo_top.proofs.Losing.{told_declared_on, told_undeclared_on}
use Rattle.geo_top.proofs.top.losing.losing_saved.Goals as goal

pub returns-in-Some : goal.returns-in-Some
returns-in-Some c lines at =
    told_declared_on c.args.cluster.now lines (state_of c.args.saved) c.args.steps.now c.clusters.result.now c.in-Some.cluster c.told_on.result c.clusters.ensures.names
    (rw c.in-Some.is at c.number_of.ensures.number) c.told_on.ensures

pub returns-in-None : goal.returns-in-None
returns-in-None c lines at =
    told_undeclared_on c.args.cluster.now lines (state_of c.args.saved) c.args.steps.now c.clusters.result.now c.args.line c.undeclared.result c.clusters.ensures.names
    (rw c.in-None.is at c.number_of.ensures.number) at c.undeclared.ensures
