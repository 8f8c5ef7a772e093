use Rattle.std.proofs.Common.{sym}
use Rattle.geo_base.specs.Run.{run}
use Rattle.geo_top.proofs.top.losing.lost_of_run.Goals as goal

pub returns-clause-done : goal.returns-clause-done
returns-clause-done c = let n = c.args.scenario.now in c.in_ok-bytes.ensures (run n.setup n.steps) (sym c.in_ok-world.ensures.done.stands.brokers)
