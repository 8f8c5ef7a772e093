use Rattle.world_laws.proofs.Residing.EachRun.{in_each_run}
use Rattle.world_laws.proofs.residency.law_in_run.Goals as goal

pub returns : goal.returns
returns c = in_each_run
