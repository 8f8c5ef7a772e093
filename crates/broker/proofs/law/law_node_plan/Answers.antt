use Rattle.broker.proofs.Planned.{node_plan}
use Rattle.broker.proofs.law.law_node_plan.Goals as goal

pub returns : goal.returns
returns c = node_plan
