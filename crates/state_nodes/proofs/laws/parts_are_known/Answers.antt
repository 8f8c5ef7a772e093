use Rattle.state_nodes.proofs.Known.{counts_known}
use Rattle.state_nodes.proofs.NodeKnown.{node_known}
use Rattle.state_nodes.proofs.laws.parts_are_known.Goals as goal

pub returns-clause-counts : goal.returns-clause-counts
returns-clause-counts c = counts_known

pub returns-clause-node : goal.returns-clause-node
returns-clause-node c = node_known
