use Rattle.state_nodes.proofs.NodeBack.{node_again}
use Rattle.state_nodes.proofs.laws.parts_read_back.Goals as goal

pub returns-clause-node : goal.returns-clause-node
returns-clause-node c = λ per names own b rest h. node_again per names own b rest h
