use Rattle.state_file.proofs.Loops.{NodesGo}
use Rattle.state_file.proofs.body.nodes_at.Given as goal

abbrev pub invariant-loop-number : goal.invariant-loop-number
invariant-loop-number l = NodesGo l.version l.scenario.setup l.number l.brokers.items l.rest l.bytes
