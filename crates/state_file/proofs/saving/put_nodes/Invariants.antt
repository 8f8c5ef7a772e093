use Rattle.std.proofs.Common.{◌≡◌, ◌++◌, drop, map}
use Rattle.state_file.specs.Texts.{nodes_from}
use Rattle.state_nodes.specs.Nodes.{broker_of}
use Rattle.state_file.proofs.saving.put_nodes.Given as goal

abbrev pub invariant-loop-number : goal.invariant-loop-number
invariant-loop-number l = l.out ++ nodes_from l.names l.number (drop l.number (map broker_of l.brokers)) ≡ l.initial.out ++ nodes_from l.names 0 (map broker_of l.brokers)
