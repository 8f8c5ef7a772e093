use Rattle.state_file.proofs.Loops.{ClientsGo}
use Rattle.state_file.proofs.body.clients_at.Given as goal

abbrev pub invariant-loop-declared : goal.invariant-loop-declared
invariant-loop-declared l = ClientsGo l.scenario.setup l.declared-index l.clients.items l.rest l.bytes
