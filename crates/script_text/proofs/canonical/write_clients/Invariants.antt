use Rattle.std.proofs.Common.{◌≡◌, ◌++◌, drop}
use Rattle.script_text.specs.Canonical.{clients_text}
use Rattle.script_text.proofs.canonical.write_clients.Given as goal

abbrev pub invariant-loop-client : goal.invariant-loop-client
invariant-loop-client l =
    l.out ++ clients_text l.names.clusters l.names.topics (drop l.client-index l.clients) ≡ l.fn.out ++ clients_text l.names.clusters l.names.topics l.clients
