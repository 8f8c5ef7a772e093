use Rattle.std.proofs.Common.{◌≡◌, ◌++◌, drop, map}
use Rattle.client.specs.State.{stopped}
use Rattle.state_file.specs.Texts.{clients_text}
use Rattle.state_file.proofs.saving.put_clients.Given as goal

abbrev pub invariant-loop-number : goal.invariant-loop-number
invariant-loop-number l = l.out ++ clients_text (drop l.number (map stopped l.clients)) ≡ l.initial.out ++ clients_text (map stopped l.clients)
