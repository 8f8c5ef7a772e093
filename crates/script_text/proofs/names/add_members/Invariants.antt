use Rattle.std.proofs.Common.{◌≡◌, map, take}
use Rattle.script_text.specs.Naming.{member_of}
use Rattle.script_text.proofs.names.add_members.Given as goal

abbrev pub invariant-loop-client : goal.invariant-loop-client
invariant-loop-client l = l.members.items ≡ map member_of (take l.client-index l.clients)
