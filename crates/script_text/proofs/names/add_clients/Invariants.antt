use Rattle.std.proofs.Common.{◌≡◌, map, take}
use Rattle.geo_base.specs.Setup.{Declared}
use Rattle.script_text.proofs.names.add_clients.Given as goal

abbrev pub invariant-loop-client : goal.invariant-loop-client
invariant-loop-client l = l.table ≡ map (λ (d : Declared). d.name) (take l.client-index l.clients)
