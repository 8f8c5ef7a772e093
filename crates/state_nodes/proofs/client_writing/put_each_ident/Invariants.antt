use Rattle.std.proofs.Common.{◌≡◌, ◌++◌, take}
use Rattle.std.specs.List.{flat_map}
use Rattle.state_nodes.specs.Clients.{ident_text}
use Rattle.state_nodes.proofs.client_writing.put_each_ident.Given as goal

abbrev pub invariant-loop-ident : goal.invariant-loop-ident
invariant-loop-ident l = l.out ≡ l.initial.out ++ flat_map ident_text (take l.ident-index l.idents)
