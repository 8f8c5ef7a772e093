use Rattle.std.proofs.Common.{◌≡◌, ◌-◌, []}
use Rattle.state_items.specs.Reading.{many}
use Rattle.state_nodes.specs.Clients.{ident_at}
use Rattle.state_nodes.proofs.clients.counted_idents.Given as goal

abbrev pub invariant-loop : goal.invariant-loop
invariant-loop l = many (ident_at l.clusters) (l.count - l.counter) l.idents.items l.rest ≡ many (ident_at l.clusters) l.count [] l.bytes
