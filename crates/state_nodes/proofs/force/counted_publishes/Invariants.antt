use Rattle.std.proofs.Common.{◌≡◌, ◌-◌, []}
use Rattle.state_items.specs.Reading.{many}
use Rattle.state_nodes.specs.Clients.{publish_at}
use Rattle.state_nodes.proofs.force.counted_publishes.Given as goal

abbrev pub invariant-loop : goal.invariant-loop
invariant-loop l = many (publish_at l.lines l.done) (l.count - l.counter) l.publishes.items l.rest ≡ many (publish_at l.lines l.done) l.count [] l.bytes
