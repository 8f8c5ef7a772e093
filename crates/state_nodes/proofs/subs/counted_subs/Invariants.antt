use Rattle.std.proofs.Common.{◌≡◌, ◌-◌, []}
use Rattle.state_items.specs.Reading.{many}
use Rattle.state_nodes.specs.Subs.{sub_at}
use Rattle.state_nodes.proofs.subs.counted_subs.Given as goal

abbrev pub invariant-loop : goal.invariant-loop
invariant-loop l = many (sub_at l.version l.entries) (l.count - l.counter) l.subs l.rest ≡ many (sub_at l.version l.entries) l.count [] l.bytes
