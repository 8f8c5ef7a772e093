use Rattle.std.proofs.Common.{◌≡◌, ◌-◌, []}
use Rattle.state_items.specs.Reading.{many}
use Rattle.state_nodes.specs.Ledgers.{length_at}
use Rattle.state_nodes.proofs.ledgers.counted_ledgers.Given as goal

abbrev pub invariant-loop : goal.invariant-loop
invariant-loop l = many (length_at l.per_ledger) (l.count - l.counter) l.lengths.items l.rest ≡ many (length_at l.per_ledger) l.count [] l.bytes
