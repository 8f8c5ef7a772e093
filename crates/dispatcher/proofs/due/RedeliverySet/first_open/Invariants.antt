use Rattle.std.proofs.Common.{◌≡◌, drop}
use Rattle.std.specs.Prelude.{find, not}
use Rattle.geo_base.specs.Cursor.{has}
use Rattle.dispatcher.proofs.due.RedeliverySet.first_open.Given as goal

-- none of those before this place is open
abbrev pub invariant-loop-place : goal.invariant-loop-place
invariant-loop-place l = find (λ i. not (has l.cursor.indexes i)) l.self-inside.items.items ≡ find (λ i. not (has l.cursor.indexes i)) (drop l.place l.self-inside.items.items)
