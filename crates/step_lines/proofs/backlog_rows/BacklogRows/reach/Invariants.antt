use Rattle.std.proofs.Common.{◌≡◌, ℕ, ◌+◌, ◌-◌, length}
use Rattle.step_lines.specs.Backlogs.{known_at}
use Rattle.step_lines.proofs.backlog_rows.BacklogRows.reach.Given as goal

-- a row more knows nothing, as before it was there
abbrev pub invariant-loop-alloc : goal.invariant-loop-alloc
invariant-loop-alloc l = (k : ℕ) → known_at l.self-inside.rows.items k ≡ known_at l.fn.self k

abbrev pub decreases-loop-alloc : goal.decreases-loop-alloc
decreases-loop-alloc l = l.number + 1 - length l.self-inside.rows.items
