use Rattle.std.proofs.Common.{ℕ, ◌<◌, take}
use Rattle.merge_history.specs.Differences.{IsSentAt}
use Rattle.merge_history.specs.Walks.{IsWalked}
use Rattle.merge_history.proofs.walk.Walk.first_in.Given as goal

-- the events so far were read, and each packet that they took is the one that was sent
abbrev pub invariant-loop-place : goal.invariant-loop-place
invariant-loop-place l =
    IsWalked l.layout l.node (take l.place l.events) l.self × ((j : ℕ) → j < l.place → IsSentAt l.layout l.histories l.node j)
