use Rattle.std.proofs.Common.{length}
use Rattle.live_run.specs.Rotation.{Rotates}
use Rattle.live_run.proofs.crew.Crew.run.Given as goal

-- the turns so far
abbrev pub invariant-loop-turn : goal.invariant-loop-turn
invariant-loop-turn g l = Rotates (length l.logs) l.initial.self.members.items l.turn l.self.members.items
