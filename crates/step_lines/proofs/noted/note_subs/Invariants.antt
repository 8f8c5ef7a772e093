use Rattle.std.proofs.Common.{◌≡◌, map, take}
use Rattle.step_lines.specs.Noted.{noted_sub}
use Rattle.step_lines.proofs.noted.note_subs.Given as goal

-- the subscriptions so far
abbrev pub invariant-loop-place : goal.invariant-loop-place
invariant-loop-place l = l.subs.items ≡ map (noted_sub l.broker.broker) (take l.place l.broker.broker.subs)
