use Rattle.std.proofs.Common.{◌≡◌, ◌≤◌, drop}
use Rattle.dispatcher.specs.Slots.{outs_of}
use Rattle.dispatcher.proofs.unacked.UnackedTable.forget_to.Given as goal

-- so many of the first are gone
abbrev pub invariant-loop-place : goal.invariant-loop-place
invariant-loop-place l = record {
  rest : l.self.slots ≡ drop l._place l.initial.self.slots;
  items : l.self.items ≡ outs_of l.self.slots;
  spare : l.initial.self.spare ≤ l.self.spare;
}
