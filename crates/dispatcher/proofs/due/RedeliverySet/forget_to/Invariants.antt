use Rattle.std.proofs.Common.{◌≡◌, drop}
use Rattle.std.specs.VecDeque.{deque_capacity}
use Rattle.dispatcher.proofs.due.RedeliverySet.forget_to.Given as goal

-- so many of the first are gone
abbrev pub invariant-loop-place : goal.invariant-loop-place
invariant-loop-place l = record {
  rest : l.self-inside.items.items ≡ drop l._place l.initial.self-inside.items.items;
  capacity : deque_capacity l.self-inside.items ≡ deque_capacity l.initial.self-inside.items;
}
