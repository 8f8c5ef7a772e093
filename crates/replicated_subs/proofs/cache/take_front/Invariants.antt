use Rattle.std.proofs.Common.{◌≡◌, ◌+◌, drop}
use Rattle.std.specs.VecDeque.{deque_capacity, deque_len}
use Rattle.replicated_subs.specs.Counting.{cut_of_last}
use Rattle.replicated_subs.proofs.Passing.{cut_of}
use Rattle.replicated_subs.proofs.cache.take_front.Given as goal

-- the first ones are taken out, and the last of them is kept
abbrev pub invariant-loop-place : goal.invariant-loop-place
invariant-loop-place l = record {
  left : l.items.items ≡ drop l._place l.fn.items.items;
  last : cut_of l.last ≡ cut_of_last l._place l.fn.items.items;
  len : deque_len l.items + l._place ≡ deque_len l.fn.items;
  capacity : deque_capacity l.items ≡ deque_capacity l.fn.items;
}
