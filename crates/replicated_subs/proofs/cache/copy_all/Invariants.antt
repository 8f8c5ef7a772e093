use Rattle.std.proofs.Common.{◌≡◌, ◌+◌, ◌++◌, take}
use Rattle.std.specs.VecDeque.{deque_capacity, deque_len}
use Rattle.replicated_subs.proofs.cache.copy_all.Given as goal

-- the first ones are copied
abbrev pub invariant-loop-place : goal.invariant-loop-place
invariant-loop-place l = record {
  copied : l.copies.items ≡ l.fn.copies.items ++ take l.place l.items.items;
  len : deque_len l.copies ≡ deque_len l.fn.copies + l.place;
  capacity : deque_capacity l.copies ≡ deque_capacity l.fn.copies;
}
