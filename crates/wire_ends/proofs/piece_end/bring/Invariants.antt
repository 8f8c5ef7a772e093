use Rattle.std.proofs.Common.{◌≡◌, ◌≤◌}
use Rattle.std.specs.VecDeque.{deque_capacity, deque_len}
use Rattle.wire_ends.specs.Joined.{Grows, with_pieces}
use Rattle.wire_ends.proofs.piece_end.bring.Given as goal

abbrev pub invariant-loop-piece : goal.invariant-loop-piece
invariant-loop-piece l =
    (with_pieces l.gathered l.pieces.items ≡ with_pieces l.initial.gathered l.initial.pieces.items)
    × Grows l.initial.gathered.whole l.gathered.whole
    × (deque_len l.pieces ≤ deque_len l.initial.pieces)
    × (deque_capacity l.pieces ≡ deque_capacity l.initial.pieces)

abbrev pub decreases-loop-piece : goal.decreases-loop-piece
decreases-loop-piece l = deque_len l.pieces
