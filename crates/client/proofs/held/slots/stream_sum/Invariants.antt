use Rattle.std.proofs.Common.{◌≡◌, drop}
use Rattle.client.specs.HeldSlots.{stream_sum}
use Rattle.client.proofs.held.slots.stream_sum.Given as goal

-- the sum so far and the bytes that are left make the whole
abbrev pub invariant-loop-byte : goal.invariant-loop-byte
invariant-loop-byte l = stream_sum l.sum (drop l.byte-index l.byte-items) ≡ stream_sum l.ident.origin l.ident.producer
