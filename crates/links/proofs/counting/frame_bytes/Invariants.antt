use Rattle.std.proofs.Common.{◌≡◌, ◌+◌}
use Rattle.std.specs.Prelude.{drop}
use Rattle.links.specs.Queues.{bytes_of}
use Rattle.links.proofs.counting.frame_bytes.Given as goal

abbrev pub invariant-loop-place : goal.invariant-loop-place
invariant-loop-place l = l.bytes + bytes_of (drop l.place l.sent.items) ≡ bytes_of l.sent.items
