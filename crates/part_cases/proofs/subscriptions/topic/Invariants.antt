use Rattle.std.proofs.Common.{◌≡◌, length}
use Rattle.part_cases.proofs.subscriptions.topic.Given as goal

abbrev pub invariant-loop-seq : goal.invariant-loop-seq
invariant-loop-seq l = length l.store.entries ≡ l.seq
