use Rattle.std.proofs.Common.{◌≡◌, ◌≤◌, length, take, vec_len, vec_capacity}
use Rattle.topic_store.specs.Firsts.{lengths_of, AreFirsts}
use Rattle.topic_store.proofs.firsts.firsts_of.Given as goal

abbrev pub invariant-loop-ledger : goal.invariant-loop-ledger
invariant-loop-ledger l = record {
  begin : AreFirsts l.firsts.items l.end;
  are : lengths_of l.firsts.items l.end ≡ take l.ledger l.lengths;
  many : vec_len l.firsts ≡ l.ledger;
  room : length l.lengths ≤ vec_capacity l.firsts;
}
