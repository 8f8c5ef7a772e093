use Rattle.std.proofs.Common.{◌≡◌, ◌≤◌, length, take, vec_len, vec_capacity}
use Rattle.topic_store.specs.Firsts.{lengths_of}
use Rattle.topic_store.proofs.firsts.lengths_of.Given as goal

abbrev pub invariant-loop-ledger : goal.invariant-loop-ledger
invariant-loop-ledger l = record {
  are : l.lengths.items ≡ take l.ledger (lengths_of l.firsts l.len);
  many : vec_len l.lengths ≡ l.ledger;
  room : length l.firsts ≤ vec_capacity l.lengths;
}
