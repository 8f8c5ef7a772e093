use Rattle.std.proofs.Common.{◌≡◌, ◌≤◌, length, take, vec_len, vec_capacity}
use Rattle.topic_store.proofs.ledger.copies.Given as goal

abbrev pub invariant-loop-entry : goal.invariant-loop-entry
invariant-loop-entry l = record {
  copied : l.copies.items ≡ take l.entry-index l.entries;
  many : vec_len l.copies ≡ l.entry-index;
  room : length l.entries ≤ vec_capacity l.copies;
}
