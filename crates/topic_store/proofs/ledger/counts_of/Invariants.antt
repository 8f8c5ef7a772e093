use Rattle.std.proofs.Common.{◌≡◌, ◌≤◌, length, take, vec_len, vec_capacity}
use Rattle.topic_store.specs.Messages.{CountMessages}
use Rattle.topic_store.proofs.ledger.counts_of.Given as goal

abbrev pub invariant-loop-entry : goal.invariant-loop-entry
invariant-loop-entry l = record {
  counts : CountMessages (take l.entry-index l.entries) l.counts.items;
  many : vec_len l.counts ≡ l.entry-index;
  room : length l.entries ≤ vec_capacity l.counts;
}
