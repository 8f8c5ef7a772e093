use Rattle.std.proofs.Common.{◌≡◌, ◌≤◌, length}
use Rattle.geo_base.specs.Topic.{next_position}
use Rattle.tiered_storage.specs.Kept.{kept_in}
use Rattle.tiered_storage.specs.Tiered.{Holds, all_here}
use Rattle.report_lines.specs.Tiers.{first_away}
use Rattle.report_lines.proofs.tier_lines.moved.Given as goal

-- the ledgers before this one moved
abbrev pub invariant-loop-ledger : goal.invariant-loop-ledger
invariant-loop-ledger g l = record {
  holds : Holds l.clusters kept_in g.entries l.topic;
  unclosed : l.topic.unclosed ≡ (next_position (g.S.EntryStore.per_ledger l.store) (g.S.EntryStore.ledgers l.store)).ledger;
  parts : l.topic.parts ≡ first_away l.ledger (all_here (g.S.EntryStore.ledgers l.store) g.entries);
  few : l.ledger ≤ length (g.S.EntryStore.ledgers l.store);
}

abbrev pub ghost-move_ledger : goal.ghost-move_ledger
ghost-move_ledger g a = g.entries
