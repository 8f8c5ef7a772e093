use Rattle.std.proofs.Common.{◌≡◌, drop, take}
use Rattle.std.specs.List.{sum}
use Rattle.geo_base.specs.Topic.{index_from}
use Rattle.topic_store.proofs.list_store.index_of.Given as goal

abbrev pub invariant-loop-ledger : goal.invariant-loop-ledger
invariant-loop-ledger l = record {
  rest : index_from l.ledgers 0 0 l.position ≡ index_from (drop l.ledger l.ledgers) l.ledger l.before l.position;
  before : l.before ≡ sum (take l.ledger l.ledgers);
}
