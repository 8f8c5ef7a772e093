use Rattle.std.proofs.Common.{◌≡◌, drop}
use Rattle.geo_base.specs.Topic.{position_from}
use Rattle.topic_store.proofs.list_store.position_of.Given as goal

abbrev pub invariant-loop-ledger : goal.invariant-loop-ledger
invariant-loop-ledger l = position_from l.ledgers 0 l.fn.index ≡ position_from (drop l.ledger l.ledgers) l.ledger l.left
