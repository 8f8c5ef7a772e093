use Rattle.std.proofs.Common.{◌≡◌, drop}
use Rattle.std.specs.Prelude.{false}
use Rattle.loss_laws.specs.Lost.{asked_from}
use Rattle.world_measures.proofs.told.is_asked.Given as goal

abbrev pub invariant-loop-index : goal.invariant-loop-index
invariant-loop-index l = asked_from l.source l.is_asked (drop l.index l.store.entries) ≡ asked_from l.source false l.store.entries
