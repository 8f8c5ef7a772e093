-- What the laws of publishing and of pairs of clusters say of one run: of a script's setup and steps.
use Rattle.std.specs.Prelude.{List}
use Rattle.geo_base.specs.declared.event.Step.{Step}
use Rattle.geo_base.specs.Laws.{AlwaysIn, IsPrefix, IsReceived}
use Rattle.geo_base.specs.Scripted.{IsScripted}
use Rattle.geo_base.specs.Setup.{Setup}
use Rattle.world_laws.specs.Publishing.{AllAnswered, FewReceipts, IsChain, RepeatsStand}
use Rattle.world_laws.specs.Residency.{IsMarked, IsResident}

-- always in it: each cluster has of each other one a beginning of what that has for it, what a replicator counts as over there stands there,
-- what stands or goes anywhere is meant for that place; and, of a script, what is published, receipted, given and got is one chain, each
-- publish is answered for, a client counts no more receipts than it has entries, and where ids rise a duplicate's receipt is of what stands
pub record IsCarriedIn (s : Setup) (es : List Step) : Type 0 where
  pub prefix : AlwaysIn s es (λ w settled. IsPrefix s w)
  pub receipt : AlwaysIn s es (λ w settled. IsReceived s w)
  pub marked : AlwaysIn s es (λ w settled. IsMarked s w)
  pub resident : AlwaysIn s es (λ w settled. IsResident s w)
  pub chain : IsScripted s → AlwaysIn s es (λ w settled. IsChain s w)
  pub answered : IsScripted s → AlwaysIn s es (λ w settled. AllAnswered s w)
  pub counted : IsScripted s → AlwaysIn s es (λ w settled. FewReceipts s w)
  pub repeated : IsScripted s → AlwaysIn s es (λ w settled. RepeatsStand s w)

abbrev pub LawInRun : Type 0
LawInRun = (s : Setup) (es : List Step) → IsCarriedIn s es
