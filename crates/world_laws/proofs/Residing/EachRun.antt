-- Always, and so always in each run.
use Rattle.geo_base.specs.Laws.{IsPrefix, IsReceived}
use Rattle.world_laws.specs.InRun.{LawInRun}
use Rattle.world_laws.specs.Publishing.{AllAnswered, FewReceipts, IsChain, RepeatsStand}
use Rattle.world_laws.specs.Residency.{IsMarked, IsResident}
use Rattle.world_laws.proofs.Induction.Runs.{always_in}
use Rattle.world_laws.proofs.Published.AnsweredLaw.{answered_always}
use Rattle.world_laws.proofs.Published.CountedLaw.{counted_always}
use Rattle.world_laws.proofs.Published.PublishedLaw.{published_always}
use Rattle.world_laws.proofs.Published.RepeatedLaw.{repeated_always}
use Rattle.world_laws.proofs.Replicating.Pairs.{prefix_always, receipt_always}
use Rattle.world_laws.proofs.Residing.Marked.{marked_always}
use Rattle.world_laws.proofs.Residing.Resident.{resident_always}

pub in_each_run : LawInRun
in_each_run s es = record {
  prefix = always_in s es (λ w settled. IsPrefix s w) (prefix_always s);
  receipt = always_in s es (λ w settled. IsReceived s w) (receipt_always s);
  marked = always_in s es (λ w settled. IsMarked s w) (marked_always s);
  resident = always_in s es (λ w settled. IsResident s w) (resident_always s);
  chain = λ scripted. always_in s es (λ w settled. IsChain s w) (published_always s scripted);
  answered = λ scripted. always_in s es (λ w settled. AllAnswered s w) (answered_always s scripted);
  counted = λ scripted. always_in s es (λ w settled. FewReceipts s w) (counted_always s scripted);
  repeated = λ scripted. always_in s es (λ w settled. RepeatsStand s w) (repeated_always s scripted);
}
