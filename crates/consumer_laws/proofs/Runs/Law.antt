-- The law, from its parts.
use Rattle.world_laws.proofs.Snapshotting.Asked.{named}
use Rattle.consumer_laws.specs.Laws.{LawHanded}
use Rattle.consumer_laws.proofs.Runs.Got.{all_got}
use Rattle.consumer_laws.proofs.Runs.Handed.{first_between, handed_always, order_between}

pub law_holds : LawHanded
law_holds = record {
  handed = λ s scripted. handed_always s scripted;
  in_order = λ s scripted. order_between s scripted;
  first = λ s scripted. first_between s scripted;
  got = λ s scripted all l es at none short. all_got s (named s scripted) all l es at none short;
}
