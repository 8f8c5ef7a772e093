use Rattle.consumer_laws.proofs.Fences.Law.{anew_holds}
use Rattle.consumer_laws.proofs.anew.law_anew.Goals as goal

pub returns : goal.returns
returns c = anew_holds
