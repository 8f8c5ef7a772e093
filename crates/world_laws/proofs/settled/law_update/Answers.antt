use Rattle.world_laws.proofs.Telling.ToldLaws.{update_always}
use Rattle.world_laws.proofs.settled.law_update.Goals as goal

pub returns : goal.returns
returns c = record { always = update_always }
