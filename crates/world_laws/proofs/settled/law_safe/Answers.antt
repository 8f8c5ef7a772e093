use Rattle.world_laws.proofs.Telling.ToldLaws.{safe_always}
use Rattle.world_laws.proofs.settled.law_safe.Goals as goal

pub returns : goal.returns
returns c = record { safe = safe_always }
