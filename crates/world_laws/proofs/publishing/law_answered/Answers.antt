use Rattle.world_laws.proofs.Published.AnsweredLaw.{answered_always}
use Rattle.world_laws.proofs.publishing.law_answered.Goals as goal

pub returns : goal.returns
returns c = record { always = answered_always }
