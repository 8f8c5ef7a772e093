use Rattle.world_laws.proofs.Published.RepeatedLaw.{repeated_always}
use Rattle.world_laws.proofs.publishing.law_repeated.Goals as goal

pub returns : goal.returns
returns c = record { always = repeated_always }
