use Rattle.world_laws.proofs.Published.CountedLaw.{counted_always}
use Rattle.world_laws.proofs.publishing.law_counted.Goals as goal

pub returns : goal.returns
returns c = record { always = counted_always }
