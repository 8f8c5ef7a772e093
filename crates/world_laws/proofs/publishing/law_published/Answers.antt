use Rattle.world_laws.proofs.Published.PublishedLaw.{published_always}
use Rattle.world_laws.proofs.publishing.law_published.Goals as goal

pub returns : goal.returns
returns c = record { always = published_always }
