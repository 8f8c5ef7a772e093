use Rattle.world_laws.proofs.OnceInOrder.Once.{once_always}
use Rattle.world_laws.proofs.topics.law_once.Goals as goal

pub returns : goal.returns
returns c = record { always = once_always }
