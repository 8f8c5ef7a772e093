use Rattle.world_laws.proofs.Replicating.Pairs.{prefix_always}
use Rattle.world_laws.proofs.replication.law_prefix.Goals as goal

pub returns : goal.returns
returns c = record { always = prefix_always }
