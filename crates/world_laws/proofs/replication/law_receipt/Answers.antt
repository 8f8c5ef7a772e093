use Rattle.world_laws.proofs.Replicating.Pairs.{receipt_always}
use Rattle.world_laws.proofs.replication.law_receipt.Goals as goal

pub returns : goal.returns
returns c = record { always = receipt_always }
