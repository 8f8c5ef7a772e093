use Rattle.world_laws.proofs.Dispatching.Keeping.{kept_between}
use Rattle.world_laws.proofs.subscriptions.law_kept.Goals as goal

pub returns : goal.returns
returns c = record { kept = kept_between }
