use Rattle.world_laws.proofs.Dispatching.Offered.{offers_between}
use Rattle.world_laws.proofs.subscriptions.law_offers.Goals as goal

pub returns : goal.returns
returns c = record { between = offers_between }
