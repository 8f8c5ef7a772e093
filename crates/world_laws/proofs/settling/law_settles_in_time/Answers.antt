use Rattle.world_laws.proofs.Budget.InTime.{always_in_time}
use Rattle.world_laws.proofs.settling.law_settles_in_time.Goals as goal

pub returns : goal.returns
returns c = record { between = always_in_time }
