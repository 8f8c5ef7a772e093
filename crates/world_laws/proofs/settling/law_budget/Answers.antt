use Rattle.world_laws.proofs.ComesOver.Complete.{budget_always}
use Rattle.world_laws.proofs.settling.law_budget.Goals as goal

pub returns : goal.returns
returns c = record { budget = budget_always }
