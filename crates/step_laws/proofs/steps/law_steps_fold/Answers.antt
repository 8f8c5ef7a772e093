use Rattle.step_laws.proofs.Law.{fold_law}
use Rattle.step_laws.proofs.steps.law_steps_fold.Goals as goal

pub returns : goal.returns
returns c = fold_law
