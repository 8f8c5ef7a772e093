use Rattle.dispatcher.proofs.Keeping.{keys_stay}
use Rattle.dispatcher.proofs.law.law_keys.Goals as goal

pub returns : goal.returns
returns c = keys_stay
