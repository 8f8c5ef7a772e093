use Rattle.client.proofs.KnownNames.{goes_known, reconnects_known}
use Rattle.client.proofs.laws.law_known_names.Goals as goal

pub returns-clause-goes : goal.returns-clause-goes
returns-clause-goes c = goes_known

pub returns-clause-reconnects : goal.returns-clause-reconnects
returns-clause-reconnects c = reconnects_known
