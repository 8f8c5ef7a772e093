use Rattle.links.proofs.Simulated.{client_stands, got_stands}
use Rattle.links.proofs.laws.law_client.Goals as goal

pub returns-clause-goes : goal.returns-clause-goes
returns-clause-goes c = client_stands

pub returns-clause-gets : goal.returns-clause-gets
returns-clause-gets c = got_stands
