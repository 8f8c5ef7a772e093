use Rattle.state_nodes.proofs.ClientKnown.{client_known}
use Rattle.state_nodes.proofs.client_laws.client_is_known.Goals as goal

pub returns : goal.returns
returns c = client_known
