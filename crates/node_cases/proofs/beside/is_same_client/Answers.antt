use Rattle.world.proofs.ClientEvents.{client_below}
use Rattle.node_cases.proofs.beside.is_same_client.Goals as goal

-- src/beside.rt: the world has as many clients as the setup declares
pub client-requires : goal.client-requires
client-requires c = client_below c.args.scenario.now.setup c.args.world.now c.args.client c.requires.at c.requires.client
