use Rattle.state_nodes.specs.Entries.{something}
use Rattle.state_nodes.proofs.heading.said.Goals as goal

pub returns-in-Ok : goal.returns-in-Ok
returns-in-Ok c = something c.in-Ok.meta c.in-Ok.ensures.found
