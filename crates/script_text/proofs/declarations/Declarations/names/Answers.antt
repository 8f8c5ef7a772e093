use Rattle.std.proofs.Common.{ap, arith, length, ◌∙◌}
use Rattle.script_text.proofs.Tables.{names_made}
use Rattle.script_text.proofs.declarations.Declarations.names.Goals as goal

pub from_tables-requires : goal.from_tables-requires
from_tables-requires c =
    let nodes = c.in-Ok-node_names.ensures in omega (arith, ap length nodes.clusters, nodes.known.few_clusters)

pub returns-in-Ok-node_names-clause-names : goal.returns-in-Ok-node_names-clause-names
returns-in-Ok-node_names-clause-names c =
    let subs = c.in_ok-subs in
    let clients = c.in-Ok in
    let nodes = c.in-Ok-node_names in
    c.from_tables.ensures ∙ names_made c.args.self.now.setup nodes.nodes.clusters nodes.nodes.topics clients.clients.clients clients.clients.members.items subs.subs.items nodes.ensures.clusters nodes.ensures.topics clients.ensures.clients clients.ensures.members subs.ensures
