use Rattle.state_nodes.proofs.EntryExits.{large_refused, sized_is}
use Rattle.state_nodes.proofs.entries.whole_entry.Goals as goal

pub returns-then-is_within_limit-clause-told : goal.returns-then-is_within_limit-clause-told
returns-then-is_within_limit-clause-told c =
    sized_is c.args.names.now c.args.heading c.args.bytes.now c.args.payload.now c.in-Ok.payload c.args.rest.now c.in_ok-entry.entry c.is_within_limit.result c.requires.read c.in-Ok.ensures c.in_ok-entry.ensures.is c.is_within_limit.ensures c.if-is_within_limit.true

pub returns-else-is_within_limit-clause-told : goal.returns-else-is_within_limit-clause-told
returns-else-is_within_limit-clause-told c =
    large_refused c.args.names.now c.args.heading c.args.bytes.now c.args.payload.now c.in-Ok.payload c.args.rest.now c.in_ok-entry.entry c.is_within_limit.result c.at.result c.requires.read c.in-Ok.ensures c.in_ok-entry.ensures.is c.is_within_limit.ensures c.if-is_within_limit.false c.at.ensures
