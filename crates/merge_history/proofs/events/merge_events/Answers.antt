use Rattle.merge_history.proofs.Allowed.{few_books, own_if}
use Rattle.merge_history.proofs.events.merge_events.Goals as goal

pub all_events-requires : goal.all_events-requires
all_events-requires c = few_books c.args.scenario.now.setup c.args.logs.now c.clients-known.ensures.known c.requires

pub returns-clause-own : goal.returns-clause-own
returns-clause-own c = λ st clock logs own.
    own_if c.args.scenario.now c.args.logs.now st clock c.all_events.result c.clients-known.ensures.known c.requires c.all_events.ensures.all logs own
