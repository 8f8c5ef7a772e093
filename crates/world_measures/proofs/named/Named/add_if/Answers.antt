use Rattle.std.proofs.Common.{rules}
use Rattle.world_measures.proofs.Choosing.{named_more}
use Rattle.world_measures.proofs.named.Named.add_if.Goals as goal

pub returns-in_ok-add_name-clause-ok : goal.returns-in_ok-add_name-clause-ok
returns-in_ok-add_name-clause-ok c = λ names es h.
    named_more c.args.clusters.now c.args.is_chosen c.args.entry.now _ _ (search rules) (search rules) (search rules) (search rules) (search rules) names es h
