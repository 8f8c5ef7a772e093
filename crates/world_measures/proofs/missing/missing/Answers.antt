use Rattle.std.proofs.Common.{rules}
use Rattle.loss_laws.specs.Lost.{is_missing}
use Rattle.world_measures.proofs.Choosing.{next_named}
use Rattle.world_measures.proofs.Walks.{something}
use Rattle.world_measures.proofs.missing.missing.Goals as goal

pub loop-index-init : goal.loop-index-init
loop-index-init c = record { those = λ told. c.none-named.ensures.named c.args.there.now.site.clusters; few = search rules }

pub unreachable-requires : goal.unreachable-requires
unreachable-requires c = something c.args.broker.now.broker.entries c.loop-index.index (search rules) (search rules)

pub loop-index-preserved : goal.loop-index-preserved
loop-index-preserved c =
    let there = c.args.there.now in let i = c.loop-index.invariant in let es = c.args.broker.now.broker.entries in
    record {
      those = λ told.
          next_named (is_missing c.args.gone.cluster there.site.own there.broker) c.args.gone.with_names there.site.clusters es c.loop-index.index c.in-Some.entry.now
          c.in_ok-is_missing-in-Some.is_missing c.loop-index.named c.add_if.new.self (search rules)
          (rw c.cluster.ensures at (c.in_ok-is_missing-in-Some.ensures there.broker c.loop-index.index told)) (search rules) (i.those told);
      few = search rules;
    }
