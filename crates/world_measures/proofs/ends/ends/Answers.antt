use Rattle.std.proofs.Common.{rules}
use Rattle.world_measures.specs.Ends.{is_end}
use Rattle.world_measures.proofs.Choosing.{all_named, next_named}
use Rattle.world_measures.proofs.Walks.{something}
use Rattle.world_measures.proofs.ends.ends.Goals as goal

pub loop-index-init : goal.loop-index-init
loop-index-init c = record { those = λ s w t told. c.none-named.ensures.named c.args.broker.now.site.clusters; few = search rules }

pub unreachable-requires : goal.unreachable-requires
unreachable-requires c = something c.args.broker.now.broker.entries c.loop-index.index (search rules) (search rules)

pub loop-index-preserved : goal.loop-index-preserved
loop-index-preserved c =
    let i = c.loop-index.invariant in let b = c.args.broker.now in
    record {
      those = λ s w t told.
          next_named (is_end s w t c.args.gone.cluster c.args.end) c.args.gone.with_names b.site.clusters b.broker.entries c.loop-index.index c.in-Some.entry.now
          c.in_ok-is_end-in-Some.is_end c.loop-index.named c.add_if.new.self (search rules) (c.in_ok-is_end-in-Some.ensures s w t c.loop-index.index told) (search rules)
          (i.those s w t told);
      few = search rules;
    }

pub returns : goal.returns
returns c = λ s w t told.
    let b = c.args.broker.now in
    all_named (is_end s w t c.args.gone.cluster c.args.end) c.args.gone.with_names b.site.clusters b.broker.entries c.loop-index.index c.loop-index.named (search rules)
    (c.loop-index.invariant.those s w t told)
