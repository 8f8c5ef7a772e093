use Rattle.std.proofs.Common.{rules}
use Rattle.loss_laws.specs.Lost.{comes_again}
use Rattle.world_measures.proofs.Choosing.{all_named, next_named}
use Rattle.world_measures.proofs.Walks.{something}
use Rattle.world_measures.proofs.subs.again.Goals as goal

pub loop-index-init : goal.loop-index-init
loop-index-init c = record { those = λ b told. c.none-named.ensures.named c.args.there.now.site.clusters; few = search rules }

pub unreachable-requires : goal.unreachable-requires
unreachable-requires c = something c.args.there.now.broker.entries c.loop-index.index (search rules) (search rules)

pub loop-index-preserved : goal.loop-index-preserved
loop-index-preserved c =
    let there = c.args.there.now in let i = c.loop-index.invariant in let es = there.broker.entries in
    record {
      those = λ b told.
          next_named (comes_again b c.args.sub.now.sub there.broker) c.args.gone.with_names there.site.clusters es c.loop-index.index c.in-Some.entry.now
          c.in_ok-is_again-in-Some.is_again c.loop-index.named c.add_if.new.self (search rules) (search rules) (search rules) (i.those b told);
      few = search rules;
    }

pub returns : goal.returns
returns c = λ b told.
    let there = c.args.there.now in
    all_named (comes_again b c.args.sub.now.sub there.broker) c.args.gone.with_names there.site.clusters there.broker.entries c.loop-index.index c.loop-index.named (search rules)
    (c.loop-index.invariant.those b told)
