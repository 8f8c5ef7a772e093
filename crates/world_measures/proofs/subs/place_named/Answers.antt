use Rattle.std.proofs.Common.{rules, ◌∙◌}
use Rattle.world_measures.proofs.Walks.{named_here, named_later}
use Rattle.world_measures.proofs.subs.place_named.Goals as goal

pub returns-then-eq : goal.returns-then-eq
returns-then-eq c =
    (search rules, c.loop-place.invariant ∙ named_here c.args.broker.now.broker.subs c.args.name.now c.loop-place.place c.in-Some.sub.now.sub (search rules) (search rules))

pub loop-place-preserved : goal.loop-place-preserved
loop-place-preserved c =
    c.loop-place.invariant ∙ named_later c.args.broker.now.broker.subs c.args.name.now c.loop-place.place c.in-Some.sub.now.sub (search rules) (search rules)
