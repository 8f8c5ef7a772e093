use Rattle.std.proofs.Common.{rules, ◌<◌, ◌==◌, not, length, ℕ, subst}
use Rattle.std.specs.Prelude.{◌&&◌}
use Rattle.geo_base.specs.World.{topic_at}
use Rattle.loss_laws.specs.Lost.{stands}
use Rattle.world_measures.proofs.Walks.{any_here, any_later, any_none}
use Rattle.world_measures.proofs.ends.stands_elsewhere.Goals as goal

pub returns-then-stands : goal.returns-then-stands
returns-then-stands c = λ s w t told.
    let i = c.loop-cluster.cluster in let lt : i < length c.args.tables.now = search rules in
    any_here (λ y. not (c.args.source == y) && stands (topic_at s w t y).entries c.args.ident.now) i (length c.args.tables.now) c.in_ok-stands.stands lt
    (c.in_ok-stands.ensures (topic_at s w t i).entries (told.each i (subst (λ (n : ℕ). i < n) told.many lt))) (search rules) (c.loop-cluster.invariant s w t told)

pub loop-cluster-preserved : goal.loop-cluster-preserved
loop-cluster-preserved c = λ s w t told.
    let i = c.loop-cluster.cluster in let lt : i < length c.args.tables.now = search rules in
    any_later (λ y. not (c.args.source == y) && stands (topic_at s w t y).entries c.args.ident.now) i (length c.args.tables.now) c.in_ok-stands.stands lt
    (c.in_ok-stands.ensures (topic_at s w t i).entries (told.each i (subst (λ (n : ℕ). i < n) told.many lt))) (search rules) (c.loop-cluster.invariant s w t told)

pub returns : goal.returns
returns c = λ s w t told.
    any_none (λ y. not (c.args.source == y) && stands (topic_at s w t y).entries c.args.ident.now) c.loop-cluster.cluster (length c.args.tables.now) (search rules) (c.loop-cluster.invariant s w t told)
