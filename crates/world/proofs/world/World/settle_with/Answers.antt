use Rattle.std.proofs.Common.{ap, ◌∙◌}
use Rattle.std.proofs.lemmas.Result.{err_from_is_err_and}
use Rattle.geo_base.specs.Run.{all_limits, settled_world}
use Rattle.world.specs.Observing.{settle_seen}
use Rattle.world.specs.Runs.{at_world}
use Rattle.world.proofs.Observing.{ends_come, resets_past, rounds_begin, settled_reached, wants_come}
use Rattle.world.proofs.SettlingKnown.{resets_known}
use Rattle.world.proofs.world.World.settle_with.Goals as goal

pub settle_each-requires-clause-each : goal.settle_each-requires-clause-each
settle_each-requires-clause-each g c = resets_known c.args.scenario.now.setup c.as_slice.result.now (c.as_slice.ensures ∙ c.in_ok-events.ensures.resets)

pub returns-in_err-settle_each-clause-comes : goal.returns-in_err-settle_each-clause-comes
returns-in_err-settle_each-clause-comes g c =
    let p = err_from_is_err_and c.from_residual-in_err-settle_each.result c.from_residual-in_err-settle_each.ensures.1 in let seen = g.O.Observer.seen in
    λ w reached stands. rw (p.1, p.2) (resets_past g.O.Observer.sight c.args.scenario.now.setup c.args.self.now c.settle_each.new.self w (seen c.settles.new.self) (seen c.settle_each.new.observer)
    c.as_slice.result.now c.settle_each.result c.in_err-settle_each.field-0.0
    (c.as_slice.ensures ∙ c.in_ok-events.ensures.resets) c.in_err-settle_each.was c.settle_each.ensures.sees reached stands)

pub returns-in_err-rounds-clause-comes : goal.returns-in_err-rounds-clause-comes
returns-in_err-rounds-clause-comes g c =
    let s = c.args.scenario.now.setup in let seen = g.O.Observer.seen in let o = g.O.Observer.sight in
    let p = err_from_is_err_and c.from_residual-in_err-rounds.result c.from_residual-in_err-rounds.ensures.1 in
    λ w reached stands.
    let t = seen c.args.observer.now in let all = settle_seen o all_limits s (at_world w) t in
    rw (p.1, p.2) (ends_come s c.rounds.new.self (seen c.rounds.new.observer) (settled_world all_limits s (at_world w)) all _
    (c.in_err-rounds.ensures.ends (settled_world all_limits s (at_world w)) all
    (rounds_begin o s c.args.self.now c.settle_each.new.self w t (seen c.settles.new.self) (seen c.settle_each.new.observer) c.as_slice.result.now c.settle_each.result c.in_ok-settle_each.field-0
    (c.as_slice.ensures ∙ c.in_ok-events.ensures.resets) c.in_ok-settle_each.was (c.in_ok-settles.ensures.seen w reached stands) c.settle_each.ensures.sees c.settle_each.ensures.later reached stands)))

pub returns-clause-comes : goal.returns-clause-comes
returns-clause-comes g c =
    let s = c.args.scenario.now.setup in let seen = g.O.Observer.seen in let o = g.O.Observer.sight in
    λ w reached stands.
    let t = seen c.args.observer.now in let all = settle_seen o all_limits s (at_world w) t in
    ends_come s c.rounds.new.self (seen c.rounds.new.observer) (settled_world all_limits s (at_world w)) all _
    (c.in_ok-rounds.ensures.ends (settled_world all_limits s (at_world w)) all
    (rounds_begin o s c.args.self.now c.settle_each.new.self w t (seen c.settles.new.self) (seen c.settle_each.new.observer) c.as_slice.result.now c.settle_each.result c.in_ok-settle_each.field-0
    (c.as_slice.ensures ∙ c.in_ok-events.ensures.resets) c.in_ok-settle_each.was (c.in_ok-settles.ensures.seen w reached stands) c.settle_each.ensures.sees c.settle_each.ensures.later reached stands))

pub returns-clause-seen : goal.returns-clause-seen
returns-clause-seen g c =
    let s = c.args.scenario.now.setup in let seen = g.O.Observer.seen in let o = g.O.Observer.sight in
    λ w reached stands.
    let t = seen c.args.observer.now in let r = settled_world all_limits s (at_world w) in let all = settle_seen o all_limits s (at_world w) t in
    let ended =
    (c.in_ok-rounds.ensures.ends r all
    (rounds_begin o s c.args.self.now c.settle_each.new.self w t (seen c.settles.new.self) (seen c.settle_each.new.observer) c.as_slice.result.now c.settle_each.result c.in_ok-settle_each.field-0
    (c.as_slice.ensures ∙ c.in_ok-events.ensures.resets) c.in_ok-settle_each.was (c.in_ok-settles.ensures.seen w reached stands) c.settle_each.ensures.sees c.settle_each.ensures.later reached stands)).done in
    c.in_ok-settled.ensures.seen r.world (settled_reached s w reached) ended.stands ∙ ap (λ (x : g.O.Observer.Seen). o.settled s r.world x) ended.seen

pub returns-in_err-settles-clause-comes : goal.returns-in_err-settles-clause-comes
returns-in_err-settles-clause-comes g c = λ w reached stands.
    let p = err_from_is_err_and c.from_residual-in_err-settles.result c.from_residual-in_err-settles.ensures.1 in
    rw (p.1, p.2) (wants_come c.args.scenario.now.setup c.args.self.now _)

pub returns-in_err-settled-clause-comes : goal.returns-in_err-settled-clause-comes
returns-in_err-settled-clause-comes g c = λ w reached stands.
    let p = err_from_is_err_and c.from_residual-in_err-settled.result c.from_residual-in_err-settled.ensures.1 in
    rw (p.1, p.2) (wants_come c.args.scenario.now.setup c.rounds.new.self _)
