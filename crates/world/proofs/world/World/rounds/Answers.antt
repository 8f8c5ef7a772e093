use Rattle.std.proofs.Common.{Bool, Ok, Result, ap, ◌∙◌}
use Rattle.std.proofs.lemmas.Result.{err_from_is_err_and}
use Rattle.world.specs.declared.fault.RunFault.{RunFault}
use Rattle.world.proofs.Observing.{rounds_done, rounds_past}
use Rattle.world.proofs.world.World.rounds.Goals as goal

pub returns-in_err-round-clause-ends : goal.returns-in_err-round-clause-ends
returns-in_err-round-clause-ends g c =
    let p = err_from_is_err_and c.from_residual.result c.from_residual.ensures.1 in
    λ r all h. rw (p.1, p.2) (rounds_past g.O.Observer.sight c.args.scenario.now.setup c.round.new.self (g.O.Observer.seen c.round.new.observer) r all c.round.result c.in_err-round.field-0.0 c.in_err-round.was
    (c.round.ensures.sees r all (c.loop.invariant.sees r all h)))

abbrev answered : Bool → Result Bool RunFault
answered b = Ok b

pub returns-clause-ends : goal.returns-clause-ends
returns-clause-ends g c =
    λ r all h. rounds_done g.O.Observer.sight c.args.scenario.now.setup c.round.new.self (g.O.Observer.seen c.round.new.observer) r all c.round.result _ (c.in_ok-round.was ∙ ap answered c.if-branch.false)
    (c.round.ensures.sees r all (c.loop.invariant.sees r all h))
