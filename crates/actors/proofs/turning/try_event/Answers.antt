use Rattle.actors.proofs.Walking.{one}
use Rattle.actors.specs.Tries.{tried}
use Rattle.actors.proofs.turning.try_event.Goals as goal

pub returns : goal.returns
returns g c = λ d after.
    one g.E.End.sent g.E.End.taken g.E.End.shown g.E.End.free g.E.End.looks g.E.End.fits (tried after c.args.event.now) d c.args.log.now c.act.new.self c.act.result
    c.act.ensures.acted c.act.ensures.held c.act.ensures.same c.act.ensures.err
