use Rattle.actors.proofs.Walking.{control_drawn, was_done, was_held, was_wanting}
use Rattle.actors.specs.Turns.{Walks}
use Rattle.actors.proofs.turning.control.Goals as goal

pub returns-then-not-is_here : goal.returns-then-not-is_here
returns-then-not-is_here g c = rw c.if-not-is_here.true (Walks.nothing c.args.draws.now c.args.log.now)

pub returns-in_err-try_where : goal.returns-in_err-try_where
returns-in_err-try_where g c =
    control_drawn c.args.topic c.args.cluster c.if-not-is_here.false c.restart-restarts.ensures.value c.restart-restarts.ensures.rest
    (was_wanting _ (c.try_where.ensures c.restart-restarts.new.self) c.in_err-try_where.was c.from_residual.result c.from_residual.ensures.0)

pub returns-then-branch : goal.returns-then-branch
returns-then-branch g c =
    control_drawn c.args.topic c.args.cluster c.if-not-is_here.false c.restart-restarts.ensures.value c.restart-restarts.ensures.rest
    (was_done _ (c.try_where.ensures c.restart-restarts.new.self) c.in_ok-try_where.was c.if-branch.true)

pub returns : goal.returns
returns g c =
    control_drawn c.args.topic c.args.cluster c.if-not-is_here.false c.restart-restarts.ensures.value c.restart-restarts.ensures.rest
    (was_held (c.try_where.ensures c.restart-restarts.new.self) c.in_ok-try_where.was c.if-branch.false
    (c.try_event.ensures c.restart-restarts.new.self c.restart-restarts.new.self))
