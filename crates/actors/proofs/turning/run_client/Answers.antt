use Rattle.actors.proofs.Walking.{was_done, was_held, was_wanting}
use Rattle.actors.specs.Turns.{Walks}
use Rattle.actors.proofs.turning.run_client.Goals as goal

pub returns-in_default : goal.returns-in_default
returns-in_default g c = λ d. rw c.in_default.is (Walks.nothing d c.args.log.now)

pub returns-in_err-try_where : goal.returns-in_err-try_where
returns-in_err-try_where g c = λ d. rw c.in-Some.is (was_wanting _ (c.try_where.ensures d) c.in_err-try_where.was c.from_residual.result c.from_residual.ensures.0)

pub returns-then-branch : goal.returns-then-branch
returns-then-branch g c = λ d. rw c.in-Some.is (was_done _ (c.try_where.ensures d) c.in_ok-try_where.was c.if-branch.true)

pub returns-in_err-try_event : goal.returns-in_err-try_event
returns-in_err-try_event g c = λ d.
    rw c.in-Some.is (was_held (c.try_where.ensures d) c.in_ok-try_where.was c.if-branch.false
    (was_wanting _ (c.try_event.ensures d d) c.in_err-try_event.was c.from_residual-in_err-try_event.result c.from_residual-in_err-try_event.ensures.0))

pub returns-then-branch-2 : goal.returns-then-branch-2
returns-then-branch-2 g c = λ d.
    rw c.in-Some.is (was_held (c.try_where.ensures d) c.in_ok-try_where.was c.if-branch.false (was_done _ (c.try_event.ensures d d) c.in_ok-try_event.was c.if-branch-2.true))

pub returns : goal.returns
returns g c = λ d.
    rw c.in-Some.is (was_held (c.try_where.ensures d) c.in_ok-try_where.was c.if-branch.false
    (was_held (c.try_event.ensures d d) c.in_ok-try_event.was c.if-branch-2.false (c.try_event-2.ensures d d)))
