use Rattle.actors.proofs.Walking.{read_tried, receipt_tried, session_tried, was_done, was_held, was_wanting}
use Rattle.actors.specs.Turns.{Walks}
use Rattle.actors.proofs.turning.send.Goals as goal

pub returns-in_default : goal.returns-in_default
returns-in_default g c = rw c.in_default.is (Walks.nothing c.args.draws.now c.args.log.now)

pub returns-in_err-try_where : goal.returns-in_err-try_where
returns-in_err-try_where g c =
    rw c.in-Some.is (was_wanting _ (session_tried c.in-Some.is_due c.reset.ensures (c.try_where.ensures c.args.draws.now)) c.in_err-try_where.was c.from_residual.result c.from_residual.ensures.0)

pub returns-then-branch : goal.returns-then-branch
returns-then-branch g c = rw c.in-Some.is (was_done _ (session_tried c.in-Some.is_due c.reset.ensures (c.try_where.ensures c.args.draws.now)) c.in_ok-try_where.was c.if-branch.true)

pub returns-in_err-try_event : goal.returns-in_err-try_event
returns-in_err-try_event g c =
    rw c.in-Some.is (was_held (session_tried c.in-Some.is_due c.reset.ensures (c.try_where.ensures c.args.draws.now)) c.in_ok-try_where.was c.if-branch.false
    (was_wanting _ (receipt_tried c.receipt.ensures c.fate-fate.ensures.value c.fate-fate.ensures.rest (c.try_event.ensures c.args.draws.now c.fate-fate.new.self))
    c.in_err-try_event.was c.from_residual-in_err-try_event.result c.from_residual-in_err-try_event.ensures.0))

pub returns-then-branch-2 : goal.returns-then-branch-2
returns-then-branch-2 g c =
    rw c.in-Some.is (was_held (session_tried c.in-Some.is_due c.reset.ensures (c.try_where.ensures c.args.draws.now)) c.in_ok-try_where.was c.if-branch.false
    (was_done _ (receipt_tried c.receipt.ensures c.fate-fate.ensures.value c.fate-fate.ensures.rest (c.try_event.ensures c.args.draws.now c.fate-fate.new.self))
    c.in_ok-try_event.was c.if-branch-2.true))

pub returns : goal.returns
returns g c =
    rw c.in-Some.is (was_held (session_tried c.in-Some.is_due c.reset.ensures (c.try_where.ensures c.args.draws.now)) c.in_ok-try_where.was c.if-branch.false
    (was_held (receipt_tried c.receipt.ensures c.fate-fate.ensures.value c.fate-fate.ensures.rest (c.try_event.ensures c.args.draws.now c.fate-fate.new.self))
    c.in_ok-try_event.was c.if-branch-2.false (read_tried c.args.draws.now c.read.ensures c.fate-fate.ensures.rest (c.try_event-2.ensures c.fate-fate.new.self c.fate-fate.new.self))))
