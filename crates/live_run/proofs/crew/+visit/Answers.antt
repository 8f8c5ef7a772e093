use Rattle.std.proofs.Common.{length}
use Rattle.live_run.proofs.Turning.{visit_ends, visit_goes_on, visit_nowhere, visit_wants}
use Rattle.live_run.proofs.crew.+visit.Goals as goal

pub returns-in_default : goal.returns-in_default
returns-in_default g n c = visit_nowhere _ _ c.in_default.ensures.cases

pub returns-in_err-visit_one : goal.returns-in_err-visit_one
returns-in_err-visit_one g n c = visit_wants (length c.args.logs.now) (length c.in-Some.rest.now) c.in-Some.ensures.cases.1 c.visit_one.ensures c.in_err-visit_one.was c.from_residual.result c.from_residual.ensures.0

pub returns-then-branch : goal.returns-then-branch
returns-then-branch g n c = visit_ends (length c.args.logs.now) (length c.in-Some.rest.now) c.in-Some.ensures.cases.1 c.visit_one.ensures c.in_ok-visit_one.was c.if-branch.true

pub returns : goal.returns
returns g n c = visit_goes_on (length c.args.logs.now) (length c.in-Some.rest.now) c.in-Some.ensures.cases.1 c.visit_one.ensures c.in_ok-visit_one.was c.if-branch.false c.visit.ensures
