use Rattle.std.proofs.Common.{refl}
use Rattle.geo_top.proofs.SteppedRuns.{begins_telling, ran_within, told_run}
use Rattle.step_lines.proofs.Following.{begins_known}
use Rattle.geo_top.proofs.stepped.tell.Goals as goal

pub run_with-requires-clause-knows : goal.run_with-requires-clause-knows
run_with-requires-clause-knows c =
    record {
      telling = begins_telling c.args.scenario.now.setup _ c.in_ok-names.names _ c.in_ok-head.head c.args.said c.behind-telling.ensures.seen c.behind-telling.ensures.names c.in_ok-names.ensures.names c.requires.rises;
      backlogs = begins_known _ _ c.behind-telling.ensures.backlogs;
    }

pub returns-clause-told : goal.returns-clause-told
returns-clause-told c =
    told_run c.args.scenario.now c.args.world.now c.run_with.new.self c.args.steps.now c.args.said c.in_ok-head.head c.add_head.new.lines _ _ _ c.in_ok-run_with.field-0
    c.requires.many c.in_ok-head.ensures c.behind-telling.ensures.seen c.in_ok-run_with.ensures.seen c.in_ok-run_with.ensures.comes refl (rw c.into_text-lines.ensures at c.in_ok-add_head.ensures.ok)

pub returns-clause-within : goal.returns-clause-within
returns-clause-within c =
    ran_within c.args.scenario.now c.args.world.now c.run_with.new.self c.args.steps.now _ c.in_ok-run_with.field-0 c.in_ok-run_with.ensures.comes refl
