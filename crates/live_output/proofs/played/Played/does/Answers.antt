use Rattle.std.proofs.Common.{arith, refl}
use Rattle.script_text.specs.Scenario.{IsStep}
use Rattle.live_output.proofs.OneMore.{known_step, one_more, one_more_fits, one_more_exceeds, still_played}
use Rattle.live_output.proofs.played.Played.does.Goals as goal

-- it is done
pub returns-in_ok-push-in-Ok-clause-done : goal.returns-in_ok-push-in-Ok-clause-done
returns-in_ok-push-in-Ok-clause-done c = λ same. (
  one_more_fits c.args.scenario.now c.args.self.now.steps c.args.self.now.world c.step.new.self c.args.step c.step.result c.in-Ok.field-0 c.requires.at
      c.step.ensures.comes c.in-Ok.is,
  c.in_ok-push-in-Ok.ensures.ok,
)

pub returns-in_ok-push-in-Ok-clause-at : goal.returns-in_ok-push-in-Ok-clause-at
returns-in_ok-push-in-Ok-clause-at c =
    let event = c.requires.event in
    let known : IsStep c.args.scenario.now.setup c.args.step = grind (arith, known_step, event) in
    one_more c.args.scenario.now c.args.self.now.steps c.push.new.self c.args.self.now.world c.step.new.self c.args.step c.step.result c.in-Ok.field-0
    c.requires.at c.step.ensures.comes c.step.ensures.at c.in-Ok.is known c.in_ok-push-in-Ok.ensures.ok

-- it would pass a limit, and nothing is done
pub returns-in-Err-TooLarge-clause-over : goal.returns-in-Err-TooLarge-clause-over
returns-in-Err-TooLarge-clause-over c = λ same. (
  one_more_exceeds c.args.scenario.now c.args.self.now.steps c.args.self.now.world c.step.new.self c.args.step c.step.result c.in-Err-TooLarge.field-0
      c.in-Err-TooLarge.field-0-0 c.requires.at c.step.ensures.comes c.in-Err-TooLarge.is c.in-Err-TooLarge.field-0-is,
  refl,
)

pub returns-in-Err-TooLarge-clause-at : goal.returns-in-Err-TooLarge-clause-at
returns-in-Err-TooLarge-clause-at c =
    still_played c.args.scenario.now c.args.self.now.steps c.args.self.now.steps c.args.self.now.world c.step.new.self c.args.step c.step.result
    c.in-Err-TooLarge.field-0 c.in-Err-TooLarge.field-0-0 c.requires.at c.step.ensures.comes c.step.ensures.at c.in-Err-TooLarge.is
    c.in-Err-TooLarge.field-0-is c.requires.event refl
