use Rattle.std.proofs.Common.{[], ◌∷◌, ◌++◌, refl}
use Rattle.geo_base.specs.declared.event.Step.TheVariants as step
use Rattle.live_output.specs.declared.played.Played.{Played}
use Rattle.live_output.proofs.OneMore.{none_settled, one_more, one_more_fits, one_more_exceeds, settled_at, settled_steps}
use Rattle.live_output.proofs.played.settle_where_it_fits.Goals as goal

pub returns-in-Ok-clause-steps : goal.returns-in-Ok-clause-steps
returns-in-Ok-clause-steps c =
    settled_steps c.args.scenario.now.setup c.args.played.steps (λ (p : Played). p.steps) c.settled.result
    (one_more_fits c.args.scenario.now c.args.played.steps c.args.played.world c.step.new.self step.Settle c.step.result c.in-Ok.field-0 c.requires.at c.step.ensures.comes
    c.in-Ok.is) c.settled.ensures.steps

pub returns-in-Ok-clause-at : goal.returns-in-Ok-clause-at
returns-in-Ok-clause-at c =
    settled_at c.args.scenario.now (c.args.played.steps ++ step.Settle ∷ []) c.step.new.self (λ (p : Played). p.steps) (λ (p : Played). p.world) c.settled.result
    c.settled.ensures.steps c.settled.ensures.world
    (one_more c.args.scenario.now c.args.played.steps (c.args.played.steps ++ step.Settle ∷ []) c.args.played.world c.step.new.self step.Settle c.step.result c.in-Ok.field-0
    c.requires.at c.step.ensures.comes c.step.ensures.at c.in-Ok.is refl refl)

-- where settling passes a limit, the run is the one before it
pub returns-in-Err-TooLarge-clause-steps : goal.returns-in-Err-TooLarge-clause-steps
returns-in-Err-TooLarge-clause-steps c =
    none_settled c.args.scenario.now.setup c.args.played.steps (λ (p : Played). p.steps) c.replay.result
    (one_more_exceeds c.args.scenario.now c.args.played.steps c.args.played.world c.step.new.self step.Settle c.step.result c.in-Err-TooLarge.field-0
    c.in-Err-TooLarge.field-0-0 c.requires.at c.step.ensures.comes c.in-Err-TooLarge.is c.in-Err-TooLarge.field-0-is) c.requires.at.finished.unlimited c.replay.ensures.steps
