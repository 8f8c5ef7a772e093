use Rattle.live_output.proofs.Outputs.{tells}
use Rattle.live_output.proofs.output.output_of.Goals as goal

pub returns-clause-tells : goal.returns-clause-tells
returns-clause-tells c =
    tells c.args.scenario.now c.args.steps.now c.in_ok-replayed.replayed.steps c.in_ok-played.played.steps c.in_ok-played.played.world c.written-output.result
    c.in_ok-replayed.ensures.steps c.in_ok-played.ensures.steps c.in_ok-played.ensures.at c.written-output.ensures.back c.written-output.ensures.text
