use Rattle.pulsar_commands.proofs.Reading.{first_unknown_at}
use Rattle.pulsar_commands.proofs.read.unknown_value.Goals as goal

pub returns-in-Some : goal.returns-in-Some
returns-in-Some c = first_unknown_at c.args.fields.now c.args.choices.now c.loop-choice.choice-index (record { number = 0; size = 0 }) c.in-Some.value c.loop-choice-test.true c.loop-choice.invariant c.in-Some.ensures.0 c.in-Some.ensures.1
