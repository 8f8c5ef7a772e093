use Rattle.frame_values.proofs.UsualValues.{viewed_answer}
use Rattle.frame_values.proofs.read.read_value.Goals as goal

pub returns-in-Some-clause-value : goal.returns-in-Some-clause-value
returns-in-Some-clause-value c =
    viewed_answer c.args.names.now c.args.bytes.now c.usual_frame.result c.in-Some.view c.usual_value.result c.usual_frame.ensures c.in-Some.is c.usual_value.ensures.value
