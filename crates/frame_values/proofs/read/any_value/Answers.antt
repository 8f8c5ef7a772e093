use Rattle.frame_values.proofs.Entries.{reads_of}
use Rattle.frame_values.proofs.read.any_value.Goals as goal

pub returns-in-Some-clause-value : goal.returns-in-Some-clause-value
returns-in-Some-clause-value c = reads_of c.args.names.now c.args.bytes.now c.in_ok-read_frame.field-0 c.in-Some.frame c.value_of.result c.in_ok-read_frame.ensures c.in-Some.is c.value_of.ensures.value
