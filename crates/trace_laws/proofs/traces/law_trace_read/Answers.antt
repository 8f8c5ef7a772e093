use Rattle.trace_laws.proofs.ReadBack.{trace_read}
use Rattle.trace_laws.proofs.traces.law_trace_read.Goals as goal

pub returns : goal.returns
returns c = trace_read
