use Rattle.trace_laws.proofs.Traced.{traced_wholly}
use Rattle.trace_laws.proofs.laws.law_traced_whole.Goals as goal

pub returns : goal.returns
returns c = traced_wholly
