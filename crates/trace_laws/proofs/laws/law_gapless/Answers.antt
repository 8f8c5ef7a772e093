use Rattle.trace_laws.proofs.Gaps.{gapless_law}
use Rattle.trace_laws.proofs.laws.law_gapless.Goals as goal

pub returns : goal.returns
returns c = gapless_law
