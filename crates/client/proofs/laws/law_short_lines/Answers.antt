use Rattle.client.proofs.Short.{declared_short}
use Rattle.client.proofs.laws.law_short_lines.Goals as goal

pub returns : goal.returns
returns c = declared_short
