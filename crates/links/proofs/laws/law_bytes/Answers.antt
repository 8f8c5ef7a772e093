use Rattle.links.proofs.Simulated.{bytes_stand}
use Rattle.links.proofs.laws.law_bytes.Goals as goal

pub returns : goal.returns
returns c = bytes_stand
