use Rattle.frame_laws.proofs.Tellings.{written_always}
use Rattle.frame_laws.proofs.telling.law_written.Goals as goal

pub returns : goal.returns
returns c = record { always = written_always }
