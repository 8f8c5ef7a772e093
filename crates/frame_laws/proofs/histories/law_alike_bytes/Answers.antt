use Rattle.frame_laws.proofs.AlikeBytes.{alike_bytes}
use Rattle.frame_laws.proofs.histories.law_alike_bytes.Goals as goal

pub returns : goal.returns
returns c = alike_bytes
