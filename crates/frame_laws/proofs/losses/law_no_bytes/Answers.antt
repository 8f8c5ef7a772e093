use Rattle.frame_laws.proofs.Unread.{no_bytes}
use Rattle.frame_laws.proofs.losses.law_no_bytes.Goals as goal

pub returns : goal.returns
returns c = no_bytes
