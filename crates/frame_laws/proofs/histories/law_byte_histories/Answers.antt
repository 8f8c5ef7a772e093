use Rattle.frame_laws.proofs.AlikeBytes.{byte_histories}
use Rattle.frame_laws.proofs.histories.law_byte_histories.Goals as goal

pub returns : goal.returns
returns c = byte_histories
