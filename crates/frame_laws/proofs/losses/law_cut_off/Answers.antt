use Rattle.frame_laws.proofs.Unread.{receipt_cut_off, take_cut_off}
use Rattle.frame_laws.proofs.losses.law_cut_off.Goals as goal

pub returns : goal.returns
returns c = record { take = take_cut_off; receipt = receipt_cut_off }
