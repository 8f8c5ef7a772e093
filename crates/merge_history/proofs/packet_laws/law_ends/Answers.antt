use Rattle.merge_history.proofs.Ends.{one_link, sent_same, taken_same}
use Rattle.merge_history.proofs.Numbers.{end_is, link_ends}
use Rattle.merge_history.proofs.packet_laws.law_ends.Goals as goal

pub returns : goal.returns
returns c = record { sent = sent_same; taken = taken_same; one = one_link; number = end_is; each = link_ends }
