use Rattle.cursor_acks.proofs.OneList.{one_list}
use Rattle.cursor_acks.proofs.laws.one_list_of_ranges.Goals as goal

pub returns : goal.returns
returns c = one_list
