use Rattle.cursor_acks.proofs.Sets.{has_all, has_up_to, has_with_index}
use Rattle.cursor_acks.proofs.laws.acks_add.Goals as goal

pub returns : goal.returns
returns c = record { one = has_with_index; up_to = has_up_to; all = has_all }
