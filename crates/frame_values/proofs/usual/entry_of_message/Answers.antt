use Rattle.std.proofs.Common.{refl}
use Rattle.frame_values.proofs.usual.entry_of_message.Goals as goal

pub returns-in-Ok-from_slice : goal.returns-in-Ok-from_slice
returns-in-Ok-from_slice c = rw (c.in_ok-producer.ensures, c.usual.ensures, c.in-Ok.ensures, c.in-Ok-from_slice.ensures) refl
