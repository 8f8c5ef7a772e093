use Rattle.std.proofs.Common.{length}
use Rattle.frame_values.proofs.place.+bits_of.Given as goal

abbrev pub decreases-bits_of : goal.decreases-bits_of
decreases-bits_of l = length l.names.now
