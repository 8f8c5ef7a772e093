use Rattle.marker_codec.proofs.Lengths.{sizes, numbers}
use Rattle.marker_codec.proofs.laws.machine_sizes.Goals as goal

pub returns : goal.returns
returns c = record { size = sizes; number = numbers }
