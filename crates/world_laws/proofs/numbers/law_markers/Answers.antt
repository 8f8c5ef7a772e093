use Rattle.world_laws.proofs.Counters.MarkerRuns.{markers_between}
use Rattle.world_laws.proofs.numbers.law_markers.Goals as goal

pub returns : goal.returns
returns c = record { between = markers_between }
