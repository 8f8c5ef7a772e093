use Rattle.world_laws.proofs.Snapshotting.Cuts.{cut_always}
use Rattle.world_laws.proofs.snapshots.law_cut.Goals as goal

pub returns : goal.returns
returns c = record { always = cut_always }
