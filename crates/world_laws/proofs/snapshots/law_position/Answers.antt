use Rattle.world_laws.proofs.Snapshotting.Positions.{position_always}
use Rattle.world_laws.proofs.snapshots.law_position.Goals as goal

pub returns : goal.returns
returns c = record { always = position_always }
