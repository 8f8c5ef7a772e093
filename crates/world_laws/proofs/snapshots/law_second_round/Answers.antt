use Rattle.world_laws.proofs.Snapshotting.SecondRound.{second_round_always}
use Rattle.world_laws.proofs.snapshots.law_second_round.Goals as goal

pub returns : goal.returns
returns c = record { always = second_round_always }
