use Rattle.std.proofs.Common.{length}
use Rattle.world.proofs.stops.+restart_all.Given as goal

abbrev pub decreases-restart_all : goal.decreases-restart_all
decreases-restart_all l = length l.brokers.now
