use Rattle.std.proofs.Common.{length}
use Rattle.links.proofs.links.Links.+deliver.Given as goal

abbrev pub decreases-deliver : goal.decreases-deliver
decreases-deliver l = length l.sent.now.items
