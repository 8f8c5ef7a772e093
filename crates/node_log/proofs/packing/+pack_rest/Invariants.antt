use Rattle.std.proofs.Common.{length}
use Rattle.std.specs.Vec.Iter.{into_iter_items}
use Rattle.node_log.proofs.packing.+pack_rest.Given as goal

abbrev pub decreases-pack_rest : goal.decreases-pack_rest
decreases-pack_rest g l = length (into_iter_items l.outs)
