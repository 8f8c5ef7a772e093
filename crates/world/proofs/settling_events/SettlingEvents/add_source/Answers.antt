use Rattle.std.specs.List.{range_with_len}
use Rattle.geo_base.specs.Run.{pairs_to}
use Rattle.world.proofs.PairLists.{targets_more, targets_same}
use Rattle.world.proofs.settling_events.SettlingEvents.add_source.Goals as goal
use Rattle.world.proofs.settling_events.SettlingEvents.add_source.Goals.{then-source-target+in_ok-add_pair, else-source-target}

pub loop-target-preserved : goal.loop-target-preserved
loop-target-preserved c =
    let old = c.args.self.now in let now = c.loop-target.self in
    let t = c.args.topic in let x = c.args.source in let n = c.args.clusters in let y = c.loop-target.target in
    let whole = pairs_to t x (range_with_len 0 n) in
    elim c.if-source-target.branch [
      | then-source-target+in_ok-add_pair w ↦
          rw w.self-is (targets_more old now w.add_pair.new.self t x n y whole c.loop-target-test.true w.if-source-target.true c.loop-target.invariant w.in_ok-add_pair.ensures)
      | else-source-target w ↦ rw w.self-is (targets_same old now t x n y whole c.loop-target-test.true w.if-source-target.false c.loop-target.invariant)
    ]
