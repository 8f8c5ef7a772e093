use Rattle.std.specs.List.{range_with_len}
use Rattle.geo_base.specs.Run.{pairs_from}
use Rattle.world.proofs.PairLists.{sources_more}
use Rattle.world.proofs.settling_events.SettlingEvents.add_topic.Goals as goal

pub loop-source-preserved : goal.loop-source-preserved
loop-source-preserved c =
    let n = c.args.clusters in let ys = range_with_len 0 n in
    sources_more c.args.self.now c.loop-source.self c.add_source.new.self c.args.topic n c.loop-source.source ys (pairs_from c.args.topic ys ys)
    c.loop-source-test.true c.loop-source.invariant c.in_ok-add_source.ensures
