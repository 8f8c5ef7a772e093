use Rattle.std.proofs.Common.{rules, ◌≡◌, ◌<◌, List, [], ◌∷◌, ◌++◌, ap, length, subst, sym, ◌∙◌}
use Rattle.std.specs.Prelude.{slice_index_or}
use Rattle.broker.specs.Node.{BrokerView}
use Rattle.geo_base.specs.declared.entry.Entry.{Entry}
use Rattle.geo_base.specs.Broker.{Broker}
use Rattle.geo_base.specs.World.{topic_at}
use Rattle.world_measures.specs.Places.{Row, Tells}
use Rattle.world_measures.proofs.Brokers.{broker_there}
use Rattle.world_measures.proofs.Placing.{tells_pushed}
use Rattle.world_measures.proofs.tables.TopicTables.of.Goals as goal

pub loop-cluster-preserved : goal.loop-cluster-preserved
loop-cluster-preserved c =
    let i = c.loop-cluster.invariant in let s = c.args.scenario.now.setup in let t = c.args.topic in let x = c.loop-cluster.cluster in
    record {
      many = search rules;
      each = λ w same y lt.
          let within : x < length s.clusters = search rules in
          let here = ap (λ (b : BrokerView). b.broker) c.topic-broker.ensures ∙ broker_there s c.args.world.now c.requires.at t x c.requires.topic within w same in
          let entries = c.store.ensures.entries ∙ ap (λ (b : Broker). b.entries) here in
          let pushed : c.push.new.self.items ≡ c.loop-cluster.tables.items ++ c.in_ok-table.table ∷ [] = search rules in
          subst (λ (rows : List (List Row)). Tells (slice_index_or rows y []) (topic_at s w t y).entries) (sym pushed)
          (tells_pushed (λ k. (topic_at s w t k).entries) c.loop-cluster.tables.items c.in_ok-table.table x i.many (i.each w same)
          (subst (λ (es : List Entry). Tells c.in_ok-table.table es) entries c.in_ok-table.ensures) y lt);
    }
