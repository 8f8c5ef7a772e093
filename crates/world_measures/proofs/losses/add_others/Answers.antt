use Rattle.std.proofs.Common.{rules, ◌<◌, ℕ, [], ◌++◌, length, sym, ap, subst, ◌∙◌}
use Rattle.std.specs.Prelude.{slice_index_or}
use Rattle.std.proofs.lemmas.Option.{slice_get-get_or}
use Rattle.broker.specs.Node.{BrokerView}
use Rattle.geo_base.specs.Broker.{Broker}
use Rattle.geo_base.specs.Report.{with_line_feeds}
use Rattle.loss_laws.specs.LostLines.{lines_of_each, other_lines}
use Rattle.world_measures.specs.Places.{Tells}
use Rattle.world_measures.proofs.Brokers.{broker_there, clusters_there, other_added, own_there}
use Rattle.world_measures.proofs.Each.{each_added}
use Rattle.world_measures.proofs.losses.add_others.Goals as goal

pub loop-number-preserved : goal.loop-number-preserved
loop-number-preserved c = λ w same told.
    let s = c.args.scenario.now.setup in let t = c.args.topic.number in let x = c.args.topic.gone.cluster in let names = c.args.topic.gone.with_names in
    let wb = c.args.world.now in let y = c.loop-number.number in let v = c.topic-broker.result.now in let u = c.topic-there.result.now in
    let tables = c.args.tables.now in let old = c.loop-number.lines in let new = c.add_at.new.lines in
    let lt : y < length s.clusters = search rules in
    let here = ap (λ (b : BrokerView). b.broker) c.topic-broker.ensures ∙ broker_there s wb c.requires.at t x c.requires.topic c.requires.cluster w same in
    let there = ap (λ (b : BrokerView). b.broker) c.topic-there.ensures ∙ broker_there s wb c.requires.at t y c.requires.topic lt w same in
    let clusters = ap (λ (b : BrokerView). b.site.clusters) c.topic-there.ensures ∙ clusters_there s wb c.requires.at t y c.requires.topic lt in
    let own = ap (λ (b : BrokerView). b.site.own) c.topic-there.ensures ∙ own_there s wb c.requires.at t y c.requires.topic lt in
    let first = subst (λ (b : Broker). Tells (slice_index_or tables x []) b.entries) (sym here) (told.each x c.requires.cluster) in
    let second =
    subst (λ (o : ℕ). Tells (slice_index_or tables o []) u.broker.entries) (sym own)
    (subst (λ (b : Broker). Tells (slice_index_or tables y []) b.entries) (sym there) (told.each y lt)) in
    each_added (other_lines names s w t x) s.clusters y (slice_index_or s.clusters y []) old new
    (c.args.lines.now ++ with_line_feeds (lines_of_each (other_lines names s w t x) 0 s.clusters)) (slice_get-get_or s.clusters y [] lt)
    (other_added names s w t x y u.site.clusters u.site.own v.broker u.broker old new clusters own here there (c.in_ok-add_at.ensures first second)) (c.loop-number.invariant w same told)
