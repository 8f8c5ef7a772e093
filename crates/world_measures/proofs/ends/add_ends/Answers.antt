use Rattle.std.proofs.Common.{◌≡◌, ◌++◌, ap, ◌∙◌}
use Rattle.broker.specs.Node.{BrokerView}
use Rattle.geo_base.specs.Report.{with_line_feeds}
use Rattle.loss_laws.specs.LostLines.{end_lines, named_lines}
use Rattle.world_measures.specs.declared.ends.End.TheVariants as end
use Rattle.world_measures.specs.Ends.{end_label, ends_of}
use Rattle.world_measures.proofs.Brokers.{broker_there, clusters_there}
use Rattle.world_measures.proofs.Each.{on_ok}
use Rattle.world_measures.proofs.Ending.{ends_added}
use Rattle.world_measures.proofs.ends.add_ends.Goals as goal

pub returns : goal.returns
returns c = λ w same told.
    let s = c.args.scenario.now.setup in let t = c.args.topic.number in let x = c.args.topic.gone.cluster in let names = c.args.topic.gone.with_names in
    let v = c.topic-broker.result.now in let wb = c.args.world.now in
    let broker = ap (λ (u : BrokerView). u.broker) c.topic-broker.ensures ∙ broker_there s wb c.requires.at t x c.requires.topic c.requires.cluster w same in
    let clusters = ap (λ (u : BrokerView). u.site.clusters) c.topic-broker.ensures ∙ clusters_there s wb c.requires.at t x c.requires.topic c.requires.cluster in
    let two = c.add_end-2.new.lines in let new = c.add_end-3.new.lines in let old = c.args.lines.now in
    on_ok c.add_end-3.result (new ≡ two ++ with_line_feeds (named_lines names v.site.clusters (end_label end.Differ) (ends_of s w t x end.Differ v.broker.entries)))
    (new ≡ old ++ with_line_feeds (end_lines names s w t x))
    (ends_added names s w t x v.site.clusters v.broker old c.add_end.new.lines two new clusters broker (c.in_ok-add_end.ensures s w t told) (c.in_ok-add_end-2.ensures s w t told))
    (c.add_end-3.ensures s w t told)
