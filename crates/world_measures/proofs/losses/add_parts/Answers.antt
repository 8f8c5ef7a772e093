use Rattle.std.proofs.Common.{◌≡◌, [], ◌++◌, ap, subst, ◌∙◌}
use Rattle.std.specs.Prelude.{slice_index_or}
use Rattle.broker.specs.Node.{BrokerView}
use Rattle.geo_base.specs.Broker.{Broker}
use Rattle.geo_base.specs.Report.{with_line_feeds}
use Rattle.geo_base.specs.World.{topic_at}
use Rattle.loss_laws.specs.LostLines.{end_lines, lines_of_each, lost_head, other_lines, own_lines, topic_lines}
use Rattle.world_measures.proofs.Brokers.{broker_there}
use Rattle.world_measures.proofs.Each.{joined, on_ok, one_more}
use Rattle.world_measures.proofs.losses.add_parts.Goals as goal

pub returns : goal.returns
returns c = λ w same told.
    let s = c.args.scenario.now.setup in let t = c.args.topic.number in let x = c.args.topic.gone.cluster in let names = c.args.topic.gone.with_names in
    let name = slice_index_or s.topics t [] in let old = c.args.lines.now in let one = c.add_head.new.lines in let two = c.add_own.new.lines in let three = c.add_others.new.lines in
    let new = c.add_ends.new.lines in
    let here = ap (λ (b : BrokerView). b.broker) c.topic-broker.ensures ∙ broker_there s c.args.world.now c.requires.at t x c.requires.topic c.requires.cluster w same in
    let own = own_lines x (topic_at s w t x) in let others = lines_of_each (other_lines names s w t x) 0 s.clusters in let ends = end_lines names s w t x in
    let second : two ≡ one ++ with_line_feeds own = subst (λ (b : Broker). two ≡ one ++ with_line_feeds (own_lines x b)) here c.in_ok-add_own.ensures in
    on_ok c.add_ends.result (new ≡ three ++ with_line_feeds ends) (new ≡ old ++ with_line_feeds (topic_lines names s w x t name))
    (λ last. one_more old one new (lost_head s x name) (own ++ (others ++ ends)) c.in_ok-add_head.ensures
    (joined one two new own (others ++ ends) second (joined two three new others ends (c.in_ok-add_others.ensures w same told) last)))
    (c.add_ends.ensures w same told)
