use Rattle.std.proofs.Common.{rules, ◌≡◌, [], ◌++◌, ◌==◌, if◌then◌else◌}
use Rattle.std.specs.Prelude.{slice_index_or}
use Rattle.geo_base.specs.Report.{with_line_feeds}
use Rattle.loss_laws.specs.Lost.{missing}
use Rattle.loss_laws.specs.LostLines.{lines_at, lines_of_each, missing_label, named_lines, sub_lines}
use Rattle.world_measures.proofs.Brokers.{some_of_other}
use Rattle.world_measures.proofs.Each.{joined, on_ok}
use Rattle.world_measures.proofs.losses.add_at.Goals as goal

pub returns : goal.returns
returns c = λ here told.
    let b = c.args.broker.now in let u = c.args.there.now in let x = c.args.gone.cluster in let names = c.args.gone.with_names in
    let n = slice_index_or u.site.clusters u.site.own [] in let old = c.args.lines.now in let mid = c.add_missing_at.new.lines in let new = c.add_subs_at.new.lines in
    let ls = named_lines names u.site.clusters (missing_label n) (missing x u.site.own b.broker u.broker) in
    let ms = lines_of_each (sub_lines names u.site.clusters b.broker u.broker n) 0 b.broker.subs in
    on_ok c.add_subs_at.result (new ≡ mid ++ with_line_feeds ms)
    (new ≡ old ++ with_line_feeds (if x == u.site.own then [] else lines_at names u.site.clusters x u.site.own b.broker u.broker n))
    (λ added. some_of_other names x u.site.clusters u.site.own b.broker u.broker old new (search rules) (joined old mid new ls ms (c.in_ok-add_missing_at.ensures (search (rules, told))) added))
    (c.add_subs_at.ensures (search (rules, here)))
