use Rattle.std.proofs.Common.{rules, [], ◌∷◌, ◌++◌, ◌≡◌}
use Rattle.std.specs.Prelude.{slice_index_or}
use Rattle.geo_base.specs.Report.{with_line_feeds}
use Rattle.loss_laws.specs.Lost.{backlog_at}
use Rattle.loss_laws.specs.LostLines.{backlog_label, number_line, sub_lines}
use Rattle.world_measures.proofs.Each.{on_ok, sub_added}
use Rattle.world_measures.proofs.subs.add_sub_at.Goals as goal

pub returns : goal.returns
returns c = λ b place told.
    let there = c.args.there.now in let v = c.args.sub.now.sub in let n = slice_index_or there.site.clusters there.site.own [] in
    let clusters = there.site.clusters in let old = c.args.lines.now in let new = c.add_number_line.new.lines in
    on_ok c.add_number_line.result (new ≡ c.add_again.new.lines ++ (number_line (backlog_label v.name n) (backlog_at there.broker v.name) ++ 10 ∷ []))
    (new ≡ old ++ with_line_feeds (sub_lines c.args.gone.with_names clusters b there.broker n place v))
    (sub_added c.args.gone.with_names clusters b there.broker n place v old c.add_again.new.lines new (search rules) (c.in_ok-add_again.ensures b told)) (search rules)
