use Rattle.std.proofs.Common.{rules, ◌≡◌, ℕ, List, ◌++◌, subst}
use Rattle.std.specs.Prelude.{OnOk, string_bytes}
use Rattle.geo_base.specs.Report.{with_line_feeds}
use Rattle.loss_laws.specs.LostLines.{named_lines}
use Rattle.world_measures.specs.Ends.{end_label, ends_of}
use Rattle.world_measures.proofs.ends.add_end.Goals as goal

pub returns-in-Ok : goal.returns-in-Ok
returns-in-Ok c = λ s w t told.
    let b = c.args.broker.now in let es = ends_of s w t c.args.gone.cluster c.args.end b.broker.entries in
    let named : string_bytes c.in-Ok.label ≡ end_label c.args.end = search rules in
    subst (λ (l : List ℕ). OnOk c.add_named.result (c.add_named.new.lines ≡ c.args.lines.now ++ with_line_feeds (named_lines c.args.gone.with_names b.site.clusters l es))) named
    (c.add_named.ensures c.args.gone.with_names b.site.clusters es (c.in_ok-named.ensures s w t told))
