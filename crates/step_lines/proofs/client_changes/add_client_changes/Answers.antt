use Rattle.std.proofs.Common.{ap, sym, ◌∙◌}
use Rattle.geo_base.specs.Client.{Client}
use Rattle.step_lines.specs.declared.noted.NotedClient.{NotedClient}
use Rattle.step_lines.specs.Noted.{same_noted}
use Rattle.step_lines.proofs.Changes.{client_added_on}
use Rattle.step_lines.proofs.client_changes.add_client_changes.Goals as goal

pub returns : goal.returns
returns c = λ k noted.
    let n = c.args.noted.now in
    client_added_on c.args.scenario.now.setup c.args.declared.now k c.args.client.now n c.args.lines.now c.add.new.lines c.add_own_line.new.lines c.add_new_got.new.lines c.clusters.result.now _ c.add_new_got.result noted
    (sym (c.is_same.ensures ∙ ap (λ (j : NotedClient). same_noted n j) c.client_of.ensures) ∙ c.if-is_same.false)
    c.clusters.ensures.names (ap (λ (m : Client). m.got) c.view.ensures) c.in_ok-add.ensures.ok c.in_ok-add_own_line.ensures c.add_new_got.ensures
