use Rattle.std.proofs.Common.{List, ap, length, subst, sym, ◌∙◌}
use Rattle.step_lines.specs.declared.replicators.NotedReplicator.{NotedReplicator}
use Rattle.step_lines.specs.Noted.{AreReplicators}
use Rattle.step_lines.proofs.Changes.{all_changes_on}
use Rattle.step_lines.proofs.broker_changes.add_changes.Goals as goal

pub add_other_replicators-requires : goal.add_other_replicators-requires
add_other_replicators-requires c = ap (λ (ks : List NotedReplicator). length ks) c.as_slice.ensures.value ∙ c.requires.replicators

pub returns : goal.returns
returns c = λ b noted.
    let v = c.args.broker.now in let k = c.args.noted.now in
    all_changes_on v.site.clusters v.site.own b v.broker k c.as_slice-2.result.now c.as_slice-3.result.now c.args.indent c.args.lines.now c.add_new_entries.new.lines c.add_other_replicators.new.lines
    c.add_gone_subs.new.lines c.add_other_subs.new.lines c.add_other_subs.result noted c.as_slice-2.ensures.value c.as_slice-3.ensures.value c.in_ok-add_new_entries.ensures
    (c.in_ok-add_other_replicators.ensures b (subst (λ (ks : List NotedReplicator). AreReplicators (length v.site.clusters) b ks) (sym c.as_slice.ensures.value) noted.replicators)) c.in_ok-add_gone_subs.ensures
    c.add_other_subs.ensures
