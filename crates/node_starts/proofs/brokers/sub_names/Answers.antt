use Rattle.std.proofs.Common.{List, [], ◌∷◌, ◌++◌, sym, ◌∙◌, ap, ℕ, take}
use Rattle.geo_base.specs.Setup.{sub_names}
use Rattle.node_starts.proofs.Names.{no_name_more, one_name_more}
use Rattle.node_starts.proofs.brokers.sub_names.Goals.{in-Some+in_ok-copied+in_ok-push, in_default}
use Rattle.node_starts.proofs.brokers.sub_names.Goals as goal

pub loop-sub-preserved : goal.loop-sub-preserved
loop-sub-preserved c =
    let all = sub_names c.args.scenario.now.setup c.args.topic in let sub : ℕ = c.loop-sub.sub in
    elim c.match-sub_name.branch [
      | in-Some+in_ok-copied+in_ok-push w ↦
          ap (λ (v : _). v.items) w.names-is ∙ w.in_ok-push.ensures.items
          ∙ ap (λ (ns : List (List ℕ)). ns ++ w.in_ok-copied.field-0 ∷ []) c.loop-sub.invariant
          ∙ ap (λ (n : List ℕ). take sub all ++ n ∷ []) w.in_ok-copied.ensures
          ∙ sym (one_name_more all sub w.in-Some.name.now (sym w.in-Some.ensures))
      | in_default w ↦ ap (λ (v : _). v.items) w.names-is ∙ c.loop-sub.invariant ∙ sym (no_name_more all sub (sym w.in_default.ensures))
    ]
