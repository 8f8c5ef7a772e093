use Rattle.std.proofs.Common.{◌≡◌, length, sym, ap, subst, ◌∙◌}
use Rattle.std.specs.Prelude.{All, IfOk}
use Rattle.std.specs.Arc.{arc_value}
use Rattle.geo_base.specs.Nodes.{node_count}
use Rattle.merge_history.specs.Logs.{AreOwn}
use Rattle.merge_history.specs.Events.{AreMergedEvents, AreOwnEvents}
use Rattle.script_text.specs.Script.{Script}
use Rattle.live_output.specs.Lists.{views_of}
use Rattle.live_output.specs.Playing.{IsEventStep}
use Rattle.live_output.proofs.Lists.{all_of_list, many_views, own_of_list, steps_of_list}
use Rattle.live_output.proofs.merging.events_of.Goals as goal

pub merge_events-requires : goal.merge_events-requires
merge_events-requires g c =
    let vs = c.as_slice-2.result.now in
    subst (λ (k : Script). length vs ≡ node_count k.setup) (sym c.deref.ensures)
    (many_views c.args.logs.now vs (node_count (arc_value c.args.scenario.now).setup)
    (c.as_slice-2.ensures.value ∙ (c.in_ok-views.ensures ∙ ap (λ bs. views_of bs) c.as_slice.ensures.logs)) c.requires)

pub returns-clause-all : goal.returns-clause-all
returns-clause-all g c =
    subst (λ (k : Script). IfOk c.merge_events.result (AreMergedEvents k.setup (views_of c.args.logs.now))) c.deref.ensures
    (all_of_list c.deref.result.now.setup c.args.logs.now c.as_slice-2.result.now c.merge_events.result
    (c.as_slice-2.ensures.value ∙ (c.in_ok-views.ensures ∙ ap (λ bs. views_of bs) c.as_slice.ensures.logs)) c.merge_events.ensures.all)

pub returns-clause-own : goal.returns-clause-own
returns-clause-own g c = λ own.
    subst (λ (k : Script). AreOwn k (views_of c.args.logs.now) → IfOk c.merge_events.result (AreOwnEvents k (views_of c.args.logs.now))) c.deref.ensures
    (own_of_list c.deref.result.now c.args.logs.now c.as_slice-2.result.now c.merge_events.result
    (c.as_slice-2.ensures.value ∙ (c.in_ok-views.ensures ∙ ap (λ bs. views_of bs) c.as_slice.ensures.logs)) c.as_slice.ensures.replayed c.merge_events.ensures.own) own

pub returns-clause-events : goal.returns-clause-events
returns-clause-events g c =
    subst (λ (k : Script). IfOk c.merge_events.result (λ es. All (IsEventStep k.setup) es)) c.deref.ensures
    (steps_of_list c.deref.result.now.setup c.merge_events.result c.merge_events.ensures.each)
