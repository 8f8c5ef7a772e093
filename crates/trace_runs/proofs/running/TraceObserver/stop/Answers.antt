use Rattle.std.proofs.Common.{ℕ, ◌+◌, ◌∷◌, [], ◌++◌, ap, refl, ◌∙◌}
use Rattle.geo_base.specs.TraceItems.{Begins}
use Rattle.geo_base.specs.TraceText.{item_line}
use Rattle.world.proofs.Observing.{past_of}
use Rattle.trace_runs.proofs.Knowing.{stop_known}
use Rattle.trace_runs.proofs.ItemsTold.{always, begin_told}
use Rattle.trace_runs.proofs.running.TraceObserver.stop.Goals as goal

pub returns-clause-seen : goal.returns-clause-seen
returns-clause-seen c = λ w reached stands.
    let s = c.args.scenario.now.setup in let text = c.args.self.now.telling.text in
    always _ c.stop.result
    (begin_told s (w.events + 1) (Begins (w.events + 1) ∷ []) text c.add_begin.new.lines refl
    (c.in_ok-add_begin.ensures.ok s ∙ ap (λ (n : ℕ). text ++ (item_line s (Begins (n + 1)) ++ 10 ∷ [])) (c.events.ensures.events ∙ stands.events)))

pub returns-clause-knows : goal.returns-clause-knows
returns-clause-knows c =
    let h = c.requires.at in
    stop_known c.args.scenario.now.setup c.args.self.now.telling.snapshots c.args.world.now c.stop.new.self h.world c.stop.result h.stands c.requires.knows (c.stop.ensures.leads h.world h.reached h.stands)

pub returns-clause-past : goal.returns-clause-past
returns-clause-past c = past_of _ c.stop.result c.stop.ensures.err
