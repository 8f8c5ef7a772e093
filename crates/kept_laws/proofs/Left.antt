-- What a run leaves after a stop, also where it was kept on the way and went on.
use Rattle.std.proofs.Common.{◌≡◌, List, refl, sym, subst, ◌∙◌, inl, inr}
use Rattle.std.specs.Prelude.{None}
use Rattle.geo_base.specs.declared.event.Step.{Step}
use Rattle.geo_base.specs.Happening.{stops}
use Rattle.geo_base.specs.Run.{all_limits, run_under}
use Rattle.geo_base.specs.World.{World}
use Rattle.script_text.specs.Scenario.{IsScenario}
use Rattle.script_text.specs.Script.{Script}
use Rattle.state_file.proofs.Back.{state_again}
use Rattle.state_file.specs.Fitting.{IsState}
use Rattle.state_file.specs.State.{SavedState, state_in}
use Rattle.world_laws.specs.AlikeWorlds.{AreAlike}
use Rattle.world_laws.proofs.KeptRuns.ResumedRuns.{resumed_law}
use Rattle.kept_laws.specs.Saved.{ComesTo, IsLeft, IsShortState, LawSaved, world_from}
use Rattle.kept_laws.proofs.GoingOn.{turned, went_on}
use Rattle.kept_laws.proofs.States.{Behind, behind, state_fits}

same_state : (s : Script) (v w : World) → AreAlike v w → state_in s v ≡ state_in s w
same_state s v w h = rw (h.brokers, h.clients, h.events, h.idle, h.rounds, h.frame_bytes) refl

alike_fits : (s : Script) → IsScenario s → (es : List Step) (w : World) → (run_under all_limits s.setup es).ended ≡ None → AreAlike (run_under all_limits s.setup es).world w
    → all_limits (stops s.setup w) ≡ None → IsShortState (state_in s (stops s.setup w)) → IsState (state_in s (stops s.setup w))
alike_fits s scenario es w none alike limits short =
    let u : World = (run_under all_limits s.setup es).world in
    let stop : AreAlike (stops s.setup u) (stops s.setup w) = resumed_law.stop s.setup u w alike in
    let same = same_state s (stops s.setup u) (stops s.setup w) stop in
    let limits' : all_limits (stops s.setup u) ≡ None = resumed_law.limits.1 (stops s.setup u) (stops s.setup w) stop ∙ limits in
    subst IsState same (state_fits s scenario (stops s.setup u) (behind s.setup scenario.setup es none limits') (subst IsShortState (sym same) short))

itself_fits : (s : Script) → IsScenario s → (es : List Step) (w : World) → (run_under all_limits s.setup es).ended ≡ None → (run_under all_limits s.setup es).world ≡ w
    → all_limits (stops s.setup w) ≡ None → IsShortState (state_in s (stops s.setup w)) → IsState (state_in s (stops s.setup w))
itself_fits s scenario es w none is limits short =
    let b = behind s.setup scenario.setup es none (subst (λ (u : World). all_limits (stops s.setup u) ≡ None) (sym is) limits) in
    state_fits s scenario (stops s.setup w) (subst (λ (u : World). Behind s.setup (stops s.setup u)) is b) short

left_fits : (s : Script) → IsScenario s → (es : List Step) (w : World) (v : SavedState) → IsLeft s es w v → IsShortState v → IsState v
left_fits s scenario es w v left short =
    subst IsState (sym left.is)
    (elim left.comes.world [
      | inl is ↦ itself_fits s scenario es w left.comes.goes_on is left.within (subst IsShortState left.is short)
      | inr alike ↦ alike_fits s scenario es w left.comes.goes_on alike left.within (subst IsShortState left.is short)
    ])

-- ---- the world that goes on from it

resumed_there : (s : Script) → IsScenario s → (es : List Step) (w : World) → ComesTo s es w → all_limits (stops s.setup w) ≡ None → AreAlike (stops s.setup w) (world_from (state_in s (stops s.setup w)))
resumed_there s scenario es w comes limits = elim comes.world [ inl is ↦ here is | inr alike ↦ else_where alike ]
  where
    u : World
    u = (run_under all_limits s.setup es).world

    here : u ≡ w → AreAlike (stops s.setup w) (world_from (state_in s (stops s.setup w)))
    here is =
        subst (λ (w : World). all_limits (stops s.setup w) ≡ None → AreAlike (stops s.setup w) (world_from (state_in s (stops s.setup w)))) is
        (λ limits. went_on s scenario es comes.goes_on limits) limits

    else_where : AreAlike u w → AreAlike (stops s.setup w) (world_from (state_in s (stops s.setup w)))
    else_where alike =
        let stop : AreAlike (stops s.setup u) (stops s.setup w) = resumed_law.stop s.setup u w alike in
        let limits' : all_limits (stops s.setup u) ≡ None = resumed_law.limits.1 (stops s.setup u) (stops s.setup w) stop ∙ limits in
        resumed_law.through (stops s.setup w) (stops s.setup u) (world_from (state_in s (stops s.setup w))) (turned (stops s.setup u) (stops s.setup w) stop)
        (subst (λ (v : SavedState). AreAlike (stops s.setup u) (world_from v)) (same_state s (stops s.setup u) (stops s.setup w) stop) (went_on s scenario es comes.goes_on limits'))

left_resumes : (s : Script) → IsScenario s → (es : List Step) (w : World) (v : SavedState) → IsLeft s es w v → AreAlike (stops s.setup w) (world_from v)
left_resumes s scenario es w v left = subst (λ (v : SavedState). AreAlike (stops s.setup w) (world_from v)) (sym left.is) (resumed_there s scenario es w left.comes left.within)

pub saved_law : LawSaved
saved_law = record {
  fits = left_fits;
  loaded = λ s scenario es w v more left short. state_again v more (left_fits s scenario es w v left short);
  resumes = left_resumes;
}
