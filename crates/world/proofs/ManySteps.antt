-- Steps of a run: one that has ended stays, and each world that it comes to is reached.
use Rattle.std.proofs.Common.{◌≡◌, ℕ, zero, suc, ◌+◌, Bool, true, false, List, [], ◌∷◌, refl, ◌∙◌, ap, ◌==◌}
use Rattle.std.specs.Prelude.{Option, Some, None, if◌then◌else◌, ◌||◌, is_some}
use Rattle.geo_base.specs.declared.event.Event.{Event}
use Rattle.geo_base.specs.declared.event.Step.{Step}
use Rattle.geo_base.specs.declared.event.Step.TheVariants as step
use Rattle.geo_base.specs.Happening.{halts_planned, happens, stops}
use Rattle.geo_base.specs.Planned.{planned}
use Rattle.geo_base.specs.Run.{Ran, all_limits, all_settle, budget, counting_round, ends_or, goes_on, pairs, resets_of, round_of, rounds_of, run_from, settled_world, settles, steps}
use Rattle.geo_base.specs.Setup.{Setup}
use Rattle.geo_base.specs.World.{World}
use Rattle.world_laws.proofs.Walks.Walk.{on_elim, on_if}
use Rattle.kept_laws.proofs.Reaching.{event_reached, halt_reached, idle_reached, round_reached, stop_reached}
use Rattle.kept_laws.specs.Reached.{Reached}

-- ---- a run that has ended

stays_one : (r : Ran) (w : World) (n : ℕ) → r.ended ≡ Some n → goes_on all_limits r w ≡ r
stays_one r w n is = ap (λ (o : Option ℕ). if is_some o then r else ends_or r w (all_limits w)) is

stays_settling : (s : Setup) (r : Ran) (es : List Event) (n : ℕ) → r.ended ≡ Some n → all_settle all_limits s r es ≡ r
stays_settling s r [] n is = refl
stays_settling s r (e ∷ es) n is =
    let one : settles all_limits s r e ≡ r = stays_one r (record (happens s r.world e) { idle = r.world.idle }) n is in
    ap (λ (q : Ran). all_settle all_limits s q es) one ∙ stays_settling s r es n is

stays_rounds : (m : ℕ) (s : Setup) (r : Ran) (n : ℕ) → r.ended ≡ Some n → rounds_of m all_limits s r ≡ r
stays_rounds zero s r n is = refl
stays_rounds (suc m) s r n is =
    let r' : Ran = all_settle all_limits s r (round_of (pairs s)) in
    let same : r' ≡ r = stays_settling s r (round_of (pairs s)) n is in
    let over : is_some r'.ended ≡ true = ap (λ (q : Ran). is_some q.ended) same ∙ ap (λ (o : Option ℕ). is_some o) is in
    ap (λ (b : Bool). elim (b || (r'.world.events == r.world.events)) as (λ c. Ran) [ true ↦ r' | false ↦ rounds_of m all_limits s (counting_round r') ]) over ∙ same

stays_step : (s : Setup) (r : Ran) (e : Step) (n : ℕ) → r.ended ≡ Some n → steps all_limits s r e ≡ r
unfolding steps settled_world
stays_step s r (step.Plain e) n is = stays_one r (happens s r.world e) n is
stays_step s r (step.Halt k e) n is = stays_one r (halts_planned s r.world k (planned s r.world e)) n is
stays_step s r step.Settle n is =
    let same : all_settle all_limits s r (resets_of (pairs s)) ≡ r = stays_settling s r (resets_of (pairs s)) n is in
    ap (λ (q : Ran). rounds_of (budget s r.world + 1) all_limits s q) same ∙ stays_rounds (budget s r.world + 1) s r n is
stays_step s r step.Stop n is = stays_one r (stops s r.world) n is

-- whatever steps are left
pub stays : (s : Setup) (r : Ran) (es : List Step) (n : ℕ) → r.ended ≡ Some n → run_from all_limits s r es ≡ r
stays s r [] n is = refl
stays s r (e ∷ es) n is = ap (λ (q : Ran). run_from all_limits s q es) (stays_step s r e n is) ∙ stays s r es n is

-- ---- the worlds that it comes to

over : (s : Setup) (r : Ran) (w : World) (o : Option ℕ) → Reached s r.world → Reached s w → Reached s (ends_or r w o).world
over s r w None p q = q
over s r w (Some n) p q = p

goes : (s : Setup) (r : Ran) (w : World) → Reached s r.world → Reached s w → Reached s (goes_on all_limits r w).world
goes s r w p q = on_if (λ (r : Ran). Reached s r.world) (is_some r.ended) _ _ p (over s r w (all_limits w) p q)

settling : (s : Setup) (r : Ran) (es : List Event) → Reached s r.world → Reached s (all_settle all_limits s r es).world
settling s r [] p = p
settling s r (e ∷ es) p =
    settling s (settles all_limits s r e) es (goes s r _ p (idle_reached s (happens s r.world e) r.world.idle (event_reached s r.world e p)))

rounds : (m : ℕ) (s : Setup) (r : Ran) → Reached s r.world → Reached s (rounds_of m all_limits s r).world
rounds zero s r p = p
rounds (suc m) s r p =
    let r' : Ran = all_settle all_limits s r (round_of (pairs s)) in
    let p' : Reached s r'.world = settling s r (round_of (pairs s)) p in
    on_elim (λ (r : Ran). Reached s r.world) (is_some r'.ended || (r'.world.events == r.world.events)) r' (rounds_of m all_limits s (counting_round r')) p'
    (rounds m s (counting_round r') (round_reached s r'.world (r'.world.rounds + 1) p'))

pub reaches : (s : Setup) (r : Ran) (e : Step) → Reached s r.world → Reached s (steps all_limits s r e).world
unfolding steps settled_world
reaches s r (step.Plain e) p = goes s r _ p (event_reached s r.world e p)
reaches s r (step.Halt k e) p = goes s r _ p (halt_reached s r.world k e p)
reaches s r step.Settle p = rounds (budget s r.world + 1) s (all_settle all_limits s r (resets_of (pairs s))) (settling s r (resets_of (pairs s)) p)
reaches s r step.Stop p = goes s r _ p (stop_reached s r.world p)
