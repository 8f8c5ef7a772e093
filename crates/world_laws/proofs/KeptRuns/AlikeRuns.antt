-- Runs from worlds that are alike come to worlds that are alike.
use Rattle.std.proofs.Common.{◌≡◌, ℕ, zero, suc, ◌+◌, ◌==◌, Bool, true, false, List, [], ◌∷◌, refl, ap, subst}
use Rattle.std.specs.Prelude.{Option, Some, None, ◌||◌, if◌then◌else◌, is_some, take}
use Rattle.world_laws.proofs.Types.{Event, Step}
use Rattle.world_laws.proofs.Types.step
use Rattle.geo_base.specs.Moments.{InRound, NotBegun, Resetting, Settling, settling_so_far}
use Rattle.geo_base.specs.Run.{Limits, Ran, all_limits, all_settle, budget, counting_round, ends_or, goes_on, no_limits, pairs, resets_of, round_of, rounds_of, run_from, settled_world, settles, steps}
use Rattle.geo_base.specs.Setup.{Setup}
use Rattle.geo_base.specs.World.{World}
use Rattle.world_laws.specs.AlikeWorlds.{AreAlike, AreEven, RunsAlike}
use Rattle.world_laws.proofs.KeptRuns.AlikeLinks.{same_untaken}
use Rattle.world_laws.proofs.KeptRuns.AlikeWorlds.{event_alike, halt_alike, stop_alike}

-- ---- limits

pub none_even : AreEven no_limits
none_even v w h = refl

pub all_even : AreEven all_limits
all_even v w h = rw (h.events, h.idle, h.frame_bytes) refl

-- ---- a run under even limits

idling_alike : (v w : World) (m n : ℕ) → m ≡ n → AreAlike v w → AreAlike (record v { idle = m }) (record w { idle = n })
idling_alike v w m n same h = record {
  brokers = h.brokers;
  clients = h.clients;
  links = h.links;
  events = h.events;
  idle = same;
  rounds = h.rounds;
  frame_bytes = h.frame_bytes;
}

ended_alike : (q r : Ran) (v w : World) (o : Option ℕ) → RunsAlike q r → AreAlike v w → RunsAlike (ends_or q v o) (ends_or r w o)
ended_alike q r v w None h k = record { world = k; ended = refl }
ended_alike q r v w (Some n) h k = record { world = h.world; ended = refl }

when : {X : Type 0} (P : X → X → Type 0) (a b : Bool) (x x' y y' : X) → a ≡ b → P x x' → P y y' → P (if a then x else y) (if b then x' else y')
when P true true x x' y y' same p q = p
when P false false x x' y y' same p q = q
when P true false x x' y y' same p q = absurd cc
when P false true x x' y y' same p q = absurd cc

gone_alike : (l : Limits) → AreEven l → (q r : Ran) (v w : World) → RunsAlike q r → AreAlike v w → RunsAlike (goes_on l q v) (goes_on l r w)
gone_alike l even q r v w h k =
    when RunsAlike (is_some q.ended) (is_some r.ended) _ _ _ _ (ap (λ (o : Option ℕ). is_some o) h.ended) h
    (subst (λ (o : Option ℕ). RunsAlike (ends_or q v (l v)) (ends_or r w o)) (even v w k) (ended_alike q r v w (l v) h k))

settle_alike : (l : Limits) (s : Setup) → AreEven l → (q r : Ran) (es : List Event) → RunsAlike q r → RunsAlike (all_settle l s q es) (all_settle l s r es)
settle_alike l s even q r [] h = h
settle_alike l s even q r (e ∷ es) h =
    settle_alike l s even (settles l s q e) (settles l s r e) es
    (gone_alike l even q r _ _ h (idling_alike _ _ q.world.idle r.world.idle h.world.idle (event_alike s q.world r.world e h.world)))

counted_alike : (q r : Ran) → RunsAlike q r → RunsAlike (counting_round q) (counting_round r)
counted_alike q r h = record {
  world = record {
    brokers = h.world.brokers;
    clients = h.world.clients;
    links = h.world.links;
    events = h.world.events;
    idle = h.world.idle;
    rounds = ap (λ (n : ℕ). n + 1) h.world.rounds;
    frame_bytes = h.world.frame_bytes;
  };
  ended = h.ended;
}

either : {X : Type 0} (P : X → X → Type 0) (a b : Bool) (x x' y y' : X) → a ≡ b → P x x' → P y y'
    → P (elim a as (λ b. X) [ true ↦ x | false ↦ y ]) (elim b as (λ b. X) [ true ↦ x' | false ↦ y' ])
either P true true x x' y y' same p q = p
either P false false x x' y y' same p q = q
either P true false x x' y y' same p q = absurd cc
either P false true x x' y y' same p q = absurd cc

rounds_alike : (n : ℕ) (l : Limits) (s : Setup) → AreEven l → (q r : Ran) → RunsAlike q r → RunsAlike (rounds_of n l s q) (rounds_of n l s r)
rounds_alike zero l s even q r h = h
rounds_alike (suc n) l s even q r h =
    let q' : Ran = all_settle l s q (round_of (pairs s)) in let r' : Ran = all_settle l s r (round_of (pairs s)) in
    let h' : RunsAlike q' r' = settle_alike l s even q r (round_of (pairs s)) h in
    let same : (is_some q'.ended || (q'.world.events == q.world.events)) ≡ (is_some r'.ended || (r'.world.events == r.world.events)) =
    rw (h'.ended, h'.world.events, h.world.events) refl in
    either RunsAlike (is_some q'.ended || (q'.world.events == q.world.events)) (is_some r'.ended || (r'.world.events == r.world.events))
    q' r' (rounds_of n l s (counting_round q')) (rounds_of n l s (counting_round r')) same h'
    (rounds_alike n l s even (counting_round q') (counting_round r') (counted_alike q' r' h'))

budget_alike : (s : Setup) (v w : World) → AreAlike v w → budget s v ≡ budget s w
budget_alike s v w h =
    rw (h.brokers, same_untaken v.links.forward w.links.forward h.links.forward, same_untaken v.links.back w.links.back h.links.back) refl

step_alike : (l : Limits) (s : Setup) → AreEven l → (q r : Ran) (e : Step) → RunsAlike q r → RunsAlike (steps l s q e) (steps l s r e)
unfolding steps settled_world
step_alike l s even q r (step.Plain e) h = gone_alike l even q r _ _ h (event_alike s q.world r.world e h.world)
step_alike l s even q r (step.Halt k e) h = gone_alike l even q r _ _ h (halt_alike s q.world r.world k e h.world)
step_alike l s even q r step.Settle h =
    let q' = all_settle l s q (resets_of (pairs s)) in let r' = all_settle l s r (resets_of (pairs s)) in
    subst (λ (n : ℕ). RunsAlike (rounds_of (budget s q.world + 1) l s q') (rounds_of (n + 1) l s r')) (budget_alike s q.world r.world h.world)
    (rounds_alike (budget s q.world + 1) l s even q' r' (settle_alike l s even q r (resets_of (pairs s)) h))
step_alike l s even q r step.Stop h = gone_alike l even q r _ _ h (stop_alike s q.world r.world h.world)

pub run_alike : (l : Limits) (s : Setup) → AreEven l → (q r : Ran) → RunsAlike q r → (es : List Step) → RunsAlike (run_from l s q es) (run_from l s r es)
run_alike l s even q r h [] = h
run_alike l s even q r h (e ∷ es) = run_alike l s even (steps l s q e) (steps l s r e) (step_alike l s even q r e h) es

pub settling_alike : (l : Limits) (s : Setup) → AreEven l → (q r : Ran) → RunsAlike q r → (at : Settling) → RunsAlike (settling_so_far l s q at) (settling_so_far l s r at)
settling_alike l s even q r h NotBegun = h
settling_alike l s even q r h (Resetting k) = settle_alike l s even q r (take k (resets_of (pairs s))) h
settling_alike l s even q r h (InRound n k) =
    let q' = all_settle l s q (resets_of (pairs s)) in let r' = all_settle l s r (resets_of (pairs s)) in
    settle_alike l s even (rounds_of n l s q') (rounds_of n l s r') (take k (round_of (pairs s)))
    (rounds_alike n l s even q' r' (settle_alike l s even q r (resets_of (pairs s)) h))
