-- How runs end: under which limits, and that a run which no limit ended is the run without limits.
use Rattle.std.proofs.Common.{◌≡◌, ℕ, zero, suc, ◌+◌, ◌==◌, Bool, true, false, if◌then◌else◌, List, [], ◌∷◌, refl, sym, ap, subst, ◌∙◌, inl, inr}
use Rattle.std.specs.Prelude.{Option, Some, None, ◌||◌, ◌⊎◌, is_some, nat_lt, ⊤}
use Rattle.geo_base.specs.declared.event.Event.{Event}
use Rattle.geo_base.specs.declared.event.Step.{Step}
use Rattle.geo_base.specs.declared.event.Step.TheVariants as step
use Rattle.geo_base.specs.Happening.{halts_planned, happens, stops}
use Rattle.geo_base.specs.Planned.{planned}
use Rattle.geo_base.specs.Run.{Limits, Ran, all_limits, all_settle, budget, counting_round, ends_or, goes_on, most_events, most_sent_bytes, no_limits, or_else, pairs, resets_of, round_of, rounds_of, run, run_from, run_under, settled_world, settles, steps}
use Rattle.geo_base.specs.Setup.{Setup}
use Rattle.geo_base.specs.World.{World, opening_world}
use Rattle.world_laws.proofs.Walks.Walk.{on_elim, on_if}

-- ---- what a run ends with, where each world is past such limits alone

module _ (P : Option ℕ → Type 0) (l : Limits) (nothing : P None) (each : (w : World) → P (l w)) where
  abbrev Ends : Ran → Type 0
  Ends r = P r.ended

  ends_with : (r : Ran) (w : World) (o : Option ℕ) → P o → Ends (ends_or r w o)
  ends_with r w None is = is
  ends_with r w (Some limit) is = is

  goes_with : (r : Ran) (w : World) → Ends r → Ends (goes_on l r w)
  goes_with r w h = on_if Ends (is_some r.ended) _ _ h (ends_with r w (l w) (each w))

  settles_with : (s : Setup) (r : Ran) (es : List Event) → Ends r → Ends (all_settle l s r es)
  settles_with s r [] h = h
  settles_with s r (e ∷ es) h = settles_with s (settles l s r e) es (goes_with r (record (happens s r.world e) { idle = r.world.idle }) h)

  rounds_with : (n : ℕ) (s : Setup) (r : Ran) → Ends r → Ends (rounds_of n l s r)
  rounds_with zero s r h = h
  rounds_with (suc n) s r h =
      let r' : Ran = all_settle l s r (round_of (pairs s)) in
      let h' : Ends r' = settles_with s r (round_of (pairs s)) h in
      on_elim Ends (is_some r'.ended || (r'.world.events == r.world.events)) r' (rounds_of n l s (counting_round r')) h'
      (rounds_with n s (counting_round r') h')

  step_with : (s : Setup) (r : Ran) (e : Step) → Ends r → Ends (steps l s r e)
  unfolding steps settled_world
  step_with s r (step.Plain e) h = goes_with r (happens s r.world e) h
  step_with s r (step.Halt n e) h = goes_with r (halts_planned s r.world n (planned s r.world e)) h
  step_with s r step.Settle h =
      rounds_with (budget s r.world + 1) s (all_settle l s r (resets_of (pairs s))) (settles_with s r (resets_of (pairs s)) h)
  step_with s r step.Stop h = goes_with r (stops s r.world) h

  steps_with : (s : Setup) (r : Ran) (es : List Step) → Ends r → Ends (run_from l s r es)
  steps_with s r [] h = h
  steps_with s r (e ∷ es) h = steps_with s (steps l s r e) es (step_with s r e h)

-- under all limits, with limit 2 or 3 or with none
abbrev pub IsOnlyLimit : Option ℕ → Type 0
IsOnlyLimit None = ⊤
IsOnlyLimit (Some limit) = (limit ≡ 2) ⊎ (limit ≡ 3)

limit_is : (b c : Bool) → IsOnlyLimit (or_else (if b then Some 2 else None) (if c then Some 3 else None))
limit_is true c = inl refl
limit_is false true = inr refl
limit_is false false = tt

pub only_limit_from : (s : Setup) (r : Ran) (es : List Step) → r.ended ≡ None → IsOnlyLimit (run_from all_limits s r es).ended
only_limit_from s r es none =
    steps_with IsOnlyLimit all_limits tt (λ w. limit_is (nat_lt most_events (w.events + w.idle)) (nat_lt most_sent_bytes w.frame_bytes)) s r es (subst IsOnlyLimit (sym none) tt)

pub only_limit : (s : Setup) (es : List Step) → IsOnlyLimit (run_under all_limits s es).ended
only_limit s es = only_limit_from s (record { world = opening_world s; ended = None }) es refl

-- without limits, with none
pub never_ends : (s : Setup) (es : List Step) → (run_under no_limits s es).ended ≡ None
never_ends s es = steps_with (λ (o : Option ℕ). o ≡ None) no_limits refl (λ w. refl) s (record { world = opening_world s; ended = None }) es refl

pub never_ends_from : (s : Setup) (w : World) (es : List Step) → (run_from no_limits s (record { world = w; ended = None }) es).ended ≡ None
never_ends_from s w es = steps_with (λ (o : Option ℕ). o ≡ None) no_limits refl (λ w. refl) s (record { world = w; ended = None }) es refl

-- ---- a run that has not ended is the run without limits

abbrev Follows : Ran → Ran → Type 0
Follows r q = r.ended ≡ None → r ≡ q

abbrev at : World → Ran
at w = record { world = w; ended = None }

record WentOn (r next : Ran) (w : World) : Type 0 where
  before : r.ended ≡ None
  after : next ≡ at w

went_on : (o p : Option ℕ) (r : Ran) (w : World) → r.ended ≡ o → (if is_some o then r else ends_or r w p).ended ≡ None → WentOn r (if is_some o then r else ends_or r w p) w
went_on (Some n) p r w is none = absurd (cc (is, none))
went_on None None r w is none = record { before = is; after = refl }
went_on None (Some m) r w is none = absurd (cc none)

goes_back : (l : Limits) (r : Ran) (w : World) → (goes_on l r w).ended ≡ None → r.ended ≡ None
goes_back l r w none = (went_on r.ended (l w) r w refl none).before

freely : (q : Ran) (w : World) → q.ended ≡ None → goes_on no_limits q w ≡ at w
freely q w none = ap (λ (o : Option ℕ). if is_some o then q else at w) none

goes_same : (l : Limits) (f : World → World) (r q : Ran) → Follows r q → Follows (goes_on l r (f r.world)) (goes_on no_limits q (f q.world))
goes_same l f r q h none =
    let u : WentOn r (goes_on l r (f r.world)) (f r.world) = went_on r.ended (l (f r.world)) r (f r.world) refl none in
    let same : r ≡ q = h u.before in
    u.after ∙ (ap (λ (x : Ran). at (f x.world)) same ∙ sym (freely q (f q.world) (ap (λ (x : Ran). x.ended) (sym same) ∙ u.before)))

settle_back : (l : Limits) (s : Setup) (r : Ran) (es : List Event) → (all_settle l s r es).ended ≡ None → r.ended ≡ None
settle_back l s r [] none = none
settle_back l s r (e ∷ es) none = goes_back l r (record (happens s r.world e) { idle = r.world.idle }) (settle_back l s (settles l s r e) es none)

settle_same : (l : Limits) (s : Setup) (r q : Ran) (es : List Event) → Follows r q → Follows (all_settle l s r es) (all_settle no_limits s q es)
settle_same l s r q [] h = h
settle_same l s r q (e ∷ es) h =
    settle_same l s (settles l s r e) (settles no_limits s q e) es (goes_same l (λ (w : World). record (happens s w e) { idle = w.idle }) r q h)

-- after a round: it was the last one, or there are more
abbrev more_rounds : ℕ → Limits → Setup → Bool → Ran → Ran
more_rounds n l s b x = elim b as (λ b. Ran) [ true ↦ x | false ↦ rounds_of n l s (counting_round x) ]

more_back : (n : ℕ) (l : Limits) (s : Setup) → ((r : Ran) → (rounds_of n l s r).ended ≡ None → r.ended ≡ None)
    → (b : Bool) (x : Ran) → (more_rounds n l s b x).ended ≡ None → x.ended ≡ None
more_back n l s back true x none = none
more_back n l s back false x none = back (counting_round x) none

rounds_back : (n : ℕ) (l : Limits) (s : Setup) (r : Ran) → (rounds_of n l s r).ended ≡ None → r.ended ≡ None
rounds_back zero l s r none = none
rounds_back (suc n) l s r none =
    let x : Ran = all_settle l s r (round_of (pairs s)) in
    settle_back l s r (round_of (pairs s)) (more_back n l s (rounds_back n l s) (is_some x.ended || (x.world.events == r.world.events)) x none)

abbrev is_last : Ran → Ran → Bool
is_last before after = is_some after.ended || (after.world.events == before.world.events)

more_same : (n : ℕ) (l : Limits) (s : Setup) → ((r q : Ran) → Follows r q → Follows (rounds_of n l s r) (rounds_of n no_limits s q))
    → (b : Bool) (x y : Ran) → x ≡ y → Follows (more_rounds n l s b x) (more_rounds n no_limits s b y)
more_same n l s same true x y is none = is
more_same n l s same false x y is none = same (counting_round x) (counting_round y) (λ k. ap counting_round is) none

rounds_same : (n : ℕ) (l : Limits) (s : Setup) (r q : Ran) → Follows r q → Follows (rounds_of n l s r) (rounds_of n no_limits s q)
rounds_same zero l s r q h none = h none
rounds_same (suc n) l s r q h none =
    let es = round_of (pairs s) in
    let x : Ran = all_settle l s r es in let y : Ran = all_settle no_limits s q es in
    let open_ : x.ended ≡ None = more_back n l s (rounds_back n l s) (is_last r x) x none in
    let before : r ≡ q = h (settle_back l s r es open_) in
    let after : x ≡ y = settle_same l s r q es h open_ in
    more_same n l s (rounds_same n l s) (is_last r x) x y after none
    ∙ (ap (λ (z : Ran). more_rounds n no_limits s (is_last z x) y) before ∙ ap (λ (z : Ran). more_rounds n no_limits s (is_last q z) y) after)

settled_same : (l : Limits) (s : Setup) (r q : Ran) → Follows r q → Follows (settled_world l s r) (settled_world no_limits s q)
unfolding settled_world
settled_same l s r q h none =
    let es = resets_of (pairs s) in
    let x : Ran = all_settle l s r es in let y : Ran = all_settle no_limits s q es in
    let open_ : x.ended ≡ None = rounds_back (budget s r.world + 1) l s x none in
    rounds_same (budget s r.world + 1) l s x y (settle_same l s r q es h) none
    ∙ ap (λ (z : Ran). rounds_of (budget s z.world + 1) no_limits s y) (h (settle_back l s r es open_))

step_same : (l : Limits) (s : Setup) (r q : Ran) (e : Step) → Follows r q → Follows (steps l s r e) (steps no_limits s q e)
unfolding steps
step_same l s r q (step.Plain e) h = goes_same l (λ (w : World). happens s w e) r q h
step_same l s r q (step.Halt n e) h = goes_same l (λ (w : World). halts_planned s w n (planned s w e)) r q h
step_same l s r q step.Settle h = settled_same l s r q h
step_same l s r q step.Stop h = goes_same l (λ (w : World). stops s w) r q h

step_back : (l : Limits) (s : Setup) (r : Ran) (e : Step) → (steps l s r e).ended ≡ None → r.ended ≡ None
unfolding steps settled_world
step_back l s r (step.Plain e) none = goes_back l r (happens s r.world e) none
step_back l s r (step.Halt n e) none = goes_back l r (halts_planned s r.world n (planned s r.world e)) none
step_back l s r step.Settle none =
    settle_back l s r (resets_of (pairs s)) (rounds_back (budget s r.world + 1) l s (all_settle l s r (resets_of (pairs s))) none)
step_back l s r step.Stop none = goes_back l r (stops s r.world) none

-- a run that has not ended did not end before
pub steps_back : (l : Limits) (s : Setup) (r : Ran) (es : List Step) → (run_from l s r es).ended ≡ None → r.ended ≡ None
steps_back l s r [] none = none
steps_back l s r (e ∷ es) none = step_back l s r e (steps_back l s (steps l s r e) es none)

steps_same : (l : Limits) (s : Setup) (r q : Ran) (es : List Step) → Follows r q → Follows (run_from l s r es) (run_from no_limits s q es)
steps_same l s r q [] h = h
steps_same l s r q (e ∷ es) h = steps_same l s (steps l s r e) (steps no_limits s q e) es (step_same l s r q e h)

-- from any world
pub unlimited_from : (l : Limits) (s : Setup) (w : World) (es : List Step) → (run_from l s (at w) es).ended ≡ None → (run_from l s (at w) es).world ≡ (run_from no_limits s (at w) es).world
unlimited_from l s w es none = ap (λ (r : Ran). r.world) (steps_same l s (at w) (at w) es (λ k. refl) none)

pub unlimited : (l : Limits) (s : Setup) (es : List Step) → (run_under l s es).ended ≡ None → (run_under l s es).world ≡ run s es
unlimited l s es none =
    let o : Ran = record { world = opening_world s; ended = None } in ap (λ (r : Ran). r.world) (steps_same l s o o es (λ k. refl) none)
