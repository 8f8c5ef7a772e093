-- Where each sub line is earliest and no step seeks, each message of a cursor is in what some client of its subscription got.
use Rattle.std.proofs.Common.{◌≡◌, ℕ, zero, suc, ◌+◌, Bool, true, false, List, [], ◌∷◌, ◌++◌, refl, sym, ap, subst, ◌∙◌, inl, inr, ◌⊎◌}
use Rattle.std.specs.Prelude.{Option, Some, None, if◌then◌else◌, ◌||◌, is_some}
use Rattle.std.specs.List.{list_any}
use Rattle.std.proofs.lemmas.Bool.{false≢true}
use Rattle.std.proofs.lemmas.Option.{none-some}
use Rattle.world_laws.proofs.Types.{Entry, Event, Ident, Step}
use Rattle.world_laws.proofs.Types.step
use Rattle.geo_base.specs.Entry.{same_ident}
use Rattle.geo_base.specs.Happening.{happens}
use Rattle.geo_base.specs.Laws.{IsShort, begun}
use Rattle.geo_base.specs.Moments.{Settling, settling_so_far, world_between}
use Rattle.geo_base.specs.Run.{Limits, Ran, all_settle, budget, counting_round, ends_or, goes_on, pairs, resets_of, round_of, rounds_of, run_from, settled_world, steps}
use Rattle.geo_base.specs.Setup.{Setup}
use Rattle.geo_base.specs.World.{World, opening_world}
use Rattle.world_laws.specs.Telling.{told_from, told_step, told_under}
use Rattle.world_laws.proofs.Clients.Meeting.{MeetsAll, meets_on, opening_meets}
use Rattle.world_laws.proofs.Dispatching.Remembers.{first_false, second_false}
use Rattle.world_laws.proofs.Induction.Runs.{between_on, run_on}
use Rattle.world_laws.proofs.Replicating.Cursors.{either, or_left, or_right}
use Rattle.world_laws.proofs.Replicating.Effects.{Each}
use Rattle.world_laws.proofs.Snapshotting.Asked.{Named}
use Rattle.world_laws.proofs.Walks.Walk.{on_false, on_true}
use Rattle.consumer_laws.specs.Got.{AllEarliest, OnlyGot, WasGot, is_seek, seeks}
use Rattle.consumer_laws.specs.Handed.{handing}
use Rattle.consumer_laws.proofs.Clients.GotLists.{StaysGot, behind_none, event_got, stays_got, was_stays}
use Rattle.consumer_laws.proofs.Runs.Handed.{handed_between, only_handed}

-- each step does such events
abbrev OkStep : (Event → Type 0) → Step → Type 0
OkStep Ok (step.Plain e) = Ok e
OkStep Ok (step.Halt k e) = Ok e
OkStep Ok step.Settle = Unit {0}
OkStep Ok step.Stop = Unit {0}

-- a run that has ended hands out nothing
ended_same : (l : Limits) (r : Ran) (w : World) → is_some r.ended ≡ true → goes_on l r w ≡ r
ended_same l r w h = on_true (is_some r.ended) r (ends_or r w (l w)) h

ended_events : (l : Limits) (s : Setup) (r : Ran) (es : List Event) → is_some r.ended ≡ true → all_settle l s r es ≡ r
ended_events l s r [] h = refl
ended_events l s r (e ∷ es) h = ap (λ (q : Ran). all_settle l s q es) (ended_same l r _ h) ∙ ended_events l s r es h

ended_choice : (r' q : Ran) (x : Bool) → is_some r'.ended ≡ true → is_some (elim (is_some r'.ended || x) as (λ b. Ran) [ true ↦ r' | false ↦ q ]).ended ≡ true
ended_choice r' q x h = by (is_some r'.ended) h
  where
    by : (t : Bool) → t ≡ true → is_some (elim (t || x) as (λ b. Ran) [ true ↦ r' | false ↦ q ]).ended ≡ true
    by true e = h
    by false e = absurd (false≢true e)

ended_step : (l : Limits) (s : Setup) (r : Ran) (e : Step) → is_some r.ended ≡ true → is_some (steps l s r e).ended ≡ true
unfolding steps settled_world
ended_step l s r (step.Plain e) h = subst (λ (q : Ran). is_some q.ended ≡ true) (sym (ended_same l r _ h)) h
ended_step l s r (step.Halt k e) h = subst (λ (q : Ran). is_some q.ended ≡ true) (sym (ended_same l r _ h)) h
ended_step l s r step.Stop h = subst (λ (q : Ran). is_some q.ended ≡ true) (sym (ended_same l r _ h)) h
ended_step l s r step.Settle h =
    subst (λ (q : Ran). is_some (rounds_of (budget s r.world + 1) l s q).ended ≡ true) (sym (ended_events l s r (resets_of (pairs s)) h)) (rounds (budget s r.world + 1))
  where
    rounds : (n : ℕ) → is_some (rounds_of n l s r).ended ≡ true
    rounds zero = h
    rounds (suc n) =
        let same = ended_events l s r (round_of (pairs s)) h in
        let still : is_some (all_settle l s r (round_of (pairs s))).ended ≡ true = subst (λ (q : Ran). is_some q.ended ≡ true) (sym same) h in
        ended_choice (all_settle l s r (round_of (pairs s))) (rounds_of n l s (counting_round (all_settle l s r (round_of (pairs s))))) _ still

ended_none : (l : Limits) (s : Setup) (r : Ran) (es : List Step) (t : ℕ) (n : List ℕ) → is_some r.ended ≡ true → told_from (handing s) l s r es t n ≡ []
ended_none l s r [] t n h = refl
ended_none l s r (e ∷ es) t n h =
    let still = ended_step l s r e h in
    ap (λ (x : List Ident). x ++ told_from (handing s) l s (steps l s r e) es t n) (on_true (is_some (steps l s r e).ended) [] (told_step (handing s) r.world t n e) still) ∙ ended_none l s (steps l s r e) es t n still

-- ---- where each sub line is earliest and no step seeks, it was got

-- a step that did not end the run did its event
plain_is : (l : Limits) (v w : World) → (goes_on l (begun v) w).ended ≡ None → (goes_on l (begun v) w).world ≡ w
plain_is l v w h = by (l w) h
  where
    by : (o : Option ℕ) → (ends_or (begun v) w o).ended ≡ None → (ends_or (begun v) w o).world ≡ w
    by None e = refl
    by (Some n) e = absurd (none-some n (sym e))

step_got : (l : Limits) (s : Setup) (v : World) (e : Step) (t : ℕ) (n : List ℕ) (x : Entry) → AllEarliest s → ((c : ℕ) → MeetsAll s c v) → OkStep (λ f. is_seek f ≡ false) e
    → (steps l s (begun v) e).ended ≡ None → list_any (same_ident x.ident) (told_step (handing s) v t n e) ≡ true → WasGot s (steps l s (begun v) e).world t n x
unfolding steps
step_got l s v (step.Plain e) t n x all m ok on h = subst (λ (w : World). WasGot s w t n x) (sym (plain_is l v (happens s v e) on)) (event_got s v t n e x all m ok h)
step_got l s v (step.Halt k e) t n x all m ok on h = absurd (behind_none s v k t n e x all m ok h)
step_got l s v step.Settle t n x all m ok on h = absurd (false≢true h)
step_got l s v step.Stop t n x all m ok on h = absurd (false≢true h)

began : (r : Ran) → r.ended ≡ None → begun r.world ≡ r
began r h = λ i. record { world = r.world; ended = sym h i }

any_either : (p : Ident → Bool) (xs ys : List Ident) → list_any p (xs ++ ys) ≡ true → (list_any p xs ≡ true) ⊎ (list_any p ys ≡ true)
any_either p [] ys g = inr g
any_either p (x ∷ xs) ys g =
    elim (either (p x) (list_any p (xs ++ ys)) g) [
      | inl this ↦ inl (or_left (p x) (list_any p xs) this)
      | inr later ↦ elim (any_either p xs ys later) [ inl a ↦ inl (or_right (p x) (list_any p xs) a) | inr b ↦ inr b ]
    ]

handed_got : (l : Limits) (s : Setup) (v : World) (es : List Step) (at : Settling) (t : ℕ) (n : List ℕ) (x : Entry) → AllEarliest s → ((c : ℕ) → MeetsAll s c v) → Each (OkStep (λ f. is_seek f ≡ false)) es
    → list_any (same_ident x.ident) (told_from (handing s) l s (begun v) es t n) ≡ true → WasGot s (settling_so_far l s (run_from l s (begun v) es) at).world t n x
handed_got l s v [] at t n x all m ok h = absurd (false≢true h)
handed_got l s v (e ∷ es) at t n x all m ok h = by (steps l s (begun v) e).ended refl (λ g. handed_got l s (steps l s (begun v) e).world es at t n x all meets ok.1 g)
  where
    r : Ran
    r = steps l s (begun v) e

    meets : (c : ℕ) → MeetsAll s c (steps l s (begun v) e).world
    meets c = run_on l s (MeetsAll s c) (meets_on s c) v (m c) (e ∷ [])

    Goal : Ran → Type 0
    Goal q = WasGot s (settling_so_far l s (run_from l s q es) at).world t n x

    by : (o : Option ℕ) → r.ended ≡ o → (list_any (same_ident x.ident) (told_from (handing s) l s (begun r.world) es t n) ≡ true → Goal (begun r.world)) → Goal r
    by (Some k) is ih =
        let over : is_some r.ended ≡ true = ap is_some is in
        let none : (if is_some r.ended then [] else told_step (handing s) v t n e) ++ told_from (handing s) l s r es t n ≡ [] =
        ap (λ (y : List Ident). y ++ told_from (handing s) l s r es t n) (on_true (is_some r.ended) [] (told_step (handing s) v t n e) over) ∙ ended_none l s r es t n over in
        absurd (false≢true (subst (λ (y : List Ident). list_any (same_ident x.ident) y ≡ true) none h))
    by None is ih =
        let on : is_some r.ended ≡ false = ap is_some is in
        let h' : list_any (same_ident x.ident) (told_step (handing s) v t n e ++ told_from (handing s) l s r es t n) ≡ true =
        subst (λ (y : List Ident). list_any (same_ident x.ident) (y ++ told_from (handing s) l s r es t n) ≡ true) (on_false (is_some r.ended) [] (told_step (handing s) v t n e) on) h in
        elim (any_either (same_ident x.ident) (told_step (handing s) v t n e) (told_from (handing s) l s r es t n) h') [
          | inl now ↦ subst Goal (began r is)
              (was_stays s r.world (settling_so_far l s (run_from l s (begun r.world) es) at).world t n x (between_on l s (StaysGot s r.world) (stays_got s r.world) r.world (λ p c g. g) es at)
              (step_got l s v e t n x all m ok.0 is now))
          | inr later ↦ subst Goal (began r is) (ih (subst (λ (q : Ran). list_any (same_ident x.ident) (told_from (handing s) l s q es t n) ≡ true) (sym (began r is)) later))
        ]

no_seeks : (es : List Step) → list_any seeks es ≡ false → Each (OkStep (λ f. is_seek f ≡ false)) es
no_seeks [] h = tt
no_seeks (step.Plain e ∷ es) h = (first_false (is_seek e) (list_any seeks es) h, no_seeks es (second_false (is_seek e) (list_any seeks es) h))
no_seeks (step.Halt k e ∷ es) h = (first_false (is_seek e) (list_any seeks es) h, no_seeks es (second_false (is_seek e) (list_any seeks es) h))
no_seeks (step.Settle ∷ es) h = (tt, no_seeks es h)
no_seeks (step.Stop ∷ es) h = (tt, no_seeks es h)

pub all_got : (s : Setup) → Named s → AllEarliest s → (l : Limits) (es : List Step) (at : Settling) → list_any seeks es ≡ false → IsShort (world_between l s es at) → OnlyGot s (world_between l s es at)
all_got s names all l es at none short t x v small sub i inside =
    let o = only_handed s (told_under (handing s) l s es) (world_between l s es at) (handed_between l s names es at) short t x v small sub i inside in
    (o.0, o.1, λ message. handed_got l s (opening_world s) es at t v.name o.0 all (λ c. opening_meets s c) (no_seeks es none) (o.2 message))
