-- The law: where a subscription is sought, or deleted, at every cluster after a settling, what was settled before counts no more.
use Rattle.std.proofs.Common.{◌≡◌, ℕ, ◌<◌, ◌≤◌, ◌==◌, Bool, true, false, List, [], ◌∷◌, ◌++◌, length, refl, sym, ap, subst, ◌∙◌, arith, not}
use Rattle.std.specs.Prelude.{Option, Some, None, ◌&&◌, ◌||◌, if◌then◌else◌, is_some, slice_get}
use Rattle.std.specs.List.{list_any}
use Rattle.std.specs.Str.{bytes_eq}
use Rattle.std.proofs.lemmas.Bool.{eq-eqb, eqb-true, false≢true}
use Rattle.std.proofs.lemmas.List.{append_assoc}
use Rattle.std.proofs.lemmas.Option.{slice_get_within}
use Rattle.std.proofs.lemmas.Slice.Eq.{bytes_eq-Decides}
use Rattle.world_laws.proofs.Types.{ClusterPosition, Entry, Event, Ident, Position, Step}
use Rattle.world_laws.proofs.Types.content
use Rattle.world_laws.proofs.Types.event
use Rattle.world_laws.proofs.Types.marker
use Rattle.world_laws.proofs.Types.step
use Rattle.geo_base.specs.Broker.{sub_named}
use Rattle.geo_base.specs.Cursor.{has}
use Rattle.geo_base.specs.Entry.{same_ident}
use Rattle.geo_base.specs.Happening.{does_planned, halts_planned, happens}
use Rattle.geo_base.specs.Laws.{IsShort, after_settling, begun}
use Rattle.geo_base.specs.Moments.{Settling, NotBegun, settling_so_far}
use Rattle.geo_base.specs.Planned.{Planned, has_client, planned}
use Rattle.geo_base.specs.Run.{Limits, Ran, no_limits, run, run_from, settled_world, steps}
use Rattle.geo_base.specs.Scripted.{IsScripted}
use Rattle.geo_base.specs.Settled.{IsSettled, SettledSoFar}
use Rattle.geo_base.specs.Setup.{Setup, sub_name, sub_names}
use Rattle.geo_base.specs.Subscription.{Subscription}
use Rattle.geo_base.specs.World.{ToClient, World, client_at, opening_world, topic_at}
use Rattle.world_laws.specs.Telling.{Telling, settling, told_from, told_step, told_under}
use Rattle.world_laws.proofs.ComesOver.Complete.{budget_always}
use Rattle.world_laws.proofs.Dispatching.SubFrames.{each_at_place}
use Rattle.world_laws.proofs.Induction.Runs.{IsKeptOn, between_on, run_on}
use Rattle.world_laws.proofs.Induction.Short.{client_short, does_short, halts_short, stops_short}
use Rattle.world_laws.proofs.KeptRuns.ResumedRuns.{run_open, run_parts}
use Rattle.world_laws.proofs.Replicating.Cursors.{or_left, or_right}
use Rattle.world_laws.proofs.Replicating.Effects.{Each, each_map}
use Rattle.world_laws.proofs.Replicating.Sizes.{IsThere}
use Rattle.world_laws.proofs.Snapshotting.Asked.{Named, named}
use Rattle.world_laws.proofs.Telling.TellingRuns.{told_between}
use Rattle.world_laws.proofs.Telling.TellingRuns.{in_run as told_in_run}
use Rattle.world_laws.proofs.Telling.Told.{OnlyTold, ToldOver, told_too}
use Rattle.world_laws.proofs.Telling.ToldLaws.{told_kept}
use Rattle.world_laws.proofs.Telling.ToldRuns.{kept_telling}
use Rattle.world_laws.proofs.Walks.Walk.{both, by_test, on_false, on_if, on_true}
use Rattle.consumer_laws.specs.Anew.{AreClusters, AreStored, IsNowhere, LawAnew, NoUpdateSince, OnlySettledAt, all_sought, settled_behind_all, settled_since}
use Rattle.consumer_laws.proofs.Fences.Fencing.{Fencing, fenced, is_left, with_all}
use Rattle.consumer_laws.proofs.Fences.Kept.{Anew, HasComeOver, anew_kept, from_world}
use Rattle.consumer_laws.proofs.Fences.Since.{since_itself}
use Rattle.consumer_laws.proofs.Subscriptions.Plans.{none_named}
use Rattle.consumer_laws.proofs.Subscriptions.WhatIsOut.{each_two}
use Rattle.geo_base.proofs.Bools.{and_no_second}
use Rattle.geo_base.proofs.Lists.{bytes_eq_itself}

-- ---- runs

-- a world from which a short one comes is short
abbrev ShortFrom : World → World → Type 0
ShortFrom v w = IsShort w → IsShort v

planned_short : (s : Setup) (w : World) (o : Option Planned) → IsShort (does_planned s w o) → IsShort w
planned_short s w None short = short
planned_short s w (Some p) short = does_short s w p short

event_short : (s : Setup) (w : World) (e : Event) → IsShort (happens s w e) → IsShort w
unfolding happens
event_short s w (event.Go c) = on_if (λ (w' : World). IsShort w' → IsShort w) (has_client s c) _ _ (client_short s w c None _) (λ short. short)
event_short s w (event.Reconnect c) = on_if (λ (w' : World). IsShort w' → IsShort w) (has_client s c) _ _ (client_short s w c None _) (λ short. short)
event_short s w (event.Get c) =
    on_if (λ (w' : World). IsShort w' → IsShort w) (has_client s c) _ _ (client_short s w c (Some (ToClient c (client_at s w c).cluster)) _) (λ short. short)
event_short s w e = planned_short s w (planned s w e)

halt_short : (s : Setup) (w : World) (k : ℕ) (o : Option Planned) → IsShort (halts_planned s w k o) → IsShort w
halt_short s w k None short = short
halt_short s w k (Some p) short = halts_short s w k p short

short_on : (s : Setup) (v : World) → IsKeptOn s (ShortFrom v)
short_on s v = record {
  idle = λ w n h short. h short;
  round = λ w n h short. h short;
  event = λ w e h short. h (event_short s w e short);
  halts = λ w k e h short. h (halt_short s w k (planned s w e) short);
  stop = λ w h short. h (stops_short s w short);
}

-- what is told in a row
told_parts : (tells : Telling) (l : Limits) (s : Setup) (r : Ran) (xs ys : List Step) (t : ℕ) (n : List ℕ)
    → told_from tells l s r (xs ++ ys) t n ≡ told_from tells l s r xs t n ++ told_from tells l s (run_from l s r xs) ys t n
told_parts tells l s r [] ys t n = refl
told_parts tells l s r (x ∷ xs) ys t n =
    let r' : Ran = steps l s r x in let one : List Ident = if is_some r'.ended then [] else told_step tells r.world t n x in
    ap (λ (is : List Ident). one ++ is) (told_parts tells l s r' xs ys t n)
    ∙ sym (append_assoc one (told_from tells l s r' xs t n) (told_from tells l s (run_from l s r' xs) ys t n))

-- a run to the end of a settling
settles_last : (s : Setup) (r : Ran) → r.ended ≡ None → (steps no_limits s r step.Settle).world ≡ after_settling s r.world
unfolding steps
settles_last s r none = ap (λ (o : Option ℕ). (settled_world no_limits s (record { world = r.world; ended = o })).world) none

run_settled : (s : Setup) (es : List Step) → settled_behind_all s es ≡ after_settling s (run s es)
run_settled s es =
    let o : Ran = begun (opening_world s) in
    ap (λ (r : Ran). r.world) (run_parts no_limits s o es (step.Settle ∷ [])) ∙ settles_last s (run_from no_limits s o es) (run_open s o es refl)

come_over : (s : Setup) → IsScripted s → (es : List Step) → IsShort (settled_behind_all s es) → HasComeOver s (settled_behind_all s es)
come_over s scripted es short =
    subst (HasComeOver s) (sym (run_settled s es)) ((budget_always.complete s scripted).run es (subst IsShort (run_settled s es) short))

-- what is settled by then is all that is acknowledged there
settled_there : (s : Setup) → Named s → (es : List Step) → ToldOver s (told_under (settling s) no_limits s (es ++ step.Settle ∷ [])) (settled_behind_all s es)
settled_there s names es =
    told_in_run (settling s) no_limits s (ToldOver s) (kept_telling s (ToldOver s) (told_kept s names)) (told_kept s names).opening (es ++ step.Settle ∷ [])

-- ---- all but one subscription

told_but : ℕ → List ℕ → SettledSoFar → SettledSoFar
told_but t n told u m = if (u == t) && bytes_eq m n then [] else told u m

but_none : (t : ℕ) (n : List ℕ) (told : SettledSoFar) → told_but t n told t n ≡ []
unfolding told_but
but_none t n told = on_true ((t == t) && bytes_eq n n) [] (told t n) (both (t == t) (bytes_eq n n) (eq-eqb t t refl) (bytes_eq_itself n))

but_told : (t : ℕ) (n : List ℕ) (told : SettledSoFar) (u : ℕ) (m : List ℕ) (e : Entry) → ((u == t) && bytes_eq m n) ≡ false → IsSettled told u m e → IsSettled (told_but t n told) u m e
unfolding told_but
but_told t n told u m e other h = subst (λ (l : List Ident). list_any (same_ident e.ident) l ≡ true) (sym (on_false ((u == t) && bytes_eq m n) [] (told u m) other)) h

but_only : (t : ℕ) (n : List ℕ) (told : SettledSoFar) (u : ℕ) (es : List Entry) (v : Subscription) → ((u == t) && bytes_eq v.name n) ≡ false → OnlyTold told u es v
    → OnlyTold (told_but t n told) u es v
but_only t n told u es v other h i inside = let o = h i inside in (o.0, o.1, λ message. but_told t n told u v.name o.0 other (o.2 message))

-- ---- at the end

only_since : (s : Setup) (v : World) (told since : SettledSoFar) (w : World) (t : ℕ) (n : List ℕ) → t < length s.topics → told t n ≡ since t n → Anew s v told w → IsShort w → OnlySettledAt s w since t n
only_since s v told since w t n lt same h short x sub small is name i inside =
    let b = topic_at s w t x in
    let o = each_at_place (OnlyTold told t b.entries) b.subs is.0 sub ((h.1 short).kept t x (lt, small)).only is.1 i inside in
    (o.0, o.1, λ message. moved o.0 (o.2 message))
  where
    moved : (e : Entry) → IsSettled told t sub.name e → IsSettled since t sub.name e
    moved e g =
        subst (λ (m : List ℕ). IsSettled since t m e) (sym name)
        (subst (λ (is : List Ident). list_any (same_ident e.ident) is ≡ true) same (subst (λ (m : List ℕ). IsSettled told t m e) name g))

-- ---- seeks

has_with : (xs ys : List ℕ) (x : ℕ) → has ys x ≡ true → has (with_all xs ys) x ≡ true
has_with [] ys x h = h
has_with (y ∷ xs) ys x h = has_with xs (y ∷ ys) x (or_right (y == x) (has ys x) h)

has_all : (xs ys : List ℕ) (x : ℕ) → has xs x ≡ true → has (with_all xs ys) x ≡ true
has_all [] ys x h = absurd (false≢true h)
has_all (y ∷ xs) ys x h =
    by_test (y == x) (λ is. has_with xs (y ∷ ys) x (or_left (y == x) (has ys x) is)) (λ other. has_all xs (y ∷ ys) x (right_of (y == x) (has xs x) other h))
  where
    right_of : (c d : Bool) → c ≡ false → (c || d) ≡ true → d ≡ true
    right_of true d is k = absurd (false≢true (sym is))
    right_of false d is k = k

none_but : (c : Bool) → (c && not false) ≡ false → c ≡ false
none_but true h = h
none_but false h = refl

start_fencing : (s : Setup) (v : World) (told : SettledSoFar) (t : ℕ) (n : List ℕ) → ToldOver s told v → Fencing s v (told_but t n told) t n [] v
start_fencing s v told t n h = (
  h.0,
  λ short. record {
    since = since_itself s v;
    kept = λ u x there.
        let b = topic_at s v u x in record {
          only = each_map (OnlyTold told u b.entries) (λ (a : Subscription). is_left t n [] u x a ≡ false → OnlyTold (told_but t n told) u b.entries a)
              (λ a f out. but_only t n told u b.entries a (none_but ((u == t) && bytes_eq a.name n) out) f) b.subs (h.1 short u x there).only;
          names = λ i e m remote late at of is. let lt = slice_get_within b.entries i e at in absurd (omega (arith, late, lt));
        };
  },
)

-- where each cluster is sought nothing is left
fenced_anew : (s : Setup) (v : World) (told : SettledSoFar) (t : ℕ) (n xs : List ℕ) (w : World) → ((x : ℕ) → x < length s.clusters → has xs x ≡ true) → Fencing s v told t n xs w → Anew s v told w
fenced_anew s v told t n xs w all h = (
  h.0,
  λ short. record {
    since = (h.1 short).since;
    kept = λ u x there.
        let b = topic_at s w u x in let k = (h.1 short).kept u x there in record {
          only = each_map (λ (a : Subscription). is_left t n xs u x a ≡ false → OnlyTold told u b.entries a) (OnlyTold told u b.entries)
              (λ a f. f (none ((u == t) && bytes_eq a.name n) (has xs x) (all x there.1))) b.subs k.only;
          names = k.names;
        };
  },
)
  where
    none : (a c : Bool) → c ≡ true → (a && not c) ≡ false
    none a false h = absurd (false≢true h)
    none true true h = refl
    none false true h = refl

sought_anew : (s : Setup) → IsScripted s → (es : List Step) (t m : ℕ) (to : ℕ → Option Position) (xs : List ℕ) (fs : List Step) (at : Settling) → t < length s.topics → m < length (sub_names s t)
    → AreClusters s xs → AreStored s (settled_behind_all s es) t to
    → let q = run_from no_limits s (run_from no_limits s (begun (settled_behind_all s es)) (all_sought t m to xs)) fs in
    IsShort (settling_so_far no_limits s q at).world → IsShort (settled_behind_all s es)
    → OnlySettledAt s (settling_so_far no_limits s q at).world (settled_since s (settled_behind_all s es) (all_sought t m to xs ++ fs)) t (sub_name s t m)
sought_anew s scripted es t m to xs fs at lt small clusters stored short was =
    only_since s v told (settled_since s v (seeks ++ fs)) _ t n lt same
    (told_between (settling s) no_limits s (Anew s v) (anew_kept s names v (come_over s scripted es was)) told2 r there fs at) short
  where
    names : Named s
    names = named s scripted

    v : World
    v = settled_behind_all s es

    n : List ℕ
    n = sub_name s t m

    seeks : List Step
    seeks = all_sought t m to xs

    r : Ran
    r = run_from no_limits s (begun v) seeks

    before : SettledSoFar
    before = told_under (settling s) no_limits s (es ++ step.Settle ∷ [])

    told1 : SettledSoFar
    told1 = told_but t n before

    told2 : SettledSoFar
    told2 = told_too told1 (settled_since s v seeks)

    told : SettledSoFar
    told = told_too told2 (told_from (settling s) no_limits s r fs)

    there : Anew s v told2 r.world
    there =
        fenced_anew s v told2 t n (with_all xs []) r.world (λ x k. has_all xs [] x (clusters.all x k))
        (fenced s names v told1 v t m xs [] to lt small clusters.only stored (start_fencing s v before t n (settled_there s names es)))

    same : told t n ≡ settled_since s v (seeks ++ fs) t n
    same =
        ap (λ (is : List Ident). (is ++ settled_since s v seeks t n) ++ told_from (settling s) no_limits s r fs t n) (but_none t n before)
        ∙ sym (told_parts (settling s) no_limits s (begun v) seeks fs t n)

-- ---- deletions

-- one of two tests fails
first_no : (c d : Bool) → c ≡ false → (c && d) ≡ false
first_no true d h = absurd (false≢true (sym h))
first_no false d h = refl

deleted_anew : (s : Setup) → Named s → (v : World) → HasComeOver s v → (told : SettledSoFar) (u : World) (t : ℕ) (n : List ℕ) → t < length s.topics → IsNowhere s u t n → NoUpdateSince s v u t n → Anew s v told u
    → Anew s v (told_but t n told) u
deleted_anew s names v over told u t n lt nowhere none h = (
  h.0,
  λ short. record {
    since = (h.1 short).since;
    kept = λ a x there.
        let b = topic_at s u a x in let k = (h.1 short).kept a x there in record {
          only = only a x there b.subs refl k.only;
          names = λ i e m remote late at of is y in_y differ.
              let o = k.names i e m remote late at of is y in_y differ in
              (o.0, o.1, o.2, o.3, λ j f le stands message meant. but_told t n told a m f (other a x there i e m remote late at is) (o.4 j f le stands message meant));
        };
  },
)
  where
    -- an update that was stored since is of another topic or subscription
    other : (a x : ℕ) → IsThere s a x → (i : ℕ) (e : Entry) (m : List ℕ) (remote : List ClusterPosition) → from_world s v a x ≤ i → slice_get (topic_at s u a x).entries i ≡ Some e
        → e.content ≡ content.Marked (marker.Update m remote) → ((a == t) && bytes_eq m n) ≡ false
    other a x there i e m remote late at is = by (a == t) (bytes_eq m n) refl refl
      where
        by : (c d : Bool) → (a == t) ≡ c → bytes_eq m n ≡ d → (c && d) ≡ false
        by false d is_c is_d = refl
        by true false is_c is_d = refl
        by true true is_c is_d =
            let same_t = eqb-true a t is_c in let same_n = (bytes_eq-Decides m n).0 is_d in
            absurd (none x i e remote there.1 (subst (λ (z : ℕ). length (topic_at s v z x).entries ≤ i) same_t late) (subst (λ (z : ℕ). slice_get (topic_at s u z x).entries i ≡ Some e) same_t at)
            (subst (λ (l : List ℕ). e.content ≡ content.Marked (marker.Update l remote)) same_n is))

    only : (a x : ℕ) → IsThere s a x → (vs : List Subscription) → (topic_at s u a x).subs ≡ vs → Each (OnlyTold told a (topic_at s u a x).entries) vs
        → Each (OnlyTold (told_but t n told) a (topic_at s u a x).entries) vs
    only a x there vs is kept = by (a == t) refl
      where
        by : (c : Bool) → (a == t) ≡ c → Each (OnlyTold (told_but t n told) a (topic_at s u a x).entries) vs
        by false is_c = each_map (OnlyTold told a (topic_at s u a x).entries) (OnlyTold (told_but t n told) a (topic_at s u a x).entries)
            (λ sub f. but_only t n told a (topic_at s u a x).entries sub (first_no (a == t) (bytes_eq sub.name n) is_c) f) vs kept
        by true is_c =
            let absent = subst (λ (ws : List Subscription). sub_named ws n ≡ None) is (subst (λ (z : ℕ). sub_named (topic_at s u z x).subs n ≡ None) (sym (eqb-true a t is_c)) (nowhere x there.1)) in
            each_two (OnlyTold told a (topic_at s u a x).entries) (λ (sub : Subscription). bytes_eq sub.name n ≡ false) (OnlyTold (told_but t n told) a (topic_at s u a x).entries)
            (λ sub f differ. but_only t n told a (topic_at s u a x).entries sub (and_no_second (a == t) (bytes_eq sub.name n) differ) f) vs kept (none_named vs n absent)

gone_anew : (s : Setup) → IsScripted s → (es ks fs : List Step) (at : Settling) (t : ℕ) (n : List ℕ) → let v = settled_behind_all s es in let u = (run_from no_limits s (begun v) ks).world in
    t < length s.topics → IsNowhere s u t n → NoUpdateSince s v u t n → IsShort (settling_so_far no_limits s (run_from no_limits s (begun u) fs) at).world → IsShort v
    → OnlySettledAt s (settling_so_far no_limits s (run_from no_limits s (begun u) fs) at).world (settled_since s u fs) t n
gone_anew s scripted es ks fs at t n lt nowhere none short was =
    only_since s v (told_too told2 (settled_since s u fs)) (settled_since s u fs) _ t n lt (ap (λ (is : List Ident). is ++ settled_since s u fs t n) (but_none t n told1))
    (told_between (settling s) no_limits s (Anew s v) (anew_kept s names v over) told2 (begun u) (deleted_anew s names v over told1 u t n lt nowhere none there) fs at) short
  where
    names : Named s
    names = named s scripted

    v : World
    v = settled_behind_all s es

    u : World
    u = (run_from no_limits s (begun v) ks).world

    over : HasComeOver s v
    over = come_over s scripted es was

    before : SettledSoFar
    before = told_under (settling s) no_limits s (es ++ step.Settle ∷ [])

    told1 : SettledSoFar
    told1 = told_too before (settled_since s v ks)

    told2 : SettledSoFar
    told2 = told_but t n told1

    start : Anew s v before v
    start =
        let h = settled_there s names es in (
          h.0,
          λ short. record {
            since = since_itself s v;
            kept = λ a x there.
                let b = topic_at s v a x in record {
                  only = (h.1 short a x there).only;
                  names = λ i e m remote late at' of is. let lt' = slice_get_within b.entries i e at' in absurd (omega (arith, late, lt'));
                };
          },
        )

    there : Anew s v told1 u
    there = told_between (settling s) no_limits s (Anew s v) (anew_kept s names v over) before (begun v) start ks NotBegun

pub anew_holds : LawAnew
anew_holds = record {
  sought = λ s scripted es t m to xs fs at lt small clusters stored short.
      let v = settled_behind_all s es in let seeks = all_sought t m to xs in
      let was = between_on no_limits s (ShortFrom v) (short_on s v) v (λ h. h) (seeks ++ fs) at short in
      subst (λ (q : Ran). IsShort (settling_so_far no_limits s q at).world → OnlySettledAt s (settling_so_far no_limits s q at).world (settled_since s v (seeks ++ fs)) t (sub_name s t m))
      (sym (run_parts no_limits s (begun v) seeks fs)) (λ k. sought_anew s scripted es t m to xs fs at lt small clusters stored k was) short;
  deleted = λ s scripted es ks fs at t n lt nowhere none short.
      let v = settled_behind_all s es in let u = (run_from no_limits s (begun v) ks).world in
      let was_u = between_on no_limits s (ShortFrom u) (short_on s u) u (λ h. h) fs at short in
      gone_anew s scripted es ks fs at t n lt nowhere none short (run_on no_limits s (ShortFrom v) (short_on s v) v (λ h. h) ks was_u);
}
