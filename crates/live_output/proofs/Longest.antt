-- The longest part of given steps whose run passes no limit.
use Rattle.std.proofs.Common.{◌≡◌, ◌≢◌, ℕ, zero, suc, ◌==◌, Bool, true, false, List, [], ◌∷◌, ◌++◌, refl, sym, ap, subst, ◌∙◌, inl, inr}
use Rattle.std.specs.Prelude.{◌||◌, if◌then◌else◌, not, Option, Some, None, is_some}
use Rattle.std.proofs.lemmas.List.{append-nil, append_assoc}
use Rattle.std.proofs.lemmas.Bool.{false≢true}
use Rattle.geo_base.specs.declared.event.Event.{Event}
use Rattle.geo_base.specs.declared.event.Step.{Step}
use Rattle.geo_base.specs.declared.event.Step.TheVariants as step
use Rattle.geo_base.specs.Run.{Limits, Ran, all_limits, all_settle, ends_or, goes_on, pairs, resets_of, round_of, rounds_of, run_from, run_under, settled_world, steps, counting_round}
use Rattle.geo_base.specs.Setup.{Setup}
use Rattle.geo_base.specs.World.{World}
use Rattle.live_output.specs.Schedules.{EndsSettled, IsLongest, fits, longest, scheduled, with_settling}
use Rattle.geo_base.proofs.Results.{none_is_not_some}

-- ---- a run that has ended does not go on
abbrev HasEnded : Ran → Type 0
HasEnded r = is_some r.ended ≡ true

stays : (l : Limits) (r : Ran) (w : World) → HasEnded r → goes_on l r w ≡ r
stays l r w h = by (is_some r.ended) h
  where
    by : (t : Bool) → t ≡ true → (if t then r else ends_or r w (l w)) ≡ r
    by true e = refl
    by false e = absurd (false≢true e)

all_stay : (l : Limits) (s : Setup) (r : Ran) (es : List Event) → HasEnded r → all_settle l s r es ≡ r
all_stay l s r [] h = refl
all_stay l s r (e ∷ es) h =
    ap (λ (q : Ran). all_settle l s q es) (stays l r _ h) ∙ all_stay l s r es h

rounds_stay : (n : ℕ) (l : Limits) (s : Setup) (r : Ran) → HasEnded r → HasEnded (rounds_of n l s r)
rounds_stay zero l s r h = h
rounds_stay (suc n) l s r h = subst (λ (q : Ran). HasEnded (elim (is_some q.ended || (q.world.events == r.world.events)) as (λ b. Ran) [ true ↦ q | false ↦ rounds_of n l s (counting_round q) ])) (sym (all_stay l s r (round_of (pairs s)) h)) (by (is_some r.ended) h)
  where
    by : (t : Bool) → t ≡ true → HasEnded (elim (t || (r.world.events == r.world.events)) as (λ b. Ran) [ true ↦ r | false ↦ rounds_of n l s (counting_round r) ])
    by true e = h
    by false e = absurd (false≢true e)

step_stays : (l : Limits) (s : Setup) (r : Ran) (e : Step) → HasEnded r → HasEnded (steps l s r e)
unfolding steps settled_world
step_stays l s r (step.Plain e) h = subst HasEnded (sym (stays l r _ h)) h
step_stays l s r (step.Halt k e) h = subst HasEnded (sym (stays l r _ h)) h
step_stays l s r step.Settle h = rounds_stay _ l s _ (subst HasEnded (sym (all_stay l s r (resets_of (pairs s)) h)) h)
step_stays l s r step.Stop h = subst HasEnded (sym (stays l r _ h)) h

run_stays : (l : Limits) (s : Setup) (r : Ran) (es : List Step) → HasEnded r → HasEnded (run_from l s r es)
run_stays l s r [] h = h
run_stays l s r (e ∷ es) h = run_stays l s (steps l s r e) es (step_stays l s r e h)

run_both : (l : Limits) (s : Setup) (r : Ran) (es fs : List Step) → run_from l s r (es ++ fs) ≡ run_from l s (run_from l s r es) fs
run_both l s r [] fs = refl
run_both l s r (e ∷ es) fs = run_both l s (steps l s r e) es fs

none_of : (o : Option ℕ) → not (is_some o) ≡ true → o ≡ None
none_of None h = refl
none_of (Some n) h = absurd (false≢true h)

some_of : (o : Option ℕ) → not (is_some o) ≡ false → o ≢ None
some_of None h = λ e. false≢true (sym h)
some_of (Some n) h = λ e. absurd (cc e)

-- what fits has beginnings that fit
fits_before : (s : Setup) (es fs : List Step) → fits s (es ++ fs) ≡ true → fits s es ≡ true
fits_before s es fs h = by (is_some (run_under all_limits s es).ended) refl
  where
    by : (t : Bool) → is_some (run_under all_limits s es).ended ≡ t → not t ≡ true
    by false e = refl
    by true e =
        let r : Ran = run_under all_limits s es in
        let ended : HasEnded (run_under all_limits s (es ++ fs)) = subst HasEnded (sym (run_both all_limits s _ es fs)) (run_stays all_limits s r fs e) in
        absurd (false≢true (sym (ap not ended) ∙ h))

-- ---- the longest
longest_is : (s : Setup) (done es : List Step) → fits s done ≡ true → IsLongest s (done ++ es) (longest s done es)
longest_is s done [] h = record { rest = []; whole = refl; within = none_of _ h; most = λ e more is. absurd (cc is) }
longest_is s done (e ∷ es) h = by (fits s (done ++ e ∷ [])) refl (longest_is s (done ++ e ∷ []) es)
  where
    by : (t : Bool) → fits s (done ++ e ∷ []) ≡ t → (fits s (done ++ e ∷ []) ≡ true → IsLongest s ((done ++ e ∷ []) ++ es) (longest s (done ++ e ∷ []) es))
        → IsLongest s (done ++ e ∷ es) (if t then longest s (done ++ e ∷ []) es else done)
    by true e' more = subst (λ (us : List Step). IsLongest s us (longest s (done ++ e ∷ []) es)) (append_assoc done (e ∷ []) es) (more e')
    by false e' more = record {
      rest = e ∷ es;
      whole = refl;
      within = none_of _ h;
      most = λ d ds is.
          let same : e ≡ d = cc is in
          subst (λ (d : Step). (run_under all_limits s (done ++ d ∷ [])).ended ≢ None) same (some_of _ e');
    }

opening_fits : (s : Setup) → fits s [] ≡ true
opening_fits s = refl

pub longest_law : (s : Setup) (es : List Step) → IsLongest s es (longest s [] es)
longest_law s es = longest_is s [] es (opening_fits s)

settling_fits : (s : Setup) (es : List Step) → fits s es ≡ true → fits s (with_settling s es) ≡ true
settling_fits s es h = by (fits s (es ++ step.Settle ∷ [])) refl
  where
    by : (t : Bool) → fits s (es ++ step.Settle ∷ []) ≡ t → fits s (if t then es ++ step.Settle ∷ [] else es) ≡ true
    by true e = e
    by false e = h

pub within_law : (s : Setup) (es : List Step) → (run_under all_limits s (scheduled s es)).ended ≡ None
within_law s es = none_of _ (settling_fits s (longest s [] es) (none_is_not_some _ (longest_law s es).within))

pub settled_law : (s : Setup) (es : List Step) → EndsSettled s (scheduled s es)
settled_law s es = by (fits s (longest s [] es ++ step.Settle ∷ [])) refl
  where
    by : (t : Bool) → fits s (longest s [] es ++ step.Settle ∷ []) ≡ t → EndsSettled s (if t then longest s [] es ++ step.Settle ∷ [] else longest s [] es)
    by true e = inl (longest s [] es, refl)
    by false e = inr (some_of _ e)

whole_from : (s : Setup) (done es : List Step) → fits s (done ++ es) ≡ true → longest s done es ≡ done ++ es
whole_from s done [] h = sym (append-nil done)
whole_from s done (e ∷ es) h = by (fits s (done ++ e ∷ [])) (fits_before s (done ++ e ∷ []) es one) (whole_from s (done ++ e ∷ []) es one)
  where
    one : fits s ((done ++ e ∷ []) ++ es) ≡ true
    one = subst (λ (us : List Step). fits s us ≡ true) (sym (append_assoc done (e ∷ []) es)) h

    by : (t : Bool) → t ≡ true → longest s (done ++ e ∷ []) es ≡ (done ++ e ∷ []) ++ es → (if t then longest s (done ++ e ∷ []) es else done) ≡ done ++ e ∷ es
    by true e' rest = rest ∙ append_assoc done (e ∷ []) es
    by false e' rest = absurd (false≢true e')

pub whole_law : (s : Setup) (es : List Step) → (run_under all_limits s es).ended ≡ None → longest s [] es ≡ es
whole_law s es h = whole_from s [] es (none_is_not_some _ h)
