-- What an observer has told of a run, step by step, is what the definition of its steps has.
use Rattle.std.proofs.Common.{◌≡◌, ℕ, zero, suc, ◌+◌, ◌≤◌, ◌==◌, Bool, true, false, List, [], ◌∷◌, ◌++◌, length, map, drop, append_assoc, refl, sym, ◌∙◌, ap, subst, arith}
use Rattle.std.proofs.lemmas.Bool.{false≢true}
use Rattle.std.proofs.lemmas.List.{append-nil}
use Rattle.std.proofs.lemmas.Option.{none-some}
use Rattle.std.specs.Prelude.{codes, decimal, Option, None, Some, ◌&&◌, ◌||◌, not, if◌then◌else◌, is_some}
use Rattle.geo_base.specs.declared.event.Event.{Event}
use Rattle.geo_base.specs.declared.event.Step.{Step}
use Rattle.geo_base.specs.declared.event.Step.TheVariants as step
use Rattle.geo_base.specs.Happening.{halts_planned, happens, stops}
use Rattle.geo_base.specs.Planned.{planned}
use Rattle.geo_base.specs.Report.{head_line, with_line_feeds, words}
use Rattle.geo_base.specs.Run.{Limits, Ran, all_limits, all_settle, budget, counting_round, ends_or, pairs, resets_of, round_of, run_from, settles, steps}
use Rattle.geo_base.specs.Setup.{Setup}
use Rattle.geo_base.specs.World.{World}
use Rattle.script_rows.specs.Written.{step_line}
use Rattle.script_text.specs.Naming.{names_of}
use Rattle.script_text.specs.Said.{Said}
use Rattle.step_laws.specs.Steps.{Did, Settled, ToldEvent, all_step_lines, changed_in, changed_lines, did_or_idle, event_lines, indented, rounds_told, settle_told, settling_told, step_head, step_lines, step_told, told_from, told_settling}
use Rattle.step_lines.specs.Telling.{Telling, first_said, next_number, tells_settle, tells_settling, tells_step, told_steps}
use Rattle.world.specs.Observing.{rounds_seen, run_seen, settle_seen, settling_seen, step_seen, unless_ended}
use Rattle.world.specs.Runs.{at_world}
use Rattle.world.specs.Settling.{settled_by}
use Rattle.world.proofs.ManySteps.{stays}

-- ---- lines after lines

feeds_both : (ls ms : List (List ℕ)) → with_line_feeds (ls ++ ms) ≡ with_line_feeds ls ++ with_line_feeds ms
feeds_both [] ms = refl
feeds_both (l ∷ ls) ms = ap (λ (t : List ℕ). l ++ (10 ∷ t)) (feeds_both ls ms) ∙ sym (append_assoc l (10 ∷ with_line_feeds ls) (with_line_feeds ms))

indented_both : (ls ms : List (List ℕ)) → map indented (ls ++ ms) ≡ map indented ls ++ map indented ms
indented_both [] ms = refl
indented_both (l ∷ ls) ms = ap (λ (t : List (List ℕ)). indented l ∷ t) (indented_both ls ms)

abbrev said_by : Setup → Step → List ℕ
said_by s = step_line (names_of s)

events_both : (s : Setup) (ds es : List ToldEvent) → event_lines (said_by s) s (ds ++ es) ≡ event_lines (said_by s) s ds ++ event_lines (said_by s) s es
events_both s [] es = refl
events_both s (d ∷ ds) es =
    let first = words (codes "event" ∷ decimal d.number ∷ said_by s (step.Plain d.event) ∷ []) ∷ map indented (changed_lines s d.at) in
    ap (λ (t : List (List ℕ)). first ++ t) (events_both s ds es) ∙ sym (append_assoc first (event_lines (said_by s) s ds) (event_lines (said_by s) s es))

-- what is told of events of settling
abbrev settling_text : Setup → List ToldEvent → List ℕ
settling_text s ds = with_line_feeds (map indented (event_lines (said_by s) s ds))

texts_both : (s : Setup) (ds es : List ToldEvent) → settling_text s (ds ++ es) ≡ settling_text s ds ++ settling_text s es
texts_both s ds es =
    ap (λ (ls : List (List ℕ)). with_line_feeds (map indented ls)) (events_both s ds es)
    ∙ (ap with_line_feeds (indented_both (event_lines (said_by s) s ds) (event_lines (said_by s) s es))
    ∙ feeds_both (map indented (event_lines (said_by s) s ds)) (map indented (event_lines (said_by s) s es)))

-- more text
abbrev with_text : Telling → List ℕ → Telling
with_text t more = record t { text = t.text ++ more }

more_text : (t : Telling) (a b c : List ℕ) → a ++ b ≡ c → with_text (with_text t a) b ≡ with_text t c
more_text t a b c is = ap (λ (x : List ℕ). record t { text = x }) (append_assoc t.text a b ∙ ap (λ (x : List ℕ). t.text ++ x) is)

no_text : (t : Telling) → with_text t [] ≡ t
no_text t = ap (λ (x : List ℕ). record t { text = x }) (append-nil t.text)

-- ---- settling

-- an event that passes no limit, or one that does
settles_seen : (l : Limits) (s : Setup) (r : Ran) (e : Event) (t : Telling)
    → unless_ended (settles l s r e) t (tells_settling s r.world e t) ≡ with_text t (settling_text s (told_settling s r.world (settles l s r e) e))
settles_seen l s r e t = by (is_some r.ended) refl
  where
    v : World
    v = settled_by s r.world e

    done : (o : Option ℕ) → unless_ended (ends_or r v o) t (tells_settling s r.world e t) ≡ with_text t (settling_text s (told_settling s r.world (ends_or r v o) e))
    done None = refl
    done (Some n) = sym (no_text t)

    over : (o : Option ℕ) → is_some o ≡ true → unless_ended (record { world = r.world; ended = o }) t (tells_settling s r.world e t)
        ≡ with_text t (settling_text s (told_settling s r.world (record { world = r.world; ended = o }) e))
    over None is = absurd (false≢true is)
    over (Some n) is = sym (no_text t)

    by : (b : Bool) → is_some r.ended ≡ b
        → unless_ended (if is_some r.ended then r else ends_or r v (l v)) t (tells_settling s r.world e t)
        ≡ with_text t (settling_text s (told_settling s r.world (if is_some r.ended then r else ends_or r v (l v)) e))
    by true is =
        subst (λ (b : Bool). unless_ended (if b then r else ends_or r v (l v)) t (tells_settling s r.world e t)
        ≡ with_text t (settling_text s (told_settling s r.world (if b then r else ends_or r v (l v)) e))) (sym is) (over r.ended is)
    by false is =
        subst (λ (b : Bool). unless_ended (if b then r else ends_or r v (l v)) t (tells_settling s r.world e t)
        ≡ with_text t (settling_text s (told_settling s r.world (if b then r else ends_or r v (l v)) e))) (sym is) (done (l v))

settling_is : (l : Limits) (s : Setup) (r : Ran) (es : List Event) (t : Telling) → settling_seen told_steps l s r es t ≡ with_text t (settling_text s (settling_told l s r es))
settling_is l s r [] t = sym (no_text t)
settling_is l s r (e ∷ es) t =
    let q : Ran = settles l s r e in let one = told_settling s r.world q e in
    ap (λ (u : Telling). settling_seen told_steps l s q es u) (settles_seen l s r e t)
    ∙ (settling_is l s q es (with_text t (settling_text s one))
    ∙ more_text t (settling_text s one) (settling_text s (settling_told l s q es)) _ (sym (texts_both s one (settling_told l s q es))))

-- the end of rounds, as both have it
ends_differ : (a b : Bool) → (not a && not b) ≡ not (a || b)
ends_differ true b = refl
ends_differ false b = refl

by_end : (s : Setup) (t u v : Telling) (ds es : List ToldEvent) (b : Bool) → u ≡ with_text t (settling_text s ds) → v ≡ with_text u (settling_text s es)
    → elim b as (λ b. Telling) [ true ↦ u | false ↦ v ] ≡ with_text t (settling_text s (ds ++ elim (not b) as (λ b. List ToldEvent) [ true ↦ es | false ↦ [] ]))
by_end s t u v ds es true one two = one ∙ ap (λ (k : List ToldEvent). with_text t (settling_text s k)) (sym (append-nil ds))
by_end s t u v ds es false one two =
    two ∙ (ap (λ (x : Telling). with_text x (settling_text s es)) one ∙ more_text t (settling_text s ds) (settling_text s es) _ (sym (texts_both s ds es)))

rounds_are : (more : ℕ) (l : Limits) (s : Setup) (r : Ran) (t : Telling) → rounds_seen more told_steps l s r t ≡ with_text t (settling_text s (rounds_told more l s r))
rounds_are zero l s r t = sym (no_text t)
rounds_are (suc more) l s r t =
    let q : Ran = all_settle l s r (round_of (pairs s)) in let ds = settling_told l s r (round_of (pairs s)) in
    let u = settling_seen told_steps l s r (round_of (pairs s)) t in let es = rounds_told more l s (counting_round q) in
    by_end s t u (rounds_seen more told_steps l s (counting_round q) u) ds es (is_some q.ended || (q.world.events == r.world.events))
    (settling_is l s r (round_of (pairs s)) t) (rounds_are more l s (counting_round q) u)
    ∙ ap (λ (b : Bool). with_text t (settling_text s (ds ++ elim b as (λ b. List ToldEvent) [ true ↦ es | false ↦ [] ])))
    (sym (ends_differ (is_some q.ended) (q.world.events == r.world.events)))

settle_is : (l : Limits) (s : Setup) (r : Ran) (t : Telling) → settle_seen told_steps l s r t ≡ with_text (tells_settle t) (settling_text s (settle_told l s r))
settle_is l s r t =
    let q : Ran = all_settle l s r (resets_of (pairs s)) in let ds = settling_told l s r (resets_of (pairs s)) in let es = rounds_told (budget s r.world + 1) l s q in
    rounds_are (budget s r.world + 1) l s q (settling_seen told_steps l s r (resets_of (pairs s)) (tells_settle t))
    ∙ (ap (λ (x : Telling). with_text x (settling_text s es)) (settling_is l s r (resets_of (pairs s)) (tells_settle t))
    ∙ more_text (tells_settle t) (settling_text s ds) (settling_text s es) _ (sym (texts_both s ds es)))

-- ---- a step

-- the line of a settle, its events and the counts after it
settled_is : (s : Setup) (w : World) (t : Telling) (ds : List ToldEvent)
    → with_text (with_text (tells_settle t) (settling_text s ds)) (with_line_feeds (indented (head_line w) ∷ [])) ≡ tells_step s t (Settled ds (head_line w))
settled_is s w t ds =
    let h = step_head (next_number t.number t.said) (first_said t.said) [] in let ls = event_lines (said_by s) s ds in
    let all = map indented (ls ++ head_line w ∷ []) in
    more_text (tells_settle t) (settling_text s ds) (with_line_feeds (indented (head_line w) ∷ [])) (with_line_feeds all)
    (sym (feeds_both (map indented ls) (indented (head_line w) ∷ [])) ∙ ap with_line_feeds (sym (indented_both ls (head_line w ∷ []))))
    ∙ ap (λ (x : List ℕ). record { text = x; number = next_number t.number t.said; said = drop 1 t.said })
    (append_assoc t.text (with_line_feeds (h ∷ [])) (with_line_feeds all) ∙ ap (λ (x : List ℕ). t.text ++ x) (sym (feeds_both (h ∷ []) all)))

-- where a step ends well, the run is at the world that it leads to
goes_there : (w v : World) (o : Option ℕ) → (ends_or (at_world w) v o).ended ≡ None → ends_or (at_world w) v o ≡ at_world v
goes_there w v None is = refl
goes_there w v (Some n) is = absurd (none-some n (sym is))

seen_there : (q : Ran) (t u : Telling) → q.ended ≡ None → unless_ended q t u ≡ u
seen_there q t u is = ap (λ (o : Option ℕ). unless_ended (record { world = q.world; ended = o }) t u) is

step_is : (s : Setup) (w : World) (e : Step) (t : Telling) → (steps all_limits s (at_world w) e).ended ≡ None
    → step_seen told_steps all_limits s (at_world w) e t ≡ tells_step s t (step_told all_limits s (at_world w) e)
unfolding steps step_seen step_told
step_is s w (step.Plain e) t is =
    let q : Ran = steps all_limits s (at_world w) (step.Plain e) in
    seen_there q t _ is ∙ ap (λ (r : Ran). tells_step s t (did_or_idle s w r.world e)) (sym (goes_there w (happens s w e) (all_limits (happens s w e)) is))
step_is s w (step.Halt k e) t is =
    let v = halts_planned s w k (planned s w e) in let q : Ran = steps all_limits s (at_world w) (step.Halt k e) in
    seen_there q t _ is ∙ ap (λ (r : Ran). tells_step s t (did_or_idle s w r.world e)) (sym (goes_there w v (all_limits v) is))
step_is s w step.Settle t is =
    let q : Ran = steps all_limits s (at_world w) step.Settle in
    seen_there q _ _ is
    ∙ (ap (λ (u : Telling). with_text u (with_line_feeds (indented (head_line q.world) ∷ []))) (settle_is all_limits s (at_world w) t)
    ∙ settled_is s q.world t (settle_told all_limits s (at_world w)))
step_is s w step.Stop t is =
    let q : Ran = steps all_limits s (at_world w) step.Stop in
    seen_there q t _ is ∙ ap (λ (r : Ran). tells_step s t (Did (changed_in s w r.world 0 s.topics))) (sym (goes_there w (stops s w) (all_limits (stops s w)) is))

-- ---- a run

-- a run that has not ended had not ended before
going : (s : Setup) (r : Ran) (es : List Step) → (run_from all_limits s r es).ended ≡ None → r.ended ≡ None
going s r es is = by r.ended refl
  where
    by : (o : Option ℕ) → r.ended ≡ o → r.ended ≡ None
    by None is' = is'
    by (Some n) past = absurd (none-some n (sym (sym past ∙ (ap (λ (q : Ran). q.ended) (sym (stays s r es n past)) ∙ is))))

run_by : (s : Setup) (w : World) (es : List Step) (text : List ℕ) (number : ℕ) (said : List Said) → length es ≤ length said → (run_from all_limits s (at_world w) es).ended ≡ None
    → (run_seen told_steps all_limits s (at_world w) es (record { text = text; number = number; said = said })).text
    ≡ text ++ with_line_feeds (all_step_lines (said_by s) s (number + 1) said (told_from all_limits s (at_world w) es))
run_by s w [] text number [] many is = sym (append-nil text)
run_by s w [] text number (a ∷ said) many is = sym (append-nil text)
run_by s w (e ∷ es) text number [] many is = absurd (omega (arith, many))
run_by s w (e ∷ es) text number (a ∷ said) many is =
    let t : Telling = record { text = text; number = number; said = a ∷ said } in
    let q : Ran = steps all_limits s (at_world w) e in let over = going s q es is in
    let k = step_told all_limits s (at_world w) e in let there : q ≡ at_world q.world = ap (λ (o : Option ℕ). record { world = q.world; ended = o }) over in
    let u = tells_step s t k in let first = step_lines (said_by s) s (number + 1) a k in
    let rest = all_step_lines (said_by s) s (number + 1 + 1) said (told_from all_limits s (at_world q.world) es) in
    ap (λ (x : Telling). (run_seen told_steps all_limits s q es x).text) (step_is s w e t over)
    ∙ (ap (λ (r : Ran). (run_seen told_steps all_limits s r es u).text) there
    ∙ (run_by s q.world es u.text u.number u.said (omega (arith, many)) (subst (λ (r : Ran). (run_from all_limits s r es).ended ≡ None) there is)
    ∙ (append_assoc text (with_line_feeds first) (with_line_feeds rest)
    ∙ (ap (λ (x : List ℕ). text ++ x) (sym (feeds_both first rest))
    ∙ ap (λ (r : Ran). text ++ with_line_feeds (all_step_lines (said_by s) s (number + 1) (a ∷ said) (k ∷ told_from all_limits s r es))) (sym there)))))

-- there is a line of the text for each step
pub run_is : (s : Setup) (w : World) (es : List Step) (t : Telling) → length es ≤ length t.said → (run_from all_limits s (at_world w) es).ended ≡ None
    → (run_seen told_steps all_limits s (at_world w) es t).text
    ≡ t.text ++ with_line_feeds (all_step_lines (said_by s) s (t.number + 1) t.said (told_from all_limits s (at_world w) es))
run_is s w es t many is = run_by s w es t.text t.number t.said many is
