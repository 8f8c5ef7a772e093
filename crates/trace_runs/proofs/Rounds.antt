-- What an observer has seen that adds its lines is the trace of the run.
use Rattle.std.proofs.Common.{◌≡◌, ℕ, zero, suc, ◌+◌, ◌==◌, Bool, true, false, List, [], ◌∷◌, ◌++◌, refl, sym, ◌∙◌, ap}
use Rattle.std.proofs.lemmas.List.{append-nil}
use Rattle.std.specs.Prelude.{◌||◌, if◌then◌else◌, is_some}
use Rattle.geo_base.specs.declared.event.Event.{Event}
use Rattle.geo_base.specs.declared.event.Step.{Step}
use Rattle.geo_base.specs.declared.event.Step.TheVariants as step
use Rattle.geo_base.specs.Run.{Limits, Ran, all_settle, budget, counting_round, pairs, resets_of, round_of, settles, steps}
use Rattle.geo_base.specs.Setup.{Setup}
use Rattle.geo_base.specs.TraceItems.{Begins, Item}
use Rattle.geo_base.specs.Traced.{event_items, halt_items, items_from, rounds_items, settling_items, step_items, unless_ended}
use Rattle.world.specs.Observing.{rounds_seen, run_seen, settle_seen, settling_seen, step_seen, unless_ended as seen_unless_ended}
use Rattle.trace_runs.specs.Tracing.{item_lines, told_lines}
use Rattle.trace_runs.proofs.ItemsTold.{both_told}

by_test : (s : Setup) (is : List Item) (t : List ℕ) (b : Bool) → (if b then t else t ++ item_lines s is) ≡ t ++ item_lines s (if b then [] else is)
by_test s is t true = sym (append-nil t)
by_test s is t false = refl

unless_told : (s : Setup) (r : Ran) (is : List Item) (t : List ℕ) → seen_unless_ended r t (t ++ item_lines s is) ≡ t ++ item_lines s (unless_ended r is)
unless_told s r is t = by_test s is t (is_some r.ended)

settling_told : (l : Limits) (s : Setup) (r : Ran) (es : List Event) (t : List ℕ) → settling_seen told_lines l s r es t ≡ t ++ item_lines s (settling_items l s r es)
settling_told l s r [] t = sym (append-nil t)
settling_told l s r (e ∷ es) t =
    let q : Ran = settles l s r e in let is = event_items s r.world e in
    both_told s (unless_ended q is) (settling_items l s q es) t (seen_unless_ended q t (t ++ item_lines s is)) _ (unless_told s q is t)
    (settling_told l s q es (seen_unless_ended q t (t ++ item_lines s is)))

by_end : (s : Setup) (is js : List Item) (t u v : List ℕ) (b : Bool) → u ≡ t ++ item_lines s is → v ≡ u ++ item_lines s js
    → elim b as (λ b. List ℕ) [ true ↦ u | false ↦ v ] ≡ t ++ item_lines s (is ++ elim b as (λ b. List Item) [ true ↦ [] | false ↦ js ])
by_end s is js t u v true one two = one ∙ ap (λ (ks : List Item). t ++ item_lines s ks) (sym (append-nil is))
by_end s is js t u v false one two = both_told s is js t u v one two

rounds_told : (more : ℕ) (l : Limits) (s : Setup) (r : Ran) (t : List ℕ) → rounds_seen more told_lines l s r t ≡ t ++ item_lines s (rounds_items more l s r)
rounds_told zero l s r t = sym (append-nil t)
rounds_told (suc more) l s r t =
    let q : Ran = all_settle l s r (round_of (pairs s)) in let u = settling_seen told_lines l s r (round_of (pairs s)) t in
    by_end s (settling_items l s r (round_of (pairs s))) (rounds_items more l s (counting_round q)) t u (rounds_seen more told_lines l s (counting_round q) u)
    (is_some q.ended || (q.world.events == r.world.events)) (settling_told l s r (round_of (pairs s)) t) (rounds_told more l s (counting_round q) u)

settle_told : (l : Limits) (s : Setup) (r : Ran) (t : List ℕ) → settle_seen told_lines l s r t
    ≡ t ++ item_lines s (settling_items l s r (resets_of (pairs s)) ++ rounds_items (budget s r.world + 1) l s (all_settle l s r (resets_of (pairs s))))
settle_told l s r t =
    let u = settling_seen told_lines l s r (resets_of (pairs s)) t in let q : Ran = all_settle l s r (resets_of (pairs s)) in
    both_told s (settling_items l s r (resets_of (pairs s))) (rounds_items (budget s r.world + 1) l s q) t u _
    (settling_told l s r (resets_of (pairs s)) t) (rounds_told (budget s r.world + 1) l s q u)

same_test : (t : List ℕ) (b : Bool) → (if b then t else t) ≡ t
same_test t true = refl
same_test t false = refl

step_told : (l : Limits) (s : Setup) (r : Ran) (e : Step) (t : List ℕ) → step_seen told_lines l s r e t ≡ t ++ item_lines s (step_items l s r e)
unfolding step_seen step_items
step_told l s r (step.Plain e) t = unless_told s (steps l s r (step.Plain e)) (event_items s r.world e) t
step_told l s r (step.Halt k e) t = unless_told s (steps l s r (step.Halt k e)) (halt_items s r.world k e) t
step_told l s r step.Settle t = same_test (settle_seen told_lines l s r t) (is_some (steps l s r step.Settle).ended) ∙ settle_told l s r t
step_told l s r step.Stop t = unless_told s (steps l s r step.Stop) (Begins (r.world.events + 1) ∷ []) t

pub run_told : (l : Limits) (s : Setup) (r : Ran) (es : List Step) (t : List ℕ) → run_seen told_lines l s r es t ≡ t ++ item_lines s (items_from l s r es)
run_told l s r [] t = sym (append-nil t)
run_told l s r (e ∷ es) t =
    both_told s (step_items l s r e) (items_from l s (steps l s r e) es) t (step_seen told_lines l s r e t) _ (step_told l s r e t)
    (run_told l s (steps l s r e) es (step_seen told_lines l s r e t))
