-- Rounds end: where each event of a round that is not idle lowers a weight, settling ends within the weight, in a quiet world.
use Rattle.std.proofs.Common.{◌≡◌, ℕ, zero, suc, ◌+◌, ◌<◌, ◌≤◌, Bool, true, false, List, [], ◌∷◌, refl, sym, ap, subst, ◌∙◌, ◌==◌, arith}
use Rattle.std.specs.Prelude.{None, ◌||◌, is_some}
use Rattle.std.specs.List.{list_all}
use Rattle.std.proofs.lemmas.Bool.{eqb-true, eq-eqb, false≢true}
use Rattle.world_laws.proofs.Types.{Event}
use Rattle.world_laws.proofs.Replicating.Effects.{Each}
use Rattle.geo_base.specs.Happening.{happens}
use Rattle.geo_base.specs.Laws.{SettlesInTime, after_settling, begun}
use Rattle.geo_base.specs.Run.{Ran, all_settle, budget, counting_round, is_idle, is_quiet, no_limits, pairs, resets_of, round_of, rounds_of, settled_world}
use Rattle.geo_base.specs.Setup.{Setup}
use Rattle.geo_base.specs.World.{World}
use Rattle.world_laws.proofs.Walks.Walk.{on_elim}
use Rattle.geo_base.proofs.Bools.{and_of_both}

-- the world after an event of settling, which counts no idle events
abbrev pub after : Setup → World → Event → World
after s w e = record (happens s w e) { idle = w.idle }

-- an event changes nothing, or it counts and lowers the weight M, in a world that has what settling keeps, P
pub data Works (s : Setup) (M : World → ℕ) (P : World → Type 0) (w : World) (e : Event) : Type 0 where
  Idle : after s w e ≡ w → is_idle s w e ≡ true → Works s M P w e
  Lowers : w.events < (after s w e).events → M (after s w e) < M w → (after s w e).rounds ≡ w.rounds → P (after s w e) → Works s M P w e

-- so does each event of a round, which R says: good takes, good receipts and reads, of pairs. Counting a round changes neither
pub record IsLowered (s : Setup) (M : World → ℕ) (P : World → Type 0) (R : Event → Type 0) : Type 0 where
  pub works : (w : World) (e : Event) → R e → P w → Works s M P w e
  pub rounds : (w : World) (n : ℕ) → M (record w { rounds = n }) ≡ M w
  pub kept : (w : World) (n : ℕ) → P w → P (record w { rounds = n })

-- what some events in a row do
data Round (s : Setup) (M : World → ℕ) (P : World → Type 0) (w w' : World) (es : List Event) : Type 0 where
  Quiet : w' ≡ w → list_all (is_idle s w) es ≡ true → Round s M P w w' es
  Less : w.events < w'.events → M w' < M w → w'.rounds ≡ w.rounds → P w' → Round s M P w w' es

abbrev pub at : World → Ran
at w = record { world = w; ended = None }

abbrev Done : (s : Setup) (M : World → ℕ) (P : World → Type 0) (w : World) (es : List Event) → Type 0
Done s M P w es = (w' : World) × (all_settle no_limits s (at w) es ≡ at w') × Round s M P w w' es

idle_first : (s : Setup) (M : World → ℕ) (P : World → Type 0) (w w' : World) (e : Event) (es : List Event) → is_idle s w e ≡ true → Round s M P w w' es → Round s M P w w' (e ∷ es)
idle_first s M P w w' e es idle (Round.Quiet same quiet) = Round.Quiet same (and_of_both (is_idle s w e) (list_all (is_idle s w) es) idle quiet)
idle_first s M P w w' e es idle (Round.Less more less same q) = Round.Less more less same q

lower_first : (s : Setup) (M : World → ℕ) (P : World → Type 0) (w v w' : World) (e : Event) (es : List Event) → w.events < v.events → M v < M w → v.rounds ≡ w.rounds → P v
    → Round s M P v w' es → Round s M P w w' (e ∷ es)
lower_first s M P w v w' e es more less as_many p (Round.Quiet same quiet) =
    let Q : World → Type 0 = λ z. Round s M P w z (e ∷ es) in subst Q (sym same) (Round.Less more less as_many p)
lower_first s M P w v w' e es more less as_many p (Round.Less more' less' as_many' q) = Round.Less (omega (arith, more, more')) (omega (arith, less, less')) (as_many' ∙ as_many) q

first_works : (s : Setup) (M : World → ℕ) (P : World → Type 0) (w : World) (e : Event) (es : List Event) → P w → ((v : World) → P v → Done s M P v es)
    → Works s M P w e → Done s M P w (e ∷ es)
first_works s M P w e es p ih (Works.Idle same idle) =
    let d = ih w p in
    (d.0, ap (λ (z : World). all_settle no_limits s (at z) es) same ∙ d.1, idle_first s M P w d.0 e es idle d.2)
first_works s M P w e es p ih (Works.Lowers more less as_many q) =
    let d = ih (after s w e) q in (d.0, d.1, lower_first s M P w (after s w e) d.0 e es more less as_many q d.2)

round_done : (s : Setup) (M : World → ℕ) (P : World → Type 0) (R : Event → Type 0) (es : List Event) → IsLowered s M P R → Each R es → (w : World) → P w → Done s M P w es
round_done s M P R [] h all w p = (w, refl, Round.Quiet refl refl)
round_done s M P R (e ∷ es) h all w p = first_works s M P w e es p (λ v q. round_done s M P R es h all.1 v q) (h.works w e all.0 p)

-- where it ends, all is quiet, and rounds were counted for weight alone
pub record EndsQuiet (s : Setup) (P : World → Type 0) (w : World) (n : ℕ) (r : Ran) : Type 0 where
  pub holds : P r.world
  pub quiet : is_quiet s r.world ≡ true
  pub rounds : r.world.rounds ≤ w.rounds + n

on_elim_test : {X : Type 0} (P : X → Type 0) (b : Bool) (x y : X) → (b ≡ true → P x) → (b ≡ false → P y) → P (elim b as (λ b. X) [ true ↦ x | false ↦ y ])
on_elim_test P true x y p q = p refl
on_elim_test P false x y p q = q refl

abbrev Ended : (s : Setup) (P : World → Type 0) (w : World) (n more : ℕ) (r : Ran) → Type 0
Ended s P w n more r =
    EndsQuiet s P w n (elim (is_some r.ended || (r.world.events == w.events)) as (λ b. Ran) [ true ↦ r | false ↦ rounds_of more no_limits s (counting_round r) ])

round_ends : (s : Setup) (M : World → ℕ) (P : World → Type 0) → (n more : ℕ) (w w' : World) → P w → M w ≤ n
    → (M w' < n → P w' → w'.rounds ≡ w.rounds → EndsQuiet s P w n (rounds_of more no_limits s (counting_round (at w')))) → Round s M P w w' (round_of (pairs s)) → Ended s P w n more (at w')
round_ends s M P n more w w' p le ih (Round.Quiet same quiet) =
    on_elim_test (EndsQuiet s P w n) (w'.events == w.events) _ _
    (λ _.
    let Q : World → Type 0 = λ z. EndsQuiet s P w n (at z) in
    subst Q (sym same) (record { holds = p; quiet = quiet; rounds = omega arith }))
    (λ other. absurd (false≢true (sym other ∙ eq-eqb w'.events w.events (ap (λ (z : World). z.events) same))))
round_ends s M P n more w w' p le ih (Round.Less greater less as_many q) =
    on_elim_test (EndsQuiet s P w n) (w'.events == w.events) _ _
    (λ equal. let e = eqb-true w'.events w.events equal in absurd (omega (arith, e, greater)))
    (λ _. ih (omega (arith, less, le)) q as_many)

-- settling ends within the weight
pub rounds_end : (s : Setup) (M : World → ℕ) (P : World → Type 0) (R : Event → Type 0) → IsLowered s M P R → Each R (round_of (pairs s)) → (n : ℕ) (w : World) → P w → M w ≤ n
    → EndsQuiet s P w n (rounds_of (suc n) no_limits s (at w))
rounds_end s M P R h all zero w p le =
    let d = round_done s M P R (round_of (pairs s)) h all w p in
    subst (Ended s P w zero zero) (sym d.1) (round_ends s M P zero zero w d.0 p le (λ lt. absurd (omega (arith, lt))) d.2)
rounds_end s M P R h all (suc n) w p le =
    let d = round_done s M P R (round_of (pairs s)) h all w p in
    subst (Ended s P w (suc n) (suc n)) (sym d.1)
    (round_ends s M P (suc n) (suc n) w d.0 p le
    (λ lt q as_many.
    let v : World = record d.0 { rounds = d.0.rounds + 1 } in
    let same = h.rounds d.0 (d.0.rounds + 1) in
    let e = rounds_end s M P R h all n v (h.kept d.0 (d.0.rounds + 1) q) (omega (arith, lt, same)) in
    record { holds = e.holds; quiet = e.quiet; rounds = omega (arith, e.rounds, as_many) })
    d.2)

-- what settling keeps holds after any number of rounds
rounds_keep : (s : Setup) (M : World → ℕ) (P : World → Type 0) (R : Event → Type 0) → IsLowered s M P R → Each R (round_of (pairs s)) → (k : ℕ) (w : World) → P w
    → P (rounds_of k no_limits s (at w)).world
rounds_keep s M P R h all zero w p = p
rounds_keep s M P R h all (suc k) w p =
    let d = round_done s M P R (round_of (pairs s)) h all w p in
    let q = kept d.0 d.2 in
    subst After (sym d.1)
    (on_elim (λ (r : Ran). P r.world) (d.0.events == w.events) (at d.0) (rounds_of k no_limits s (counting_round (at d.0))) q
    (rounds_keep s M P R h all k (record d.0 { rounds = d.0.rounds + 1 }) (h.kept d.0 (d.0.rounds + 1) q)))
  where
    After : Ran → Type 0
    After r = P (elim (is_some r.ended || (r.world.events == w.events)) as (λ b. Ran) [ true ↦ r | false ↦ rounds_of k no_limits s (counting_round r) ]).world

    kept : (w' : World) → Round s M P w w' (round_of (pairs s)) → P w'
    kept w' (Round.Quiet same quiet) = subst P (sym same) p
    kept w' (Round.Less more less as_many q) = q

-- a round in a world that is not quiet does an event
round_busy : (s : Setup) (M : World → ℕ) (P : World → Type 0) (R : Event → Type 0) → IsLowered s M P R → Each R (round_of (pairs s)) → (w : World) → P w
    → is_quiet s w ≡ false → w.events < (all_settle no_limits s (at w) (round_of (pairs s))).world.events
round_busy s M P R h all w p busy =
    let d = round_done s M P R (round_of (pairs s)) h all w p in
    subst (λ (r : Ran). w.events < r.world.events) (sym d.1) (by d.0 d.2)
  where
    by : (w' : World) → Round s M P w w' (round_of (pairs s)) → w.events < w'.events
    by w' (Round.Quiet same quiet) = absurd (false≢true (sym busy ∙ quiet))
    by w' (Round.Less more less as_many q) = more

-- no limit ends a run without limits
pub goes_on_for_ever : (s : Setup) (es : List Event) (w : World) → all_settle no_limits s (at w) es ≡ at (all_settle no_limits s (at w) es).world
goes_on_for_ever s [] w = refl
goes_on_for_ever s (e ∷ es) w = goes_on_for_ever s es (after s w e)

-- the world when every link is reset
abbrev pub all_reset : Setup → World → World
all_reset s w = (all_settle no_limits s (begun w) (resets_of (pairs s))).world

-- the world when settling has ended
settled_is : (s : Setup) (w : World) → after_settling s w ≡ (rounds_of (suc (budget s w)) no_limits s (at (all_reset s w))).world
unfolding settled_world
settled_is s w =
    let one : budget s w + 1 ≡ suc (budget s w) = omega arith in
    ap (λ (m : ℕ). (rounds_of m no_limits s (all_settle no_limits s (begun w) (resets_of (pairs s)))).world) one
    ∙ ap (λ (r : Ran). (rounds_of (suc (budget s w)) no_limits s r).world) (goes_on_for_ever s (resets_of (pairs s)) w)

-- What settling keeps holds there, where the weight after the resets is within the budget before them
pub settled_has : (s : Setup) (M : World → ℕ) (P : World → Type 0) (R : Event → Type 0) → IsLowered s M P R → Each R (round_of (pairs s)) → (w : World)
    → P (all_reset s w) → M (all_reset s w) ≤ budget s w → P (after_settling s w)
settled_has s M P R h all w p le = subst P (sym (settled_is s w)) (rounds_end s M P R h all (budget s w) (all_reset s w) p le).holds

-- so settling ends in time
pub ends_in_time : (s : Setup) (M : World → ℕ) (P : World → Type 0) (R : Event → Type 0) → IsLowered s M P R → Each R (round_of (pairs s)) → (w : World)
    → P (all_reset s w) → M (all_reset s w) ≤ budget s w → (all_reset s w).rounds ≡ w.rounds → SettlesInTime s w
ends_in_time s M P R h all w p le as_many = record {
  quiet = subst (λ (v : World). is_quiet s v ≡ true) (sym (settled_is s w)) e.quiet;
  rounds = subst (λ (v : World). v.rounds ≤ w.rounds + budget s w) (sym (settled_is s w)) (omega (arith, e.rounds, as_many));
  busy = λ k busy.
      subst (IsBusy k) (sym (goes_on_for_ever s (resets_of (pairs s)) w)) (round_busy s M P R h all _ (rounds_keep s M P R h all k (all_reset s w) p)) busy;
}
  where
    e : EndsQuiet s P (all_reset s w) (budget s w) (rounds_of (suc (budget s w)) no_limits s (at (all_reset s w)))
    e = rounds_end s M P R h all (budget s w) (all_reset s w) p le

    IsBusy : ℕ → Ran → Type 0
    IsBusy k r =
        let v = (rounds_of k no_limits s r).world in is_quiet s v ≡ false → v.events < (all_settle no_limits s (begun v) (round_of (pairs s))).world.events
