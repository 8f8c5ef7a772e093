-- Settling ends in time: when every link is reset the weight is within the budget, and each round that is not quiet lowers it.
use Rattle.std.proofs.Common.{◌≡◌, ℕ, ◌+◌, ◌-◌, ◌*◌, ◌<◌, ◌≤◌, Bool, true, false, List, [], ◌∷◌, length, map, refl, sym, ap, subst, ◌∙◌, ◌==◌, arith, length-append}
use Rattle.std.specs.Prelude.{Option, None, nat_lt, ◌%◌, sum}
use Rattle.std.specs.List.{range_with_len}
use Rattle.std.proofs.Math.Nat.{add-mul, mul-add, mul-suc}
use Rattle.std.proofs.lemmas.Bool.{false≢true, lt-ltb, ltb-true}
use Rattle.std.proofs.lemmas.List.FromFn.{length-range_with_len}
use Rattle.std.proofs.lemmas.Nat.{mul-le}
use Rattle.world_laws.proofs.Types.{Event}
use Rattle.world_laws.proofs.Types.event
use Rattle.world_laws.proofs.Types.fate
use Rattle.geo_base.specs.Broker.{no_broker, replicator_at}
use Rattle.geo_base.specs.Forwarding.{is_remote, reset, resets}
use Rattle.geo_base.specs.Happening.{broker_does, does_planned, happens}
use Rattle.geo_base.specs.Laws.{BetweenEvents, SettlesInTime}
use Rattle.geo_base.specs.Moments.{world_between}
use Rattle.geo_base.specs.Plan.{Plan, idle_plan}
use Rattle.geo_base.specs.Planned.{Planned, in_range, planned, planned_in}
use Rattle.geo_base.specs.Run.{Pair, all_settle, budget, no_limits, pairs, pairs_from, pairs_of, pairs_to, resets_of, run, run_under, untaken_of, waiting_of}
use Rattle.geo_base.specs.Setup.{Setup}
use Rattle.geo_base.specs.World.{World, node, site, topic_at}
use Rattle.world_laws.proofs.Budget.LinkWeights.{delivered_weight}
use Rattle.world_laws.proofs.Budget.Lowering.{InRound, all_in_round, weight_lowered}
use Rattle.world_laws.proofs.Budget.Rounds.{IsLowered, after, all_reset, at, ends_in_time}
use Rattle.world_laws.proofs.Budget.Tails.{at_same, at_sum, sum_at}
use Rattle.world_laws.proofs.Walks.Walk.{on_if}
use Rattle.world_laws.proofs.Budget.WeightBounds.{back_most, brokers_most, fits, forward_most, share}
use Rattle.world_laws.proofs.Budget.Weights.{broker_weight, links_weight, weight}

-- what waits at all brokers
abbrev all_waiting : World → ℕ
all_waiting w = sum_at (λ j b. waiting_of b) 0 w.brokers

-- resets leave it, and send one packet each
record WasReset (s : Setup) (n : ℕ) (w v : World) : Type 0 where
  waiting : all_waiting v ≡ all_waiting w
  links : links_weight (length s.clusters - 1) v.links ≤ links_weight (length s.clusters - 1) w.links + (n + n)
  rounds : v.rounds ≡ w.rounds

not_reset : (s : Setup) (w : World) (k : ℕ) → WasReset s 1 w (record w { idle = k })
not_reset s w k = record { waiting = refl; links = omega arith; rounds = refl }

reset_at : (s : Setup) (w : World) (t x y : ℕ)
    → WasReset s 1 w (broker_does s w (record { topic = t; cluster = x; takes = None; plan = reset (site s t x) (topic_at s w t x) y }))
unfolding reset broker_does
reset_at s w t x y =
    on_if (λ (p : Plan). WasReset s 1 w (broker_does s w (record { topic = t; cluster = x; takes = None; plan = p }))) (is_remote (site s t x) y)
    (resets (site s t x) y ((replicator_at (topic_at s w t x) y).session + 1)) idle_plan
    (record {
      waiting = at_same (λ j b. waiting_of b) no_broker 0 (node s t x) w.brokers _ (λ j. refl);
      links = delivered_weight s (length s.clusters - 1) t x _ (resets (site s t x) y ((replicator_at (topic_at s w t x) y).session + 1)).sent w.links;
      rounds = refl;
    })
    (not_reset s w (w.idle + 1))

reset_event : (s : Setup) (w : World) (t x y : ℕ) → WasReset s 1 w (happens s w (event.Reset t x y))
unfolding happens planned
reset_event s w t x y =
    on_if (λ (o : Option Planned). WasReset s 1 w (does_planned s w o)) (in_range s (event.Reset t x y)) (planned_in s w (event.Reset t x y)) None
    (reset_at s w t x y) (not_reset s w (w.idle + 1))

all_were_reset : (s : Setup) (ps : List Pair) (w : World) → WasReset s (length ps) w (all_settle no_limits s (at w) (resets_of ps)).world
all_were_reset s [] w = record { waiting = refl; links = omega arith; rounds = refl }
all_were_reset s (p ∷ ps) w =
    let e = event.Reset p.topic p.source p.target in
    let h = reset_event s w p.topic p.source p.target in
    let one : WasReset s 1 w (after s w e) = record { waiting = h.waiting; links = h.links; rounds = h.rounds } in
    let rest = all_were_reset s ps (after s w e) in
    record { waiting = rest.waiting ∙ one.waiting; links = omega (arith, one.links, rest.links); rounds = rest.rounds ∙ one.rounds }

-- how many pairs there are
pairs_to_most : (t x : ℕ) (ys : List ℕ) → length (pairs_to t x ys) ≤ length ys
pairs_to_most t x [] = omega arith
pairs_to_most t x (y ∷ ys) =
    on_if (λ (l : List Pair). length l ≤ length (y ∷ ys)) (x == y) (pairs_to t x ys) (record { topic = t; source = x; target = y } ∷ pairs_to t x ys)
    (omega (arith, pairs_to_most t x ys)) (omega (arith, pairs_to_most t x ys))

pairs_from_most : (t : ℕ) (xs ys : List ℕ) → length (pairs_from t xs ys) ≤ length ys * length xs
pairs_from_most t [] ys = omega arith
pairs_from_most t (x ∷ xs) ys =
    let e = length-append (pairs_to t x ys) (pairs_from t xs ys) in
    let more = mul-suc (length ys) (length xs) in omega (arith, e, more, pairs_to_most t x ys, pairs_from_most t xs ys)

pairs_of_most : (ts xs : List ℕ) → length (pairs_of ts xs) ≤ length xs * length xs * length ts
pairs_of_most [] xs = omega arith
pairs_of_most (t ∷ ts) xs =
    let e = length-append (pairs_from t xs xs) (pairs_of ts xs) in
    let more = mul-suc (length xs * length xs) (length ts) in omega (arith, e, more, pairs_from_most t xs xs, pairs_of_most ts xs)

pairs_most : (s : Setup) → length (pairs s) ≤ length s.clusters * length s.clusters * length s.topics
pairs_most s =
    let n = length s.clusters in
    let xs = range_with_len 0 n in
    let ts = range_with_len 0 (length s.topics) in
    let wide = length-range_with_len 0 n in
    let e = ap (λ (k : ℕ). k * k * length ts) wide ∙ ap (λ (k : ℕ). n * n * k) (length-range_with_len 0 (length s.topics)) in omega (arith, e, pairs_of_most ts xs)

-- the weight after the resets is within the budget before them
within_shares : (c waiting forward back topics brokers links f k p : ℕ) → brokers ≤ c * waiting → links ≤ f + k + (p + p) → f ≤ c * forward → k ≤ c * back
    → p + p ≤ c * topics → brokers + links ≤ c * (waiting + (forward + (back + topics)))
within_shares c waiting forward back topics brokers links f k p a b d e g =
    let x = mul-add c waiting (forward + (back + topics)) in
    let y = mul-add c forward (back + topics) in
    let z = mul-add c back topics in omega (arith, a, b, d, e, g, x, y, z)

budget_is : (s : Setup) (w : World) → budget s w
    ≡ share (length s.clusters) * (sum (map waiting_of w.brokers) + (untaken_of w.links.forward + (untaken_of w.links.back + length s.topics)))
unfolding share
budget_is s w = refl

pub start_within : (s : Setup) (w : World) → 0 < length s.clusters → weight s (all_reset s w) ≤ budget s w
start_within s w some =
    let n = length s.clusters in
    let c = share n in
    let v = all_reset s w in
    let f = fits n some in
    let r = all_were_reset s (pairs s) w in
    let same = ap (λ (k : ℕ). c * k) (sym (at_sum waiting_of 0 v.brokers) ∙ r.waiting ∙ at_sum waiting_of 0 w.brokers) in
    let brokers : sum_at (λ j b. broker_weight n (j % n) b) 0 v.brokers ≤ c * sum (map waiting_of w.brokers) = omega (arith, same, brokers_most n v.brokers some) in
    let twice = mul-le (n * n + n * n) (length s.topics) c (length s.topics) f.pair (omega arith) in
    let split = add-mul (n * n) (n * n) (length s.topics) in
    subst (λ (k : ℕ). weight s v ≤ k) (sym (budget_is s w))
    (within_shares c (sum (map waiting_of w.brokers)) (untaken_of w.links.forward) (untaken_of w.links.back) (length s.topics) _ _ _ _ (length (pairs s)) brokers r.links
    (forward_most n w.links.forward some) (back_most n w.links.back some) (omega (arith, pairs_most s, twice, split)))

-- with no cluster there is no pair, and nothing to do
none_lowered : (s : Setup) → (0 < length s.clusters → ⊥) → IsLowered s (λ w. 0) (λ w. Unit {0}) (InRound s)
none_lowered s none = record { works = λ w e pair _. absurd (none_in e pair); rounds = λ w n. refl; kept = λ w n _. tt }
  where
    none_in : (e : Event) → InRound s e → ⊥
    none_in (event.Take t x y fate.Good) pair = none (omega (arith, pair.source))
    none_in (event.Receipt t x y fate.Good) pair = none (omega (arith, pair.source))
    none_in (event.Read t x y) pair = none (omega (arith, pair.source))
    none_in e pair = pair

pub settles_in_time : (s : Setup) (w : World) → SettlesInTime s w
settles_in_time s w = by (nat_lt 0 (length s.clusters)) refl
  where
    r : WasReset s (length (pairs s)) w (all_reset s w)
    r = all_were_reset s (pairs s) w

    by : (b : Bool) → nat_lt 0 (length s.clusters) ≡ b → SettlesInTime s w
    by true some =
        ends_in_time s (weight s) (λ v. Unit {0}) (InRound s) (weight_lowered s) (all_in_round s) w tt (start_within s w (ltb-true 0 (length s.clusters) some)) r.rounds
    by false none =
        ends_in_time s (λ v. 0) (λ v. Unit {0}) (InRound s) (none_lowered s (λ some. false≢true (sym none ∙ lt-ltb 0 (length s.clusters) some))) (all_in_round s) w tt
        (omega arith) r.rounds

-- so it does from every world of every run
pub always_in_time : (s : Setup) → BetweenEvents s (SettlesInTime s)
always_in_time s = record {
  run = λ es. settles_in_time s (run s es);
  limited = λ l es. settles_in_time s (run_under l s es).world;
  between = λ l es at. settles_in_time s (world_between l s es at);
}
