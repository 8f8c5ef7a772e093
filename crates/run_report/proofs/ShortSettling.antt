-- Within the program's limits a run is short, and so is any settling that follows a part of it, however many rounds it has: its budget
-- bounds what it may do.
use Rattle.std.proofs.Common.{◌≡◌, ℕ, zero, suc, ◌+◌, ◌*◌, ◌^◌, ◌<◌, ◌≤◌, List, [], ◌∷◌, ◌++◌, length, map, sym, ap, subst, ◌∙◌, ◌==◌, arith, length-append}
use Rattle.std.specs.Prelude.{Option, Some, None, drop, sum, take}
use Rattle.std.specs.List.{range_with_len}
use Rattle.std.proofs.Math.Nat.{mul-suc}
use Rattle.std.proofs.lemmas.List.{length-map, take-append-drop}
use Rattle.std.proofs.lemmas.List.FromFn.{length-range_with_len}
use Rattle.std.proofs.lemmas.Nat.{mul-le}
use Rattle.geo_base.specs.declared.event.Event.{Event}
use Rattle.geo_base.specs.declared.event.Event.TheVariants as event
use Rattle.geo_base.specs.declared.event.Step.{Step}
use Rattle.geo_base.specs.Laws.{IsShort, begun}
use Rattle.geo_base.specs.Moments.{InRound, NotBegun, Resetting, Settling, partly_written, settling_so_far, world_between}
use Rattle.geo_base.specs.Planned.{Planned}
use Rattle.geo_base.specs.Run.{Pair, Ran, all_limits, all_settle, budget, most_events, no_limits, pairs, pairs_from, pairs_of, pairs_to, resets_of, round_of, rounds_of, run, run_under, untaken_of, waiting_of}
use Rattle.geo_base.specs.Scripted.{IsScripted}
use Rattle.geo_base.specs.Setup.{Setup}
use Rattle.geo_base.specs.World.{World, opening_world}
use Rattle.geo_base.specs.Worlds.{IsWorldOf}
use Rattle.world_laws.proofs.Budget.InTime.{start_within}
use Rattle.world_laws.proofs.Counters.Places.{places_kept}
use Rattle.world_laws.proofs.Budget.Rounds.{all_reset, at}
use Rattle.world_laws.proofs.Induction.Runs.{by_events, kept_on, run_on}
use Rattle.world_laws.proofs.Walks.Walk.{on_if}
use Rattle.world_laws.proofs.Budget.Weights.{weight}
use Rattle.run_report.proofs.Energy.{energy, part_events, reset_at, round_energy}
use Rattle.run_report.proofs.FewEvents.{ran_few}
use Rattle.run_report.proofs.Limits.{never_ends, steps_back, unlimited}
use Rattle.run_report.proofs.Quiet.{run_append}
use Rattle.run_report.proofs.Waiting.{AreSmall, IsFew, few_kept, small_kept, waiting_few}
use Rattle.geo_base.proofs.Sums.{cube}

-- ---- how many pairs of clusters there are
to_most : (t x : ℕ) (ys : List ℕ) → length (pairs_to t x ys) ≤ length ys
to_most t x [] = omega arith
to_most t x (y ∷ ys) =
    on_if (λ (l : List Pair). length l ≤ length (y ∷ ys)) (x == y) (pairs_to t x ys) (record { topic = t; source = x; target = y } ∷ pairs_to t x ys)
    (omega (arith, to_most t x ys)) (omega (arith, to_most t x ys))

from_most : (t : ℕ) (xs ys : List ℕ) → length (pairs_from t xs ys) ≤ length ys * length xs
from_most t [] ys = omega arith
from_most t (x ∷ xs) ys =
    let e = length-append (pairs_to t x ys) (pairs_from t xs ys) in
    let more = mul-suc (length ys) (length xs) in omega (arith, e, more, to_most t x ys, from_most t xs ys)

of_most : (ts xs : List ℕ) → length (pairs_of ts xs) ≤ length xs * length xs * length ts
of_most [] xs = omega arith
of_most (t ∷ ts) xs =
    let e = length-append (pairs_from t xs xs) (pairs_of ts xs) in
    let more = mul-suc (length xs * length xs) (length ts) in omega (arith, e, more, from_most t xs xs, of_most ts xs)

pairs_most : (s : Setup) → IsScripted s → length (pairs s) ≤ 1024
pairs_most s scripted =
    let n = length s.clusters in
    let xs = range_with_len 0 n in
    let ts = range_with_len 0 (length s.topics) in
    let e = ap (λ (k : ℕ). k * k * length ts) (length-range_with_len 0 n) ∙ ap (λ (k : ℕ). n * n * k) (length-range_with_len 0 (length s.topics)) in
    let square = mul-le n n 8 8 scripted.clusters.1 scripted.clusters.1 in
    let all = mul-le (n * n) (length s.topics) 64 16 (omega (arith, square)) scripted.topics.1 in omega (arith, e, of_most ts xs, all)

resets_most : (s : Setup) (k : ℕ) → IsScripted s → length (take k (resets_of (pairs s))) ≤ 1024
resets_most s k scripted =
    let e = length-map (pairs s) (λ (p : Pair). event.Reset p.topic p.source p.target) in
    let t = taken k (resets_of (pairs s)) in omega (arith, e, t, pairs_most s scripted)
  where
    taken : (k : ℕ) (es : List Event) → length (take k es) ≤ length es
    taken zero es = omega arith
    taken (suc k) [] = omega arith
    taken (suc k) (e ∷ es) = let h = taken k es in omega (arith, h)

-- ---- how large the budget is

share_most : (n : ℕ) → n ≤ 8 → 8 * n ^ 3 ≤ 4096
share_most n le =
    let square = mul-le n n 8 8 le le in
    let all = mul-le (n * n) n 64 8 (omega (arith, square)) le in
    let e = ap (λ (k : ℕ). 8 * k) (cube n) in omega (arith, e, all)

-- what a run left that has few events
record IsLeft (s : Setup) (w : World) : Type 0 where
  few : w.events ≤ most_events
  small : AreSmall w
  held : IsFew w
  places : IsWorldOf s w

waits_most : (s : Setup) → IsScripted s → (w : World) → IsLeft s w
    → sum (map waiting_of w.brokers) + (untaken_of w.links.forward + (untaken_of w.links.back + length s.topics)) ≤ 100001024
waits_most s scripted w left =
    let h = waiting_few w left.small left.held in
    let few = left.few in
    let brokers = mul-le (length s.topics) (length s.clusters) 16 8 scripted.topics.1 scripted.clusters.1 in
    let size = left.places.brokers in
    let topics = scripted.topics.1 in omega (arith, h, few, brokers, size, topics)

budget_most : (s : Setup) → IsScripted s → (w : World) → IsLeft s w → budget s w ≤ 409604194304
budget_most s scripted w left =
    let h = mul-le (8 * (length s.clusters ^ 3)) (sum (map waiting_of w.brokers) + (untaken_of w.links.forward + (untaken_of w.links.back + length s.topics))) 4096 100001024
    (share_most (length s.clusters) scripted.clusters.1) (waits_most s scripted w left) in omega (arith, h)

-- ---- so any settling is short
most : (e w v b r : ℕ) → e ≤ v + w → v ≤ r + 1024 → w ≤ b → b ≤ 409604194304 → r ≤ 2000000 → e < 2 ^ 62
most e w v b r all resets weighs within few = omega (arith, all, resets, weighs, within, few)

behind : (e r n : ℕ) → e ≤ r + n → n ≤ 1024 → r ≤ 2000000 → e < 2 ^ 62
behind e r n all resets few = omega (arith, all, resets, few)

left_of : (e m n : ℕ) → e + m ≤ n → e ≤ n
left_of e m n h = omega (arith, h)

whole_resets : (s : Setup) → IsScripted s → length (resets_of (pairs s)) ≤ 1024
whole_resets s scripted = let e = length-map (pairs s) (λ (p : Pair). event.Reset p.topic p.source p.target) in omega (arith, e, pairs_most s scripted)

settled_short : (s : Setup) → IsScripted s → (w : World) → IsLeft s w → (at : Settling) → IsShort (settling_so_far no_limits s (begun w) at).world
settled_short s scripted w left NotBegun = let few = left.few in omega (arith, few)
settled_short s scripted w left (Resetting k) =
    let es = take k (resets_of (pairs s)) in
    behind (all_settle no_limits s (at w) es).world.events w.events (length es) (part_events s es w) (resets_most s k scripted) left.few
settled_short s scripted w left (InRound n k) =
    subst (λ (r : Ran). IsShort (all_settle no_limits s (rounds_of n no_limits s r) (take k (round_of (pairs s)))).world) (sym (reset_at s (resets_of (pairs s)) w))
    (most e (weight s v) v.events (budget s w) w.events
    (left_of e (weight s (all_settle no_limits s (rounds_of n no_limits s (at v)) (take k (round_of (pairs s)))).world) (energy s v) (round_energy n k s v))
    (bound (part_events s (resets_of (pairs s)) w)) (start_within s w some) (budget_most s scripted w left) left.few)
  where
    v : World
    v = all_reset s w

    e : ℕ
    e = (all_settle no_limits s (rounds_of n no_limits s (at v)) (take k (round_of (pairs s)))).world.events

    some : 0 < length s.clusters
    some = let least = scripted.clusters.0 in omega (arith, least)

    bound : v.events ≤ w.events + length (resets_of (pairs s)) → v.events ≤ w.events + 1024
    bound h = let r = whole_resets s scripted in omega (arith, h, r)

-- ---- and so is a run without limits that passes none
left_behind : (s : Setup) (es : List Step) → (run s es).events ≤ most_events → IsLeft s (run s es)
left_behind s es few = record {
  few = few;
  small = run_on no_limits s AreSmall (kept_on s AreSmall (by_events s AreSmall (small_kept s))) (opening_world s) (small_kept s).opening es;
  held = run_on no_limits s IsFew (kept_on s IsFew (by_events s IsFew (few_kept s))) (opening_world s) (few_kept s).opening es;
  places = run_on no_limits s (IsWorldOf s) (kept_on s (IsWorldOf s) (places_kept s)) (opening_world s) (places_kept s).opening es;
}

run_short : (s : Setup) → IsScripted s → (es : List Step) → (run_under all_limits s es).world ≡ run s es → (at : Settling) → IsShort (world_between no_limits s es at)
run_short s scripted es same at =
    subst (λ (r : Ran). IsShort (settling_so_far no_limits s r at).world) (sym (goes_on (run_under no_limits s es) (never_ends s es)))
    (settled_short s scripted (run s es) (left_behind s es (subst (λ (w : World). w.events ≤ most_events) same (ran_few s es))) at)
  where
    goes_on : (r : Ran) → r.ended ≡ None → r ≡ begun r.world
    goes_on r none = ap (λ (o : Option ℕ). record { world = r.world; ended = o }) none

-- a beginning of a run that passes no limit passes none
part_within : (s : Setup) (es xs ys : List Step) → es ≡ xs ++ ys → (run_under all_limits s es).ended ≡ None → (run_under all_limits s xs).ended ≡ None
part_within s es xs ys is none =
    let opening : Ran = record { world = opening_world s; ended = None } in
    steps_back all_limits s (run_under all_limits s xs) ys
    (ap (λ (r : Ran). r.ended) (sym (ap (run_under all_limits s) is ∙ run_append all_limits s opening xs ys)) ∙ none)

-- so where a run passes no limit, each beginning of it is short, and any settling after that
pub part_short : (s : Setup) → IsScripted s → (es xs ys : List Step) → es ≡ xs ++ ys → (run_under all_limits s es).ended ≡ None → (at : Settling)
    → IsShort (world_between no_limits s xs at)
part_short s scripted es xs ys is none at = run_short s scripted xs (unlimited all_limits s xs (part_within s es xs ys is none)) at

pub taken_short : (s : Setup) → IsScripted s → (es : List Step) → (run_under all_limits s es).ended ≡ None → (k : ℕ) (at : Settling)
    → IsShort (world_between no_limits s (take k es) at)
taken_short s scripted es none k at = part_short s scripted es (take k es) (drop k es) (sym (take-append-drop k es)) none at

-- also in the midst of an event's writes
pub written_short : (s : Setup) (w : World) (k : ℕ) (o : Option Planned) → IsShort w → IsShort (partly_written s w k o)
written_short s w k None short = short
written_short s w k (Some p) short = short
