-- Settling does no more events than it weighs: each event of a round lowers the weight of the world by one at least.
use Rattle.std.proofs.Common.{◌≡◌, ℕ, zero, suc, ◌+◌, ◌<◌, ◌≤◌, List, [], ◌∷◌, length, refl, sym, subst, ◌==◌, arith}
use Rattle.std.specs.Prelude.{Option, Some, None, true, false, ◌||◌, is_some, take}
use Rattle.geo_base.specs.declared.event.Event.{Event}
use Rattle.geo_base.specs.declared.event.Event.TheVariants as event
use Rattle.geo_base.specs.Client.{Acted}
use Rattle.geo_base.specs.Happening.{broker_does, client_does, does_planned, happens}
use Rattle.geo_base.specs.Planned.{Planned, has_client, planned}
use Rattle.geo_base.specs.Run.{Ran, all_settle, counting_round, no_limits, pairs, round_of, rounds_of}
use Rattle.geo_base.specs.Setup.{Setup}
use Rattle.geo_base.specs.World.{LinkName, World}
use Rattle.world_laws.proofs.Replicating.Effects.{Each, each_take}
use Rattle.world_laws.proofs.Budget.Lowering.{InRound, all_in_round, weight_lowered}
use Rattle.world_laws.proofs.Budget.Rounds.{Works, after, at}
use Rattle.world_laws.proofs.Walks.Walk.{on_elim, on_if}
use Rattle.world_laws.proofs.Budget.Weights.{weight}

-- no event counts for more than one
abbrev IsNext : ℕ → World → Type 0
IsNext n w = w.events ≤ n + 1

does_one : (s : Setup) (w : World) (o : Option Planned) → IsNext w.events (does_planned s w o)
unfolding broker_does
does_one s w None = omega arith
does_one s w (Some p) = on_if (IsNext w.events) p.plan.idle _ _ (omega arith) (omega arith)

client_one : (s : Setup) (w : World) (c : ℕ) (k : Option LinkName) (a : Acted) → IsNext w.events (client_does s w c k a)
unfolding client_does
client_one s w c k a = on_if (IsNext w.events) a.idle _ _ (omega arith) (omega arith)

pub one_event : (s : Setup) (w : World) (e : Event) → (after s w e).events ≤ w.events + 1
unfolding happens
one_event s w (event.Go c) = on_if (IsNext w.events) (has_client s c) _ _ (client_one s w c _ _) (omega arith)
one_event s w (event.Reconnect c) = on_if (IsNext w.events) (has_client s c) _ _ (client_one s w c _ _) (omega arith)
one_event s w (event.Get c) = on_if (IsNext w.events) (has_client s c) _ _ (client_one s w c _ _) (omega arith)
one_event s w e = does_one s w (planned s w e)

-- events done, and what the world weighs
abbrev pub energy : Setup → World → ℕ
energy s w = w.events + weight s w

same : (n : ℕ) → n ≤ n
same n = omega arith

through : (a b c : ℕ) → a ≤ b → b ≤ c → a ≤ c
through a b c h k = omega (arith, h, k)

lowered : (e e' m m' : ℕ) → e' ≤ e + 1 → m' < m → e' + m' ≤ e + m
lowered e e' m m' one less = omega (arith, one, less)

event_energy : (s : Setup) (w : World) (e : Event) → InRound s e → energy s (after s w e) ≤ energy s w
event_energy s w e pair = by ((weight_lowered s).works w e pair tt)
  where
    by : Works s (weight s) (λ v. Unit {0}) w e → energy s (after s w e) ≤ energy s w
    by (Works.Idle is idle) = subst (λ (v : World). energy s v ≤ energy s w) (sym is) (same (energy s w))
    by (Works.Lowers more less as_many p) = lowered w.events (after s w e).events (weight s w) (weight s (after s w e)) (one_event s w e) less

pub part_energy : (s : Setup) (es : List Event) → Each (InRound s) es → (w : World) → energy s (all_settle no_limits s (at w) es).world ≤ energy s w
part_energy s [] all w = same (energy s w)
part_energy s (e ∷ es) all w =
    through _ (energy s (after s w e)) (energy s w) (part_energy s es all.1 (after s w e)) (event_energy s w e all.0)

-- without limits a run goes on
settled_at : (s : Setup) (es : List Event) (w : World) → all_settle no_limits s (at w) es ≡ at (all_settle no_limits s (at w) es).world
settled_at s [] w = refl
settled_at s (e ∷ es) w = settled_at s es (after s w e)

rounds_at : (n : ℕ) (s : Setup) (w : World) → rounds_of n no_limits s (at w) ≡ at (rounds_of n no_limits s (at w)).world
rounds_at zero s w = refl
rounds_at (suc n) s w =
    subst GoesOn (sym (settled_at s (round_of (pairs s)) w)) (by (all_settle no_limits s (at w) (round_of (pairs s))).world (λ v. rounds_at n s v))
  where
    GoesOn : Ran → Type 0
    GoesOn r =
        let next = elim (is_some r.ended || (r.world.events == w.events)) as (λ b. Ran) [ true ↦ r | false ↦ rounds_of n no_limits s (counting_round r) ] in next ≡ at next.world

    by : (v : World) → ((u : World) → rounds_of n no_limits s (at u) ≡ at (rounds_of n no_limits s (at u)).world) → GoesOn (at v)
    by v rest =
        on_elim (λ (r : Ran). r ≡ at r.world) (v.events == w.events) (at v) (rounds_of n no_limits s (counting_round (at v))) refl (rest (record v { rounds = v.rounds + 1 }))

rounds_energy : (n : ℕ) (s : Setup) (w : World) → energy s (rounds_of n no_limits s (at w)).world ≤ energy s w
rounds_energy zero s w = same (energy s w)
rounds_energy (suc n) s w =
    subst Lower (sym (settled_at s es w)) (by (all_settle no_limits s (at w) es).world (part_energy s es (all_in_round s) w) (λ v. rounds_energy n s v))
  where
    es : List Event
    es = round_of (pairs s)

    Lower : Ran → Type 0
    Lower r =
        energy s (elim (is_some r.ended || (r.world.events == w.events)) as (λ b. Ran) [ true ↦ r | false ↦ rounds_of n no_limits s (counting_round r) ]).world ≤ energy s w

    by : (v : World) → energy s v ≤ energy s w → ((u : World) → energy s (rounds_of n no_limits s (at u)).world ≤ energy s u) → Lower (at v)
    by v le rest =
        on_elim (λ (r : Ran). energy s r.world ≤ energy s w) (v.events == w.events) (at v) (rounds_of n no_limits s (counting_round (at v))) le
        (through _ (energy s v) (energy s w) (rest (record v { rounds = v.rounds + 1 })) le)

-- any rounds, and a beginning of one more
pub round_energy : (n k : ℕ) (s : Setup) (w : World)
    → energy s (all_settle no_limits s (rounds_of n no_limits s (at w)) (take k (round_of (pairs s)))).world ≤ energy s w
round_energy n k s w =
    let v = (rounds_of n no_limits s (at w)).world in
    subst (λ (r : Ran). energy s (all_settle no_limits s r (take k (round_of (pairs s)))).world ≤ energy s w) (sym (rounds_at n s w))
    (through _ (energy s v) (energy s w) (part_energy s (take k (round_of (pairs s))) (each_take (InRound s) k (round_of (pairs s)) (all_in_round s)) v) (rounds_energy n s w))

-- any events of settling, one after another
pub part_events : (s : Setup) (es : List Event) (w : World) → (all_settle no_limits s (at w) es).world.events ≤ w.events + length es
part_events s [] w = omega arith
part_events s (e ∷ es) w = let one = one_event s w e in let rest = part_events s es (after s w e) in omega (arith, one, rest)

pub reset_at : (s : Setup) (es : List Event) (w : World) → all_settle no_limits s (at w) es ≡ at (all_settle no_limits s (at w) es).world
reset_at s es w = settled_at s es w
