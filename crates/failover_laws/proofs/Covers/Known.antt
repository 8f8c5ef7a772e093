-- What is known in each world that a run comes to; and nothing that stands, and no event that counts, is lost on the way to a later one.
use Rattle.std.proofs.Common.{◌≤◌, arith, inl, inr, ℕ}
use Rattle.std.specs.Prelude.{Option, Some, None}
use Rattle.world_laws.proofs.Types.{Event}
use Rattle.geo_base.specs.Happening.{broker_halts, halts_planned, happens, stops}
use Rattle.geo_base.specs.Laws.{IsShort}
use Rattle.geo_base.specs.Planned.{Planned, planned}
use Rattle.geo_base.specs.Scripted.{IsScripted}
use Rattle.geo_base.specs.Setup.{Setup}
use Rattle.geo_base.specs.World.{World, opening_world}
use Rattle.world_laws.specs.Reached.{ReachedFrom}
use Rattle.world_laws.proofs.Budget.Rounds.{after}
use Rattle.world_laws.proofs.Induction.Reaching.{reached_has}
use Rattle.world_laws.proofs.Induction.Runs.{IsKept, IsKeptOn, by_events, kept_on}
use Rattle.world_laws.proofs.Snapshotting.Asked.{named as names_of}
use Rattle.world_laws.proofs.Snapshotting.Cuts.{Cutting, HasCuts, cutting_kept}
use Rattle.world_laws.proofs.Snapshotting.Grows.{Grown}
use Rattle.world_laws.proofs.Snapshotting.SecondRound.{Knows, knows_now}
use Rattle.failover_laws.proofs.AgainSettling.{event_counts, not_fewer}
use Rattle.failover_laws.proofs.Covers.Growing.{grown_reached, Steady}
use Rattle.failover_laws.proofs.TracedRuns.{AllTraced, Tracing, tracing_kept}

-- what is known in a world
pub record Standing (s : Setup) (w : World) : Type 0 where
  pub knows : Knows s w
  pub traced : AllTraced s w
  pub cuts : HasCuts s w

tracing_steady : (s : Setup) (w : World) → Tracing s w → Steady s w
tracing_steady s w h = let k = h.0.0.0.0.0 in record { sized = k.0.0.sized; answers = k.1 }

pub kept_there : (s : Setup) (P : World → Type 0) → IsKept s P → (w : World) → ReachedFrom s (opening_world s) w → P w
kept_there s P k w r = let e = by_events s P k in reached_has s P (kept_on s P e) (opening_world s) w e.opening r

pub tracing_at : (s : Setup) → IsScripted s → (w : World) → ReachedFrom s (opening_world s) w → Tracing s w
tracing_at s scripted w r =
    let k = by_events s (Tracing s) (tracing_kept s (names_of s scripted)) in reached_has s (Tracing s) (kept_on s (Tracing s) k) (opening_world s) w k.opening r

pub known_at : (s : Setup) → IsScripted s → (w : World) → ReachedFrom s (opening_world s) w → IsShort w → Standing s w
known_at s scripted w r short =
    let names = names_of s scripted in
    let k = by_events s (Tracing s) (tracing_kept s names) in
    let c = by_events s (Cutting s) (cutting_kept s names) in
    let h : Tracing s w = reached_has s (Tracing s) (kept_on s (Tracing s) k) (opening_world s) w k.opening r in
    let d : Cutting s w = reached_has s (Cutting s) (kept_on s (Cutting s) c) (opening_world s) w c.opening r in
    record { knows = knows_now s w h.0.0 short; traced = h.1 short; cuts = d.1 short }

pub grown_on : (s : Setup) → IsScripted s → (v w : World) → ReachedFrom s (opening_world s) v → ReachedFrom s v w → Grown s v w
grown_on s scripted v w r q =
    let names = names_of s scripted in
    let k = by_events s (Tracing s) (tracing_kept s names) in
    grown_reached s (Tracing s) (tracing_kept s names) (tracing_steady s) v w (reached_has s (Tracing s) (kept_on s (Tracing s) k) (opening_world s) v k.opening r) q

-- no event lowers the count of events
pub halt_more : (s : Setup) (w : World) (k : ℕ) (o : Option Planned) → w.events ≤ (halts_planned s w k o).events
unfolding broker_halts
halt_more s w k None = omega arith
halt_more s w k (Some p) = omega arith

pub stop_more : (s : Setup) (w : World) → w.events ≤ (stops s w).events
unfolding stops
stop_more s w = omega arith

pub event_more : (s : Setup) (w : World) (e : Event) → w.events ≤ (happens s w e).events
event_more s w e = elim (not_fewer w (after s w e) (event_counts s w e)) [ inl less ↦ omega (arith, less) | inr same ↦ omega (arith, same) ]

pub fewer_before : (s : Setup) (v w : World) → ReachedFrom s v w → v.events ≤ w.events
fewer_before s v w r = reached_has s (λ (z : World). v.events ≤ z.events) keeps v w (omega arith) r
  where
    keeps : IsKeptOn s (λ (z : World). v.events ≤ z.events)
    keeps = record {
      idle = λ z n le. le;
      round = λ z n le. le;
      event = λ z e le. let more = event_more s z e in omega (arith, le, more);
      halts = λ z k e le. let more = halt_more s z k (planned s z e) in omega (arith, le, more);
      stop = λ z le. let more = stop_more s z in omega (arith, le, more);
    }

pub reached_then : (s : Setup) (u v w : World) → ReachedFrom s u v → ReachedFrom s v w → ReachedFrom s u w
reached_then s u v w r q = reached_has s (ReachedFrom s u) (record {
  idle = λ z n h. ReachedFrom.Idling z n h;
  round = λ z n h. ReachedFrom.AfterRound z n h;
  event = λ z e h. ReachedFrom.AfterEvent z e h;
  halts = λ z n e h. ReachedFrom.AfterHalt z n e h;
  stop = λ z h. ReachedFrom.AfterStop z h;
}) v w r q
