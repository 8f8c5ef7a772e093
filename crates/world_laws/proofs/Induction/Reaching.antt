-- What every event keeps holds in every world that a run comes to from a start that has it.
use Rattle.std.proofs.Common.{ℕ, ◌+◌, ◌<◌, List, [], ◌∷◌, length, refl, arith}
use Rattle.std.specs.Prelude.{Option, Some, None, IfSome}
use Rattle.world_laws.proofs.Types.{Entry, Frame, Out}
use Rattle.world_laws.proofs.Types.frame
use Rattle.geo_base.specs.Planned.{Planned, planned}
use Rattle.geo_base.specs.Safe.{AllOnce}
use Rattle.geo_base.specs.Scripted.{IsScripted}
use Rattle.geo_base.specs.Setup.{Setup}
use Rattle.geo_base.specs.World.{World, opening_world}
use Rattle.geo_base.specs.Worlds.{IsWorldOf}
use Rattle.world_laws.specs.Frames.{IsCarrying, IsReadable}
use Rattle.world_laws.specs.Indexes.{AllHaveIndexes}
use Rattle.world_laws.specs.Plain.{IsPlainEntry}
use Rattle.world_laws.specs.Reached.{AfterEvent, AfterHalt, AfterRound, AfterStop, AreCarried, AreReadable, BetweenFrom, Idling, IsGround, IsPlainOrOf, ReachedFrom, Starting}
use Rattle.world_laws.specs.Starts.{IsStart, most_at_start}
use Rattle.world_laws.proofs.FrameContents.Carrying.{Carried, carried_on, entries_have, frames_carry, next_sends, plain_suits}
use Rattle.world_laws.proofs.FrameContents.ClientSends.{gets_with, goes_with, reconnects_with}
use Rattle.world_laws.proofs.Replicating.Effects.{Each}
use Rattle.world_laws.proofs.Walks.EventWalk.{HasShape, planned_shape}
use Rattle.world_laws.proofs.KeptRuns.IndexRuns.{indexes_on}
use Rattle.world_laws.proofs.Counters.MarkerRuns.{Marked, marked_on, told as markers_told}
use Rattle.world_laws.proofs.OnceInOrder.Once.{once_kept}
use Rattle.world_laws.proofs.Counters.Places.{places_kept}
use Rattle.world_laws.proofs.Counters.Rising.{Counted, counted_on, told as numbers_told}
use Rattle.world_laws.proofs.Induction.Runs.{IsKeptByEvents, IsKeptOn, between_on, by_events, kept_on, run_on}
use Rattle.world_laws.proofs.FrameContents.Sending.{SentOut}
use Rattle.world_laws.proofs.KeptRuns.Starting.{of_suits, start_carried, start_counted, start_marked, start_once}

pub reached_has : (s : Setup) (P : World → Type 0) → IsKeptOn s P → (v w : World) → P v → ReachedFrom s v w → P w
reached_has s P k v _ p Starting = p
reached_has s P k v _ p (AfterEvent w e r) = k.event w e (reached_has s P k v w p r)
reached_has s P k v _ p (AfterHalt w n e r) = k.halts w n e (reached_has s P k v w p r)
reached_has s P k v _ p (AfterStop w r) = k.stop w (reached_has s P k v w p r)
reached_has s P k v _ p (Idling w n r) = k.idle w n (reached_has s P k v w p r)
reached_has s P k v _ p (AfterRound w n r) = k.round w n (reached_has s P k v w p r)

-- ---- what is sent

readable : (E : Entry → Type 0) (names : List (List ℕ)) (f : Frame) → IsCarrying E names f → IsReadable f
readable E names (frame.Send id seq source e) h = tt
readable E names (frame.Message id position source e) h = tt
readable E names frame.Unreadable h = absurd h
readable E names f h = tt

all_readable : (E : Entry → Type 0) (names : List (List ℕ)) (os : List Out) → Each (SentOut ⊥ E names) os → AreReadable os
all_readable E names [] h = tt
all_readable E names (o ∷ os) h = (readable E names o.frame h.0.carried, all_readable E names os h.1)

planned_readable : (E : Entry → Type 0) (s : Setup) → IsScripted s → (w : World) → Carried E s w → (o : Option Planned) → HasShape s w o → IfSome o (λ p. AreReadable p.plan.sent)
planned_readable E s scripted w h None shape = tt
planned_readable E s scripted w h (Some p) shape = all_readable E s.clusters p.plan.sent (next_sends E s scripted w h p shape)

-- ---- in each world that is reached

pub carried_there : (s : Setup) → IsScripted s → (v w : World) → IsStart s v → ReachedFrom s v w → Carried (IsPlainOrOf s v) s w
carried_there s scripted v w start r =
    reached_has s (Carried (IsPlainOrOf s v) s) (carried_on (IsPlainOrOf s v) s scripted (of_suits s v)) v w (start_carried s v start) r

pub ground : (s : Setup) → IsScripted s → (v w : World) → IsStart s v → ReachedFrom s v w → IsGround s w
ground s scripted v w start r =
    let Plain = IsPlainEntry s.clusters None in let plain = (plain_suits s.clusters).plain in
    record {
      places = reached_has s (IsWorldOf s) (kept_on s (IsWorldOf s) (places_kept s)) v w start.places r;
      numbers = numbers_told most_at_start (most_at_start + w.events) s w refl (reached_has s (Counted most_at_start s) (counted_on most_at_start s) v w (start_counted s v start) r);
      markers = markers_told most_at_start s w (omega arith) (reached_has s (Marked most_at_start s) (marked_on most_at_start s scripted) v w (start_marked s v start) r);
      sends = λ e. planned_readable (IsPlainOrOf s v) s scripted w (carried_there s scripted v w start r) (planned s w e) (planned_shape s w e);
      goes = λ c k o has. all_readable Plain s.clusters _ (goes_with ⊥ Plain s scripted plain c has k o);
      reconnects = λ c k o has. all_readable Plain s.clusters _ (reconnects_with ⊥ Plain s scripted plain c has k o);
      gets = λ c k o. all_readable Plain s.clusters _ (gets_with ⊥ Plain s c k o);
    }

pub carried : (s : Setup) → IsScripted s → (v w : World) → IsStart s v → ReachedFrom s v w → AreCarried s v w
carried s scripted v w start r =
    let E = IsPlainOrOf s v in let h = carried_there s scripted v w start r in
    record {
      frames = frames_carry E s w h;
      entries = entries_have E E s w (λ e k. k.0) h;
      origins = entries_have E (λ e. e.ident.origin < length s.clusters) s w (λ e k. k.1) h;
      once = reached_has s AllOnce (kept_on s AllOnce (by_events s AllOnce (once_kept s))) v w (start_once s v start) r;
    }

pub indexes : (s : Setup) → (v w : World) → IsStart s v → ReachedFrom s v w → AllHaveIndexes w
indexes s v w start r = reached_has s AllHaveIndexes (indexes_on s) v w start.indexes r

-- ---- a run comes to such worlds alone

comes_on : (s : Setup) (v : World) → IsKeptOn s (ReachedFrom s v)
comes_on s v = record {
  idle = λ w n r. ReachedFrom.Idling w n r;
  round = λ w n r. ReachedFrom.AfterRound w n r;
  event = λ w e r. ReachedFrom.AfterEvent w e r;
  halts = λ w n e r. ReachedFrom.AfterHalt w n e r;
  stop = λ w r. ReachedFrom.AfterStop w r;
}

pub comes : (s : Setup) → IsKeptByEvents s (ReachedFrom s (opening_world s))
comes s =
    let k = comes_on s (opening_world s) in record { opening = ReachedFrom.Starting; idle = k.idle; round = k.round; event = k.event; halts = k.halts; stop = k.stop }

pub goes_on : (s : Setup) (v : World) → BetweenFrom s v (ReachedFrom s v)
goes_on s v = record {
  limited = λ l es. run_on l s (ReachedFrom s v) (comes_on s v) v ReachedFrom.Starting es;
  between = λ l es at. between_on l s (ReachedFrom s v) (comes_on s v) v ReachedFrom.Starting es at;
}
