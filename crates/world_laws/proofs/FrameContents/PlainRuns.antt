-- At every moment of every run of a script what was sent on any link, and what is stored, is plain, and in short runs small.
use Rattle.std.proofs.Common.{◌≡◌, ℕ, ◌+◌, ◌*◌, ◌≤◌, List, length, ◌∙◌}
use Rattle.std.specs.Prelude.{Option, Some, None}
use Rattle.std.proofs.lemmas.List.{length-set}
use Rattle.world_laws.proofs.Types.{Entry, Event, Frame}
use Rattle.world_laws.proofs.Types.event
use Rattle.world_laws.proofs.Types.frame
use Rattle.geo_base.specs.FrameSizes.{frame_size, most_frame_size}
use Rattle.geo_base.specs.Happening.{does_planned, halts_planned, happens}
use Rattle.geo_base.specs.Laws.{IsShort}
use Rattle.geo_base.specs.Moments.{partly_written}
use Rattle.geo_base.specs.Planned.{Planned, has_client, planned}
use Rattle.geo_base.specs.Scripted.{IsScripted}
use Rattle.geo_base.specs.Setup.{Setup}
use Rattle.geo_base.specs.World.{World, node}
use Rattle.world_laws.specs.Frames.{IsCarrying, LawFits, LawPlain, SendsPlain, SendsSmall}
use Rattle.world_laws.specs.Plain.{IsPlain, IsPlainEntry}
use Rattle.world_laws.proofs.Walks.EventWalk.{planned_shape}
use Rattle.world_laws.proofs.ComesOver.FittingRuns.{AllFit, Fitting, fits_written, fitting_kept}
use Rattle.world_laws.proofs.FrameContents.NewEntries.{IsFit}
use Rattle.world_laws.proofs.Induction.Runs.{IsKeptByEvents, always_by_events, event_done, plan_halted}
use Rattle.world_laws.proofs.Walks.Shapes.{Shape}
use Rattle.world_laws.proofs.Induction.Short.{WasShort, client_short, does_short, halts_short, stops_short}
use Rattle.world_laws.proofs.Replicating.Sizes.{Sized}
use Rattle.world_laws.proofs.FrameContents.Sizing.{fits}
use Rattle.world_laws.proofs.Walks.Walk.{on_if}
use Rattle.world_laws.proofs.FrameContents.Carrying.{Beneath, Carried, Carrying, Stored, all_entries, all_frames, beneath, carried_event, carried_kept, carried_opening, carried_stops, carried_written, halted_planned, plain_suits}

-- WHAT IS PLAIN

plain_frame : (names : List (List ℕ)) (f : Frame) → IsCarrying (IsPlainEntry names None) names f → IsPlain names f
plain_frame names (frame.Send id seq source e) h = record { listed = h.1.listed; some = h.1.some; from = h.0; content = h.1.content; rest = h.1.rest }
plain_frame names (frame.Message id position source e) h = record { listed = h.1.listed; some = h.1.some; from = h.0; content = h.1.content; rest = h.1.rest }
plain_frame names frame.Unreadable h = absurd h
plain_frame names f h = tt

abbrev Plain : Setup → Entry → Type 0
Plain s = IsPlainEntry s.clusters None

-- where all was sent from what is plain
sends_plain : (B : Type 0) (s : Setup) (w : World) → Sized s w → Carrying B (Plain s) s w → SendsPlain s w
sends_plain B s w z c = (
  all_frames (IsPlain s.clusters) B (Plain s) s.clusters w (λ f h. plain_frame s.clusters f h.carried) c.links,
  all_entries s w (Stored (Plain s) s.clusters) (Plain s) (λ e h. h.0) z.brokers c.entries,
)

written_plain : (s : Setup) → IsScripted s → (w : World) (k : ℕ) (p : Planned) → Shape s w p → Carried (Plain s) s w → SendsPlain s (partly_written s w k (Some p))
written_plain s scripted w k p shape h =
    let c = carried_written ⊥ (Plain s) s scripted (plain_suits s.clusters) w k p shape (beneath s w h.0) h.1 in
    let size = length-set w.brokers (node s p.topic p.cluster) _ ∙ h.0.0.brokers in (
      all_frames (IsPlain s.clusters) ⊥ (Plain s) s.clusters (partly_written s w k (Some p)) (λ f g. plain_frame s.clusters f g.carried) c.links,
      all_entries s (partly_written s w k (Some p)) (Stored (Plain s) s.clusters) (Plain s) (λ e g. g.0) size c.entries,
    )

pub plain_always : LawPlain
plain_always s scripted =
    always_by_events s (Carried (Plain s) s) (SendsPlain s) (carried_kept (Plain s) s scripted (plain_suits s.clusters)) (λ w h. sends_plain ⊥ s w h.0.0 h.1)
    (written_plain s scripted)

-- WHAT IS SMALL, in short runs

abbrev Bearing : Setup → World → Type 0
Bearing s w = Fitting s w × (IsShort w → Carrying (Unit {0}) (Plain s) s w)

fitting_beneath : (s : Setup) (w : World) → IsShort w → Fitting s w → Beneath (Unit {0}) s w
fitting_beneath s w short h = record { sized = h.0.0.0.0.0.0.0.sized; wide = h.0.1; short = λ b. short; fitting = λ b. h }

event_short : (s : Setup) (w : World) (e : Event) → IsShort (happens s w e) → IsShort w
unfolding happens
event_short s w (event.Go c) = on_if (WasShort w) (has_client s c) _ _ (client_short s w c None _) (λ short. short)
event_short s w (event.Reconnect c) = on_if (WasShort w) (has_client s c) _ _ (client_short s w c None _) (λ short. short)
event_short s w (event.Get c) = on_if (WasShort w) (has_client s c) _ _ (client_short s w c _ _) (λ short. short)
event_short s w e = go (planned s w e)
  where
    go : (o : Option Planned) → WasShort w (does_planned s w o)
    go None = λ short. short
    go (Some p) = does_short s w p

halt_short : (s : Setup) (w : World) (k : ℕ) (o : Option Planned) → IsShort (halts_planned s w k o) → IsShort w
halt_short s w k None short = short
halt_short s w k (Some p) short = halts_short s w k p short

bearing_kept : (s : Setup) → IsScripted s → IsKeptByEvents s (Bearing s)
bearing_kept s scripted =
    let k = fitting_kept s scripted in let T = Unit {0} in let E = Plain s in let suits = plain_suits s.clusters in
    record {
      opening = (k.opening, λ short. carried_opening T E s);
      idle = λ w n h. (k.idle w n h.0, λ short. let c = h.1 short in record { links = c.links; entries = c.entries });
      round = λ w n h. (k.round w n h.0, λ short. let c = h.1 short in record { links = c.links; entries = c.entries });
      event = λ w e h. (
        event_done s (Fitting s) k w e h.0,
        λ short. let was = event_short s w e short in carried_event T E s scripted suits w e (fitting_beneath s w was h.0) (h.1 was),
      );
      halts = λ w n e h. (
        plan_halted s (Fitting s) k w n (planned s w e) (planned_shape s w e) h.0,
        λ short.
            let was = halt_short s w n (planned s w e) short in
            halted_planned T E s scripted suits w n (planned s w e) (planned_shape s w e) (fitting_beneath s w was h.0) (h.1 was),
      );
      stop = λ w h. (k.stop w h.0, λ short. let was = stops_short s w short in carried_stops T E s w (fitting_beneath s w was h.0).sized (h.1 was));
    }

abbrev FitsShort : Setup → World → Type 0
FitsShort s w = IsShort w → SendsSmall s w

sends_small : (s : Setup) (w : World) → length w.brokers ≡ length s.topics * length s.clusters → Carrying (Unit {0}) (Plain s) s w → AllFit s w → SendsSmall s w
sends_small s w size c fit = (
  all_frames (λ f. frame_size s.clusters f ≤ 4 + most_frame_size) (Unit {0}) (Plain s) s.clusters w (λ f h. fits s.clusters f (h.small tt)) c.links,
  all_entries s w (IsFit s.clusters) (IsFit s.clusters) (λ e h. h) size fit,
)

pub fits_always : LawFits
fits_always s scripted =
    always_by_events s (Bearing s) (FitsShort s) (bearing_kept s scripted) (λ w h short. sends_small s w (fitting_beneath s w short h.0).sized.brokers (h.1 short) (h.0.1 short))
    (λ w k p shape h short. let g = fitting_beneath s w short h.0 in
    sends_small s (partly_written s w k (Some p)) (length-set w.brokers (node s p.topic p.cluster) _ ∙ g.sized.brokers)
    (carried_written (Unit {0}) (Plain s) s scripted (plain_suits s.clusters) w k p shape g (h.1 short)) (fits_written s scripted w k p shape short h.0.0 (h.0.1 short)))
