-- In each world that a run comes to from a start whose entries their texts tell, texts tell what is on the links.
use Rattle.std.proofs.Common.{◌≡◌, ℕ, ◌*◌, length, sym, ap, subst, ◌∙◌, inl, inr, refl}
use Rattle.std.specs.Prelude.{None, slice_get}
use Rattle.geo_base.specs.declared.entry.Entry.{Entry}
use Rattle.geo_base.specs.declared.event.Event.{Event}
use Rattle.geo_base.specs.declared.frame.Frame.{Frame}
use Rattle.geo_base.specs.declared.frame.Frame.TheVariants as frame
use Rattle.geo_base.specs.Broker.{Broker, new_broker, no_broker}
use Rattle.geo_base.specs.Happening.{halts_planned, happens, stops}
use Rattle.geo_base.specs.Planned.{planned}
use Rattle.geo_base.specs.Scripted.{AreDistinct, IsScripted}
use Rattle.geo_base.specs.Setup.{Setup}
use Rattle.geo_base.specs.World.{World, node, opening_world, topic_at}
use Rattle.std.proofs.lemmas.Option.{none-some}
use Rattle.frame_values.specs.Told.{IsTold, IsToldEntry}
use Rattle.frame_laws.proofs.Plain.{entry_told, source_told}
use Rattle.links.proofs.Simulated.{opening_stands}
use Rattle.links.specs.Standing.{LinksStand}
use Rattle.kept_laws.specs.Kept.{opening_kept}
use Rattle.kept_laws.specs.Reached.{Reached, started_kept}
use Rattle.kept_laws.specs.Standing.{Stands}
use Rattle.world_laws.specs.Frames.{AllEntries, AllFrames, IsCarrying}
use Rattle.world_laws.specs.Reached.{IsGround, IsOf, IsPlainOrOf, ReachedFrom}
use Rattle.world_laws.specs.Starts.{IsStart}
use Rattle.world_laws.proofs.Induction.Frames.{at_copies}
use Rattle.world_laws.proofs.Induction.Reaching.{carried, ground as ground_from}
use Rattle.world_laws.proofs.KeptRuns.Starting.{opening_starts}

-- ---- starts

pub starts : (s : Setup) (v : World) → IsStart s v → Stands s (started_kept s v) v
starts s v h = record {
  brokers = refl;
  clients = refl;
  links = subst (λ (w : World). LinksStand s.clusters (opening_kept s).links w.links) h.unused (opening_stands s);
  broker_clocks = ap (λ (w : World). w.broker_clocks) h.unused;
  client_clocks = ap (λ (w : World). w.client_clocks) h.unused;
  events = refl;
  idle = refl;
  rounds = refl;
  frame_bytes = refl;
}

-- ---- what is on the links

-- an entry of the start, whoever stored it first
told_of : (s : Setup) (w : World) (e : Entry) → (r : Reached s w) → IsOf s r.start e → IsToldEntry s.clusters None e
told_of s w e r h =
    let k = r.told h.topic h.cluster h.index h.entry h.there h.stands in
    subst (IsToldEntry s.clusters None) (sym h.same) (record { to = k.to; from = refl; content = k.content })

told_entry : (s : Setup) (w : World) (e : Entry) → AreDistinct s.clusters → (r : Reached s w) → IsPlainOrOf s r.start e → IsToldEntry s.clusters None e
told_entry s w e apart r (inl plain) = entry_told s.clusters None e apart plain
told_entry s w e apart r (inr of) = told_of s w e r of

told_frame : (s : Setup) (w : World) (f : Frame) → AreDistinct s.clusters → (r : Reached s w) → IsCarrying (IsPlainOrOf s r.start) s.clusters f → IsTold s.clusters f
told_frame s w (frame.Send id seq source e) apart r h =
    let k = told_entry s w e apart r h.1 in record { to = k.to; from = source_told s.clusters source apart h.0; content = k.content }
told_frame s w (frame.Message id position source e) apart r h =
    let k = told_entry s w e apart r h.1 in record { to = k.to; from = source_told s.clusters source apart h.0; content = k.content }
told_frame s w frame.Unreadable apart r h = absurd h
told_frame s w f apart r h = tt

pub told_frames : (s : Setup) (w : World) → IsScripted s → Reached s w → AllFrames (IsTold s.clusters) w
told_frames s w scripted r k i p at = told_frame s w p.frame scripted.cluster_names.1 r ((carried s scripted r.start w r.begins r.from).frames k i p at)

pub ground : (s : Setup) → IsScripted s → (w : World) → Reached s w → IsGround s w
ground s scripted w r = ground_from s scripted r.start w r.begins r.from

-- ---- from one world to the next

pub start_reached : (s : Setup) (v : World) → IsStart s v → AllEntries s (IsToldEntry s.clusters None) v → Reached s v
start_reached s v start told = record { start = v; begins = start; told = told; from = ReachedFrom.Starting }

-- the opening world stores nothing
pub opening_reached : (s : Setup) → Reached s (opening_world s)
opening_reached s = start_reached s (opening_world s) (opening_starts s) (λ t x i e small at. absurd (none-some e (sym (none_there s t x i) ∙ at)))
  where
    none_there : (s : Setup) (t x i : ℕ) → slice_get (topic_at s (opening_world s) t x).entries i ≡ None
    none_there s t x i =
        at_copies (λ (b : Broker). slice_get b.entries i ≡ None) (length s.topics * length s.clusters) (node s t x) (new_broker (length s.clusters) (length s.clients)) no_broker refl refl

pub event_reached : (s : Setup) (w : World) (e : Event) → Reached s w → Reached s (happens s w e)
event_reached s w e r = record { start = r.start; begins = r.begins; told = r.told; from = ReachedFrom.AfterEvent w e r.from }

pub halt_reached : (s : Setup) (w : World) (k : ℕ) (e : Event) → Reached s w → Reached s (halts_planned s w k (planned s w e))
halt_reached s w k e r = record { start = r.start; begins = r.begins; told = r.told; from = ReachedFrom.AfterHalt w k e r.from }

pub stop_reached : (s : Setup) (w : World) → Reached s w → Reached s (stops s w)
stop_reached s w r = record { start = r.start; begins = r.begins; told = r.told; from = ReachedFrom.AfterStop w r.from }

pub idle_reached : (s : Setup) (w : World) (n : ℕ) → Reached s w → Reached s (record w { idle = n })
idle_reached s w n r = record { start = r.start; begins = r.begins; told = r.told; from = ReachedFrom.Idling w n r.from }

pub round_reached : (s : Setup) (w : World) (n : ℕ) → Reached s w → Reached s (record w { rounds = n })
round_reached s w n r = record { start = r.start; begins = r.begins; told = r.told; from = ReachedFrom.AfterRound w n r.from }
