-- What stands stays where it stands, in each world that a run comes to later.
use Rattle.std.proofs.Common.{ℕ, List, ◌++◌, length, ap, ◌∙◌, append_assoc, arith}
use Rattle.std.specs.Prelude.{Option, Some, None}
use Rattle.std.proofs.lemmas.List.{length-append}
use Rattle.world_laws.proofs.Types.{Entry, Event}
use Rattle.world_laws.proofs.Types.event
use Rattle.geo_base.specs.Client.{Acted}
use Rattle.geo_base.specs.Happening.{client_does, does_planned, happens, halts_planned, stops}
use Rattle.geo_base.specs.Planned.{Planned, has_client, planned}
use Rattle.geo_base.specs.Setup.{Setup}
use Rattle.geo_base.specs.World.{LinkName, World, topic_at}
use Rattle.world_laws.specs.Reached.{ReachedFrom, Starting, AfterEvent, AfterHalt, AfterStop, Idling, AfterRound}
use Rattle.world_laws.proofs.Induction.Layers.{Everywhere}
use Rattle.world_laws.proofs.Induction.Reaching.{reached_has}
use Rattle.world_laws.proofs.Induction.Runs.{IsKept, by_events, kept_on}
use Rattle.world_laws.proofs.Replicating.Sizes.{Sized}
use Rattle.world_laws.proofs.Snapshotting.Answering.{AnswersAt}
use Rattle.world_laws.proofs.Snapshotting.Grows.{Grown, grown_does, grown_halts, grown_stops, unchanged}
use Rattle.world_laws.proofs.Snapshotting.Hearing.{Stays}
use Rattle.world_laws.proofs.Walks.EventWalk.{HasShape, planned_shape}
use Rattle.world_laws.proofs.Walks.Walk.{on_if}

stays_then : (xs ys zs : List Entry) (ks ls ms : List ℕ) → Stays xs ys ks ls → Stays ys zs ls ms → Stays xs zs ks ms
stays_then xs ys zs ks ls ms g h = record {
  more = g.more ++ h.more;
  is = h.is ∙ ap (λ (l : List Entry). l ++ h.more) g.is ∙ append_assoc xs g.more h.more;
  position = λ k lt. let size = ap (λ (l : List Entry). length l) g.is ∙ length-append xs g.more in h.position k (omega (arith, lt, size)) ∙ g.position k lt;
  index = λ p i at. h.index p i (g.index p i at);
}

pub grown_then : (s : Setup) (u v w : World) → Grown s u v → Grown s v w → Grown s u w
grown_then s u v w g h t x there =
    stays_then _ (topic_at s v t x).entries _ _ (topic_at s v t x).ledgers _ (g t x there) (h t x there)

grown_here : (s : Setup) (w : World) → Grown s w w
grown_here s w t x there = unchanged (topic_at s w t x)

-- what a world has to have for it
pub record Steady (s : Setup) (w : World) : Type 0 where
  pub sized : Sized s w
  pub answers : Everywhere s (AnswersAt s) w

client_grows : (s : Setup) (w : World) (c : ℕ) (l : Option LinkName) (a : Acted) → Grown s w (client_does s w c l a)
unfolding client_does
client_grows s w c l a = on_if (Grown s w) a.idle _ _ (grown_here s w) (grown_here s w)

plan_grows : (s : Setup) (w : World) (o : Option Planned) → HasShape s w o → Steady s w → Grown s w (does_planned s w o)
plan_grows s w None shape h = grown_here s w
plan_grows s w (Some p) shape h = grown_does s w p shape h.answers

event_grows : (s : Setup) (w : World) (e : Event) → Steady s w → Grown s w (happens s w e)
unfolding happens
event_grows s w (event.Go c) h = on_if (Grown s w) (has_client s c) _ _ (client_grows s w c _ _) (grown_here s w)
event_grows s w (event.Reconnect c) h = on_if (Grown s w) (has_client s c) _ _ (client_grows s w c _ _) (grown_here s w)
event_grows s w (event.Get c) h = on_if (Grown s w) (has_client s c) _ _ (client_grows s w c _ _) (grown_here s w)
event_grows s w e h = plan_grows s w (planned s w e) (planned_shape s w e) h

halt_grows : (s : Setup) (w : World) (k : ℕ) (o : Option Planned) → HasShape s w o → Steady s w → Grown s w (halts_planned s w k o)
halt_grows s w k None shape h = grown_here s w
halt_grows s w k (Some p) shape h = grown_halts s w k p shape h.answers

-- where what every event keeps has it
pub grown_reached : (s : Setup) (P : World → Type 0) → IsKept s P → ((w : World) → P w → Steady s w) → (v w : World) → P v → ReachedFrom s v w → Grown s v w
grown_reached s P k steady v _ p Starting = grown_here s v
grown_reached s P k steady v _ p (AfterEvent w e r) =
    grown_then s v w (happens s w e) (grown_reached s P k steady v w p r) (event_grows s w e (steady w (reached_has s P (kept_on s P (by_events s P k)) v w p r)))
grown_reached s P k steady v _ p (AfterHalt w n e r) =
    grown_then s v w (halts_planned s w n (planned s w e)) (grown_reached s P k steady v w p r)
    (halt_grows s w n (planned s w e) (planned_shape s w e) (steady w (reached_has s P (kept_on s P (by_events s P k)) v w p r)))
grown_reached s P k steady v _ p (AfterStop w r) =
    let h = steady w (reached_has s P (kept_on s P (by_events s P k)) v w p r) in
    grown_then s v w (stops s w) (grown_reached s P k steady v w p r) (grown_stops s w h.sized h.answers)
grown_reached s P k steady v _ p (Idling w n r) = grown_reached s P k steady v w p r
grown_reached s P k steady v _ p (AfterRound w n r) = grown_reached s P k steady v w p r
