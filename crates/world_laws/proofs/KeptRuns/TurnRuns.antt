-- In every world of a run each entry of a topic is new after those before it, and own markers are numbered in turn.
use Rattle.std.proofs.Common.{◌≡◌, ℕ, zero, suc, ◌<◌, true, List, [], ◌∷◌, ◌++◌, length, refl, sym, subst, ◌∙◌}
use Rattle.std.specs.Prelude.{Option, Some, None, slice_get, take}
use Rattle.std.proofs.lemmas.List.{append-nil, append_assoc}
use Rattle.world_laws.proofs.Types.{Entry, Event, Write}
use Rattle.world_laws.proofs.Types.event
use Rattle.world_laws.proofs.Types.write
use Rattle.geo_base.specs.Broker.{Broker}
use Rattle.geo_base.specs.Client.{Acted}
use Rattle.geo_base.specs.Happening.{broker_does, broker_halts, client_does, does_planned, halts_planned, happens, stops}
use Rattle.geo_base.specs.Plan.{done, halted}
use Rattle.geo_base.specs.Planned.{Planned, has_client, planned}
use Rattle.geo_base.specs.Scripted.{IsScripted}
use Rattle.geo_base.specs.Seeking.{restart}
use Rattle.geo_base.specs.Setup.{Setup}
use Rattle.geo_base.specs.Topic.{accepts}
use Rattle.geo_base.specs.World.{LinkName, World, node, topic_at}
use Rattle.world_laws.specs.Starts.{AreStored, IsStart, most_at_start}
use Rattle.world_laws.proofs.OnceInOrder.Appends.{after_halt, after_writes, done_entries, fresh, fresh_take, halted_entries}
use Rattle.world_laws.proofs.Walks.EventWalk.{HasShape, planned_shape}
use Rattle.world_laws.proofs.OnceInOrder.Fresh.{shape_fresh}
use Rattle.world_laws.proofs.Induction.Layers.{Everywhere, one_node}
use Rattle.world_laws.proofs.Counters.MarkerRuns.{Marked, NamedLinks, marked_on}
use Rattle.world_laws.proofs.TopicOrder.NoSelf.{NoSelf}
use Rattle.world_laws.proofs.Counters.OwnNumbers.{Marks, Numbered, marks_take, shape_marks}
use Rattle.world_laws.proofs.Replicating.PairRoles.{shape_within}
use Rattle.world_laws.proofs.Induction.Runs.{IsKeptOn}
use Rattle.world_laws.proofs.Walks.Shapes.{Shape}
use Rattle.world_laws.proofs.Replicating.Sizes.{Sized, node_there, stopped_at}
use Rattle.world_laws.proofs.KeptRuns.Starting.{start_at, start_marked}
use Rattle.world_laws.proofs.Walks.Walk.{left, on_if, right}

-- ---- lists

-- an entry after others
pub record IsInTurn (own : ℕ) (before : List Entry) (e : Entry) : Type 0 where
  pub new : accepts before e.ident ≡ true
  pub marker : Numbered own before e

abbrev pub AreInTurn : ℕ → List Entry → List Entry → Type 0
AreInTurn own before [] = Unit {0}
AreInTurn own before (e ∷ es) = IsInTurn own before e × AreInTurn own (before ++ e ∷ []) es

push_turn : (own : ℕ) (before es : List Entry) (e : Entry) → AreInTurn own before es → IsInTurn own (before ++ es) e → AreInTurn own before (es ++ e ∷ [])
push_turn own before [] e h k = (subst (λ (fs : List Entry). IsInTurn own fs e) (append-nil before) k, tt)
push_turn own before (f ∷ es) e h k =
    (h.0, push_turn own (before ++ f ∷ []) es e h.1 (subst (λ (fs : List Entry). IsInTurn own fs e) (sym (append_assoc before (f ∷ []) es)) k))

written_turn : (own : ℕ) (es : List Entry) (ws : List Write) → Marks own es ws → fresh es ws ≡ true → AreInTurn own [] es → AreInTurn own [] (after_writes es ws)
written_turn own es [] m f h = h
written_turn own es (write.Append e ∷ ws) m f h =
    written_turn own (es ++ e ∷ []) ws m.1 (right (accepts es e.ident) (fresh (es ++ e ∷ []) ws) f)
    (push_turn own [] es e h (record { new = left (accepts es e.ident) (fresh (es ++ e ∷ []) ws) f; marker = m.0 }))
written_turn own es (w ∷ ws) m f h = written_turn own es ws m f h

of_stored : (clusters own : ℕ) (before es : List Entry) → AreStored clusters own before es → AreInTurn own before es
of_stored clusters own before [] h = tt
of_stored clusters own before (e ∷ es) h = (record { new = h.0.new; marker = h.0.marker }, of_stored clusters own (before ++ e ∷ []) es h.1)

pub stored_of : (clusters own : ℕ) (before es : List Entry) → AreInTurn own before es → ((e : Entry) → (i : ℕ) → slice_get es i ≡ Some e → e.ident.origin < clusters) → AreStored clusters own before es
stored_of clusters own before [] h f = tt
stored_of clusters own before (e ∷ es) h f =
    (record { origin = f e zero refl; new = h.0.new; marker = h.0.marker }, stored_of clusters own (before ++ e ∷ []) es h.1 (λ g i at. f g (suc i) at))

-- ---- worlds

abbrev pub TurnAt : ℕ → Broker → Type 0
TurnAt x b = AreInTurn x [] b.entries

abbrev pub AllTurn : Setup → World → Type 0
AllTurn s w = Everywhere s TurnAt w

does_turn : (s : Setup) (w : World) (p : Planned) → Shape s w p → NoSelf s w → NamedLinks w.links → AllTurn s w → AllTurn s (broker_does s w p)
unfolding broker_does
does_turn s w p shape none links turn =
    let b = topic_at s w p.topic p.cluster in
    on_if (AllTurn s) p.plan.idle _ _ turn
    (one_node s TurnAt w p.topic p.cluster (done s.per_ledger b p.plan) (shape_within s w p shape)
    (λ here. subst (AreInTurn p.cluster []) (sym (done_entries s.per_ledger b p.plan))
    (written_turn p.cluster b.entries p.plan.writes (shape_marks s w p shape none links) (shape_fresh s w p shape) (turn p.topic p.cluster here))) turn)

halts_turn : (s : Setup) (w : World) (k : ℕ) (p : Planned) → Shape s w p → NoSelf s w → NamedLinks w.links → AllTurn s w → AllTurn s (broker_halts s w k p)
unfolding broker_halts
halts_turn s w k p shape none links turn =
    let b = topic_at s w p.topic p.cluster in let ws = p.plan.writes in
    one_node s TurnAt w p.topic p.cluster (halted s.per_ledger b k p.plan) (shape_within s w p shape)
    (λ here. subst (AreInTurn p.cluster []) (sym (halted_entries s.per_ledger b k p.plan ∙ after_halt b.entries (take k ws)))
    (written_turn p.cluster b.entries (take k ws) (marks_take p.cluster b.entries k ws (shape_marks s w p shape none links)) (fresh_take b.entries k ws (shape_fresh s w p shape))
    (turn p.topic p.cluster here))) turn

client_turn : (s : Setup) (w : World) (c : ℕ) (k : Option LinkName) (a : Acted) → AllTurn s w → AllTurn s (client_does s w c k a)
unfolding client_does
client_turn s w c k a turn = on_if (AllTurn s) a.idle _ _ turn turn

event_turn : (s : Setup) (w : World) (e : Event) → NoSelf s w → NamedLinks w.links → AllTurn s w → AllTurn s (happens s w e)
unfolding happens
event_turn s w (event.Go c) none links turn = on_if (AllTurn s) (has_client s c) _ _ (client_turn s w c _ _ turn) turn
event_turn s w (event.Reconnect c) none links turn = on_if (AllTurn s) (has_client s c) _ _ (client_turn s w c _ _ turn) turn
event_turn s w (event.Get c) none links turn = on_if (AllTurn s) (has_client s c) _ _ (client_turn s w c _ _ turn) turn
event_turn s w e none links turn = go (planned s w e) (planned_shape s w e)
  where
    go : (o : Option Planned) → HasShape s w o → AllTurn s (does_planned s w o)
    go None shape = turn
    go (Some p) shape = does_turn s w p shape none links turn

halted_turn : (s : Setup) (w : World) (k : ℕ) (o : Option Planned) → HasShape s w o → NoSelf s w → NamedLinks w.links → AllTurn s w → AllTurn s (halts_planned s w k o)
halted_turn s w k None shape none links turn = turn
halted_turn s w k (Some p) shape none links turn = halts_turn s w k p shape none links turn

stop_turn : (s : Setup) (w : World) → Sized s w → AllTurn s w → AllTurn s (stops s w)
unfolding stops restart
stop_turn s w z turn t x there =
    subst (TurnAt x) (sym (stopped_at w.brokers (λ b. done s.per_ledger b restart) (node s t x) (node_there s w t x z there))) (turn t x there)

abbrev pub Turning : Setup → World → Type 0
Turning s w = Marked most_at_start s w × AllTurn s w

pub turning_on : (s : Setup) → IsScripted s → IsKeptOn s (Turning s)
turning_on s scripted = let k = marked_on most_at_start s scripted in record {
  idle = λ w n h. (k.idle w n h.0, h.1);
  round = λ w n h. (k.round w n h.0, h.1);
  event = λ w e h. (k.event w e h.0, event_turn s w e h.0.known.1 h.0.links h.1);
  halts = λ w n e h. (k.halts w n e h.0, halted_turn s w n (planned s w e) (planned_shape s w e) h.0.known.1 h.0.links h.1);
  stop = λ w h. (k.stop w h.0, stop_turn s w h.0.known.0 h.1);
}

pub start_turning : (s : Setup) (v : World) → IsStart s v → Turning s v
start_turning s v h = (start_marked s v h, λ t x there. of_stored (length s.clusters) x [] (topic_at s v t x).entries (start_at s v t x h there).entries)
