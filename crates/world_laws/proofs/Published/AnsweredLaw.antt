-- In every world each publish is awaited or answered for.
use Rattle.std.proofs.Common.{◌≡◌, ℕ, ◌<◌, length, sym, ap, subst, ◌∙◌, arith, inl, inr}
use Rattle.std.specs.Prelude.{Option, Some, None}
use Rattle.std.proofs.lemmas.Bool.{false≢true, ltb-true}
use Rattle.world_laws.proofs.Types.{Event, Frame, Packet}
use Rattle.world_laws.proofs.Types.event
use Rattle.world_laws.proofs.Types.frame
use Rattle.geo_base.specs.Broker.{Broker}
use Rattle.geo_base.specs.Client.{Acted, new_client, unconnected}
use Rattle.geo_base.specs.Getting.{seq_of}
use Rattle.geo_base.specs.Happening.{broker_does, broker_halts, client_does, does_planned, halts_planned, happens, idles, stops}
use Rattle.geo_base.specs.Link.{next_packet}
use Rattle.geo_base.specs.Moments.{partly_written}
use Rattle.geo_base.specs.Planned.{Planned, has_client, planned}
use Rattle.geo_base.specs.Scripted.{IsScripted}
use Rattle.geo_base.specs.Setup.{Declared, Setup, declared_at}
use Rattle.geo_base.specs.World.{LinkName, ToClient, World, client_at, link_at, opening_world, topic_at}
use Rattle.world_laws.specs.Publishing.{AllAnswered, LawAnswered, ReceiptHolds, ident_of}
use Rattle.world_laws.proofs.Clients.ClientLinks.{SentDown}
use Rattle.world_laws.proofs.Dispatching.SubFrames.{each_at_place}
use Rattle.world_laws.proofs.Induction.Frames.{at_map, at_set}
use Rattle.world_laws.proofs.Induction.Runs.{IsKeptByEvents, always_by_events}
use Rattle.world_laws.proofs.Merges.Opened.{opening_client}
use Rattle.world_laws.proofs.Published.Awaiting.{ClientAwaits, IsTold, awaits_longer, get_awaits, go_awaits, reconnect_awaits}
use Rattle.world_laws.proofs.Published.BrokerEvents.{after_event}
use Rattle.world_laws.proofs.Published.Chained.{Chained, home_there, there_of}
use Rattle.world_laws.proofs.Published.ClientPackets.{Told}
use Rattle.world_laws.proofs.Published.PublishedRuns.{chained_kept}
use Rattle.world_laws.proofs.Snapshotting.Grows.{Grown, grown_does, grown_halts, grown_stops, grown_written}
use Rattle.world_laws.proofs.Walks.EventWalk.{HasShape, planned_shape}
use Rattle.world_laws.proofs.Walks.Walk.{on_if}

-- ---- worlds

abbrev pub AllAwait : Setup → World → Type 0
AllAwait s w = (c : ℕ) → c < length s.clients → ClientAwaits (declared_at s c) (topic_at s w (declared_at s c).topic (declared_at s c).cluster) (client_at s w c)

all_longer : (s : Setup) (w w' : World) → IsScripted s → Grown s w w' → AllAwait s w → (c : ℕ) → c < length s.clients
    → ClientAwaits (declared_at s c) (topic_at s w' (declared_at s c).topic (declared_at s c).cluster) (client_at s w c)
all_longer s w w' scripted grown h c lt =
    let d = declared_at s c in
    awaits_longer d (topic_at s w d.topic d.cluster) (topic_at s w' d.topic d.cluster) (client_at s w c) (grown d.topic d.cluster (home_there s scripted c lt)) (h c lt)

does_await : (s : Setup) (w : World) (p : Planned) → IsScripted s → Grown s w (broker_does s w p) → AllAwait s w → AllAwait s (broker_does s w p)
unfolding broker_does
does_await s w p scripted grown h =
    let Goal : World → Type 0 = λ w'. Grown s w w' → AllAwait s w' in
    on_if Goal p.plan.idle (idles w) (after_event s w p) (λ grown. h) (λ grown. all_longer s w (after_event s w p) scripted grown h) grown

halts_await : (s : Setup) (w : World) (n : ℕ) (p : Planned) → IsScripted s → Grown s w (broker_halts s w n p) → AllAwait s w → AllAwait s (broker_halts s w n p)
unfolding broker_halts
halts_await s w n p scripted grown h = all_longer s w (broker_halts s w n p) scripted grown h

planned_await : (s : Setup) (w : World) (o : Option Planned) → IsScripted s → HasShape s w o → Chained s w → AllAwait s w → AllAwait s (does_planned s w o)
planned_await s w None scripted shape g h = h
planned_await s w (Some p) scripted shape g h = does_await s w p scripted (grown_does s w p shape g.ground.1) h

halted_await : (s : Setup) (w : World) (n : ℕ) (o : Option Planned) → IsScripted s → HasShape s w o → Chained s w → AllAwait s w → AllAwait s (halts_planned s w n o)
halted_await s w n None scripted shape g h = h
halted_await s w n (Some p) scripted shape g h = halts_await s w n p scripted (grown_halts s w n p shape g.ground.1) h

client_awaits : (s : Setup) (w : World) (z : ℕ) (takes : Option LinkName) (a : Acted)
    → (z < length s.clients → ClientAwaits (declared_at s z) (topic_at s w (declared_at s z).topic (declared_at s z).cluster) a.client) → AllAwait s w → AllAwait s (client_does s w z takes a)
unfolding client_does
client_awaits s w z takes a new h c lt =
    let B : ℕ → Broker = λ i. topic_at s w (declared_at s i).topic (declared_at s i).cluster in
    on_if (λ (w' : World). ClientAwaits (declared_at s c) (topic_at s w' (declared_at s c).topic (declared_at s c).cluster) (client_at s w' c)) a.idle _ _ (h c lt)
    (at_set (ClientAwaits (declared_at s c) (B c)) w.clients z c a.client (new_client (declared_at s c))
    (λ same. subst (λ (i : ℕ). i < length s.clients → ClientAwaits (declared_at s i) (B i) a.client) same new lt) (h c lt))

told_next : (s : Setup) (w : World) (z : ℕ) → IsScripted s → z < length s.clients → Chained s w → let d = declared_at s z in let y = (client_at s w z).cluster in
    (q : Packet) → next_packet (link_at w.links (ToClient z y)) ≡ Some q → IsTold d (topic_at s w d.topic d.cluster) q.frame
told_next s w z scripted lt g q next =
    let d = declared_at s z in let k = g.clients z in let y = (client_at s w z).cluster in
    let there = there_of s scripted z y lt (ltb-true _ _ (k.cluster lt)) in
    home d y q.session q.frame
    (each_at_place (λ (p : Packet). Told d y (topic_at s w d.topic y) p.session p.frame) (SentDown w.links z y) (link_at w.links (ToClient z y)).taken q (k.down y there) next)
  where
    home : (d : Declared) (y session : ℕ) (f : Frame) → Told d y (topic_at s w d.topic y) session f → IsTold d (topic_at s w d.topic d.cluster) f
    home d y session (frame.SendReceipt id n o) t = subst (λ (x : ℕ). ReceiptHolds (topic_at s w d.topic x) (ident_of d n) o) t.0.0 t.0.1
    home d y session f t = tt

event_await : (s : Setup) (w : World) (e : Event) → IsScripted s → Chained s w → AllAwait s w → AllAwait s (happens s w e)
unfolding happens
event_await s w (event.Go z) scripted g h =
    on_if (AllAwait s) (has_client s z) _ _ (client_awaits s w z None _ (λ lt. go_awaits s (declared_at s z) _ (client_at s w z) (h z lt)) h) h
event_await s w (event.Reconnect z) scripted g h =
    on_if (AllAwait s) (has_client s z) _ _ (client_awaits s w z None _ (λ lt. reconnect_awaits s (declared_at s z) _ (client_at s w z) (h z lt)) h) h
event_await s w (event.Get z) scripted g h =
    on_if (AllAwait s) (has_client s z) _ _
    (client_awaits s w z (Some (ToClient z (client_at s w z).cluster)) _ (λ lt. get_awaits (declared_at s z) _ (client_at s w z) _ (told_next s w z scripted lt g) (h z lt)) h) h
event_await s w e scripted g h = planned_await s w (planned s w e) scripted (planned_shape s w e) g h

none_await : (d : Declared) (b : Broker) → ClientAwaits d b (new_client d)
none_await d b i seq is lt = absurd (omega (arith, lt))

stop_await : (s : Setup) (w : World) → IsScripted s → Chained s w → AllAwait s w → AllAwait s (stops s w)
unfolding stops
stop_await s w scripted g h c lt =
    let d = declared_at s c in let b = topic_at s (stops s w) d.topic d.cluster in
    at_map (ClientAwaits d b) unconnected (λ k p. p) w.clients c (new_client d) (none_await d b) (all_longer s w (stops s w) scripted (grown_stops s w g.ground.0.0.sized g.ground.1) h c lt)

opening_await : (s : Setup) → AllAwait s (opening_world s)
opening_await s c lt =
    let d = declared_at s c in let b = topic_at s (opening_world s) d.topic d.cluster in subst (ClientAwaits d b) (sym (opening_client s.clients c)) (none_await d b)

abbrev Both : Setup → World → Type 0
Both s w = Chained s w × AllAwait s w

both_kept : (s : Setup) → IsScripted s → IsKeptByEvents s (Both s)
both_kept s scripted = let k = chained_kept s scripted in record {
  opening = (k.opening, opening_await s);
  idle = λ w n h. (k.idle w n h.0, h.1);
  round = λ w n h. (k.round w n h.0, h.1);
  event = λ w e h. (k.event w e h.0, event_await s w e scripted h.0 h.1);
  halts = λ w n e h. (k.halts w n e h.0, halted_await s w n (planned s w e) scripted (planned_shape s w e) h.0 h.1);
  stop = λ w h. (k.stop w h.0, stop_await s w scripted h.0 h.1);
}

answered_of : (s : Setup) (w : World) → AllAwait s w → AllAnswered s w
answered_of s w h c i seq to key text lt at done awaited =
    elim (h c lt i seq (ap seq_of at) done) [ inl w ↦ absurd (false≢true (sym awaited ∙ w)) | inr a ↦ a ]

pub answered_always : LawAnswered
answered_always s scripted =
    always_by_events s (Both s) (AllAnswered s) (both_kept s scripted) (λ w h. answered_of s w h.1)
    (λ w n p shape h. answered_of s (partly_written s w n (Some p)) (all_longer s w (partly_written s w n (Some p)) scripted (grown_written s w n p shape h.0.ground.1) h.1))
