-- In every world that a run comes to: what client c sent, what was sent to it and what brokers keep of it is of connections of c that are
-- not above its last one, and its consumers were made by its sub lines.
use Rattle.std.proofs.Common.{◌≡◌, ℕ, zero, suc, ◌+◌, ◌*◌, ◌<◌, ◌≤◌, Bool, true, false, List, [], ◌∷◌, ◌++◌, length, map, refl, sym, subst, ◌∙◌, ◌==◌, arith}
use Rattle.std.specs.Prelude.{Option, Some, None, slice_index_or, slice_set, take}
use Rattle.std.proofs.lemmas.Bool.{eqb-true, eqb-false, ltb-true}
use Rattle.std.proofs.lemmas.List.{get_or-set_other, get_or-set_same, length-map, length-set}
use Rattle.std.proofs.lemmas.Option.{none-some}
use Rattle.world_laws.proofs.Types.{Event, Frame, Out, Packet, Peer, Session}
use Rattle.world_laws.proofs.Types.change
use Rattle.world_laws.proofs.Types.event
use Rattle.world_laws.proofs.Types.peer
use Rattle.world_laws.proofs.Types.write
use Rattle.geo_base.specs.Broker.{Broker, Site, new_broker, no_broker, session_at}
use Rattle.geo_base.specs.Client.{Acted, Client, new_client, unconnected}
use Rattle.geo_base.specs.Happening.{broker_does, broker_halts, client_does, does_planned, halts_planned, happens, stops}
use Rattle.geo_base.specs.Offering.{number_of}
use Rattle.geo_base.specs.Plan.{Plan, all_written, done, halted}
use Rattle.geo_base.specs.Planned.{Planned, has_client, planned}
use Rattle.geo_base.specs.Seeking.{restart}
use Rattle.geo_base.specs.Setup.{Declared, Setup, declared_at}
use Rattle.geo_base.specs.World.{LinkName, World, client_at, node, opening_world, site, topic_at}
use Rattle.world_laws.specs.Starts.{resumed_world}
use Rattle.world_laws.proofs.Replicating.Effects.{Each, each_map}
use Rattle.world_laws.proofs.Walks.EventWalk.{HasShape, planned_shape}
use Rattle.world_laws.proofs.Induction.Frames.{at_copies, at_map, at_set}
use Rattle.world_laws.proofs.Replicating.LinkFrames.{same_node}
use Rattle.world_laws.proofs.Replicating.PairRoles.{shape_within}
use Rattle.world_laws.proofs.Induction.Runs.{IsKeptOn}
use Rattle.world_laws.proofs.Walks.Shapes.{Shape}
use Rattle.world_laws.proofs.Dispatching.SubFrames.{all_written_apart, changed_apart, done_apart, found_is, only_named}
use Rattle.world_laws.proofs.Walks.Walk.{on_if, on_test}
use Rattle.world_laws.proofs.Clients.CalmWalk.{Acts, AllFrom, IsSentBy, shape_acts}
use Rattle.world_laws.proofs.Clients.ClientLinks.{OutHere, Packets, SentDown, SentUp, ToHere, acts_down, acts_up, does_down, does_up, halts_down, halts_up, none_down, none_up, stops_down, stops_up}
use Rattle.world_laws.proofs.Clients.ClientSends.{IsOut, Sends, get_out, go_out, reconnect_out}
use Rattle.world_laws.proofs.Clients.Consumers.{IsCalmOut, IsCalmTo, Meets, OwnConsumers, SessionsBelow, all_changed_own, all_changed_session, all_written_own, all_written_session, changed_own, changed_session, given_own, picked_own}

abbrev last_of : Setup → World → ℕ → ℕ
last_of s w c = (client_at s w c).connection

abbrev Below : ℕ → ℕ → Frame → Type 0
Below m session f = session ≤ m

pub record MeetsAll (s : Setup) (c : ℕ) (w : World) : Type 0 where
  pub size : length w.clients ≡ length s.clients
  pub up : AllFrom s w c (client_at s w c).connection
  pub down : (x : ℕ) → Packets (λ session f. session ≤ (client_at s w c).connection) (SentDown w.links c x)
  pub brokers : (t x : ℕ) → x < length s.clusters → Meets t c (client_at s w c).connection (declared_at s c) (topic_at s w t x)

-- ---- a later connection

sessions_rise : (c m n : ℕ) (b : Broker) → m ≤ n → SessionsBelow c m b → SessionsBelow c n b
sessions_rise c m n b le h v is = let k = h v is in omega (arith, le, k)

meets_rise : (t c m n : ℕ) (d : Declared) (b : Broker) → m ≤ n → Meets t c m d b → Meets t c n d b
meets_rise t c m n d b le h = record { sessions = sessions_rise c m n b le h.sessions; consumers = h.consumers; apart = h.apart }

up_rise : (m n : ℕ) (d : Declared) (ps : List Packet) → m ≤ n → Packets (IsSentBy m d) ps → Packets (IsSentBy n d) ps
up_rise m n d ps le all =
    each_map (λ (p : Packet). IsSentBy m d p.session p.frame) (λ (p : Packet). IsSentBy n d p.session p.frame)
    (λ p h. let k = h.below in record { below = omega (arith, le, k); named = h.named }) ps all

down_rise : (m n : ℕ) (ps : List Packet) → m ≤ n → Packets (Below m) ps → Packets (Below n) ps
down_rise m n ps le all = each_map (λ (p : Packet). p.session ≤ m) (λ (p : Packet). p.session ≤ n) (λ p h. omega (arith, le, h)) ps all

-- ---- a broker

pub acts_meet : (t c m per : ℕ) (d : Declared) (h : Site) (b : Broker) (p : Plan) → Acts t c m d h b p → Meets t c m d b → Meets t c m d (done per b p)
acts_meet t c m per d h b p (Acts.Calmly q calm) k = record {
  sessions = all_changed_session t c d m (all_written per b q.writes) q.changes calm.changes (all_written_session c m per b q.writes k.sessions);
  consumers = all_changed_own t c d m (all_written per b q.writes) q.changes calm.changes (all_written_own t c d per b q.writes k.consumers);
  apart = done_apart per b q k.apart;
}
acts_meet t c m per d h b p (Acts.Giving n v i at e named least lacks stands picked) k = record {
  sessions = k.sessions;
  consumers = given_own t c d b v i at (only_named b.subs n v k.apart named) (picked_own t c d v _ at picked (found_is (OwnConsumers t c d) _ b.subs v named k.consumers).0) k.consumers;
  apart = changed_apart b (change.Given v.name i at) k.apart;
}

halted_meets : (t c m per k : ℕ) (d : Declared) (b : Broker) (p : Plan) → Meets t c m d b → Meets t c m d (halted per b k p)
halted_meets t c m per k d b p h =
    let ws = take k p.writes ++ write.Ledger ∷ [] in let b' = all_written per b ws in record {
      sessions = changed_session t c d m b' change.Forget tt (all_written_session c m per b ws h.sessions);
      consumers = changed_own t c d m b' change.Forget tt (all_written_own t c d per b ws h.consumers);
      apart = changed_apart b' change.Forget (all_written_apart per b ws h.apart);
    }

restart_meets : (t c m per : ℕ) (d : Declared) (b : Broker) → Meets t c m d b → Meets t c m d (done per b restart)
unfolding restart
restart_meets t c m per d b h = halted_meets t c m per 0 d b (record { idle = false; writes = []; changes = []; sent = [] }) h

none_meets : (t c m : ℕ) (d : Declared) → Meets t c m d no_broker
none_meets t c m d = record { sessions = λ v is. absurd (none-some v is); consumers = tt; apart = tt }

new_meets : (t c m clusters clients : ℕ) (d : Declared) → Meets t c m d (new_broker clusters clients)
new_meets t c m clusters clients d = record {
  sessions = at_copies (λ (o : Option Session). (v : Session) → o ≡ Some v → v.number ≤ m) clients c None None (λ v is. absurd (none-some v is)) (λ v is. absurd (none-some v is));
  consumers = tt;
  apart = tt;
}

-- one node has a new broker
one_set : (s : Setup) (P : ℕ → ℕ → Broker → Type 0) (w : World) (t x : ℕ) (b : Broker) → x < length s.clusters → P t x b
    → ((u v : ℕ) → v < length s.clusters → P u v (topic_at s w u v)) → (u v : ℕ) → v < length s.clusters → P u v (slice_index_or (slice_set w.brokers (node s t x) b) (node s u v) no_broker)
one_set s P w t x b lt new all u v lt' =
    at_set (P u v) w.brokers (node s t x) (node s u v) b no_broker
    (λ is. let same = same_node s t u x v lt lt' is in subst (λ (z : ℕ). P u z b) same.1 (subst (λ (z : ℕ). P z x b) same.0 new)) (all u v lt')

-- ---- what a broker sends to c

number_below : (c m : ℕ) (b : Broker) (o : Option Session) → session_at b c ≡ o → SessionsBelow c m b → number_of o ≤ m
number_below c m b None is h = omega arith
number_below c m b (Some v) is h = h v is

calm_below : (c m y x session : ℕ) (f : Frame) (q : Peer) → IsCalmTo c m session f q → ToHere c y x (Below m) session f q
calm_below c m y x session f (peer.Client z) h = λ e e'. (h e).0
calm_below c m y x session f (peer.Forward z) h = tt
calm_below c m y x session f (peer.Back z) h = tt
calm_below c m y x session f (peer.Broker z) h = tt

acts_below : (t c m y x : ℕ) (d : Declared) (h : Site) (b : Broker) (p : Plan) → Acts t c m d h b p → Meets t c m d b → Each (OutHere c y x (Below m)) p.sent
acts_below t c m y x d h b p (Acts.Calmly q calm) k =
    each_map (IsCalmOut c m) (OutHere c y x (Below m)) (λ o out. calm_below c m y x o.session o.frame o.to out) q.sent calm.sent
acts_below t c m y x d h b p (Acts.Giving n v i at e named least lacks stands picked) k =
    ((λ same here. subst (λ (z : ℕ). number_of (session_at b z) ≤ m) (sym same) (number_below c m b (session_at b c) refl k.sessions)), tt)

-- ---- worlds

pub does_meets : (s : Setup) (c : ℕ) (w : World) (p : Planned) → Shape s w p → MeetsAll s c w → MeetsAll s c (broker_does s w p)
unfolding broker_does
does_meets s c w p shape h =
    let m = last_of s w c in let d = declared_at s c in let b = topic_at s w p.topic p.cluster in
    let acts = shape_acts s w c m p h.up shape in let lt = shape_within s w p shape in let here = h.brokers p.topic p.cluster lt in
    on_if (MeetsAll s c) p.plan.idle _ _ (record { size = h.size; up = h.up; down = h.down; brokers = h.brokers }) (record {
      size = h.size;
      up = λ x. subst (Packets (IsSentBy m d)) (sym (does_up s p.topic p.cluster _ c x p.takes p.plan.sent w.links)) (h.up x);
      down = λ x.
          does_down s p.topic p.cluster _ c x (Below m) p.takes p.plan.sent w.links (acts_below p.topic c m x p.cluster d (site s p.topic p.cluster) b p.plan acts here) (h.down x);
      brokers = one_set s (λ t x. Meets t c m d) w p.topic p.cluster (done s.per_ledger b p.plan) lt (acts_meet p.topic c m s.per_ledger d (site s p.topic p.cluster) b p.plan acts here) h.brokers;
    })

pub halts_meets : (s : Setup) (c : ℕ) (w : World) (k : ℕ) (p : Planned) → Shape s w p → MeetsAll s c w → MeetsAll s c (broker_halts s w k p)
unfolding broker_halts
halts_meets s c w k p shape h =
    let m = last_of s w c in let d = declared_at s c in let b = topic_at s w p.topic p.cluster in let lt = shape_within s w p shape in
    record {
      size = h.size;
      up = λ x. subst (Packets (IsSentBy m d)) (sym (halts_up c x p.takes w.links)) (h.up x);
      down = λ x. subst (Packets (Below m)) (sym (halts_down c x p.takes w.links)) (h.down x);
      brokers = one_set s (λ t x. Meets t c m d) w p.topic p.cluster (halted s.per_ledger b k p.plan) lt (halted_meets p.topic c m s.per_ledger k d b p.plan (h.brokers p.topic p.cluster lt)) h.brokers;
    }

-- client z acts; of c its connection rises, and it sends on that
record ActsFor (s : Setup) (c z : ℕ) (w : World) (a : Acted) (k : Client) : Type 0 where
  rises : (client_at s w c).connection ≤ k.connection
  sent : z ≡ c → Each (IsOut k.connection (declared_at s c)) a.sent

acts_for : (s : Setup) (c z : ℕ) (w : World) (a : Acted) → length w.clients ≡ length s.clients → has_client s z ≡ true → Sends (declared_at s z) (client_at s w z) a
    → ActsFor s c z w a (slice_index_or (slice_set w.clients z a.client) c (new_client (declared_at s c)))
acts_for s c z w a size has sends = by (z == c) refl
  where
    Goal : Client → Type 0
    Goal k = ActsFor s c z w a k

    lt : z < length w.clients
    lt = let small = ltb-true z (length s.clients) has in omega (arith, small, size)

    mine : z ≡ c → Goal a.client
    mine same = subst (λ (x : ℕ). ActsFor s x z w a a.client) same (record { rises = sends.rises; sent = λ e. sends.sent })

    by : (t : Bool) → (z == c) ≡ t → Goal (slice_index_or (slice_set w.clients z a.client) c (new_client (declared_at s c)))
    by true is =
        let same = eqb-true z c is in
        let at : slice_index_or (slice_set w.clients z a.client) c (new_client (declared_at s c)) ≡ a.client =
        subst (λ (x : ℕ). slice_index_or (slice_set w.clients z a.client) x (new_client (declared_at s c)) ≡ a.client) same (get_or-set_same w.clients z a.client (new_client (declared_at s c)) lt) in
        subst Goal (sym at) (mine same)
    by false is =
        let differ = eqb-false z c is in
        subst Goal (sym (get_or-set_other w.clients z c a.client (new_client (declared_at s c)) (λ e. differ (sym e))))
        (record { rises = omega arith; sent = λ e. absurd (differ e) })

pub client_meets : (s : Setup) (c : ℕ) (w : World) (z : ℕ) (takes : Option LinkName) (a : Acted) → has_client s z ≡ true → Sends (declared_at s z) (client_at s w z) a → MeetsAll s c w
    → MeetsAll s c (client_does s w z takes a)
unfolding client_does
client_meets s c w z takes a has sends h =
    let m = last_of s w c in let d = declared_at s c in
    let k = slice_index_or (slice_set w.clients z a.client) c (new_client d) in
    let f = acts_for s c z w a h.size has sends in let le = f.rises in
    on_if (MeetsAll s c) a.idle _ _ (record { size = h.size; up = h.up; down = h.down; brokers = h.brokers }) (record {
      size = length-set w.clients z a.client ∙ h.size;
      up = λ x.
          acts_up z _ c x (IsSentBy k.connection d) takes a.sent w.links
          (λ e. each_map (IsOut k.connection d) (λ (o : Out). IsSentBy k.connection d o.session o.frame) (λ o out. let same = out.session in record { below = omega (arith, same); named = out.named }) a.sent (f.sent e))
          (up_rise m k.connection d (SentUp w.links c x) le (h.up x));
      down = λ x. subst (Packets (Below k.connection)) (sym (acts_down z _ c x takes a.sent w.links)) (down_rise m k.connection (SentDown w.links c x) le (h.down x));
      brokers = λ t x lt. meets_rise t c m k.connection d (topic_at s w t x) le (h.brokers t x lt);
    })

pub idle_meets : (s : Setup) (c : ℕ) (w : World) (n : ℕ) → MeetsAll s c w → MeetsAll s c (record w { idle = n })
idle_meets s c w n h = record { size = h.size; up = h.up; down = h.down; brokers = h.brokers }

planned_meets : (s : Setup) (c : ℕ) (w : World) (o : Option Planned) → HasShape s w o → MeetsAll s c w → MeetsAll s c (does_planned s w o)
planned_meets s c w None shape h = idle_meets s c w (w.idle + 1) h
planned_meets s c w (Some p) shape h = does_meets s c w p shape h

pub event_meets : (s : Setup) (c : ℕ) (w : World) (e : Event) → MeetsAll s c w → MeetsAll s c (happens s w e)
unfolding happens
event_meets s c w (event.Go z) h =
    on_test (MeetsAll s c) (has_client s z) _ _ (λ has. client_meets s c w z None _ has (go_out s (declared_at s z) (client_at s w z)) h) (λ none. idle_meets s c w _ h)
event_meets s c w (event.Reconnect z) h =
    on_test (MeetsAll s c) (has_client s z) _ _ (λ has. client_meets s c w z None _ has (reconnect_out s (declared_at s z) (client_at s w z)) h) (λ none. idle_meets s c w _ h)
event_meets s c w (event.Get z) h =
    on_test (MeetsAll s c) (has_client s z) _ _ (λ has. client_meets s c w z _ _ has (get_out (declared_at s z) (client_at s w z) _) h) (λ none. idle_meets s c w _ h)
event_meets s c w e h = planned_meets s c w (planned s w e) (planned_shape s w e) h

pub halt_meets : (s : Setup) (c : ℕ) (w : World) (k : ℕ) (o : Option Planned) → HasShape s w o → MeetsAll s c w → MeetsAll s c (halts_planned s w k o)
halt_meets s c w k None shape h = idle_meets s c w (w.idle + 1) h
halt_meets s c w k (Some p) shape h = halts_meets s c w k p shape h

same_connection : (ks : List Client) (c : ℕ) (k : Client) → (slice_index_or (map unconnected ks) c k).connection ≡ (slice_index_or ks c k).connection
same_connection [] c k = refl
same_connection (j ∷ ks) zero k = refl
same_connection (j ∷ ks) (suc c) k = same_connection ks c k

stopped_last : (s : Setup) (w : World) (c : ℕ) → (client_at s (stops s w) c).connection ≡ (client_at s w c).connection
unfolding stops
stopped_last s w c = same_connection w.clients c (new_client (declared_at s c))

stopped_size : (s : Setup) (w : World) → length (stops s w).clients ≡ length w.clients
unfolding stops
stopped_size s w = length-map w.clients unconnected

stopped_brokers : (s : Setup) (c m : ℕ) (w : World) → ((t x : ℕ) → x < length s.clusters → Meets t c m (declared_at s c) (topic_at s w t x)) → (t x : ℕ) → x < length s.clusters
    → Meets t c m (declared_at s c) (topic_at s (stops s w) t x)
unfolding stops
stopped_brokers s c m w all t x lt =
    let d = declared_at s c in
    at_map (Meets t c m d) (λ (b : Broker). done s.per_ledger b restart) (λ b k. restart_meets t c m s.per_ledger d b k) w.brokers (node s t x) no_broker (none_meets t c m d) (all t x lt)

pub stop_meets : (s : Setup) (c : ℕ) (w : World) → MeetsAll s c w → MeetsAll s c (stops s w)
stop_meets s c w h =
    let m = last_of s w c in let d = declared_at s c in let is = sym (stopped_last s w c) in
    record {
      size = stopped_size s w ∙ h.size;
      up = λ x. subst (λ (n : ℕ). Packets (IsSentBy n d) (SentUp (stops s w).links c x)) is (subst (Packets (IsSentBy m d)) (sym (stops_up s w c x)) (h.up x));
      down = λ x. subst (λ (n : ℕ). Packets (Below n) (SentDown (stops s w).links c x)) is (subst (Packets (Below m)) (sym (stops_down s w c x)) (h.down x));
      brokers = λ t x lt. subst (λ (n : ℕ). Meets t c n d (topic_at s (stops s w) t x)) is (stopped_brokers s c m w h.brokers t x lt);
    }

-- a run that was kept
pub resumed_meets : (s : Setup) (c : ℕ) (w : World) → MeetsAll s c w → MeetsAll s c (resumed_world s w)
resumed_meets s c w h = record { size = h.size; up = λ x. none_up s c x (IsSentBy _ _); down = λ x. none_down s c x (Below _); brokers = h.brokers }

pub opening_meets : (s : Setup) (c : ℕ) → MeetsAll s c (opening_world s)
opening_meets s c = record {
  size = length-map s.clients new_client;
  up = λ x. none_up s c x (IsSentBy _ _);
  down = λ x. none_down s c x (Below _);
  brokers = λ t x lt. at_copies (Meets t c _ (declared_at s c)) (length s.topics * length s.clusters) (node s t x) (new_broker (length s.clusters) (length s.clients)) no_broker
      (new_meets t c _ (length s.clusters) (length s.clients) (declared_at s c)) (none_meets t c _ (declared_at s c));
}

-- so it is in each world that a run comes to
pub meets_on : (s : Setup) (c : ℕ) → IsKeptOn s (MeetsAll s c)
meets_on s c = record {
  idle = λ w n h. idle_meets s c w n h;
  round = λ w n h. record { size = h.size; up = h.up; down = h.down; brokers = h.brokers };
  event = λ w e h. event_meets s c w e h;
  halts = λ w k e h. halt_meets s c w k (planned s w e) (planned_shape s w e) h;
  stop = λ w h. stop_meets s c w h;
}
