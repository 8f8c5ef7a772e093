-- The shapes of plans. For each event there is one shape for each of its branches, with the whole plan and with all that the
-- tests on the way there said. Every law looks at these, and none walks through the branches again.
use Rattle.std.specs.Prelude.{◌≡◌, ℕ, ◌+◌, nat_lt, nat_le, ◌==◌, Bool, true, false, not, ◌&&◌, ◌||◌, List, [], ◌∷◌, ◌++◌, length, Option, Some, None, slice_get}
use Rattle.std.specs.List.{list_any}
use Rattle.std.specs.Str.{bytes_eq}
use Rattle.world_laws.proofs.Types.{AckKind, AttachedProducer, SnapshotBuilder, CachedSnapshot, ClusterPosition, Cut, Entry, Frame, Packet, ClusterRef, Position, Progress, Session, SubKind, Write}
use Rattle.world_laws.proofs.Types.change
use Rattle.world_laws.proofs.Types.content
use Rattle.world_laws.proofs.Types.frame
use Rattle.world_laws.proofs.Types.marker
use Rattle.world_laws.proofs.Types.peer
use Rattle.world_laws.proofs.Types.progress
use Rattle.world_laws.proofs.Types.replicator_state
use Rattle.world_laws.proofs.Types.sub_kind
use Rattle.world_laws.proofs.Types.write
use Rattle.geo_base.specs.Acknowledging.{acked_indexes}
use Rattle.geo_base.specs.Answers.{answer, answers, succeeds}
use Rattle.geo_base.specs.Broker.{Broker, Site, cluster_name, receiver_at, replicator_at, session_at, sub_named}
use Rattle.geo_base.specs.SnapshotBuilder.{current_id, on_response, snapshot_id}
use Rattle.geo_base.specs.Cache.{cached, cut_of, last_passed}
use Rattle.geo_base.specs.Cursor.{mark}
use Rattle.geo_base.specs.Dispatcher.{consumer_at, least_due, pick}
use Rattle.geo_base.specs.Entry.{is_data, is_outbound, means_cluster, key_bytes, with_origin}
use Rattle.geo_base.specs.Forwarding.{closes, is_remote, link_producer, resets}
use Rattle.geo_base.specs.Link.{next_packet, sends}
use Rattle.geo_base.specs.Markers.{asks, request_marker, response_marker, snapshot_marker}
use Rattle.geo_base.specs.Name.{is_name}
use Rattle.geo_base.specs.Offering.{message}
use Rattle.geo_base.specs.Plan.{Plan, done, idle_plan, plan_of, quiet_plan}
use Rattle.geo_base.specs.Planned.{Planned, has_node, has_pair}
use Rattle.geo_base.specs.Position.{no_position}
use Rattle.geo_base.specs.Producing.{is_sound, most_producer_name, name_with, with_producers}
use Rattle.geo_base.specs.Reading.{forwards}
use Rattle.geo_base.specs.Receiver.{is_from, is_open}
use Rattle.geo_base.specs.Seeking.{restart, seek_index}
use Rattle.geo_base.specs.Replicator.{index_to_read, pending_index}
use Rattle.geo_base.specs.Serving.{session_becomes}
use Rattle.geo_base.specs.Setup.{Setup, declared_at, sub_name}
use Rattle.geo_base.specs.Sizes.{entry_size, most_entry_size}
use Rattle.geo_base.specs.Storing.{update_marker}
use Rattle.geo_base.specs.Subscribing.{consumed_by, has_room, is_busy, joins, same_kind}
use Rattle.geo_base.specs.Subscription.{Subscription, is_attached, sought, with_acks}
use Rattle.geo_base.specs.Topic.{accepts, index_of, next_position, position_at}
use Rattle.geo_base.specs.Updating.{handled, only_index, updated_indexes, positions_for}
use Rattle.geo_base.specs.World.{Back, Forward, LinkName, ToBroker, World, link_at, node, site, topic_at}

-- what follows a write of a subscription's cursor, v being the subscription with that write done: nothing, or an update
pub data Updates (h : Site) (b : Broker) (v : Subscription) : List Write → Type 0 where
  NoUpdate : Updates h b v []
  Update : (cut : Cut) → v.replicated ≡ true → last_passed (mark v.cursor) v.cache ≡ Some cut
      → Updates h b v (write.Append (update_marker h b v.name cut) ∷ [])

-- serve

-- a packet came in the session that its client has open
abbrev pub InSession : Broker → ℕ → Packet → Session → Type 0
InSession b c p s = (session_at b c ≡ Some s) × ((s.number == p.session) ≡ true)

-- a subscription that a client may join
abbrev pub MayJoin : Site → Broker → ℕ → List ℕ → List ℕ → Type 0
MayJoin h b c topic n = ((bytes_eq topic h.topic && is_name n && has_room b n) ≡ true) × (list_any (is_attached c) b.subs ≡ false)

-- a message that its producer may publish
abbrev pub IsSound : Site → Session → Packet → ℕ → ℕ → Option ClusterRef → Entry → Type 0
IsSound h s p id seq source e =
    (p.frame ≡ frame.Send id seq source e) × ((n : List ℕ) × (name_with id s.producers ≡ Some n) × (is_sound h n seq source e ≡ true))

-- what a broker answers a command with: no message, and no name that is longer than a producer's
abbrev pub IsReply : Frame → Type 0
IsReply (frame.ProducerSuccess request n) = nat_le (length n) most_producer_name ≡ true
IsReply (frame.Error request code) = Unit {0}
IsReply (frame.Success request) = Unit {0}
IsReply (frame.SendError id seq code) = Unit {0}
IsReply frame.Pong = Unit {0}
IsReply f = ⊥

pub data Served (h : Site) (b : Broker) (c : ℕ) (p : Packet) : Plan → Type 0 where
  Ignores : Served h b c p (quiet_plan [])
  Disconnects : Served h b c p (quiet_plan (session_becomes c None))
  Connects : (s : Session) → p.frame ≡ frame.Connect → s ≡ record { number = p.session; producers = [] }
      → Served h b c p (plan_of [] (session_becomes c (Some s)) (answer c s frame.Connected))
  Answers : (s : Session) (f : Frame) → InSession b c p s × IsReply f → Served h b c p (answers c s f)
  ChangesProducers : (s : Session) (ps : List AttachedProducer) (f : Frame) → InSession b c p s × IsReply f
      → Served h b c p (plan_of [] (with_producers c s ps ∷ []) (answer c s f))
  Stores : (s : Session) (id seq : ℕ) (source : Option ClusterRef) (e : Entry) → InSession b c p s → IsSound h s p id seq source e
      → accepts b.entries (with_origin h.own e).ident ≡ true
      → Served h b c p (plan_of (write.Append (with_origin h.own e) ∷ []) [] (answer c s (frame.SendReceipt id seq (Some (next_position h.per_ledger b.ledgers)))))
  Repeats : (s : Session) (id seq : ℕ) (source : Option ClusterRef) (e : Entry) → InSession b c p s → IsSound h s p id seq source e
      → accepts b.entries (with_origin h.own e).ident ≡ false
      → Served h b c p (plan_of [] [] (answer c s (frame.SendReceipt id seq (Some no_position))))
  Creates : (s : Session) (topic n : List ℕ) (kind : SubKind) (id request : ℕ) (consumer : Option (List ℕ)) (earliest replicated : Bool)
      → InSession b c p s → p.frame ≡ frame.Subscribe topic n kind id request consumer earliest replicated → MayJoin h b c topic n
      → sub_named b.subs n ≡ None
      → Served h b c p (joins c s n id request (write.Create n kind replicated (not earliest) ∷ []))
  Joins : (s : Session) (topic n : List ℕ) (kind : SubKind) (id request : ℕ) (consumer : Option (List ℕ)) (earliest replicated : Bool) (v : Subscription)
      → InSession b c p s → p.frame ≡ frame.Subscribe topic n kind id request consumer earliest replicated → MayJoin h b c topic n
      → sub_named b.subs n ≡ Some v → is_busy kind v ≡ false → (same_kind kind v.kind && (v.replicated || not replicated)) ≡ true
      → Served h b c p (joins c s n id request [])
  Alters : (s : Session) (topic n : List ℕ) (kind : SubKind) (id request : ℕ) (consumer : Option (List ℕ)) (earliest replicated : Bool) (v : Subscription)
      → InSession b c p s → p.frame ≡ frame.Subscribe topic n kind id request consumer earliest replicated → MayJoin h b c topic n
      → sub_named b.subs n ≡ Some v → is_busy kind v ≡ false → (same_kind kind v.kind && (v.replicated || not replicated)) ≡ false
      → Served h b c p (joins c s n id request (write.Alter v.name kind (v.replicated || replicated) ∷ []))
  Permits : (s : Session) (id permits : ℕ) (v : Subscription) → InSession b c p s → p.frame ≡ frame.Flow id permits
      → consumed_by b.subs c id ≡ Some v
      → Served h b c p (quiet_plan (change.Permit v.name c permits ∷ []))
  Acknowledges : (s : Session) (id : ℕ) (kind : AckKind) (ps : List Position) (v : Subscription) (i : ℕ) (is : List ℕ) (ws : List Write)
      → InSession b c p s → p.frame ≡ frame.Ack id kind ps → consumed_by b.subs c id ≡ Some v
      → acked_indexes b.ledgers v.kind ps kind ≡ i ∷ is → Updates h b (with_acks (i ∷ is) v) ws
      → Served h b c p (plan_of (write.Acks v.name (i ∷ is) ∷ ws) (change.Acked v.name ∷ []) [])
  Unsubscribes : (s : Session) (id request : ℕ) (v : Subscription) → InSession b c p s → p.frame ≡ frame.Unsubscribe id request
      → consumed_by b.subs c id ≡ Some v → nat_lt 1 (length v.consumers) ≡ false
      → Served h b c p (plan_of (write.Delete v.name ∷ []) [] (succeeds c s request))
  ClosesConsumer : (s : Session) (id request : ℕ) (v : Subscription) → InSession b c p s → p.frame ≡ frame.CloseConsumer id request
      → consumed_by b.subs c id ≡ Some v
      → Served h b c p (plan_of [] (change.Detach c ∷ []) (succeeds c s request))

-- take: one packet, acted on once

-- whether a packet opens its session
abbrev pub is_opening : Site → Packet → Frame → Bool
is_opening h p (frame.Producer topic id request name) = bytes_eq topic h.topic && (id == p.session)
is_opening h p f = false

-- the receiving side may store what a frame of the open session brings
abbrev pub may_store : Site → ℕ → Frame → Bool
may_store h x (frame.Send id seq source e) = is_from x source && nat_le (entry_size h.clusters e) most_entry_size
may_store h x f = false

pub data Taken (h : Site) (b : Broker) (x : ℕ) (p : Packet) : Plan → Type 0 where
  Unreadable : p.frame ≡ frame.Unreadable → Taken h b x p (closes x)
  Opens : (topic : List ℕ) (id request : ℕ) (name : Option (List ℕ)) → p.frame ≡ frame.Producer topic id request name
      → (bytes_eq topic h.topic && (id == p.session)) ≡ true
      → Taken h b x p (plan_of [] (change.Receiver x (Some id) ∷ []) (sends (peer.Back x) id (frame.ProducerSuccess request (link_producer h x))))
  Discards : is_opening h p p.frame ≡ false → is_open (receiver_at b x) p.session ≡ false → Taken h b x p (quiet_plan [])
  Refuses : is_opening h p p.frame ≡ false → is_open (receiver_at b x) p.session ≡ true → may_store h x p.frame ≡ false → Taken h b x p (closes x)
  Stores : (id seq : ℕ) (source : Option ClusterRef) (e : Entry) → p.frame ≡ frame.Send id seq source e
      → is_open (receiver_at b x) p.session ≡ true → may_store h x p.frame ≡ true → accepts b.entries (with_origin x e).ident ≡ true
      → Taken h b x p (plan_of (write.Append (with_origin x e) ∷ []) [] (sends (peer.Back x) p.session (frame.SendReceipt p.session seq (Some (next_position h.per_ledger b.ledgers)))))
  Repeats : (id seq : ℕ) (source : Option ClusterRef) (e : Entry) → p.frame ≡ frame.Send id seq source e
      → is_open (receiver_at b x) p.session ≡ true → may_store h x p.frame ≡ true → accepts b.entries (with_origin x e).ident ≡ false
      → Taken h b x p (plan_of [] [] (sends (peer.Back x) p.session (frame.SendReceipt p.session seq (Some no_position))))

-- receipt: one packet, acted on once

-- a packet answers the session of the replicator to y
abbrev pub InLink : Broker → ℕ → Packet → Type 0
InLink b y p = (p.session == (replicator_at b y).session) ≡ true

abbrev pub is_answer : Frame → Bool
is_answer (frame.ProducerSuccess request name) = true
is_answer (frame.SendReceipt id n position) = true
is_answer f = false

pub data Answered (b : Broker) (y : ℕ) (p : Packet) : Plan → Type 0 where
  Stale : (p.session == (replicator_at b y).session) ≡ false → Answered b y p (quiet_plan [])
  Other : InLink b y p → is_answer p.frame ≡ false → Answered b y p (quiet_plan [])
  Opened : (request : ℕ) (name : List ℕ) → InLink b y p → p.frame ≡ frame.ProducerSuccess request name
      → (replicator_at b y).state ≡ replicator_state.Opening → Answered b y p (quiet_plan (change.Opened y ∷ []))
  OpenBefore : (request : ℕ) (name : List ℕ) → InLink b y p → p.frame ≡ frame.ProducerSuccess request name
      → (replicator_at b y).state ≡ replicator_state.Open → Answered b y p (quiet_plan [])
  ClosedBefore : (request : ℕ) (name : List ℕ) → InLink b y p → p.frame ≡ frame.ProducerSuccess request name
      → (replicator_at b y).state ≡ replicator_state.Closed → Answered b y p (quiet_plan [])
  Received : (id n i : ℕ) (position : Option Position) → InLink b y p → p.frame ≡ frame.SendReceipt id n position
      → pending_index (replicator_at b y).pending n ≡ Some i
      → Answered b y p (plan_of (write.ReplicatorAck y i ∷ []) (change.Unpend y n ∷ []) [])
  ReceivedBefore : (id n : ℕ) (position : Option Position) → InLink b y p → p.frame ≡ frame.SendReceipt id n position
      → pending_index (replicator_at b y).pending n ≡ None → Answered b y p (quiet_plan [])

-- two plans in a row, as one
abbrev pub in_a_row : Plan → Plan → Plan
in_a_row p q = plan_of (p.writes ++ q.writes) (p.changes ++ q.changes) (p.sent ++ q.sent)

-- a packet with its fate: acted on, taken without effect, or acted on two times
pub data Fated (per : ℕ) (b : Broker) (Acts : Broker → Plan → Type 0) (lost : Plan) : Plan → Type 0 where
  Once : (p : Plan) → Acts b p → Fated per b Acts lost p
  Lost : Fated per b Acts lost lost
  Twice : (p q : Plan) → Acts b p → Acts (done per b p) q → Fated per b Acts lost (in_a_row p q)

-- read

-- the replicator to y looks at the entry e at index i
abbrev pub ReadsNext : Site → Broker → ℕ → ℕ → Entry → Type 0
ReadsNext h b y i e =
    (is_remote h y ≡ true) × (index_to_read (replicator_at b y).state (replicator_at b y) (length b.entries) ≡ Some i) × (slice_get b.entries i ≡ Some e)

-- it is a marker of y
abbrev pub IsMarkerOf : Site → ℕ → Entry → Type 0
IsMarkerOf h y e = (is_outbound h.own y e ≡ false) × ((e.ident.origin == y) ≡ true)

-- it is a response of y to the snapshot that is being made
abbrev pub IsResponse : Site → Broker → ℕ → Entry → List ℕ → ClusterPosition → SnapshotBuilder → Type 0
IsResponse h b y e id answer u =
    IsMarkerOf h y e × (e.content ≡ content.Marked (marker.Response id answer)) × (b.builder ≡ Some u) × (means_cluster y answer.cluster ≡ true)

-- what a response at index i makes of a builder
abbrev pub Hears : Broker → ℕ → ℕ → List ℕ → ClusterPosition → SnapshotBuilder → Progress → SnapshotBuilder → Type 0
Hears b y i id answer u g u' = on_response u id y answer.position (position_at b.ledgers i) ≡ record { progress = g; builder = u' }

-- it is an update of y whose position is that of index j here
abbrev pub IsUpdate : Site → Broker → ℕ → Entry → List ℕ → List ClusterPosition → ℕ → Type 0
IsUpdate h b y e n remote j =
    IsMarkerOf h y e × (e.content ≡ content.Marked (marker.Update n remote)) × (only_index b.ledgers (positions_for h.own remote) ≡ Some j)
    × ((is_name n && has_room b n) ≡ true)

pub data Reads (h : Site) (b : Broker) (y : ℕ) : Plan → Type 0 where
  NothingToRead : Reads h b y idle_plan
  Forwards : (i : ℕ) (e : Entry) → ReadsNext h b y i e → is_outbound h.own y e ≡ true → Reads h b y (forwards h y (replicator_at b y) i e)
  Skips : (i : ℕ) (e : Entry) → ReadsNext h b y i e → is_outbound h.own y e ≡ false → Reads h b y (handled y i [] [])
  Responds : (i : ℕ) (e : Entry) (id : List ℕ) (source : ClusterRef) → ReadsNext h b y i e → IsMarkerOf h y e
      → e.content ≡ content.Marked (marker.Request id source)
      → Reads h b y (handled y i (write.Append (response_marker h b y id) ∷ []) [])
  Counts : (i : ℕ) (e : Entry) (id : List ℕ) (answer : ClusterPosition) (u u' : SnapshotBuilder) → ReadsNext h b y i e → IsResponse h b y e id answer u
      → Hears b y i id answer u progress.Kept u' → Reads h b y (handled y i [] (change.Building (Some u') ∷ []))
  AsksAgain : (i : ℕ) (e : Entry) (id : List ℕ) (answer : ClusterPosition) (u u' : SnapshotBuilder) → ReadsNext h b y i e → IsResponse h b y e id answer u
      → Hears b y i id answer u progress.SecondRound u'
      → Reads h b y (handled y i (write.Append (request_marker h b (current_id u')) ∷ []) (change.Building (Some u') ∷ []))
  Completes : (i : ℕ) (e : Entry) (id : List ℕ) (answer : ClusterPosition) (u u' : SnapshotBuilder) → ReadsNext h b y i e → IsResponse h b y e id answer u
      → Hears b y i id answer u progress.Done u'
      → Reads h b y (handled y i (write.Append (snapshot_marker h b u') ∷ []) (change.Building None ∷ []))
  CreatesAt : (i j : ℕ) (e : Entry) (n : List ℕ) (remote : List ClusterPosition) → ReadsNext h b y i e → IsUpdate h b y e n remote j
      → sub_named b.subs n ≡ None
      → Reads h b y (handled y i (write.Create n sub_kind.Exclusive true false ∷ write.Acks n (updated_indexes y 0 (j + 1) b.entries) ∷ []) (change.Acked n ∷ []))
  ActsOnUpdate : (i j : ℕ) (e : Entry) (n : List ℕ) (remote : List ClusterPosition) (v : Subscription) (ws : List Write) → ReadsNext h b y i e
      → IsUpdate h b y e n remote j → sub_named b.subs n ≡ Some v → Updates h b (with_acks (updated_indexes y 0 (j + 1) b.entries) v) ws
      → Reads h b y (handled y i (write.Acks n (updated_indexes y 0 (j + 1) b.entries) ∷ ws) (change.Acked n ∷ []))

-- snap
pub data Snaps (h : Site) (b : Broker) : Plan → Type 0 where
  NothingToAsk : Snaps h b idle_plan
  Asks : list_any (λ (v : Subscription). v.replicated) b.subs ≡ true → b.builder ≡ None
      → Snaps h b (asks h b (snapshot_id (cluster_name h h.own) (next_position h.per_ledger b.ledgers)))

-- offer

-- the entry e at index i is the least due of the subscription n, which is v
abbrev pub IsLeastDue : Broker → List ℕ → Subscription → ℕ → Entry → Type 0
IsLeastDue b n v i e = (sub_named b.subs n ≡ Some v) × (least_due v (length b.entries) ≡ Some i) × (slice_get b.entries i ≡ Some e)

-- a snapshot of the own cluster whose local position is that of index j
abbrev pub IsSnapshot : Site → Broker → Subscription → Entry → ℕ → CachedSnapshot → Type 0
IsSnapshot h b v e j c = (id : List ℕ) × (local : Position) × (remote : List ClusterPosition)
    × (e.content ≡ content.Marked (marker.Snapshot id local remote)) × (((e.ident.origin == h.own) && v.replicated) ≡ true)
    × (index_of b.ledgers local ≡ Some j) × (c ≡ record { index = j; cut = cut_of h.own (length h.clusters) local remote })

pub data Offers (h : Site) (b : Broker) (n : List ℕ) : Plan → Type 0 where
  NothingToOffer : Offers h b n idle_plan
  Gives : (v : Subscription) (i at : ℕ) (e : Entry) → IsLeastDue b n v i e → e.content ≡ content.Data
      → pick v.kind v.consumers (key_bytes e.meta.key) ≡ Some at
      → Offers h b n (plan_of [] (change.Given v.name i at ∷ []) (message h b i e (consumer_at v.consumers at)))
  SkipsMarker : (v : Subscription) (i : ℕ) (e : Entry) (ws : List Write) → IsLeastDue b n v i e → is_data e.content ≡ false
      → Updates h b (with_acks (i ∷ []) v) ws
      → Offers h b n (plan_of (write.Acks v.name (i ∷ []) ∷ ws) (change.Skipped v.name i ∷ change.Acked v.name ∷ []) [])
  Caches : (v : Subscription) (i j : ℕ) (e : Entry) (c : CachedSnapshot) (ws : List Write) → IsLeastDue b n v i e → IsSnapshot h b v e j c
      → Updates h b (with_acks (i ∷ []) (record v { cache = cached v.cache c })) ws
      → Offers h b n (plan_of (write.Acks v.name (i ∷ []) ∷ ws) (change.Cache v.name c ∷ change.Skipped v.name i ∷ change.Acked v.name ∷ []) [])

-- seek
pub data Seeks (h : Site) (b : Broker) (n : List ℕ) (to : Option Position) : Plan → Type 0 where
  NothingToSeek : Seeks h b n to idle_plan
  SeeksTo : (v : Subscription) (i : ℕ) (ws : List Write) → sub_named b.subs n ≡ Some v → seek_index b to ≡ Some i → Updates h b (sought i v) ws
      → Seeks h b n to (plan_of (write.Seek v.name i ∷ ws) (change.Cleared v.name ∷ []) [])

-- What an event is at its broker, with the shape of its plan. What is not enabled is of two shapes, by whether it would take
-- a packet; clusters are in range, so that each node has one topic and one cluster
pub data Shape (s : Setup) (w : World) : Planned → Type 0 where
  Idle : (t x : ℕ) → nat_lt x (length s.clusters) ≡ true → Shape s w (record { topic = t; cluster = x; takes = None; plan = idle_plan })
  Empty : (t x : ℕ) (k : LinkName) → nat_lt x (length s.clusters) ≡ true → next_packet (link_at w.links k) ≡ None
      → Shape s w (record { topic = t; cluster = x; takes = Some k; plan = idle_plan })
  Serve : (x c : ℕ) (p : Packet) (plan : Plan) → nat_lt x (length s.clusters) ≡ true → next_packet (link_at w.links (ToBroker c x)) ≡ Some p
      → Served (site s (declared_at s c).topic x) (topic_at s w (declared_at s c).topic x) c p plan
      → Shape s w (record { topic = (declared_at s c).topic; cluster = x; takes = Some (ToBroker c x); plan = plan })
  Drop : (x c : ℕ) (v : Session) → nat_lt x (length s.clusters) ≡ true → session_at (topic_at s w (declared_at s c).topic x) c ≡ Some v
      → Shape s w (record { topic = (declared_at s c).topic; cluster = x; takes = None; plan = quiet_plan (session_becomes c None) })
  Reset : (t x y : ℕ) → has_pair s t x y ≡ true → is_remote (site s t x) y ≡ true
      → Shape s w (record { topic = t; cluster = x; takes = None; plan = resets (site s t x) y ((replicator_at (topic_at s w t x) y).session + 1) })
  Read : (t x y : ℕ) (plan : Plan) → has_pair s t x y ≡ true → Reads (site s t x) (topic_at s w t x) y plan
      → Shape s w (record { topic = t; cluster = x; takes = None; plan = plan })
  Take : (t x y : ℕ) (p : Packet) (plan : Plan) → has_pair s t x y ≡ true → next_packet (link_at w.links (Forward (node s t x) y)) ≡ Some p
      → Fated s.per_ledger (topic_at s w t y) (λ b. Taken (site s t y) b x p) (closes x) plan
      → Shape s w (record { topic = t; cluster = y; takes = Some (Forward (node s t x) y); plan = plan })
  Receipt : (t x y : ℕ) (p : Packet) (plan : Plan) → has_pair s t x y ≡ true → next_packet (link_at w.links (Back (node s t x) y)) ≡ Some p
      → Fated s.per_ledger (topic_at s w t x) (λ b. Answered b y p) (quiet_plan []) plan
      → Shape s w (record { topic = t; cluster = x; takes = Some (Back (node s t x) y); plan = plan })
  Snap : (t x : ℕ) (plan : Plan) → has_node s t x ≡ true → Snaps (site s t x) (topic_at s w t x) plan
      → Shape s w (record { topic = t; cluster = x; takes = None; plan = plan })
  Offer : (t x n : ℕ) (plan : Plan) → has_node s t x ≡ true → Offers (site s t x) (topic_at s w t x) (sub_name s t n) plan
      → Shape s w (record { topic = t; cluster = x; takes = None; plan = plan })
  Seek : (t x n : ℕ) (to : Option Position) (plan : Plan) → has_node s t x ≡ true → Seeks (site s t x) (topic_at s w t x) (sub_name s t n) to plan
      → Shape s w (record { topic = t; cluster = x; takes = None; plan = plan })
  Restart : (t x : ℕ) → has_node s t x ≡ true → Shape s w (record { topic = t; cluster = x; takes = None; plan = restart })
