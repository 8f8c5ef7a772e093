-- Each event raises the numbers of a world by one at most, and the count of its events by one.
use Rattle.std.proofs.Common.{◌≡◌, ℕ, zero, suc, ◌+◌, ◌*◌, ◌≤◌, Bool, true, false, List, [], ◌∷◌, length, refl, subst, arith, inl, inr, replicate}
use Rattle.std.specs.Prelude.{Option, Some, None, slice_get, slice_index, slice_index_or, slice_set, is_some, nat_lt, ◌==◌, ◌&&◌, map}
use Rattle.std.specs.List.{list_any}
use Rattle.std.proofs.lemmas.Option.{none-some}
use Rattle.world_laws.proofs.Types.{Event, Frame, Held, Ident, Line, Out, Packet, Peer, Position}
use Rattle.world_laws.proofs.Types.event
use Rattle.world_laws.proofs.Types.frame
use Rattle.world_laws.proofs.Types.line
use Rattle.world_laws.proofs.Types.cluster_ref
use Rattle.geo_base.specs.Broker.{no_broker, new_broker}
use Rattle.geo_base.specs.Client.{Acted, Client, connected_to, new_client, reconnect}
use Rattle.geo_base.specs.Getting.{answered, get, got_frame, is_duplicate, is_number, publishes, received, with_error, with_receipt}
use Rattle.geo_base.specs.Going.{acks_all, acks_one, acks_to, first_held, go, go_line, most_unanswered, past}
use Rattle.geo_base.specs.Happening.{broker_does, client_does, does_planned, happens, next_stamp, stamp_of}
use Rattle.geo_base.specs.Link.{Link, next_packet, no_link, sent_on, took}
use Rattle.geo_base.specs.Planned.{Planned, has_client, planned}
use Rattle.geo_base.specs.Replicator.{new_replicator}
use Rattle.geo_base.specs.Setup.{Declared, Setup, declared_at}
use Rattle.geo_base.specs.World.{Back, Forward, LinkName, Links, ToBroker, ToClient, World, cell, delivered, link_at, node, opening_world, packet_at, stamped, table, taken_from, with_link}
use Rattle.world_laws.specs.Within.{ClientWithin, ReplicatorWithin, ReplicatorsWithin, StampsWithin, WorldWithin}
use Rattle.world_laws.proofs.Counters.Calm.{replicator_more, shape_raises}
use Rattle.world_laws.proofs.Walks.EventWalk.{HasShape, planned_shape}
use Rattle.world_laws.proofs.Induction.Frames.{at_copies, at_set, cell_set}
use Rattle.world_laws.proofs.OnceInOrder.Members.{get_push}
use Rattle.world_laws.proofs.Walks.Shapes.{Shape}
use Rattle.world_laws.proofs.Walks.Walk.{on_if}

pub client_more : (n : ℕ) (k : Client) → ClientWithin n k → ClientWithin (n + 1) k
client_more n k w =
    record { connection = omega (arith, w.connection); receipts = omega (arith, w.receipts); duplicates = omega (arith, w.duplicates); errors = omega (arith, w.errors) }

-- links

-- a table of links with another link in one place, looked at at any place
pub link_set : (P : Link → Type 0) (ls : Links) (k j : LinkName) (l : Link) → P l → P (link_at ls j) → P (link_at (with_link ls k l) j)
link_set P ls (Forward n y) (Forward m z) l p q = cell_set P ls.forward n y l m z (λ _ _. p) q
link_set P ls (Back n y) (Back m z) l p q = cell_set P ls.back n y l m z (λ _ _. p) q
link_set P ls (ToBroker n y) (ToBroker m z) l p q = cell_set P ls.to_broker n y l m z (λ _ _. p) q
link_set P ls (ToClient n y) (ToClient m z) l p q = cell_set P ls.to_client n y l m z (λ _ _. p) q
link_set P ls (Forward n y) j l p q = q
link_set P ls (Back n y) j l p q = q
link_set P ls (ToBroker n y) j l p q = q
link_set P ls (ToClient n y) j l p q = q

abbrev pub AllStamps : ℕ → Links → Type 0
AllStamps n ls = (k : LinkName) → StampsWithin n (link_at ls k)

stamps_push : (n : ℕ) (l : Link) (p : Packet) → p.stamp ≤ n → StampsWithin n l → StampsWithin n (sent_on l p)
stamps_push n l p h w i q at =
    elim (get_push l.sent p i q at) [
      | inl there ↦ w i q there.1
      | inr new ↦ subst (λ (q : Packet). q.stamp ≤ n) new.1 h
    ]

pub delivered_stamps : (n stamp : ℕ) (to : Peer → LinkName) (os : List Out) (ls : Links) → stamp ≤ n → AllStamps n ls → AllStamps n (delivered to stamp os ls)
delivered_stamps n stamp to [] ls h w = w
delivered_stamps n stamp to (o ∷ os) ls h w =
    delivered_stamps n stamp to os _ h
    (λ k. link_set (StampsWithin n) ls (to o.to) k _ (stamps_push n (link_at ls (to o.to)) (stamped stamp o) h (w (to o.to))) (w k))

pub taken_stamps : (n : ℕ) (o : Option LinkName) (ls : Links) → AllStamps n ls → AllStamps n (taken_from o ls)
taken_stamps n None ls w k = w k
taken_stamps n (Some j) ls w k = link_set (StampsWithin n) ls j k (took (link_at ls j)) (w j) (w k)

pub stamps_more : (n : ℕ) (ls : Links) → AllStamps n ls → AllStamps (n + 1) ls
stamps_more n ls w k i p at = omega (arith, w k i p at)

stamp_within : (n : ℕ) (o : Option Packet) → ((p : Packet) → o ≡ Some p → p.stamp ≤ n) → stamp_of o ≤ n
stamp_within n None h = omega arith
stamp_within n (Some p) h = h p refl

pub packet_within : (n : ℕ) (ls : Links) (o : Option LinkName) → AllStamps n ls → stamp_of (packet_at ls o) ≤ n
packet_within n ls None w = omega arith
packet_within n ls (Some k) w = stamp_within n (next_packet (link_at ls k)) (λ p at. w k (link_at ls k).taken p at)

pub next_within : (n clock : ℕ) (o : Option Packet) → clock ≤ n → stamp_of o ≤ n → next_stamp clock o ≤ n + 1
next_within n clock o h k = omega (arith, h, k)

-- clocks
pub clocks_set : (n : ℕ) (xs : List ℕ) (i z v : ℕ) → v ≤ n → slice_index xs z ≤ n → slice_index (slice_set xs i v) z ≤ n
clocks_set n xs i z v h k = at_set (λ (m : ℕ). m ≤ n) xs i z v 0 (λ _. h) k

-- an event at a broker
idles_within : (s : Setup) (n : ℕ) (w : World) → WorldWithin s n w → WorldWithin s (n + 1) (record w { idle = w.idle + 1 })
idles_within s n w h = record {
  count = omega (arith, h.count);
  replicators = λ z y. replicator_more n _ (h.replicators z y);
  clients = λ c. client_more n _ (h.clients c);
  broker_clocks = λ z. omega (arith, h.broker_clocks z);
  client_clocks = λ c. omega (arith, h.client_clocks c);
  stamps = stamps_more n w.links h.stamps;
}

does_within : (s : Setup) (n : ℕ) (w : World) (p : Planned) → Shape s w p → WorldWithin s n w → WorldWithin s (n + 1) (broker_does s w p)
unfolding broker_does
does_within s n w p shape h =
    let place : ℕ = node s p.topic p.cluster in
    let stamp = next_stamp (slice_index w.broker_clocks place) (packet_at w.links p.takes) in
    let fits : stamp ≤ n + 1 = next_within n _ (packet_at w.links p.takes) (h.broker_clocks place) (packet_within n w.links p.takes h.stamps) in
    on_if (WorldWithin s (n + 1)) p.plan.idle _ _ (idles_within s n w h) (record {
      count = omega (arith, h.count);
      replicators = λ z. at_set (λ b. ReplicatorsWithin (n + 1) b.replicators) w.brokers place z _ no_broker
          (λ _. shape_raises s w n p shape (h.replicators place)) (λ y. replicator_more n _ (h.replicators z y));
      clients = λ c. client_more n _ (h.clients c);
      broker_clocks = λ z. clocks_set (n + 1) w.broker_clocks place z stamp fits (omega (arith, h.broker_clocks z));
      client_clocks = λ c. omega (arith, h.client_clocks c);
      stamps = taken_stamps (n + 1) p.takes _ (delivered_stamps (n + 1) stamp _ p.plan.sent w.links fits (stamps_more n w.links h.stamps));
    })

planned_within : (s : Setup) (n : ℕ) (w : World) (o : Option Planned) → HasShape s w o → WorldWithin s n w → WorldWithin s (n + 1) (does_planned s w o)
planned_within s n w None shape h = idles_within s n w h
planned_within s n w (Some p) shape h = does_within s n w p shape h

-- an event at a client
client_within : (s : Setup) (n : ℕ) (w : World) (c : ℕ) (k : Option LinkName) (a : Acted) → ClientWithin (n + 1) a.client → WorldWithin s n w
    → WorldWithin s (n + 1) (client_does s w c k a)
unfolding client_does
client_within s n w c k a raised h =
    let stamp = next_stamp (slice_index w.client_clocks c) (packet_at w.links k) in
    let fits : stamp ≤ n + 1 = next_within n _ (packet_at w.links k) (h.client_clocks c) (packet_within n w.links k h.stamps) in
    on_if (WorldWithin s (n + 1)) a.idle _ _ (idles_within s n w h) (record {
      count = omega (arith, h.count);
      replicators = λ z y. replicator_more n _ (h.replicators z y);
      clients = λ d. at_set (ClientWithin (n + 1)) w.clients c d a.client (new_client (declared_at s d)) (λ _. raised) (client_more n _ (h.clients d));
      broker_clocks = λ z. omega (arith, h.broker_clocks z);
      client_clocks = λ d. clocks_set (n + 1) w.client_clocks c d stamp fits (omega (arith, h.client_clocks d));
      stamps = delivered_stamps (n + 1) stamp _ a.sent _ fits (taken_stamps (n + 1) k w.links (stamps_more n w.links h.stamps));
    })

abbrev pub ActedWithin : ℕ → Acted → Type 0
ActedWithin n a = ClientWithin n a.client

-- no count of the client changes
same_counts : (n : ℕ) (k m : Client) → ClientWithin n k → m.connection ≡ k.connection → m.receipts ≡ k.receipts → m.duplicates ≡ k.duplicates → m.errors ≡ k.errors
    → ClientWithin (n + 1) m
same_counts n k m w a b c d = record {
  connection = omega (arith, w.connection, a);
  receipts = omega (arith, w.receipts, b);
  duplicates = omega (arith, w.duplicates, c);
  errors = omega (arith, w.errors, d);
}

connected_within : (n : ℕ) (k m : Client) (x : ℕ) → ClientWithin n k → m.connection ≡ k.connection → m.receipts ≡ k.receipts → m.duplicates ≡ k.duplicates → m.errors ≡ k.errors
    → ClientWithin (n + 1) (connected_to x m)
connected_within n k m x w a b c d = record {
  connection = omega (arith, w.connection, a);
  receipts = omega (arith, w.receipts, b);
  duplicates = omega (arith, w.duplicates, c);
  errors = omega (arith, w.errors, d);
}

acks_one_within : (n : ℕ) (k : Client) (i : Ident) (o : Option Position) → ClientWithin n k → ActedWithin (n + 1) (acks_one k i o)
acks_one_within n k i None w = client_more n k w
acks_one_within n k i (Some p) w = same_counts n k _ w refl refl refl refl

acks_to_within : (n : ℕ) (k : Client) (o : Option Position) → ClientWithin n k → ActedWithin (n + 1) (acks_to k o)
acks_to_within n k None w = client_more n k w
acks_to_within n k (Some p) w = same_counts n k _ w refl refl refl refl

acks_all_within : (n : ℕ) (k : Client) (hs : List Held) → ClientWithin n k → ActedWithin (n + 1) (acks_all k hs)
acks_all_within n k [] w = client_more n k w
acks_all_within n k (h ∷ hs) w = same_counts n k _ w refl refl refl refl

go_line_within : (n : ℕ) (s : Setup) (d : Declared) (k : Client) (o : Option Line) → ClientWithin n k → ActedWithin (n + 1) (go_line s d k o)
go_line_within n s d k None w = client_more n k w
go_line_within n s d k (Some line.Produce) w = same_counts n k _ w refl refl refl refl
go_line_within n s d k (Some (line.Pub seq to key text)) w =
    on_if (ActedWithin (n + 1)) (is_some k.produce && nat_lt (length k.unanswered) most_unanswered) _ _ (same_counts n k _ w refl refl refl refl) (client_more n k w)
go_line_within n s d k (Some (line.Sub name kind earliest replicated)) w = same_counts n k _ w refl refl refl refl
go_line_within n s d k (Some (line.Flow permits)) w =
    on_if (ActedWithin (n + 1)) (is_some k.sub) _ _ (same_counts n k _ w refl refl refl refl) (client_more n k w)
go_line_within n s d k (Some (line.Ack i)) w = acks_one_within n k i (first_held k.held i) w
go_line_within n s d k (Some (line.AckTo i)) w = acks_to_within n k (first_held k.held i) w
go_line_within n s d k (Some line.AckAll) w = acks_all_within n k k.held w
go_line_within n s d k (Some line.Unsub) w =
    on_if (ActedWithin (n + 1)) (is_some k.sub) _ _ (same_counts n k _ w refl refl refl refl) (client_more n k w)
go_line_within n s d k (Some line.Close) w =
    on_if (ActedWithin (n + 1)) (is_some k.sub) _ _ (same_counts n k _ w refl refl refl refl) (client_more n k w)
go_line_within n s d k (Some line.CloseProducer) w =
    on_if (ActedWithin (n + 1)) (is_some k.produce && (length k.unanswered == 0)) _ _ (same_counts n k _ w refl refl refl refl) (client_more n k w)
go_line_within n s d k (Some line.Ping) w = same_counts n k _ w refl refl refl refl
go_line_within n s d k (Some (line.Move x)) w = connected_within n k (past k) x w refl refl refl refl

pub go_within : (n : ℕ) (s : Setup) (d : Declared) (k : Client) → ClientWithin n k → ActedWithin (n + 1) (go s d k)
unfolding go
go_within n s d k w = on_if (ActedWithin (n + 1)) k.connected _ _ (go_line_within n s d k (slice_get d.lines k.done) w) (client_more n k w)

pub reconnect_within : (n : ℕ) (s : Setup) (d : Declared) (k : Client) → ClientWithin n k → ActedWithin (n + 1) (reconnect s d k)
unfolding reconnect
reconnect_within n s d k w = connected_within n k k k.cluster w refl refl refl refl

answered_within : (n : ℕ) (d : Declared) (k : Client) (m : ℕ) (counted : Client) → ClientWithin n k → ClientWithin (n + 1) counted
    → ClientWithin (n + 1) (answered d k m counted)
answered_within n d k m counted w c =
    on_if (ClientWithin (n + 1)) (list_any (publishes d m) k.unanswered) _ _
    (record { connection = c.connection; receipts = c.receipts; duplicates = c.duplicates; errors = c.errors }) (client_more n k w)

receipt_within : (n : ℕ) (k : Client) (b : Bool) → ClientWithin n k → ClientWithin (n + 1) (with_receipt k b)
receipt_within n k true w =
    record { connection = omega (arith, w.connection); receipts = omega (arith, w.receipts); duplicates = omega (arith, w.duplicates); errors = omega (arith, w.errors) }
receipt_within n k false w =
    record { connection = omega (arith, w.connection); receipts = omega (arith, w.receipts); duplicates = omega (arith, w.duplicates); errors = omega (arith, w.errors) }

error_within : (n : ℕ) (k : Client) → ClientWithin n k → ClientWithin (n + 1) (with_error k)
error_within n k w =
    record { connection = omega (arith, w.connection); receipts = omega (arith, w.receipts); duplicates = omega (arith, w.duplicates); errors = omega (arith, w.errors) }

received_within : (n : ℕ) (k : Client) (id : ℕ) (i : Ident) (p : Position) → ClientWithin n k → ClientWithin (n + 1) (received k id i p)
received_within n k id i p w = on_if (ClientWithin (n + 1)) (is_number id k.sub) _ _ (same_counts n k _ w refl refl refl refl) (client_more n k w)

got_frame_within : (n : ℕ) (d : Declared) (k : Client) (f : Frame) → ClientWithin n k → ClientWithin (n + 1) (got_frame d k f)
got_frame_within n d k (frame.SendReceipt id m p) w = answered_within n d k m _ w (receipt_within n k (is_duplicate p) w)
got_frame_within n d k (frame.SendError id m code) w = answered_within n d k m _ w (error_within n k w)
got_frame_within n d k (frame.Error request code) w = error_within n k w
got_frame_within n d k (frame.Message id p None e) w = received_within n k id _ p w
got_frame_within n d k (frame.Message id p (Some (cluster_ref.Known x)) e) w = received_within n k id _ p w
got_frame_within n d k (frame.Message id p (Some (cluster_ref.Stranger name)) e) w = client_more n k w
got_frame_within n d k f w = client_more n k w

pub get_within : (n : ℕ) (d : Declared) (k : Client) (o : Option Packet) → ClientWithin n k → ActedWithin (n + 1) (get d k o)
unfolding get
get_within n d k None w = client_more n k w
get_within n d k (Some p) w = on_if (ClientWithin (n + 1)) (p.session == k.connection) _ _ (got_frame_within n d k p.frame w) (client_more n k w)

-- any event
pub event_within : (s : Setup) (n : ℕ) (w : World) (e : Event) → WorldWithin s n w → WorldWithin s (n + 1) (happens s w e)
unfolding happens
event_within s n w (event.Go c) h =
    on_if (WorldWithin s (n + 1)) (has_client s c) _ _ (client_within s n w c _ _ (go_within n s _ _ (h.clients c)) h) (idles_within s n w h)
event_within s n w (event.Reconnect c) h =
    on_if (WorldWithin s (n + 1)) (has_client s c) _ _ (client_within s n w c _ _ (reconnect_within n s _ _ (h.clients c)) h) (idles_within s n w h)
event_within s n w (event.Get c) h =
    on_if (WorldWithin s (n + 1)) (has_client s c) _ _ (client_within s n w c _ _ (get_within n _ _ _ (h.clients c)) h) (idles_within s n w h)
event_within s n w e h = planned_within s n w (planned s w e) (planned_shape s w e) h

-- the opening world
new_within : (d : Declared) → ClientWithin 0 (new_client d)
new_within d = record { connection = omega arith; receipts = omega arith; duplicates = omega arith; errors = omega arith }

new_clients_within : (ds : List Declared) (c : ℕ) (k : Client) → ClientWithin 0 k → ClientWithin 0 (slice_index_or (map new_client ds) c k)
new_clients_within [] c k w = w
new_clients_within (d ∷ ds) zero k w = new_within d
new_clients_within (d ∷ ds) (suc c) k w = new_clients_within ds c k w

unsent_within : StampsWithin 0 no_link
unsent_within i p at = absurd (none-some p at)

-- a table of empty links
pub table_has : (P : Link → Type 0) (rows columns i j : ℕ) → P no_link → P (cell (table rows columns) i j)
table_has P rows columns i j h =
    at_copies (λ (r : List Link). P (slice_index_or r j no_link)) rows i (replicate columns no_link) [] (at_copies P columns j no_link no_link h h) h

table_within : (rows columns i j : ℕ) → StampsWithin 0 (cell (table rows columns) i j)
table_within rows columns i j = table_has (StampsWithin 0) rows columns i j unsent_within

opening_stamps : (s : Setup) (k : LinkName) → StampsWithin 0 (link_at (opening_world s).links k)
opening_stamps s (Forward n y) = table_within (length s.topics * length s.clusters) (length s.clusters) n y
opening_stamps s (Back n y) = table_within (length s.topics * length s.clusters) (length s.clusters) n y
opening_stamps s (ToBroker c x) = table_within (length s.clients) (length s.clusters) c x
opening_stamps s (ToClient c x) = table_within (length s.clients) (length s.clusters) c x

new_replicators_within : (n y : ℕ) → ReplicatorWithin 0 (slice_index_or (replicate n new_replicator) y new_replicator)
new_replicators_within n y =
    let new : ReplicatorWithin 0 new_replicator = record { session = omega arith; next = omega arith } in
    at_copies (ReplicatorWithin 0) n y new_replicator new_replicator new new

pub opening_within : (s : Setup) → WorldWithin s 0 (opening_world s)
opening_within s = record {
  count = omega arith;
  replicators = λ z. at_copies (λ b. ReplicatorsWithin 0 b.replicators) (length s.topics * length s.clusters) z (new_broker (length s.clusters) (length s.clients)) no_broker
      (new_replicators_within (length s.clusters)) (new_replicators_within 0);
  clients = λ c. new_clients_within s.clients c _ (new_within (declared_at s c));
  broker_clocks = λ z. at_copies (λ (m : ℕ). m ≤ 0) (length s.topics * length s.clusters) z 0 0 (omega arith) (omega arith);
  client_clocks = λ c. at_copies (λ (m : ℕ). m ≤ 0) (length s.clients) c 0 0 (omega arith) (omega arith);
  stamps = opening_stamps s;
}

-- a greater bound
pub within_more : (s : Setup) (n m : ℕ) (w : World) → n ≤ m → WorldWithin s n w → WorldWithin s m w
within_more s n m w le h = record {
  count = omega (arith, h.count);
  replicators = λ z y. record { session = omega (arith, (h.replicators z y).session); next = omega (arith, (h.replicators z y).next) };
  clients = λ c. record {
    connection = omega (arith, (h.clients c).connection);
    receipts = omega (arith, (h.clients c).receipts);
    duplicates = omega (arith, (h.clients c).duplicates);
    errors = omega (arith, (h.clients c).errors);
  };
  broker_clocks = λ z. omega (arith, h.broker_clocks z);
  client_clocks = λ c. omega (arith, h.client_clocks c);
  stamps = λ k i p at. omega (arith, h.stamps k i p at);
}
