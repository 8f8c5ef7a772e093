-- An event is one of its node: it reads that node's state and the next packet of one link, and it changes that node, takes
-- that packet, and sends.
use Rattle.std.proofs.Common.{◌≡◌, ℕ, zero, suc, ◌+◌, ◌-◌, ◌<◌, Bool, true, false, List, [], ◌∷◌, ◌++◌, length, map, refl, sym, ap, subst, ◌∙◌, ◌==◌, arith, nat_lt}
use Rattle.std.specs.Prelude.{Option, Some, None, if◌then◌else◌, slice_get, slice_index, slice_set}
use Rattle.std.proofs.lemmas.Bool.{false≢true, ltb-true, lt-ltb}
use Rattle.std.proofs.lemmas.List.{append-nil, length-append, length-set}
use Rattle.std.proofs.lemmas.Option.{none-some}
use Rattle.world_laws.proofs.Types.{Event, Packet, Peer}
use Rattle.world_laws.proofs.Types.event
use Rattle.geo_base.specs.Broker.{Broker, no_broker}
use Rattle.geo_base.specs.Client.{Acted, new_client}
use Rattle.geo_base.specs.FrameSizes.{sent_bytes}
use Rattle.geo_base.specs.Happening.{broker_does, client_acted, client_does, does_planned, happens, next_stamp}
use Rattle.geo_base.specs.History.{HappensAt, RecordedEvent, SentPacket, is_input, sent_over, sent_with, state_after, taken_over}
use Rattle.geo_base.specs.Link.{Link, next_packet}
use Rattle.geo_base.specs.NodeState.{BrokerState, ClientState, NodeState, acts, clock_at, state_at, takes_from}
use Rattle.geo_base.specs.Nodes.{BrokerNode, ClientNode, Node, broker_count, has_link, is_node, link_from, node_number, node_of, same_link}
use Rattle.geo_base.specs.Plan.{Plan, done}
use Rattle.geo_base.specs.Planned.{Planned, broker_plan, has_client, has_node, in_range, planned, planned_in}
use Rattle.geo_base.specs.Setup.{Setup, declared_at}
use Rattle.geo_base.specs.World.{LinkName, Links, World, broker_at, client_at, delivered, from_broker, from_client, link_at, node, packet_at, taken_from, topic_at}
use Rattle.world_laws.proofs.Merges.LinkTables.{HasLink, delivered_at, delivered_has, input_link, moved, same_link_is, taken_at, taken_has}
use Rattle.world_laws.proofs.Replicating.Sizes.{node_lt}
use Rattle.world_laws.proofs.Merges.TwoLists.{first_set, second_set}
use Rattle.world_laws.proofs.Walks.Walk.{left, on_false, on_true, right}

-- an event of a broker is its plan done, one of a client is what the client does
abbrev pub plan_done : Setup → ℕ → ℕ → Option LinkName → Plan → Planned
plan_done s t x k q = record { topic = t; cluster = x; takes = k; plan = q }

abbrev pub broker_input : Setup → World → ℕ → ℕ → Event → Option LinkName
broker_input s w t x e = input_link s (BrokerNode t x) (takes_from (BrokerState (topic_at s w t x)) e)

abbrev pub client_input : Setup → World → ℕ → Event → Option LinkName
client_input s w c e = input_link s (ClientNode c) (takes_from (ClientState (client_at s w c)) e)

pub data Kind (s : Setup) (w : World) (e : Event) : Type 0 where
  OfBroker : (t x : ℕ) → node_of s e ≡ BrokerNode t x
      → happens s w e ≡ broker_does s w (plan_done s t x (broker_input s w t x e) (broker_plan s (topic_at s w t x) e (packet_at w.links (broker_input s w t x e))))
      → Kind s w e
  OfClient : (c : ℕ) → node_of s e ≡ ClientNode c
      → happens s w e ≡ client_does s w c (client_input s w c e) (client_acted s (client_at s w c) e (packet_at w.links (client_input s w c e)))
      → Kind s w e

is_planned : (s : Setup) (w : World) (e : Event) → in_range s e ≡ true → planned s w e ≡ planned_in s w e
unfolding planned
is_planned s w e h = on_true (in_range s e) (planned_in s w e) None h

pub kind_of : (s : Setup) (w : World) (e : Event) → in_range s e ≡ true → Kind s w e
unfolding happens
kind_of s w (event.Go c) h = Kind.OfClient c refl (on_true (has_client s c) _ _ h)
kind_of s w (event.Get c) h = Kind.OfClient c refl (on_true (has_client s c) _ _ h)
kind_of s w (event.Reconnect c) h = Kind.OfClient c refl (on_true (has_client s c) _ _ h)
kind_of s w (event.Serve x c) h = Kind.OfBroker (declared_at s c).topic x refl (ap (does_planned s w) (is_planned s w (event.Serve x c) h))
kind_of s w (event.Drop x c) h = Kind.OfBroker (declared_at s c).topic x refl (ap (does_planned s w) (is_planned s w (event.Drop x c) h))
kind_of s w (event.Reset t x y) h = Kind.OfBroker t x refl (ap (does_planned s w) (is_planned s w (event.Reset t x y) h))
kind_of s w (event.Read t x y) h = Kind.OfBroker t x refl (ap (does_planned s w) (is_planned s w (event.Read t x y) h))
kind_of s w (event.Take t x y f) h = Kind.OfBroker t y refl (ap (does_planned s w) (is_planned s w (event.Take t x y f) h))
kind_of s w (event.Receipt t x y f) h = Kind.OfBroker t x refl (ap (does_planned s w) (is_planned s w (event.Receipt t x y f) h))
kind_of s w (event.Snap t x) h = Kind.OfBroker t x refl (ap (does_planned s w) (is_planned s w (event.Snap t x) h))
kind_of s w (event.Offer t x n) h = Kind.OfBroker t x refl (ap (does_planned s w) (is_planned s w (event.Offer t x n) h))
kind_of s w (event.Seek t x n to) h = Kind.OfBroker t x refl (ap (does_planned s w) (is_planned s w (event.Seek t x n to) h))
kind_of s w (event.Restart t x) h = Kind.OfBroker t x refl (ap (does_planned s w) (is_planned s w (event.Restart t x) h))

-- the world after one that is not idle
abbrev pub broker_after : Setup → World → Planned → ℕ → World
broker_after s w p stamp = record {
  brokers = slice_set w.brokers (node s p.topic p.cluster) (done s.per_ledger (broker_at w (node s p.topic p.cluster)) p.plan);
  clients = w.clients;
  links = taken_from p.takes (delivered (from_broker s p.topic p.cluster) stamp p.plan.sent w.links);
  broker_clocks = slice_set w.broker_clocks (node s p.topic p.cluster) stamp;
  client_clocks = w.client_clocks;
  events = w.events + 1;
  idle = w.idle;
  rounds = w.rounds;
  frame_bytes = w.frame_bytes + sent_bytes s.clusters p.plan.sent;
}

broker_is : (s : Setup) (w : World) (p : Planned) → p.plan.idle ≡ false
    → broker_does s w p ≡ broker_after s w p (next_stamp (slice_index w.broker_clocks (node s p.topic p.cluster)) (packet_at w.links p.takes))
unfolding broker_does
broker_is s w p h = on_false p.plan.idle _ _ h

abbrev pub client_after : Setup → World → ℕ → Option LinkName → Acted → ℕ → World
client_after s w c takes a stamp = record {
  brokers = w.brokers;
  clients = slice_set w.clients c a.client;
  links = delivered (from_client c) stamp a.sent (taken_from takes w.links);
  broker_clocks = w.broker_clocks;
  client_clocks = slice_set w.client_clocks c stamp;
  events = w.events + 1;
  idle = w.idle;
  rounds = w.rounds;
  frame_bytes = w.frame_bytes + sent_bytes s.clusters a.sent;
}

client_is : (s : Setup) (w : World) (c : ℕ) (takes : Option LinkName) (a : Acted) → a.idle ≡ false
    → client_does s w c takes a ≡ client_after s w c takes a (next_stamp (slice_index w.client_clocks c) (packet_at w.links takes))
unfolding client_does
client_is s w c takes a h = on_false a.idle _ _ h

-- every node, every clock and every link has its place
pub record Fits (s : Setup) (w : World) : Type 0 where
  pub brokers : length w.brokers ≡ broker_count s
  pub clients : length w.clients ≡ length s.clients
  pub broker_clocks : length w.broker_clocks ≡ broker_count s
  pub client_clocks : length w.client_clocks ≡ length s.clients
  pub links : (k : LinkName) → has_link s k ≡ true → HasLink w.links k

-- what an entry of a node's history does to the world: the node becomes st, its clock the entry's stamp, and each link
-- carries what the entry sent on it, and one packet less to be taken where the entry took it
pub record DoneBy (s : Setup) (w : World) (n : ℕ) (st : NodeState) (d : RecordedEvent) (at : Node) (from : Option Peer) (w' : World) : Type 0 where
  pub fits : Fits s w'
  pub states : (m : ℕ) → state_at s w' m ≡ (if n == m then st else state_at s w m)
  pub clocks : (m : ℕ) → clock_at s w' m ≡ (if n == m then d.stamp else clock_at s w m)
  pub links : (k : LinkName) → has_link s k ≡ true
      → link_at w'.links k ≡ moved (link_at w.links k) (sent_over s k at d.sent) (length (taken_over s k at from d.taken))
  pub idle : w'.idle ≡ w.idle
  pub events : w'.events ≡ w.events + 1

next_there : (l : Link) (p : Packet) → next_packet l ≡ Some p → l.taken < length l.sent
next_there l p h = there l.sent l.taken h
  where
    there : (xs : List Packet) (i : ℕ) → slice_get xs i ≡ Some p → i < length xs
    there [] i h = absurd (none-some p h)
    there (x ∷ xs) zero h = omega arith
    there (x ∷ xs) (suc i) h = let r = there xs i h in omega (arith, r)

-- a link from which an entry takes has a next packet
pub room_for : (s : Setup) (at : Node) (from : Option Peer) (p : Option Packet) (ls : Links) (k : LinkName) → is_input s at from p ≡ true
    → packet_at ls (input_link s at from) ≡ p → 0 < length (taken_over s k at from p) → (link_at ls k).taken < length (link_at ls k).sent
room_for s at None None ls k fits is some = absurd (omega (arith, some))
room_for s at None (Some p) ls k fits is some = absurd (false≢true fits)
room_for s at (Some q) None ls k fits is some = absurd (false≢true fits)
room_for s at (Some q) (Some p) ls k fits is some = by (same_link (link_from s at q) k) refl some
  where
    by : (b : Bool) → same_link (link_from s at q) k ≡ b → 0 < length (if b then p ∷ [] else []) → (link_at ls k).taken < length (link_at ls k).sent
    by true e h = subst (λ (j : LinkName). (link_at ls j).taken < length (link_at ls j).sent) (same_link_is (link_from s at q) k e) (next_there (link_at ls (link_from s at q)) p is)
    by false e h = absurd (omega (arith, h))

-- at a broker: it sends, then it takes
broker_done : (s : Setup) (w : World) (t x : ℕ) (from : Option Peer) (q : Plan) (d : RecordedEvent) → Fits s w → node s t x < broker_count s
    → is_input s (BrokerNode t x) from d.taken ≡ true → packet_at w.links (input_link s (BrokerNode t x) from) ≡ d.taken → d.sent ≡ map (sent_with d.stamp) q.sent
    → DoneBy s w (node s t x) (BrokerState (done s.per_ledger (topic_at s w t x) q)) d (BrokerNode t x) from
    (broker_after s w (plan_done s t x (input_link s (BrokerNode t x) from) q) d.stamp)
broker_done s w t x from q d fits lt took is sent = record {
  fits = record {
    brokers = length-set w.brokers n b ∙ fits.brokers;
    clients = fits.clients;
    broker_clocks = length-set w.broker_clocks n d.stamp ∙ fits.broker_clocks;
    client_clocks = fits.client_clocks;
    links = λ k has. taken_has input ls k (delivered_has (from_broker s t x) d.stamp q.sent w.links k (fits.links k has));
  };
  states = λ m. first_set BrokerState ClientState (broker_count s) w.brokers w.clients no_broker (λ c. new_client (declared_at s c)) n m b lt
      (let e = fits.brokers in omega (arith, e, lt));
  clocks = λ m. first_set (λ c. c) (λ c. c) (broker_count s) w.broker_clocks w.client_clocks 0 (λ c. 0) n m d.stamp lt
      (let e = fits.broker_clocks in omega (arith, e, lt));
  links = λ k has.
      let there = fits.links k has in
      let after : link_at ls k ≡ moved (link_at w.links k) (sent_over s k at d.sent) 0 =
      delivered_at s at k d.stamp q.sent w.links there ∙ ap (λ (os : List SentPacket). moved (link_at w.links k) (sent_over s k at os) 0) (sym sent) in
      taken_at s at from d.taken ls k (delivered_has (from_broker s t x) d.stamp q.sent w.links k there) took (room k after)
      ∙ (ap (λ (l : Link). moved l [] (length (taken_over s k at from d.taken))) after ∙ joined (link_at w.links k) (sent_over s k at d.sent) (length (taken_over s k at from d.taken)));
  idle = refl;
  events = refl;
}
  where
    n : ℕ
    n = node s t x

    at : Node
    at = BrokerNode t x

    b : Broker
    b = done s.per_ledger (topic_at s w t x) q

    input : Option LinkName
    input = input_link s at from

    ls : Links
    ls = delivered (from_broker s t x) d.stamp q.sent w.links

    room : (k : LinkName) → link_at ls k ≡ moved (link_at w.links k) (sent_over s k at d.sent) 0 → 0 < length (taken_over s k at from d.taken)
        → (link_at ls k).taken < length (link_at ls k).sent
    room k after some =
        let before = room_for s at from d.taken w.links k took is some in
        let longer = length-append (link_at w.links k).sent (sent_over s k at d.sent) in
        let P : Link → Type 0 = λ l. l.taken < length l.sent in
        subst P (sym after) (omega (arith, before, longer))

    joined : (l : Link) (ps : List Packet) (i : ℕ) → moved (moved l ps 0) [] i ≡ moved l ps i
    joined l ps i =
        let same : l.taken + 0 + i ≡ l.taken + i = omega arith in
        ap (λ (qs : List Packet). record { sent = qs; taken = l.taken + 0 + i }) (append-nil (l.sent ++ ps)) ∙ ap (λ (m : ℕ). record { sent = l.sent ++ ps; taken = m }) same

-- at a client: it takes, then it sends
client_done : (s : Setup) (w : World) (c : ℕ) (from : Option Peer) (a : Acted) (d : RecordedEvent) → Fits s w → c < length s.clients
    → is_input s (ClientNode c) from d.taken ≡ true → packet_at w.links (input_link s (ClientNode c) from) ≡ d.taken → d.sent ≡ map (sent_with d.stamp) a.sent
    → DoneBy s w (broker_count s + c) (ClientState a.client) d (ClientNode c) from (client_after s w c (input_link s (ClientNode c) from) a d.stamp)
client_done s w c from a d fits lt took is sent = record {
  fits = record {
    brokers = fits.brokers;
    clients = length-set w.clients c a.client ∙ fits.clients;
    broker_clocks = fits.broker_clocks;
    client_clocks = length-set w.client_clocks c d.stamp ∙ fits.client_clocks;
    links = λ k has. delivered_has (from_client c) d.stamp a.sent ls k (taken_has input w.links k (fits.links k has));
  };
  states = λ m. second_set BrokerState ClientState (broker_count s) w.brokers w.clients no_broker (λ i. new_client (declared_at s i)) c m a.client
      (let e = fits.clients in omega (arith, e, lt));
  clocks = λ m. second_set (λ i. i) (λ i. i) (broker_count s) w.broker_clocks w.client_clocks 0 (λ i. 0) c m d.stamp
      (let e = fits.client_clocks in omega (arith, e, lt));
  links = λ k has.
      let there = fits.links k has in
      let after : link_at ls k ≡ moved (link_at w.links k) [] (length (taken_over s k at from d.taken)) =
      taken_at s at from d.taken w.links k there took (room_for s at from d.taken w.links k took is) in
      delivered_at s at k d.stamp a.sent ls (taken_has input w.links k there)
      ∙ (ap (λ (os : List SentPacket). moved (link_at ls k) (sent_over s k at os) 0) (sym sent)
      ∙ (ap (λ (l : Link). moved l (sent_over s k at d.sent) 0) after ∙ joined (link_at w.links k) (sent_over s k at d.sent) (length (taken_over s k at from d.taken))));
  idle = refl;
  events = refl;
}
  where
    at : Node
    at = ClientNode c

    input : Option LinkName
    input = input_link s at from

    ls : Links
    ls = taken_from input w.links

    joined : (l : Link) (ps : List Packet) (i : ℕ) → moved (moved l [] i) ps 0 ≡ moved l ps i
    joined l ps i =
        let same : l.taken + i + 0 ≡ l.taken + i = omega arith in
        ap (λ (qs : List Packet). record { sent = qs ++ ps; taken = l.taken + i + 0 }) (append-nil l.sent) ∙ ap (λ (m : ℕ). record { sent = l.sent ++ ps; taken = m }) same

not_less : (n i : ℕ) → nat_lt (n + i) n ≡ false
not_less n i = by (nat_lt (n + i) n) refl
  where
    by : (b : Bool) → nat_lt (n + i) n ≡ b → b ≡ false
    by true e = let h = ltb-true _ _ e in absurd (omega (arith, h))
    by false e = refl

pub client_state : (s : Setup) (w : World) (c : ℕ) → state_at s w (broker_count s + c) ≡ ClientState (client_at s w c)
client_state s w c =
    let at : broker_count s + c - broker_count s ≡ c = omega arith in
    on_false (nat_lt (broker_count s + c) (broker_count s)) _ _ (not_less (broker_count s) c) ∙ ap (λ (i : ℕ). ClientState (client_at s w i)) at

client_clock : (s : Setup) (w : World) (c : ℕ) → clock_at s w (broker_count s + c) ≡ slice_index w.client_clocks c
client_clock s w c =
    let at : broker_count s + c - broker_count s ≡ c = omega arith in
    on_false (nat_lt (broker_count s + c) (broker_count s)) _ _ (not_less (broker_count s) c) ∙ ap (slice_index w.client_clocks) at

-- an entry that the node's own state allows, where its packet is the next one: the world does just that
abbrev pub Does : Setup → World → ℕ → RecordedEvent → Type 0
Does s w n d = DoneBy s w n (state_after s (state_at s w n) d) d (node_of s d.event) (takes_from (state_at s w n) d.event) (happens s w d.event)

pub entry_done : (s : Setup) (w : World) (n : ℕ) (d : RecordedEvent) → Fits s w → HappensAt s n (state_at s w n) (clock_at s w n) d
    → packet_at w.links (input_link s (node_of s d.event) (takes_from (state_at s w n) d.event)) ≡ d.taken → Does s w n d
entry_done s w n d fits right_entry is = by (kind_of s w d.event (left (in_range s d.event) _ right_entry.in_range))
  where
    there : is_node s (node_of s d.event) ≡ true
    there = right (in_range s d.event) _ right_entry.in_range

    -- the same with the node, its state and its clock in view
    Held : ℕ → NodeState → ℕ → Node → Type 0
    Held m st c at = (node_number s at ≡ m) × ((acts s st d.event d.taken).idle ≡ false) × (is_input s at (takes_from st d.event) d.taken ≡ true)
        × (d.stamp ≡ next_stamp c d.taken) × (d.sent ≡ map (sent_with d.stamp) (acts s st d.event d.taken).sent)
        × (packet_at w.links (input_link s at (takes_from st d.event)) ≡ d.taken)

    held : Held n (state_at s w n) (clock_at s w n) (node_of s d.event)
    held = (right_entry.here, right_entry.enabled, right_entry.input, right_entry.stamp, right_entry.sent, is)

    Made : ℕ → NodeState → Node → Type 0
    Made m st at = DoneBy s w m (state_after s st d) d at (takes_from st d.event) (happens s w d.event)

    by : Kind s w d.event → Made n (state_at s w n) (node_of s d.event)
    by (Kind.OfBroker t x at_is happens_is) =
        let b = topic_at s w t x in
        let m = node s t x in
        let at = BrokerNode t x in
        let has : has_node s t x ≡ true = subst (λ (a : Node). is_node s a ≡ true) at_is there in
        let lt : m < broker_count s = node_lt s t x (ltb-true _ _ (left _ _ has), ltb-true _ _ (right (nat_lt t (length s.topics)) _ has)) in
        let state_is : state_at s w m ≡ BrokerState b = on_true (nat_lt m (broker_count s)) _ _ (lt-ltb _ _ lt) in
        let clock_is : clock_at s w m ≡ slice_index w.broker_clocks m = on_true (nat_lt m (broker_count s)) _ _ (lt-ltb _ _ lt) in
        let at_node : Held n (state_at s w n) (clock_at s w n) at = subst (Held n (state_at s w n) (clock_at s w n)) at_is held in
        let number_is : n ≡ m = sym at_node.0 in
        let at_number : Held m (state_at s w m) (clock_at s w m) at = subst (λ (i : ℕ). Held i (state_at s w i) (clock_at s w i) at) number_is at_node in
        let at_state : Held m (BrokerState b) (clock_at s w m) at = subst (λ (st : NodeState). Held m st (clock_at s w m) at) state_is at_number in
        let h : Held m (BrokerState b) (slice_index w.broker_clocks m) at = subst (λ (c : ℕ). Held m (BrokerState b) c at) clock_is at_state in
        let from = takes_from (BrokerState b) d.event in
        let input = input_link s at from in
        let q = broker_plan s b d.event d.taken in
        let world_is : happens s w d.event ≡ broker_after s w (plan_done s t x input q) d.stamp =
        happens_is
        ∙ (ap (λ (p : Option Packet). broker_does s w (plan_done s t x input (broker_plan s b d.event p))) h.5
        ∙ (broker_is s w (plan_done s t x input q) h.1
        ∙ ap (broker_after s w (plan_done s t x input q)) (ap (next_stamp (slice_index w.broker_clocks m)) h.5 ∙ sym h.3))) in
        let made : Made m (BrokerState b) at = subst (DoneBy s w m (BrokerState (done s.per_ledger b q)) d at from) (sym world_is) (broker_done s w t x from q d fits lt h.2 h.5 h.4) in
        subst (Made n (state_at s w n)) (sym at_is)
        (subst (λ (i : ℕ). Made i (state_at s w i) at) (sym number_is) (subst (λ (st : NodeState). Made m st at) (sym state_is) made))
    by (Kind.OfClient c at_is happens_is) =
        let k = client_at s w c in
        let m = broker_count s + c in
        let at = ClientNode c in
        let has : has_client s c ≡ true = subst (λ (a : Node). is_node s a ≡ true) at_is there in
        let lt : c < length s.clients = ltb-true _ _ has in
        let state_is : state_at s w m ≡ ClientState k = client_state s w c in
        let clock_is : clock_at s w m ≡ slice_index w.client_clocks c = client_clock s w c in
        let at_node : Held n (state_at s w n) (clock_at s w n) at = subst (Held n (state_at s w n) (clock_at s w n)) at_is held in
        let number_is : n ≡ m = sym at_node.0 in
        let at_number : Held m (state_at s w m) (clock_at s w m) at = subst (λ (i : ℕ). Held i (state_at s w i) (clock_at s w i) at) number_is at_node in
        let at_state : Held m (ClientState k) (clock_at s w m) at = subst (λ (st : NodeState). Held m st (clock_at s w m) at) state_is at_number in
        let h : Held m (ClientState k) (slice_index w.client_clocks c) at = subst (λ (i : ℕ). Held m (ClientState k) i at) clock_is at_state in
        let from = takes_from (ClientState k) d.event in
        let input = input_link s at from in
        let a = client_acted s k d.event d.taken in
        let world_is : happens s w d.event ≡ client_after s w c input a d.stamp =
        happens_is
        ∙ (ap (λ (p : Option Packet). client_does s w c input (client_acted s k d.event p)) h.5
        ∙ (client_is s w c input a h.1
        ∙ ap (client_after s w c input a) (ap (next_stamp (slice_index w.client_clocks c)) h.5 ∙ sym h.3))) in
        let made : Made m (ClientState k) at = subst (DoneBy s w m (ClientState a.client) d at from) (sym world_is) (client_done s w c from a d fits lt h.2 h.5 h.4) in
        subst (Made n (state_at s w n)) (sym at_is)
        (subst (λ (i : ℕ). Made i (state_at s w i) at) (sym number_is) (subst (λ (st : NodeState). Made m st at) (sym state_is) made))
