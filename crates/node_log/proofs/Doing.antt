-- An event of a node that was prepared, sent and written down has joined its history.
use Rattle.std.proofs.Common.{◌≡◌, ℕ, ◌+◌, ◌<◌, Bool, true, false, List, [], ◌∷◌, ◌++◌, max, refl, sym, ap, subst, ◌∙◌, arith}
use Rattle.std.specs.Prelude.{Option, Some, None}
use Rattle.log_parts.specs.declared.table.EndRow.{EndRow}
use Rattle.log_parts.specs.Rows.{SamePeers, SameTaken, SameTakes, has_peer, sent_to, shown_from, taken_from}
use Rattle.log_parts.specs.Sending.{packets_to}
use Rattle.frame_laws.proofs.OneMore.{grows, sends}
use Rattle.frame_laws.specs.Logs.{AllToPeers, AreSentAs, IsLogOf, IsNext, StandsAs}
use Rattle.broker_plans.specs.Prepared.{ArePackets}
use Rattle.geo_base.specs.declared.event.Event.{Event}
use Rattle.geo_base.specs.declared.event.Event.TheVariants as event
use Rattle.geo_base.specs.declared.packet.Out.{Out}
use Rattle.geo_base.specs.declared.packet.Packet.{Packet}
use Rattle.geo_base.specs.declared.packet.Peer.{Peer}
use Rattle.geo_base.specs.declared.packet.WireOut.{WireOut}
use Rattle.geo_base.specs.Forwarding.{receipt, take_packet}
use Rattle.geo_base.specs.Getting.{get}
use Rattle.geo_base.specs.Happening.{next_stamp}
use Rattle.geo_base.specs.History.{is_input}
use Rattle.geo_base.specs.NodeState.{BrokerState, ClientState, NodeState, acts, takes_from}
use Rattle.geo_base.specs.Nodes.{Node, is_event, is_node, is_peer, node_count, node_number, node_of}
use Rattle.geo_base.specs.Serving.{serve}
use Rattle.geo_base.specs.Setup.{Setup}
use Rattle.node_log.specs.declared.packing.Packed.{Packed as ReadyPackets}
use Rattle.node_log.specs.declared.state.NodeState.{NodeState as Kept}
use Rattle.node_log.specs.Acting.{Finished}
use Rattle.node_log.specs.Acts.{IsActed, NumbersFit, SameLog, packet_from, packets_of, shown_for}
use Rattle.node_log.specs.Logs.{LogHolds, HasPeers, IsStateOf, log_view, machine_state, node_in}
use Rattle.node_log.specs.Looking.{IsSeen}
use Rattle.node_log.specs.Owning.{IsOwn}
use Rattle.node_log.specs.Packing.{GoToPeers, MayJoin, all_sent_at}
use Rattle.node_log.proofs.Looks.{shown_has}
use Rattle.node_log.proofs.Packs.{packets_are}
use Rattle.script_text.specs.Script.{Script}
use Rattle.wire_ends.specs.declared.packet.WirePacket.{WirePacket}
use Rattle.wire_ends.specs.Parcels.{Packed}
use Rattle.world_laws.proofs.Merges.Roles.{number_lt}
use Rattle.world_laws.specs.ByteHistories.{ByteEvent, TakenStands}
pub use Rattle.geo_base.proofs.Bools.{true_not_false as true_false}

-- ---- what it takes

none_some : {X : Type 0} (x : X) → ◌≡◌ {A = Option X} None (Some x) → ⊥
none_some x e = cc

-- an event that takes a packet is idle without one
pub nothing_idle : (s : Setup) (st : NodeState) (e : Event) (q : Peer) → takes_from st e ≡ Some q → (acts s st e None).idle ≡ true
unfolding serve take_packet receipt get
nothing_idle s (BrokerState b) (event.Serve x c) q is = refl
nothing_idle s (BrokerState b) (event.Take t x y f) q is = refl
nothing_idle s (BrokerState b) (event.Receipt t x y f) q is = refl
nothing_idle s (BrokerState b) e q is = absurd (none_some q is)
nothing_idle s (ClientState k) (event.Serve x c) q is = refl
nothing_idle s (ClientState k) (event.Take t x y f) q is = refl
nothing_idle s (ClientState k) (event.Receipt t x y f) q is = refl
nothing_idle s (ClientState k) (event.Get c) q is = refl
nothing_idle s (ClientState k) e q is = absurd (none_some q is)

input_there : {E : Type 0} (s : Setup) (nd : Node) (shown : E → Option WirePacket) (rs : List (EndRow E)) (from : Option Peer) (said : Option Packet) → HasPeers s nd rs
    → TakenStands (StandsAs s.clusters) (shown_for shown rs from) said → ((q : Peer) → from ≡ Some q → said ≡ None → ⊥) → is_input s nd from said ≡ true
input_there s nd shown rs None None peers stands some = refl
input_there s nd shown rs None (Some p) peers stands some = absurd stands
input_there s nd shown rs (Some q) None peers stands some = absurd (some q refl refl)
input_there s nd shown rs (Some q) (Some p) peers stands some = by (shown_from shown rs q) refl stands
  where
    by : (o : Option WirePacket) → shown_from shown rs q ≡ o → TakenStands (StandsAs s.clusters) o (Some p) → is_peer s nd q ≡ true
    by None is h = absurd h
    by (Some w) is h = sym (peers q) ∙ shown_has shown rs q w is

-- where it is enabled, the packet that it takes is there and from a peer
pub input_is : {E : Type 0} (s : Setup) (nd : Node) (st : NodeState) (e : Event) (shown : E → Option WirePacket) (rs : List (EndRow E)) (said : Option Packet) → HasPeers s nd rs → IsOwn s nd e
    → TakenStands (StandsAs s.clusters) (shown_for shown rs (takes_from st e)) said → (acts s st e said).idle ≡ false → is_input s (node_of s e) (takes_from st e) said ≡ true
input_is s nd st e shown rs said peers own stands enabled =
    subst (λ (n : Node). is_input s n (takes_from st e) said ≡ true) (sym own.here)
    (input_there s nd shown rs (takes_from st e) said peers stands
    (λ q from none. true_false (sym (nothing_idle s st e q from) ∙ ap (λ (o : Option Packet). (acts s st e o).idle) (sym none) ∙ enabled)))

-- ---- where its packets go

to_table : {E : Type 0} (s : Setup) (nd : Node) (rs : List (EndRow E)) (names : List (List ℕ)) (os : List Out) (ps : List WireOut) → HasPeers s nd rs → AllToPeers s nd os → ArePackets names os ps → GoToPeers rs ps
to_table s nd rs names [] [] peers to are = tt
to_table s nd rs names [] (p ∷ ps) peers to are = absurd are
to_table s nd rs names (o ∷ os) [] peers to are = absurd are
to_table s nd rs names (o ∷ os) (p ∷ ps) peers to are =
    (ap (λ (q : Peer). has_peer rs q) are.0.to ∙ (peers o.to ∙ to.0), to_table s nd rs names os ps peers to.1 are.1)

pub go_to_peers : {E : Type 0} (s : Setup) (st : Kept) (h : List (ByteEvent WirePacket)) (k : ℕ) (rs0 rs : List (EndRow E)) (e : Event) (shown : E → Option WirePacket) (from : Option Peer) (n : ℕ) (rests : Bool) (outs : List WireOut) (after : NodeState)
    → LogHolds s st h k rs0 → SamePeers rs0 rs → IsOwn s (node_in st) e → from ≡ takes_from (machine_state st) e
    → IsSeen s (machine_state st) e (shown_for shown rs from) n rests outs after → rests ≡ false → GoToPeers rs outs
go_to_peers s st h k rs0 rs e shown from n rests outs after holds same own takes seen on =
    let peers : HasPeers s (node_in st) rs = λ q. same q ∙ holds.peers q in
    let stands : TakenStands (StandsAs s.clusters) (shown_for shown rs (takes_from (machine_state st) e)) seen.said =
    subst (λ (f : Option Peer). TakenStands (StandsAs s.clusters) (shown_for shown rs f) seen.said) takes seen.stands in
    let input = input_is s (node_in st) (machine_state st) e shown rs seen.said peers own stands (seen.idle ∙ on) in
    let number : node_number s (node_of s e) ≡ node_number s (node_in st) = ap (node_number s) own.here in
    let within : node_number s (node_in st) < node_count s = subst (λ (i : ℕ). i < node_count s) number (number_lt s e own.in_range) in
    let to = sends s (node_number s (node_in st)) h (machine_state st) k e seen.said holds.scripted within holds.replays number own.in_range input in
    to_table s (node_in st) rs s.clusters (acts s (machine_state st) e seen.said).sent outs peers (subst (λ (nd : Node). AllToPeers s nd (acts s (machine_state st) e seen.said).sent) own.here to) seen.sent

-- what it sends, as the history keeps it
pub sent_as : (names : List (List ℕ)) (at : ℕ) (os : List Out) (ps : List WireOut) → ArePackets names os ps → AreSentAs names at (all_sent_at at ps) os
sent_as names at [] [] h = tt
sent_as names at [] (p ∷ ps) h = absurd h
sent_as names at (o ∷ os) [] h = absurd h
sent_as names at (o ∷ os) (p ∷ ps) h = (record { to = h.0.to; session = h.0.session; stamp = refl; frame = h.0.frame }, sent_as names at os ps h.1)

-- ---- it is done

-- rs are the ends before it, rs1 after the look, rs2 after packing, rs3 after it; what it took is what the ends showed
pub acted_is : {E : Type 0} (sc : Script) (st st' : Kept) (h h' : List (ByteEvent WirePacket)) (k k' : ℕ) (e : Event) (shown : E → Option WirePacket) (sent_in taken_in : E → List WirePacket) (free : E → ℕ) (fit : Packed → Type 0)
    (from : Option Peer) (n : ℕ) (rests : Bool) (outs : List WireOut) (after : NodeState) (p : ReadyPackets) (rs rs1 rs2 rs3 : List (EndRow E))
    → IsOwn sc.setup (node_in st) e → NumbersFit sc.setup (node_in st) (machine_state st) e → from ≡ takes_from (machine_state st) e
    → IsSeen sc.setup (machine_state st) e (shown_for shown rs1 from) n rests outs after
    → ((q : Peer) → sent_to sent_in rs1 q ≡ sent_to sent_in rs q) → SameTaken taken_in rs rs1
    → ((q : Peer) → sent_to sent_in rs2 q ≡ sent_to sent_in rs1 q) → SameTakes taken_in shown rs1 rs2
    → MayJoin free fit rests (max k n) outs rs2 p → Finished shown sent_in taken_in e from p h rs2 h' rs3
    → k' ≡ p.stamp → node_in st' ≡ node_in st → machine_state st' ≡ after
    → (acted : IsActed sent_in taken_in e (log_view sc st h k rs) (log_view sc st' h' k' rs3)) × (acted.done.taken ≡ shown_for shown rs2 from)
acted_is sc st st' h h' k k' e shown sent_in taken_in free fit from n rests outs after p rs rs1 rs2 rs3 own numbers takes seen sent1 taken1 sent2 takes2 join finished clock node state = (
  record {
    own = own;
    numbers = numbers;
    done = record { event = e; taken = shown_for shown rs2 from; sent = p.sent.items; stamp = p.stamp };
    said = seen.said;
    event = refl;
    stands = subst (λ (o : Option WirePacket). TakenStands (StandsAs sc.setup.clusters) o seen.said) (still from) seen.stands;
    enabled = seen.idle ∙ join.enabled;
    state = state ∙ seen.state;
    packets = rw (join.packed.sent, join.packed.stamp) (sent_as sc.setup.clusters (1 + max k n) (acts sc.setup (machine_state st) e seen.said).sent outs seen.sent);
    stamp = stamp;
    fits = let is = join.packed.stamp in let low = join.low in omega (arith, is, low);
    scenario = refl;
    node = node;
    history = finished.history;
    clock = clock;
    sent = λ q. finished.sent q ∙ ap (λ (ps : List WirePacket). ps ++ packets_to q p.parcels.items) (sent2 q ∙ sent1 q) ∙ ap (λ (ps : List WirePacket). sent_to sent_in rs q ++ ps) (same_packets q);
    taken = λ q. finished.taken q ∙ ap (λ (ps : List WirePacket). ps ++ packet_from from (shown_for shown rs2 from) q) (takes2.taken q ∙ taken1 q)
        ∙ ap (λ (f : Option Peer). taken_from taken_in rs q ++ packet_from f (shown_for shown rs2 from) q) takes;
  },
  refl,
)
  where
    still : (f : Option Peer) → shown_for shown rs1 f ≡ shown_for shown rs2 f
    still None = refl
    still (Some q) = sym (takes2.shown q)

    stamp : p.stamp ≡ next_stamp k seen.said
    stamp = join.packed.stamp ∙ ap (λ (m : ℕ). 1 + max k m) seen.stamp

    same_packets : (q : Peer) → packets_to q p.parcels.items ≡ packets_of q p.sent.items
    same_packets q = packets_are q p.parcels.items p.sent.items (join.packed.parcels ∙ sym join.packed.sent)

-- and the log has it: rs2 are the ends that showed what it took
pub holds_after : {E : Type 0} (sc : Script) (st st' : Kept) (h h' : List (ByteEvent WirePacket)) (k k' : ℕ) (e : Event) (shown : E → Option WirePacket) (sent_in taken_in : E → List WirePacket)
    (from : Option Peer) (rs rs2 rs3 : List (EndRow E)) → LogHolds sc.setup st h k rs → (acted : IsActed sent_in taken_in e (log_view sc st h k rs) (log_view sc st' h' k' rs3))
    → from ≡ takes_from (machine_state st) e → acted.done.taken ≡ shown_for shown rs2 from → SamePeers rs rs2 → SamePeers rs rs3 → IsStateOf sc.setup st' → LogHolds sc.setup st' h' k' rs3
holds_after sc st st' h h' k k' e shown sent_in taken_in from rs rs2 rs3 holds acted takes taken same2 same3 is = record {
  scripted = holds.scripted;
  there = subst (λ (nd : Node). is_node sc.setup nd ≡ true) (sym acted.node) holds.there;
  state = is;
  replays = subst (λ (nd : Node). IsLogOf sc.setup (node_number sc.setup nd) h' (machine_state st') k') (sym acted.node) grown;
  peers = subst (λ (nd : Node). HasPeers sc.setup nd rs3) (sym acted.node) (λ q. same3 q ∙ holds.peers q);
}
  where
    s : Setup
    s = sc.setup

    number : ℕ
    number = node_number s (node_in st)

    stands : TakenStands (StandsAs s.clusters) (shown_for shown rs2 (takes_from (machine_state st) e)) acted.said
    stands = subst (λ (f : Option Peer). TakenStands (StandsAs s.clusters) (shown_for shown rs2 f) acted.said) takes
        (subst (λ (o : Option WirePacket). TakenStands (StandsAs s.clusters) o acted.said) taken acted.stands)

    input : is_input s (node_of s e) (takes_from (machine_state st) e) acted.said ≡ true
    input = input_is s (node_in st) (machine_state st) e shown rs2 acted.said (λ q. same2 q ∙ holds.peers q) acted.own stands acted.enabled

    next : IsNext s number (machine_state st) k acted.done acted.said
    next = record {
      here = ap (λ (a : Event). node_number s (node_of s a)) acted.event ∙ ap (node_number s) acted.own.here;
      in_range = ap (is_event s) acted.event ∙ acted.own.in_range;
      enabled = ap (λ (a : Event). (acts s (machine_state st) a acted.said).idle) acted.event ∙ acted.enabled;
      input = ap (λ (a : Event). is_input s (node_of s a) (takes_from (machine_state st) a) acted.said) acted.event ∙ input;
      taken = acted.stands;
      stamp = acted.stamp;
      sent = subst (λ (a : Event). AreSentAs s.clusters acted.done.stamp acted.done.sent (acts s (machine_state st) a acted.said).sent) (sym acted.event) acted.packets;
    }

    joined : IsLogOf s number (h ++ acted.done ∷ []) (acts s (machine_state st) acted.done.event acted.said).state acted.done.stamp
    joined = grows s number h (machine_state st) k acted.done acted.said holds.scripted holds.replays next

    state : (acts s (machine_state st) acted.done.event acted.said).state ≡ machine_state st'
    state = ap (λ (a : Event). (acts s (machine_state st) a acted.said).state) acted.event ∙ sym acted.state

    grown : IsLogOf s number h' (machine_state st') k'
    grown =
        subst (λ (c : ℕ). IsLogOf s number h' (machine_state st') c) (sym acted.clock)
        (subst (λ (t : NodeState). IsLogOf s number h' t acted.done.stamp) state
        (subst (λ (ds : List (ByteEvent WirePacket)). IsLogOf s number ds (acts s (machine_state st) acted.done.event acted.said).state acted.done.stamp) (sym acted.history) joined))

-- ---- or nothing is done

pub same_log : {E : Type 0} (sc : Script) (st st' : Kept) (h h' : List (ByteEvent WirePacket)) (k k' : ℕ) (sent_in taken_in : E → List WirePacket) (rs rs' : List (EndRow E))
    → node_in st' ≡ node_in st → machine_state st' ≡ machine_state st → h' ≡ h → k' ≡ k → ((q : Peer) → sent_to sent_in rs' q ≡ sent_to sent_in rs q) → SameTaken taken_in rs rs'
    → SameLog sent_in taken_in (log_view sc st h k rs) (log_view sc st' h' k' rs')
same_log sc st st' h h' k k' sent_in taken_in rs rs' node state history clock sent taken =
    record { scenario = refl; node = node; state = state; history = history; clock = clock; sent = sent; taken = taken }

pub holds_same : {E : Type 0} (s : Setup) (st st' : Kept) (h h' : List (ByteEvent WirePacket)) (k k' : ℕ) (rs rs' : List (EndRow E)) → LogHolds s st h k rs
    → node_in st' ≡ node_in st → machine_state st' ≡ machine_state st → h' ≡ h → k' ≡ k → SamePeers rs rs' → IsStateOf s st' → LogHolds s st' h' k' rs'
holds_same s st st' h h' k k' rs rs' holds node state history clock same is = record {
  scripted = holds.scripted;
  there = subst (λ (nd : Node). is_node s nd ≡ true) (sym node) holds.there;
  state = is;
  replays =
      subst (λ (nd : Node). IsLogOf s (node_number s nd) h' (machine_state st') k') (sym node)
      (subst (λ (c : ℕ). IsLogOf s (node_number s (node_in st)) h' (machine_state st') c) (sym clock)
      (subst (λ (t : NodeState). IsLogOf s (node_number s (node_in st)) h' t k) (sym state)
      (subst (λ (ds : List (ByteEvent WirePacket)). IsLogOf s (node_number s (node_in st)) ds (machine_state st) k) (sym history) holds.replays)));
  peers = subst (λ (nd : Node). HasPeers s nd rs') (sym node) (λ q. same q ∙ holds.peers q);
}
