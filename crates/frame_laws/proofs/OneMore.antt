-- One more event in the log of a node.
use Rattle.std.proofs.Common.{◌≡◌, ℕ, ◌-◌, ◌<◌, Bool, true, false, List, [], ◌∷◌, ◌++◌, length, map, refl, sym, ap, subst, ◌∙◌, nat_lt}
use Rattle.std.specs.Prelude.{Option, Some, None, if◌then◌else◌}
use Rattle.std.proofs.lemmas.Option.{none-some, same_Some}
use Rattle.geo_base.specs.declared.entry.Entry.{Entry}
use Rattle.geo_base.specs.declared.event.Event.{Event}
use Rattle.geo_base.specs.declared.frame.Frame.{Frame}
use Rattle.geo_base.specs.declared.frame.Frame.TheVariants as frame
use Rattle.geo_base.specs.declared.packet.Out.{Out}
use Rattle.geo_base.specs.declared.packet.Packet.{Packet}
use Rattle.geo_base.specs.Broker.{new_broker}
use Rattle.geo_base.specs.Client.{new_client}
use Rattle.geo_base.specs.History.{HappensAt, RecordedEvent, Replays, is_input, replayed, sent_with, state_after}
use Rattle.geo_base.specs.NodeState.{BrokerState, ClientState, NodeState, acts, opening_state, takes_from}
use Rattle.geo_base.specs.Nodes.{Node, broker_count, is_event, is_peer, node_count, node_number, node_of}
use Rattle.geo_base.specs.Planned.{in_range}
use Rattle.geo_base.specs.Scripted.{AreDistinct, IsScripted}
use Rattle.geo_base.specs.Setup.{Setup, declared_at}
use Rattle.frame_laws.specs.Logs.{AllToPeers, AreSentAs, IsLogOf, IsNext, StandsAs}
use Rattle.frame_laws.proofs.Reading.{stands_told}
use Rattle.frame_values.proofs.One.{written_stands}
use Rattle.frame_values.specs.Told.{IsTold, IsToldEntry}
use Rattle.frame_laws.proofs.Plain.{entry_told, source_told}
use Rattle.wire_ends.specs.declared.packet.WirePacket.{WirePacket}
use Rattle.world_laws.proofs.FrameContents.Carrying.{Suits}
use Rattle.world_laws.proofs.Replicating.Effects.{Each}
use Rattle.world_laws.proofs.Merges.HistoryPush.{last_stamp_push, replayed_push, replays_push}
use Rattle.world_laws.proofs.FrameContents.NodeCarries.{CarriedIn, Carrier, node_carries}
use Rattle.world_laws.proofs.Merges.Roles.{Role, opening_role, replays_role, role_sends}
use Rattle.world_laws.proofs.FrameContents.Sending.{SentOut}
use Rattle.world_laws.proofs.Walks.Walk.{left}
use Rattle.world_laws.specs.ByteHistories.{ByteEvent, ByteSent, EventStands, SentStand, StandAll, TakenStands}
use Rattle.world_laws.specs.Frames.{IsCarrying}

-- ---- what a node sends is told by its bytes

abbrev ToldEntry : List (List ℕ) → Entry → Type 0
ToldEntry names = IsToldEntry names None

told_suits : (names : List (List ℕ)) → AreDistinct names → Suits names (ToldEntry names)
told_suits names apart = record {
  plain = λ e h. entry_told names None e apart h;
  moved = λ z e h. record { to = h.to; from = refl; content = h.content };
}

frame_told : (names : List (List ℕ)) (f : Frame) → AreDistinct names → IsCarrying (ToldEntry names) names f → IsTold names f
frame_told names (frame.Send id seq source e) apart h = record { to = h.1.to; from = source_told names source apart h.0; content = h.1.content }
frame_told names (frame.Message id position source e) apart h = record { to = h.1.to; from = source_told names source apart h.0; content = h.1.content }
frame_told names frame.Unreadable apart h = absurd h
frame_told names f apart h = tt

-- what was taken was read from bytes
taken_told : (names : List (List ℕ)) (b : Option WirePacket) (v : Option Packet) → TakenStands (StandsAs names) b v → (a : Entry) → CarriedIn v a → ToldEntry names a
taken_told names None None stands a (q, is, c) = absurd (none-some q is)
taken_told names None (Some p) stands a c = absurd stands
taken_told names (Some b) None stands a c = absurd stands
taken_told names (Some b) (Some p) stands a (q, is, (id, seq, source, at)) =
    let same : p ≡ q = same_Some p q is in
    stands_told names b.frame p.frame id seq source a stands.frame (ap (λ (u : Packet). u.frame) same ∙ at)

opening_carrier : (E : Entry → Type 0) (s : Setup) (n : ℕ) → Carrier E s (opening_state s n)
opening_carrier E s n = by (nat_lt n (broker_count s))
  where
    by : (b : Bool) → Carrier E s (if b then BrokerState (new_broker (length s.clusters) (length s.clients)) else ClientState (new_client (declared_at s (n - broker_count s))))
    by true =
        Carrier.OfBroker (new_broker (length s.clusters) (length s.clients))
        (record { entries = tt; wide = record { names = tt; caches = λ k v at. absurd (none-some v at); builder = λ u is. absurd (none-some u is) } })
    by false = Carrier.OfClient (new_client (declared_at s (n - broker_count s)))

carrier_after : (s : Setup) → IsScripted s → (n : ℕ) (xs : List (ByteEvent WirePacket)) (ds : List RecordedEvent) (st : NodeState) (clock : ℕ)
    → StandAll (StandsAs s.clusters) xs ds → Replays s n st clock ds → Carrier (ToldEntry s.clusters) s st → Carrier (ToldEntry s.clusters) s (replayed s st ds)
carrier_after s scripted n [] [] st clock stands replay k = k
carrier_after s scripted n [] (d ∷ ds) st clock stands replay k = absurd stands
carrier_after s scripted n (x ∷ xs) [] st clock stands replay k = absurd stands
carrier_after s scripted n (x ∷ xs) (d ∷ ds) st clock stands replay k =
    let next = node_carries (ToldEntry s.clusters) s scripted (told_suits s.clusters scripted.cluster_names.1) st d.event d.taken
    (left (in_range s d.event) _ replay.0.in_range) (taken_told s.clusters x.taken d.taken stands.0.taken) k in
    carrier_after s scripted n xs ds (state_after s st d) d.stamp stands.1 replay.1 next.after

-- ---- the event

sent_stand : (names : List (List ℕ)) (at : ℕ) (bs : List (ByteSent WirePacket)) (os : List Out) → AreDistinct names → AreSentAs names at bs os
    → Each (SentOut ⊥ (ToldEntry names) names) os → SentStand (StandsAs names) bs (map (sent_with at) os)
sent_stand names at [] [] apart sent told = tt
sent_stand names at [] (o ∷ os) apart sent told = absurd sent
sent_stand names at (b ∷ bs) [] apart sent told = absurd sent
sent_stand names at (b ∷ bs) (o ∷ os) apart sent told = (
  (
    sym sent.0.to,
    record {
      session = sym sent.0.session;
      stamp = sym sent.0.stamp;
      frame = written_stands names o.frame b.packet.frame sent.0.frame (frame_told names o.frame apart told.0.carried);
    },
  ),
  sent_stand names at bs os apart sent.1 told.1,
)

stand_push : (R : WirePacket → Packet → Type 0) (xs : List (ByteEvent WirePacket)) (ds : List RecordedEvent) (x : ByteEvent WirePacket) (d : RecordedEvent) → StandAll R xs ds → EventStands R x d
    → StandAll R (xs ++ x ∷ []) (ds ++ d ∷ [])
stand_push R [] [] x d h k = (k, tt)
stand_push R [] (e ∷ ds) x d h k = absurd h
stand_push R (y ∷ xs) [] x d h k = absurd h
stand_push R (y ∷ xs) (e ∷ ds) x d h k = (h.0, stand_push R xs ds x d h.1 k)

-- what the event says as values
abbrev recorded : Setup → NodeState → ByteEvent WirePacket → Option Packet → RecordedEvent
recorded s st x v = record { event = x.event; taken = v; sent = map (sent_with x.stamp) (acts s st x.event v).sent; stamp = x.stamp }

happens : (s : Setup) (n : ℕ) (st : NodeState) (clock : ℕ) (x : ByteEvent WirePacket) (v : Option Packet) → IsNext s n st clock x v → HappensAt s n st clock (recorded s st x v)
happens s n st clock x v h = record { here = h.here; in_range = h.in_range; enabled = h.enabled; input = h.input; stamp = h.stamp; sent = refl }

pub grows : (s : Setup) (n : ℕ) (xs : List (ByteEvent WirePacket)) (st : NodeState) (clock : ℕ) (x : ByteEvent WirePacket) (v : Option Packet)
    → IsScripted s → IsLogOf s n xs st clock → IsNext s n st clock x v
    → IsLogOf s n (xs ++ x ∷ []) (acts s st x.event v).state x.stamp
grows s n xs st clock x v scripted b h = record {
  said = b.said ++ d ∷ [];
  stands = stand_push (StandsAs s.clusters) xs b.said x d b.stands (record { event = refl; stamp = refl; taken = h.taken; sent = sent });
  replay = replays_push s n (opening_state s n) 0 b.said d b.replay
      (subst (λ (c : ℕ). HappensAt s n (replayed s (opening_state s n) b.said) c d) b.clock_is (subst (λ (t : NodeState). HappensAt s n t clock d) b.state (happens s n st clock x v h)));
  state = ap (λ (t : NodeState). state_after s t d) b.state ∙ sym (replayed_push s (opening_state s n) b.said d);
  clock_is = sym (last_stamp_push 0 b.said d);
}
  where
    d : RecordedEvent
    d = recorded s st x v

    carrier : Carrier (ToldEntry s.clusters) s st
    carrier = subst (Carrier (ToldEntry s.clusters) s) (sym b.state)
        (carrier_after s scripted n xs b.said (opening_state s n) 0 b.stands b.replay (opening_carrier (ToldEntry s.clusters) s n))

    sent : SentStand (StandsAs s.clusters) x.sent (map (sent_with x.stamp) (acts s st x.event v).sent)
    sent = sent_stand s.clusters x.stamp x.sent (acts s st x.event v).sent scripted.cluster_names.1 h.sent
        (node_carries (ToldEntry s.clusters) s scripted (told_suits s.clusters scripted.cluster_names.1) st x.event v (left (in_range s x.event) _ h.in_range)
        (taken_told s.clusters x.taken v h.taken) carrier).sends

-- ---- peers

to_peers : (s : Setup) (n : Node) (os : List Out) → Each (λ (o : Out). is_peer s n o.to ≡ true) os → AllToPeers s n os
to_peers s n [] h = tt
to_peers s n (o ∷ os) h = (h.0, to_peers s n os h.1)

pub sends : (s : Setup) (n : ℕ) (xs : List (ByteEvent WirePacket)) (st : NodeState) (clock : ℕ) (e : Event) (v : Option Packet)
    → IsScripted s → n < node_count s → IsLogOf s n xs st clock → node_number s (node_of s e) ≡ n → is_event s e ≡ true
    → is_input s (node_of s e) (takes_from st e) v ≡ true → AllToPeers s (node_of s e) (acts s st e v).sent
sends s n xs st clock e v scripted lt b here range input =
    let role : Role s n st = subst (Role s n) (sym b.state) (replays_role s n (opening_state s n) 0 b.said (opening_role s n scripted lt) b.replay) in
    to_peers s (node_of s e) _ (role_sends s n st e v role here range input)
