-- What a client sends as it connects.
use Rattle.std.proofs.Common.{◌≡◌, ℕ, ◌*◌, ◌-◌, ◌^◌, ◌<◌, ◌≤◌, List, refl, true, false, ap, ◌∙◌, sym, subst, Bool, arith}
use Rattle.std.proofs.lemmas.Option.{none-some}
use Rattle.std.specs.Prelude.{min, None, Ok, Option, Some}
use Rattle.actors.specs.declared.role.Role.{Role}
use Rattle.actors.specs.declared.role.Role.TheVariants as role
use Rattle.actors.specs.Drawing.{Drawing}
use Rattle.actors.specs.Room.{HasPlaces, IsTooFull, connect_packets, connecting, unconnected_tries}
use Rattle.actors.specs.Turns.{Walks}
use Rattle.actors.specs.declared.room.Reconnection.{Reconnection}
use Rattle.log_parts.specs.Rows.{free_to, has_peer, looks_to}
use Rattle.broker.specs.Node.{BrokerView}
use Rattle.client.specs.State.{viewed}
use Rattle.client.specs.declared.client.state.ClientView.{ClientView}
use Rattle.geo_base.specs.declared.packet.Peer.TheVariants as peer
use Rattle.geo_base.specs.Client.{Client}
use Rattle.node_log.specs.declared.state.NodeState.{NodeState as Kept}
use Rattle.node_log.specs.declared.state.NodeState.TheVariants as kept
use Rattle.node_log.specs.declared.state.NumberedClient.{NumberedClient}
use Rattle.node_log.specs.Acts.{SameLog}
use Rattle.geo_base.proofs.Bools.{true_not_false as true_false}
use Rattle.node_log.specs.Logs.{NodeLogView, StateOf}
use Rattle.wire_ends.specs.Looks.{Looked}
use Rattle.wire_ends.specs.Parcels.{Packed as Parcel}
use Rattle.wire_ends.specs.declared.packet.WirePacket.{WirePacket}

pub same_log : {E : Type 0} (sent_in taken_in : E → List WirePacket) (b : NodeLogView E) → SameLog sent_in taken_in b b
same_log sent_in taken_in b = record { scenario = refl; node = refl; state = refl; history = refl; clock = refl; sent = λ q. refl; taken = λ q. refl }

below : (n m p k : ℕ) → m ≡ min p k → n < m → n < p
below n m p k is few = omega (arith, is, few)

pub too_full : {E : Type 0} (free looks : E → ℕ) (places : ℕ) (b b' : NodeLogView E) (o : Option Reconnection) (at : Reconnection) (n m : ℕ) → o ≡ Some at → o ≡ connecting b.state
    → n ≡ free_to free b'.ends at.to → m ≡ min (places * at.packets) (2 ^ 64 - 1) → n < m → Looked (looks_to looks b.ends at.to) (looks_to looks b'.ends at.to) → IsTooFull free looks places b b'
too_full free looks places b b' o at n m some is free_is most few looked =
    record { at = at; client = sym is ∙ some; few = rw (sym free_is) (below n m (places * at.packets) (2 ^ 64 - 1) most few); looked = looked }

-- ---- room enough

same_some : {X : Type 0} (o : Option X) (x y : X) → o ≡ Some x → o ≡ Some y → x ≡ y
same_some o x y is also = first_of (cc, grind (arith, is, also))

pub places_nowhere : {E : Type 0} (free : E → ℕ) (places : ℕ) (b b' : NodeLogView E) (o : Option Reconnection) → o ≡ None → o ≡ connecting b.state → HasPlaces free places b b'
places_nowhere free places b b' o none is = λ at some. absurd (none-some at (sym none ∙ is ∙ some))

pub places_elsewhere : {E : Type 0} (free : E → ℕ) (places : ℕ) (b b' : NodeLogView E) (o : Option Reconnection) (at : Reconnection) (has : Bool) → o ≡ Some at → o ≡ connecting b.state
    → has ≡ has_peer b.ends at.to → has ≡ false → HasPlaces free places b b'
places_elsewhere free places b b' o at has some is has_is not_has = λ to also here.
    absurd (true_false (sym here ∙ ap (λ (a : Reconnection). has_peer b.ends a.to) (sym (same_some o at to some (is ∙ also))) ∙ sym has_is ∙ not_has))

pub places_there : {E : Type 0} (free : E → ℕ) (places : ℕ) (b b' : NodeLogView E) (o : Option Reconnection) (at : Reconnection) (n m : ℕ) → o ≡ Some at → o ≡ connecting b.state
    → n ≡ free_to free b'.ends at.to → m ≡ min (places * at.packets) (2 ^ 64 - 1) → m ≤ n → HasPlaces free places b b'
places_there free places b b' o at n m some is free_is most le = λ to also here.
    subst (λ (a : Reconnection). min (places * a.packets) (2 ^ 64 - 1) ≤ free_to free b'.ends a.to) (same_some o at to some (is ∙ also)) (subst (λ (k : ℕ). k ≤ free_to free b'.ends at.to) most (subst (λ (k : ℕ). m ≤ k) free_is le))

pub client_connecting : {E : Type 0} (b : NodeLogView E) (st : Kept) (k : NumberedClient) (at : Reconnection) → StateOf b st → st ≡ kept.Client k
    → at ≡ record { to = peer.Broker k.client.cluster; packets = connect_packets k.client } → Some at ≡ connecting b.state
client_connecting b st k at h is at_is = rw (h.state, is, at_is) refl

pub broker_connecting : {E : Type 0} (b : NodeLogView E) (st : Kept) (v : BrokerView) → StateOf b st → st ≡ kept.Broker v → None ≡ connecting b.state
broker_connecting b st v h is = rw (h.state, is) refl

abbrev shape : Client → Reconnection
shape k = record { to = peer.Broker k.cluster; packets = connect_packets k }

pub connecting_is : (k : Client) (v : ClientView) (at : Reconnection) → viewed v ≡ k → at ≡ shape (viewed v) → at ≡ record { to = peer.Broker k.cluster; packets = connect_packets k }
connecting_is k v at is at_is = at_is ∙ ap shape is

-- another actor than a client's tries nothing
pub none_tried : {E : Type 0} (sent_in taken_in : E → List WirePacket) (shown : E → Option WirePacket) (free looks : E → ℕ) (fits : Parcel → Type 0) (r : Role) (d : Drawing) (b : NodeLogView E) → ((c : ℕ) → r ≡ role.Client c → ⊥)
    → Walks sent_in taken_in shown free looks fits (unconnected_tries r d) d b b d (Ok false)
none_tried sent_in taken_in shown free looks fits (role.Replicator l) d b other = Walks.nothing d b
none_tried sent_in taken_in shown free looks fits (role.Receiver l) d b other = Walks.nothing d b
none_tried sent_in taken_in shown free looks fits (role.Controller t x) d b other = Walks.nothing d b
none_tried sent_in taken_in shown free looks fits (role.Dispatcher t x i) d b other = Walks.nothing d b
none_tried sent_in taken_in shown free looks fits (role.Client c) d b other = absurd (other c refl)
none_tried sent_in taken_in shown free looks fits (role.Server t c) d b other = Walks.nothing d b
