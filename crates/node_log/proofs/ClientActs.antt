-- An event at a client.
use Rattle.std.proofs.Common.{◌≡◌, ℕ, ◌+◌, ◌<◌, ◌≤◌, ◌^◌, Bool, true, false, List, [], length, max, refl, sym, ap, subst, ◌∙◌, ◌↔◌, arith}
use Rattle.std.specs.Prelude.{Option, Some, None, IfNone, IfSome, IsTrue, is_some, not}
use Rattle.std.proofs.lemmas.Bool.{ltb-true}
use Rattle.log_parts.specs.declared.table.EndRow.{EndRow}
use Rattle.log_parts.specs.Rows.{SamePeers, SameSends, SameTaken, SameTakes}
use Rattle.frame_laws.specs.Logs.{StandsAs}
use Rattle.client.specs.Changing.{ClientFits, client_after}
use Rattle.client.specs.Counted.{CanCount}
use Rattle.client.specs.Prepared.{PreparedClient}
use Rattle.client.specs.State.{viewed}
use Rattle.client.specs.declared.client.state.ClientView.{ClientView}
use Rattle.geo_base.specs.declared.event.Event.{Event}
use Rattle.geo_base.specs.declared.event.Event.TheVariants as event
use Rattle.geo_base.specs.declared.packet.Peer.{Peer}
use Rattle.geo_base.specs.declared.packet.Peer.TheVariants as peer
use Rattle.geo_base.specs.declared.packet.WireOut.{WireOut}
use Rattle.geo_base.specs.Client.{Client}
use Rattle.geo_base.specs.Happening.{stamp_of}
use Rattle.geo_base.specs.NodeState.{ClientState, takes_from}
use Rattle.geo_base.specs.Nodes.{ClientNode}
use Rattle.geo_base.specs.Setup.{Setup, declared_at}
use Rattle.node_log.specs.declared.packing.Packed.{Packed as ReadyPackets}
use Rattle.node_log.specs.declared.state.NodeState.{NodeState as Kept}
use Rattle.node_log.specs.declared.state.NodeState.TheVariants as kept
use Rattle.node_log.specs.declared.state.NumberedClient.{NumberedClient}
use Rattle.node_log.specs.Acting.{Finished}
use Rattle.node_log.specs.Acts.{ClientRises, IsActed, IsHeld, LookedFor, SameLog, shown_for, stamp_in}
use Rattle.node_log.specs.Logs.{LogHolds, log_view, machine_state}
use Rattle.node_log.specs.Looking.{IsGot, IsNotGot, IsSeen}
use Rattle.node_log.specs.Owning.{IsAtClient, IsGet, IsOwn}
use Rattle.node_log.specs.Packing.{GoToPeers, MayJoin, MayNotJoin}
use Rattle.node_log.proofs.Doing.{acted_is, go_to_peers, holds_after, holds_same, nothing_idle}
use Rattle.node_log.proofs.Gets.{get_takes, got_seen, takes_nothing}
use Rattle.node_log.proofs.Outcomes.{held_is, refused}
use Rattle.node_log.proofs.OwnEvents.{client_own, own_client}
use Rattle.script_text.specs.Script.{Script}
use Rattle.wire_ends.specs.declared.packet.WirePacket.{WirePacket}
use Rattle.wire_ends.specs.Parcels.{Packed}
use Rattle.world_laws.specs.ByteHistories.{ByteEvent, TakenStands}
use Rattle.wire_ends.specs.Parcels.{Packed as Parcel}

pub held_get : {E : Type 0} (sc : Script) (st st' : Kept) (h h' : List (ByteEvent WirePacket)) (k k' : ℕ) (e : Event) (shown : E → Option WirePacket) (free looks : E → ℕ) (fits : Parcel → Type 0) (from : Peer) (rs rs1 : List (EndRow E))
    → Some from ≡ takes_from (machine_state st) e → LookedFor looks rs rs1 (Some from) → IsNotGot k (shown_for shown rs1 (Some from))
    → IsHeld shown free looks fits e (log_view sc st h k rs) (log_view sc st' h' k' rs1)
held_get {E} sc st st' h h' k k' e shown free looks fits from rs rs1 takes looked not_got = by not_got
  where
    looked_at : LookedFor looks rs rs1 (takes_from (machine_state st) e)
    looked_at = subst (LookedFor looks rs rs1) takes looked

    by : IsNotGot k (shown_for shown rs1 (Some from)) → IsHeld shown free looks fits e (log_view sc st h k rs) (log_view sc st' h' k' rs1)
    by (IsNotGot.Nothing none) = IsHeld.Idle
        (record {
          said = None;
          stands = subst (λ (f : Option Peer). TakenStands (StandsAs sc.setup.clusters) (shown_for shown rs1 f) None) takes
              (subst (λ (o : Option WirePacket). TakenStands (StandsAs sc.setup.clusters) o None) (sym none) tt);
          idle = nothing_idle sc.setup (machine_state st) e from (sym takes);
        }) looked_at
    by (IsNotGot.Late high) = IsHeld.NoStamp (subst (λ (f : Option Peer). 2 ^ 63 ≤ max k (stamp_in (shown_for shown rs1 f))) takes high) looked_at

-- a get sends nothing
pub get_joins : {E : Type 0} (free : E → ℕ) (fit : Packed → Type 0) (last at : ℕ) (rs : List (EndRow E)) (p : ReadyPackets) → last < 2 ^ 63 → at ≡ 1 + last → p.stamp ≡ at → p.sent.items ≡ [] → p.parcels.items ≡ []
    → MayJoin free fit false last [] rs p
get_joins free fit last at rs p low next stamp sent parcels = record {
  enabled = refl;
  low = low;
  packed = record {
    stamp = stamp ∙ next;
    sent = sent;
    parcels = rw parcels refl;
    addressed = rw parcels tt;
    room = rw parcels (λ q. omega arith);
  };
}

-- ---- the ways out

unchanged : {E : Type 0} (sc : Script) (c : NumberedClient) (h : List (ByteEvent WirePacket)) (k : ℕ) (sent_in taken_in : E → List WirePacket) (rs : List (EndRow E))
    → SameLog sent_in taken_in (log_view sc (kept.Client c) h k rs) (log_view sc (kept.Client c) h k rs)
unchanged sc c h k sent_in taken_in rs = record { scenario = refl; node = refl; state = refl; history = refl; clock = refl; sent = λ q. refl; taken = λ q. refl }

pub client_elsewhere : {E : Type 0} (sc : Script) (c : NumberedClient) (h : List (ByteEvent WirePacket)) (k : ℕ) (rs : List (EndRow E)) (e : Event) (sent_in taken_in : E → List WirePacket) (shown : E → Option WirePacket) (free looks : E → ℕ) (fits : Parcel → Type 0) (r : Bool)
    → (IsTrue r ↔ IsAtClient c.number e) → r ≡ false
    → IsHeld shown free looks fits e (log_view sc (kept.Client c) h k rs) (log_view sc (kept.Client c) h k rs) × SameLog sent_in taken_in (log_view sc (kept.Client c) h k rs) (log_view sc (kept.Client c) h k rs)
client_elsewhere sc c h k rs e sent_in taken_in shown free looks fits r is fails =
    (IsHeld.Elsewhere (λ own. refused r is fails (client_own sc.setup c.number e own)), unchanged sc c h k sent_in taken_in rs)

pub client_no_number : {E : Type 0} (sc : Script) (c : NumberedClient) (h : List (ByteEvent WirePacket)) (k : ℕ) (rs : List (EndRow E)) (e : Event) (sent_in taken_in : E → List WirePacket) (shown : E → Option WirePacket) (free looks : E → ℕ) (fits : Parcel → Type 0) (r : Bool)
    → (IsTrue r ↔ ClientRises c.client e) → r ≡ false
    → IsHeld shown free looks fits e (log_view sc (kept.Client c) h k rs) (log_view sc (kept.Client c) h k rs) × SameLog sent_in taken_in (log_view sc (kept.Client c) h k rs) (log_view sc (kept.Client c) h k rs)
client_no_number sc c h k rs e sent_in taken_in shown free looks fits r is fails = (IsHeld.NoNumber (refused r is fails), unchanged sc c h k sent_in taken_in rs)

-- d is the client after it; rs1 are the ends then
pub client_err : {E : Type 0} (sc : Script) (c d : NumberedClient) (h h' : List (ByteEvent WirePacket)) (k k' : ℕ) (sent_in taken_in : E → List WirePacket) (free : E → ℕ) (rs rs1 : List (EndRow E))
    → d ≡ c → SameSends sent_in free rs rs1 → SameTaken taken_in rs rs1 → h' ≡ h → k' ≡ k
    → SameLog sent_in taken_in (log_view sc (kept.Client c) h k rs) (log_view sc (kept.Client d) h' k' rs1)
client_err sc c d h h' k k' sent_in taken_in free rs rs1 same sends taken history clock = record {
  scenario = refl;
  node = ap (λ (a : NumberedClient). ClientNode a.number) same;
  state = ap (λ (a : NumberedClient). ClientState a.client) same;
  history = history;
  clock = clock;
  sent = sends.sent;
  taken = taken;
}

pub client_still : {E : Type 0} (s : Setup) (c d : NumberedClient) (h h' : List (ByteEvent WirePacket)) (k k' : ℕ) (rs rs1 : List (EndRow E)) → LogHolds s (kept.Client c) h k rs
    → d ≡ c → SamePeers rs rs1 → h' ≡ h → k' ≡ k → LogHolds s (kept.Client d) h' k' rs1
client_still s c d h h' k k' rs rs1 holds same peers history clock =
    holds_same s (kept.Client c) (kept.Client d) h h' k k' rs rs1 holds (ap (λ (a : NumberedClient). ClientNode a.number) same) (ap (λ (a : NumberedClient). ClientState a.client) same) history clock peers tt

pub client_there : {E : Type 0} (s : Setup) (c : NumberedClient) (h : List (ByteEvent WirePacket)) (k : ℕ) (rs : List (EndRow E)) → LogHolds s (kept.Client c) h k rs → c.number < length s.clients
client_there s c h k rs holds = ltb-true c.number (length s.clients) holds.there

pub client_counts : (k : Client) (e : Event) → ClientRises k e → IsGet e → CanCount k
client_counts k (event.Get c) rises is = rises
client_counts k e rises is = absurd is

own_of : {E : Type 0} (s : Setup) (c : NumberedClient) (h : List (ByteEvent WirePacket)) (k : ℕ) (rs : List (EndRow E)) (e : Event) → LogHolds s (kept.Client c) h k rs → IsAtClient c.number e → IsOwn s (ClientNode c.number) e
own_of s c h k rs e holds at = own_client s c.number e holds.there at

-- what a test says
pub is_at : (c : ℕ) (e : Event) (r : Bool) → (IsTrue r ↔ IsAtClient c e) → r ≡ true → IsAtClient c e
is_at c e r is so = is.0 so

pub rises_of : (k : Client) (e : Event) (r : Bool) → (IsTrue r ↔ ClientRises k e) → r ≡ true → ClientRises k e
rises_of k e r is so = is.0 so

pub get_of : (e : Event) (r : Bool) → (IsTrue r ↔ IsGet e) → r ≡ true → IsGet e
get_of e r is so = is.0 so

pub not_get : (e : Event) (r : Bool) → (IsTrue r ↔ IsGet e) → r ≡ false → IsGet e → ⊥
not_get e r is fails = refused r is fails

-- ---- an event that takes nothing

seen_of : (s : Setup) (c : NumberedClient) (e : Event) (p q : PreparedClient) (idle : Bool) (outs : List WireOut) → IsSeen s (ClientState c.client) e None 0 (not (is_some p.change)) p.sent (ClientState (client_after p.change c.client))
    → q ≡ record p { sent = [] } → idle ≡ not (is_some q.change) → outs ≡ p.sent → IsSeen s (ClientState c.client) e None 0 idle outs (ClientState (client_after p.change c.client))
seen_of s c e p q idle outs seen without is_idle are =
    subst (λ (ps : List WireOut). IsSeen s (ClientState c.client) e None 0 idle ps (ClientState (client_after p.change c.client))) (sym are)
    (subst (λ (b : Bool). IsSeen s (ClientState c.client) e None 0 b p.sent (ClientState (client_after p.change c.client))) (sym (is_idle ∙ ap (λ (a : PreparedClient). not (is_some a.change)) without)) seen)

pub fits_unsent : (k : Client) (p q : PreparedClient) → ClientFits p.change k → q ≡ record p { sent = [] } → ClientFits q.change k
fits_unsent k p q fits is = subst (λ (a : PreparedClient). ClientFits a.change k) (sym is) fits

pub client_goes : {E : Type 0} (s : Setup) (c : NumberedClient) (h : List (ByteEvent WirePacket)) (k : ℕ) (rs : List (EndRow E)) (shown : E → Option WirePacket) (e : Event) (p q : PreparedClient) (idle : Bool) (outs : List WireOut)
    → LogHolds s (kept.Client c) h k rs → IsAtClient c.number e → (IsGet e → ⊥) → IsSeen s (ClientState c.client) e None 0 (not (is_some p.change)) p.sent (ClientState (client_after p.change c.client))
    → q ≡ record p { sent = [] } → idle ≡ not (is_some q.change) → outs ≡ p.sent → idle ≡ false → GoToPeers rs outs
client_goes s c h k rs shown e p q idle outs holds at other seen without is_idle are enabled =
    go_to_peers s (kept.Client c) h k rs rs e shown None 0 idle outs (ClientState (client_after p.change c.client)) holds (λ x. refl) (own_of s c h k rs e holds at) (sym (takes_nothing c.client c.number e at other))
    (seen_of s c e p q idle outs seen without is_idle are) enabled

pub client_held : {E : Type 0} (sc : Script) (c : NumberedClient) (h h' : List (ByteEvent WirePacket)) (k k' : ℕ) (e : Event) (sent_in taken_in : E → List WirePacket) (shown : E → Option WirePacket) (free looks : E → ℕ) (fits : Parcel → Type 0)
    (p q : PreparedClient) (idle : Bool) (outs : List WireOut) (rs rs1 : List (EndRow E)) (o : Option ReadyPackets)
    → IsAtClient c.number e → (IsGet e → ⊥) → IsSeen sc.setup (ClientState c.client) e None 0 (not (is_some p.change)) p.sent (ClientState (client_after p.change c.client))
    → q ≡ record p { sent = [] } → idle ≡ not (is_some q.change) → outs ≡ p.sent → o ≡ None → IfNone o (MayNotJoin free looks fits idle (max k 0) outs rs rs1)
    → SameSends sent_in free rs rs1 → SameTakes taken_in shown rs rs1 → h' ≡ h → k' ≡ k
    → IsHeld shown free looks fits e (log_view sc (kept.Client c) h k rs) (log_view sc (kept.Client c) h' k' rs1) × SameLog sent_in taken_in (log_view sc (kept.Client c) h k rs) (log_view sc (kept.Client c) h' k' rs1)
client_held sc c h h' k k' e sent_in taken_in shown free looks fits p q idle outs rs rs1 o at other seen without is_idle are none unready sends takes history clock = (
  held_is sc (kept.Client c) (kept.Client c) h h' k k' e shown taken_in free looks fits None 0 idle outs (ClientState (client_after p.change c.client)) rs rs rs1 (sym (takes_nothing c.client c.number e at other))
      (seen_of sc.setup c e p q idle outs seen without is_idle are) tt (λ x. omega arith) takes (subst (λ (u : Option ReadyPackets). IfNone u (MayNotJoin free looks fits idle (max k 0) outs rs rs1)) none unready),
  client_err sc c c h h' k k' sent_in taken_in free rs rs1 refl sends takes.taken history clock,
)

client_acted : {E : Type 0} (sc : Script) (c d : NumberedClient) (h h1 h2 : List (ByteEvent WirePacket)) (k k1 k2 : ℕ) (e : Event) (sent_in taken_in : E → List WirePacket) (shown : E → Option WirePacket) (free : E → ℕ) (fit : Packed → Type 0)
    (p q : PreparedClient) (idle : Bool) (outs : List WireOut) (ready : ReadyPackets) (rs rs1 rs2 : List (EndRow E)) (o : Option ReadyPackets)
    → LogHolds sc.setup (kept.Client c) h k rs → IsAtClient c.number e → ClientRises c.client e → (IsGet e → ⊥) → IsSeen sc.setup (ClientState c.client) e None 0 (not (is_some p.change)) p.sent (ClientState (client_after p.change c.client))
    → q ≡ record p { sent = [] } → idle ≡ not (is_some q.change) → outs ≡ p.sent → o ≡ Some ready → IfSome o (λ u. MayJoin free fit idle (max k 0) outs rs1 u)
    → SameSends sent_in free rs rs1 → SameTakes taken_in shown rs rs1 → h1 ≡ h → k1 ≡ k → d.number ≡ c.number → d.client ≡ client_after q.change c.client → Finished shown sent_in taken_in e None ready h1 rs1 h2 rs2 → k2 ≡ ready.stamp
    → (acted : IsActed sent_in taken_in e (log_view sc (kept.Client c) h k rs) (log_view sc (kept.Client d) h2 k2 rs2)) × (acted.done.taken ≡ shown_for shown rs1 None)
client_acted sc c d h h1 h2 k k1 k2 e sent_in taken_in shown free fit p q idle outs ready rs rs1 rs2 o holds at numbers other seen without is_idle are some join sends takes history clock number committed finished stamp =
    acted_is sc (kept.Client c) (kept.Client d) h h2 k k2 e shown sent_in taken_in free fit None 0 idle outs (ClientState (client_after p.change c.client)) ready rs rs rs1 rs2
    (own_of sc.setup c h k rs e holds at) numbers (sym (takes_nothing c.client c.number e at other)) (seen_of sc.setup c e p q idle outs seen without is_idle are)
    (λ x. refl) (λ x. refl) sends.sent takes (subst (λ (u : Option ReadyPackets). IfSome u (λ t. MayJoin free fit idle (max k 0) outs rs1 t)) some join)
    (subst (λ (ds : List (ByteEvent WirePacket)). Finished shown sent_in taken_in e None ready ds rs1 h2 rs2) history finished) stamp (ap ClientNode number)
    (ap ClientState (committed ∙ ap (λ (a : PreparedClient). client_after a.change c.client) without))

pub client_done : {E : Type 0} (sc : Script) (c d : NumberedClient) (h h1 h2 : List (ByteEvent WirePacket)) (k k1 k2 : ℕ) (e : Event) (sent_in taken_in : E → List WirePacket) (shown : E → Option WirePacket) (free : E → ℕ) (fit : Packed → Type 0)
    (p q : PreparedClient) (idle : Bool) (outs : List WireOut) (ready : ReadyPackets) (rs rs1 rs2 : List (EndRow E)) (o : Option ReadyPackets)
    → LogHolds sc.setup (kept.Client c) h k rs → IsAtClient c.number e → ClientRises c.client e → (IsGet e → ⊥) → IsSeen sc.setup (ClientState c.client) e None 0 (not (is_some p.change)) p.sent (ClientState (client_after p.change c.client))
    → q ≡ record p { sent = [] } → idle ≡ not (is_some q.change) → outs ≡ p.sent → o ≡ Some ready → IfSome o (λ u. MayJoin free fit idle (max k 0) outs rs1 u)
    → SameSends sent_in free rs rs1 → SameTakes taken_in shown rs rs1 → h1 ≡ h → k1 ≡ k → d.number ≡ c.number → d.client ≡ client_after q.change c.client → Finished shown sent_in taken_in e None ready h1 rs1 h2 rs2 → k2 ≡ ready.stamp
    → IsActed sent_in taken_in e (log_view sc (kept.Client c) h k rs) (log_view sc (kept.Client d) h2 k2 rs2)
client_done sc c d h h1 h2 k k1 k2 e sent_in taken_in shown free fit p q idle outs ready rs rs1 rs2 o holds at numbers other seen without is_idle are some join sends takes history clock number committed finished stamp =
    (client_acted sc c d h h1 h2 k k1 k2 e sent_in taken_in shown free fit p q idle outs ready rs rs1 rs2 o holds at numbers other seen without is_idle are some join sends takes history clock number committed finished stamp).0

pub client_grown : {E : Type 0} (sc : Script) (c d : NumberedClient) (h h1 h2 : List (ByteEvent WirePacket)) (k k1 k2 : ℕ) (e : Event) (sent_in taken_in : E → List WirePacket) (shown : E → Option WirePacket) (free : E → ℕ) (fit : Packed → Type 0)
    (p q : PreparedClient) (idle : Bool) (outs : List WireOut) (ready : ReadyPackets) (rs rs1 rs2 : List (EndRow E)) (o : Option ReadyPackets)
    → LogHolds sc.setup (kept.Client c) h k rs → IsAtClient c.number e → ClientRises c.client e → (IsGet e → ⊥) → IsSeen sc.setup (ClientState c.client) e None 0 (not (is_some p.change)) p.sent (ClientState (client_after p.change c.client))
    → q ≡ record p { sent = [] } → idle ≡ not (is_some q.change) → outs ≡ p.sent → o ≡ Some ready → IfSome o (λ u. MayJoin free fit idle (max k 0) outs rs1 u)
    → SameSends sent_in free rs rs1 → SameTakes taken_in shown rs rs1 → h1 ≡ h → k1 ≡ k → d.number ≡ c.number → d.client ≡ client_after q.change c.client → Finished shown sent_in taken_in e None ready h1 rs1 h2 rs2 → k2 ≡ ready.stamp
    → SamePeers rs rs1 → SamePeers rs1 rs2 → LogHolds sc.setup (kept.Client d) h2 k2 rs2
client_grown sc c d h h1 h2 k k1 k2 e sent_in taken_in shown free fit p q idle outs ready rs rs1 rs2 o holds at numbers other seen without is_idle are some join sends takes history clock number committed finished stamp peers1 peers2 =
    let acted = client_acted sc c d h h1 h2 k k1 k2 e sent_in taken_in shown free fit p q idle outs ready rs rs1 rs2 o holds at numbers other seen without is_idle are some join sends takes history clock number committed finished stamp in
    holds_after sc (kept.Client c) (kept.Client d) h h2 k k2 e shown sent_in taken_in None rs rs1 rs2 holds acted.0 (sym (takes_nothing c.client c.number e at other)) acted.1
    peers1 (λ x. peers2 x ∙ peers1 x) tt

-- ---- a get

broker_of : (k : Client) (v : ClientView) → viewed v ≡ k → peer.Broker v.cluster ≡ peer.Broker k.cluster
broker_of k v is = ap (λ (a : Client). peer.Broker a.cluster) is

from_of : (k : Client) (v : ClientView) (e : Event) (from : Peer) → viewed v ≡ k → IsGet e → from ≡ peer.Broker v.cluster → Some from ≡ takes_from (ClientState k) e
from_of k v e from is get from_is = ap Some (from_is ∙ broker_of k v is) ∙ sym (get_takes k e get)

pub get_held : {E : Type 0} (sc : Script) (c d : NumberedClient) (h h' : List (ByteEvent WirePacket)) (k : ℕ) (e : Event) (sent_in taken_in : E → List WirePacket) (shown : E → Option WirePacket) (free looks : E → ℕ) (fits : Parcel → Type 0)
    (v : ClientView) (from : Peer) (rs rs1 : List (EndRow E)) (o : Option ℕ)
    → IsGet e → viewed v ≡ c.client → from ≡ peer.Broker v.cluster → o ≡ None → IfNone o (IsNotGot k (shown_for shown rs1 (Some from))) → IfNone o (d ≡ c) → LookedFor looks rs rs1 (Some from)
    → SameSends sent_in free rs rs1 → SameTaken taken_in rs rs1 → h' ≡ h
    → IsHeld shown free looks fits e (log_view sc (kept.Client c) h k rs) (log_view sc (kept.Client d) h' k rs1) × SameLog sent_in taken_in (log_view sc (kept.Client c) h k rs) (log_view sc (kept.Client d) h' k rs1)
get_held sc c d h h' k e sent_in taken_in shown free looks fits v from rs rs1 o get view from_is none not_got stays looked sends taken history = (
  held_get sc (kept.Client c) (kept.Client d) h h' k k e shown free looks fits from rs rs1 (from_of c.client v e from view get from_is) looked (subst (λ (u : Option ℕ). IfNone u (IsNotGot k (shown_for shown rs1 (Some from)))) none not_got),
  client_err sc c d h h' k k sent_in taken_in free rs rs1 (subst (λ (u : Option ℕ). IfNone u (d ≡ c)) none stays) sends taken history refl,
)

pub none_stays : (c d : NumberedClient) (o : Option ℕ) → o ≡ None → IfNone o (d ≡ c) → d ≡ c
none_stays c d o none stays = subst (λ (u : Option ℕ). IfNone u (d ≡ c)) none stays

got_joins : {E : Type 0} (s : Setup) (c d : NumberedClient) (k last at : ℕ) (u : Option WirePacket) (free : E → ℕ) (fit : Packed → Type 0) (ready : ReadyPackets) (rs : List (EndRow E)) → (got : IsGot s.clusters (declared_at s c.number) c.client k u d.client last)
    → at ≡ 1 + last → ready.stamp ≡ at → ready.sent.items ≡ [] → ready.parcels.items ≡ [] → MayJoin free fit false (max k (stamp_of got.said)) [] rs ready
got_joins s c d k last at u free fit ready rs got next stamp sent parcels =
    subst (λ (m : ℕ). MayJoin free fit false m [] rs ready) got.last_is (get_joins free fit last at rs ready got.low next stamp sent parcels)

get_acted : {E : Type 0} (sc : Script) (c d : NumberedClient) (h h1 h2 : List (ByteEvent WirePacket)) (k k2 : ℕ) (e : Event) (sent_in taken_in : E → List WirePacket) (shown : E → Option WirePacket) (free : E → ℕ) (fit : Packed → Type 0)
    (v : ClientView) (from : Peer) (last at : ℕ) (ready : ReadyPackets) (rs rs1 rs2 : List (EndRow E)) (o : Option ℕ)
    → LogHolds sc.setup (kept.Client c) h k rs → IsAtClient c.number e → ClientRises c.client e → IsGet e → viewed v ≡ c.client → from ≡ peer.Broker v.cluster → o ≡ Some last
    → IfSome o (IsGot sc.setup.clusters (declared_at sc.setup c.number) c.client k (shown_for shown rs1 (Some from)) d.client) → SameSends sent_in free rs rs1 → SameTaken taken_in rs rs1 → h1 ≡ h → d.number ≡ c.number
    → at ≡ 1 + last → ready.stamp ≡ at → ready.sent.items ≡ [] → ready.parcels.items ≡ [] → Finished shown sent_in taken_in e (Some from) ready h1 rs1 h2 rs2 → k2 ≡ ready.stamp
    → (acted : IsActed sent_in taken_in e (log_view sc (kept.Client c) h k rs) (log_view sc (kept.Client d) h2 k2 rs2)) × (acted.done.taken ≡ shown_for shown rs1 (Some from))
get_acted sc c d h h1 h2 k k2 e sent_in taken_in shown free fit v from last at ready rs rs1 rs2 o holds here numbers get view from_is some is_got sends taken history number next stamp none parcels finished clock =
    let got = subst (λ (u : Option ℕ). IfSome u (IsGot sc.setup.clusters (declared_at sc.setup c.number) c.client k (shown_for shown rs1 (Some from)) d.client)) some is_got in
    acted_is sc (kept.Client c) (kept.Client d) h h2 k k2 e shown sent_in taken_in free fit (Some from) (stamp_of got.said) false [] (ClientState d.client) ready rs rs1 rs1 rs2
    (own_of sc.setup c h k rs e holds here) numbers (from_of c.client v e from view get from_is)
    (got_seen sc.setup c.number c.client d.client k last e (shown_for shown rs1 (Some from)) here get got)
    sends.sent taken (λ x. refl) (record { taken = λ x. refl; shown = λ x. refl })
    (got_joins sc.setup c d k last at (shown_for shown rs1 (Some from)) free fit ready rs1 got next stamp none parcels)
    (subst (λ (ds : List (ByteEvent WirePacket)). Finished shown sent_in taken_in e (Some from) ready ds rs1 h2 rs2) history finished) clock (ap ClientNode number) refl

pub get_done : {E : Type 0} (sc : Script) (c d : NumberedClient) (h h1 h2 : List (ByteEvent WirePacket)) (k k2 : ℕ) (e : Event) (sent_in taken_in : E → List WirePacket) (shown : E → Option WirePacket) (free : E → ℕ) (fit : Packed → Type 0)
    (v : ClientView) (from : Peer) (last at : ℕ) (ready : ReadyPackets) (rs rs1 rs2 : List (EndRow E)) (o : Option ℕ)
    → LogHolds sc.setup (kept.Client c) h k rs → IsAtClient c.number e → ClientRises c.client e → IsGet e → viewed v ≡ c.client → from ≡ peer.Broker v.cluster → o ≡ Some last
    → IfSome o (IsGot sc.setup.clusters (declared_at sc.setup c.number) c.client k (shown_for shown rs1 (Some from)) d.client) → SameSends sent_in free rs rs1 → SameTaken taken_in rs rs1 → h1 ≡ h → d.number ≡ c.number
    → at ≡ 1 + last → ready.stamp ≡ at → ready.sent.items ≡ [] → ready.parcels.items ≡ [] → Finished shown sent_in taken_in e (Some from) ready h1 rs1 h2 rs2 → k2 ≡ ready.stamp
    → IsActed sent_in taken_in e (log_view sc (kept.Client c) h k rs) (log_view sc (kept.Client d) h2 k2 rs2)
get_done sc c d h h1 h2 k k2 e sent_in taken_in shown free fit v from last at ready rs rs1 rs2 o holds here numbers get view from_is some is_got sends taken history number next stamp none parcels finished clock =
    (get_acted sc c d h h1 h2 k k2 e sent_in taken_in shown free fit v from last at ready rs rs1 rs2 o holds here numbers get view from_is some is_got sends taken history number next stamp none parcels finished clock).0

pub get_grown : {E : Type 0} (sc : Script) (c d : NumberedClient) (h h1 h2 : List (ByteEvent WirePacket)) (k k2 : ℕ) (e : Event) (sent_in taken_in : E → List WirePacket) (shown : E → Option WirePacket) (free : E → ℕ) (fit : Packed → Type 0)
    (v : ClientView) (from : Peer) (last at : ℕ) (ready : ReadyPackets) (rs rs1 rs2 : List (EndRow E)) (o : Option ℕ)
    → LogHolds sc.setup (kept.Client c) h k rs → IsAtClient c.number e → ClientRises c.client e → IsGet e → viewed v ≡ c.client → from ≡ peer.Broker v.cluster → o ≡ Some last
    → IfSome o (IsGot sc.setup.clusters (declared_at sc.setup c.number) c.client k (shown_for shown rs1 (Some from)) d.client) → SameSends sent_in free rs rs1 → SameTaken taken_in rs rs1 → h1 ≡ h → d.number ≡ c.number
    → at ≡ 1 + last → ready.stamp ≡ at → ready.sent.items ≡ [] → ready.parcels.items ≡ [] → Finished shown sent_in taken_in e (Some from) ready h1 rs1 h2 rs2 → k2 ≡ ready.stamp
    → SamePeers rs rs1 → SamePeers rs1 rs2 → LogHolds sc.setup (kept.Client d) h2 k2 rs2
get_grown sc c d h h1 h2 k k2 e sent_in taken_in shown free fit v from last at ready rs rs1 rs2 o holds here numbers get view from_is some is_got sends taken history number next stamp none parcels finished clock peers1 peers2 =
    let acted = get_acted sc c d h h1 h2 k k2 e sent_in taken_in shown free fit v from last at ready rs rs1 rs2 o holds here numbers get view from_is some is_got sends taken history number next stamp none parcels finished clock in
    holds_after sc (kept.Client c) (kept.Client d) h h2 k k2 e shown sent_in taken_in (Some from) rs rs1 rs2 holds acted.0 (from_of c.client v e from view get from_is) acted.1
    peers1 (λ x. peers2 x ∙ peers1 x) tt
