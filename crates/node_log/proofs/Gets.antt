-- A client takes what an end shows.
use Rattle.std.proofs.Common.{◌≡◌, ℕ, ◌<◌, ◌≤◌, ◌^◌, false, List, [], max, refl, sym, ap, subst, ◌∙◌}
use Rattle.std.specs.Prelude.{Option, Some, None, Result, Ok, Err, IfNone, IfOk, IfSome, OnErr}
use Rattle.log_parts.specs.declared.table.EndRow.{EndRow}
use Rattle.log_parts.specs.Rows.{place_from}
use Rattle.log_parts.proofs.Tables.{row_none}
use Rattle.broker_plans.specs.Prepared.{ArePackets}
use Rattle.client.specs.Packets.{IsSaid, StandsForNext}
use Rattle.client.specs.Site.{Site, known_setup}
use Rattle.geo_base.specs.declared.event.Event.{Event}
use Rattle.geo_base.specs.declared.event.Event.TheVariants as event
use Rattle.geo_base.specs.declared.frame.Frame.{Frame}
use Rattle.geo_base.specs.declared.memory.Memory.{Memory}
use Rattle.geo_base.specs.declared.packet.Packet.{Packet}
use Rattle.geo_base.specs.declared.packet.Peer.{Peer}
use Rattle.geo_base.specs.declared.packet.Peer.TheVariants as peer
use Rattle.geo_base.specs.Client.{Client}
use Rattle.geo_base.specs.Getting.{get}
use Rattle.geo_base.specs.Happening.{stamp_of}
use Rattle.geo_base.specs.NodeState.{ClientState, takes_from}
use Rattle.geo_base.specs.Setup.{Declared, Setup, declared_at}
use Rattle.node_log.specs.declared.state.NumberedClient.{NumberedClient}
use Rattle.node_log.specs.Acts.{LookedFor}
use Rattle.node_log.specs.Looking.{IsGot, IsNotGot, IsSeen}
use Rattle.node_log.specs.Owning.{IsAtClient, IsGet}
use Rattle.wire_ends.specs.declared.packet.WirePacket.{WirePacket}

-- ---- at an end

abbrev packet_of : WirePacket → Frame → Packet
packet_of w f = record { session = w.session; stamp = w.stamp; frame = f }

takes_it : (d : Declared) (k : Client) (p : Packet) → (get d k (Some p)).idle ≡ false
unfolding get
takes_it d k p = refl

pub got_it : (names : List (List ℕ)) (d : Declared) (k k' : Client) (clock last : ℕ) (o : Option WirePacket) (w : WirePacket) → o ≡ Some w → last ≡ max clock w.stamp → last < 2 ^ 63
    → IsSaid names (Some w) → ((v : Option Packet) → StandsForNext names (Some w) v → k' ≡ (get d k v).client) → IsGot names d k clock o k' last
got_it names d k k' clock last o w is last_is low said client = by said.said said.stands
  where
    by : (u : Option Packet) → StandsForNext names (Some w) u → IsGot names d k clock o k' last
    by None stands = absurd stands
    by (Some p) stands = record {
      said = Some (packet_of w p.frame);
      stands = rw is (record { session = refl; stamp = refl; frame = stands.frame });
      some = takes_it d k (packet_of w p.frame);
      client = client (Some (packet_of w p.frame)) (record { session = refl; frame = stands.frame });
      last_is = last_is;
      low = low;
    }

pub got_none : (clock : ℕ) (o : Option WirePacket) → o ≡ None → IsNotGot clock o
got_none clock o is = IsNotGot.Nothing is

pub got_late : (clock last : ℕ) (o : Option WirePacket) (w : WirePacket) → o ≡ Some w → last ≡ max clock w.stamp → 2 ^ 63 ≤ last → IsNotGot clock o
got_late clock last o w is last_is high = IsNotGot.Late (rw (is, ← last_is) high)

-- ---- as the machine's event

pub get_takes : (k : Client) (e : Event) → IsGet e → takes_from (ClientState k) e ≡ Some (peer.Broker k.cluster)
get_takes k (event.Get c) is = refl
get_takes k e is = absurd is

pub takes_nothing : (k : Client) (c : ℕ) (e : Event) → IsAtClient c e → (IsGet e → ⊥) → takes_from (ClientState k) e ≡ None
takes_nothing k c (event.Go d) at other = refl
takes_nothing k c (event.Reconnect d) at other = refl
takes_nothing k c (event.Get d) at other = absurd (other tt)
takes_nothing k c e at other = absurd at

sends_nothing : (names : List (List ℕ)) (d : Declared) (k : Client) (o : Option Packet) → ArePackets names (get d k o).sent []
unfolding get
sends_nothing names d k None = tt
sends_nothing names d k (Some p) = tt

pub got_seen : (s : Setup) (c : ℕ) (k k' : Client) (clock last : ℕ) (e : Event) (o : Option WirePacket) → IsAtClient c e → IsGet e → (got : IsGot s.clusters (declared_at s c) k clock o k' last)
    → IsSeen s (ClientState k) e o (stamp_of got.said) false [] (ClientState k')
got_seen s c k k' clock last (event.Get d) o at is got = record {
  said = got.said;
  stands = got.stands;
  idle = ap (λ (n : ℕ). (get (declared_at s n) k got.said).idle) at ∙ got.some;
  sent = sends_nothing s.clusters (declared_at s d) k got.said;
  state = ap ClientState (got.client ∙ ap (λ (n : ℕ). (get (declared_at s n) k got.said).client) (sym at));
  stamp = refl;
}
got_seen s c k k' clock last e o at is got = absurd is

-- ---- a peer that the table has not

pub no_look : {E : Type 0} (looks : E → ℕ) (q : Peer) (rs : List (EndRow E)) (o : Option ℕ) → o ≡ place_from 0 rs q → o ≡ None → LookedFor looks rs rs (Some q)
no_look looks q rs o searched none = λ has. absurd (row_none q rs o searched none has)

-- ---- the end of a peer

pub got_at : (s : Setup) (c : ℕ) (site : Site) (k k' : Client) (clock : ℕ) (o o' : Option WirePacket) (r : Result (Option ℕ) Memory) → site.setup ≡ known_setup s.clusters s.topics → site.declared ≡ declared_at s c → o ≡ o'
    → IfOk r (λ u. IfSome u (IsGot site.setup.clusters site.declared k clock o k')) → IfOk r (λ u. IfSome u (IsGot s.clusters (declared_at s c) k clock o' k'))
got_at s c site k k' clock o o' r setup declared same got =
    subst (λ (w : Option WirePacket). IfOk r (λ u. IfSome u (IsGot s.clusters (declared_at s c) k clock w k'))) same
    (subst (λ (d : Declared). IfOk r (λ u. IfSome u (IsGot s.clusters d k clock o k'))) declared
    (subst (λ (t : Setup). IfOk r (λ u. IfSome u (IsGot t.clusters site.declared k clock o k'))) setup got))

pub if_ok : {T X : Type 0} {A B : Type 0} (r : Result T X) → IfOk r (λ t. A) → (A → B) → IfOk r (λ t. B)
if_ok (Ok x) h f = f h
if_ok (Err e) h f = tt

pub own_stays : (n : ℕ) (k k' : Client) (r : Result (Option ℕ) Memory) → IfOk r (λ o. IfNone o (k' ≡ k)) → IfOk r (λ o. IfNone o (◌≡◌ {A = NumberedClient} (record { number = n; client = k' }) (record { number = n; client = k })))
own_stays n k k' (Ok (Some x)) h = tt
own_stays n k k' (Ok None) h = ap (λ (a : Client). record { number = n; client = a }) h
own_stays n k k' (Err e) h = tt

pub own_err : (n : ℕ) (k k' : Client) (r : Result (Option ℕ) Memory) → OnErr r (k' ≡ k) → OnErr r (◌≡◌ {A = NumberedClient} (record { number = n; client = k' }) (record { number = n; client = k }))
own_err n k k' (Ok o) h = tt
own_err n k k' (Err e) h = ap (λ (a : Client). record { number = n; client = a }) h
