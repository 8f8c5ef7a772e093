-- A client sends to its current cluster alone, and a new one is current from the packets on that move it. So the peer that a
-- get takes from can be read off a history: it is the last that the client sent to.
use Rattle.std.proofs.Common.{◌≡◌, ℕ, ◌==◌, Bool, true, false, List, [], ◌∷◌, ◌++◌, length, map, refl, sym, ap, ◌∙◌, nat_lt}
use Rattle.std.specs.List.{list_any}
use Rattle.std.specs.Prelude.{Option, Some, None, ◌&&◌, slice_get, is_some}
use Rattle.world_laws.proofs.Types.{Event, Frame, Held, Ident, Line, Out, Packet, Peer, Position}
use Rattle.world_laws.proofs.Types.event
use Rattle.world_laws.proofs.Types.frame
use Rattle.world_laws.proofs.Types.line
use Rattle.world_laws.proofs.Types.peer
use Rattle.world_laws.proofs.Types.cluster_ref
use Rattle.geo_base.specs.Client.{Acted, Client, becomes, command, command_at, commands_at, connected_to, connects, id_of, reconnect, stays, to_broker}
use Rattle.geo_base.specs.Getting.{answered, get, got_frame, is_duplicate, is_number, publishes, received, with_error, with_receipt, without_seq}
use Rattle.geo_base.specs.Going.{acks_all, acks_one, acks_to, ends_sub, first_held, go, go_line, most_unanswered, past}
use Rattle.geo_base.specs.Happening.{client_acted}
use Rattle.geo_base.specs.History.{HappensAt, RecordedEvent, Replays, SentPacket, replayed, sent_with}
use Rattle.geo_base.specs.NodeState.{ClientState, current}
use Rattle.geo_base.specs.Setup.{Declared, Setup, declared_at}
use Rattle.world_laws.proofs.Walks.Walk.{on_if}

-- the cluster that the last of some packets went to
abbrev pub cluster_of : ℕ → Peer → ℕ
cluster_of x (peer.Broker y) = y
cluster_of x q = x

abbrev pub last_cluster : ℕ → List Out → ℕ
last_cluster x [] = x
last_cluster x (o ∷ os) = last_cluster (cluster_of x o.to) os

last_of_both : (x : ℕ) (os us : List Out) → last_cluster x (os ++ us) ≡ last_cluster (last_cluster x os) us
last_of_both x [] us = refl
last_of_both x (o ∷ os) us = last_of_both (cluster_of x o.to) os us

pub record Follows (k : Client) (a : Acted) : Type 0 where
  pub is : a.client.cluster ≡ last_cluster k.cluster a.sent

command_same : (s : Setup) (d : Declared) (k : Client) (i : ℕ) (l : Option Line) → last_cluster k.cluster (command s d k i l) ≡ k.cluster
command_same s d k i None = refl
command_same s d k i (Some line.Produce) = refl
command_same s d k i (Some (line.Sub n kind earliest replicated)) = refl
command_same s d k i (Some (line.Flow permits)) = refl
command_same s d k i (Some (line.Pub seq to key text)) = refl
command_same s d k i (Some l) = refl

command_at_same : (s : Setup) (d : Declared) (k : Client) (i : Option ℕ) → last_cluster k.cluster (command_at s d k i) ≡ k.cluster
command_at_same s d k None = refl
command_at_same s d k (Some i) = command_same s d k i (slice_get d.lines i)

two_same : (k : Client) (os us : List Out) → last_cluster k.cluster os ≡ k.cluster → last_cluster k.cluster us ≡ k.cluster → last_cluster k.cluster (os ++ us) ≡ k.cluster
two_same k os us h h' = last_of_both k.cluster os us ∙ (ap (λ (x : ℕ). last_cluster x us) h ∙ h')

commands_same : (s : Setup) (d : Declared) (k : Client) (is : List ℕ) → last_cluster k.cluster (commands_at s d k is) ≡ k.cluster
commands_same s d k [] = refl
commands_same s d k (i ∷ is) = two_same k (command_at s d k (Some i)) (commands_at s d k is) (command_at_same s d k (Some i)) (commands_same s d k is)

connects_follows : (s : Setup) (d : Declared) (j k : Client) → Follows j (connects s d k)
connects_follows s d j k =
    record {
      is =
          sym (two_same k (command_at s d k k.produce) _ (command_at_same s d k k.produce)
          (two_same k (command_at s d k k.sub) _ (command_at_same s d k k.sub)
          (two_same k (command_at s d k k.flow) (commands_at s d k k.unanswered) (command_at_same s d k k.flow) (commands_same s d k k.unanswered))));
    }

acks_one_follows : (k : Client) (i : Ident) (o : Option Position) → Follows k (acks_one k i o)
acks_one_follows k i None = record { is = refl }
acks_one_follows k i (Some p) = record { is = refl }

acks_to_follows : (k : Client) (o : Option Position) → Follows k (acks_to k o)
acks_to_follows k None = record { is = refl }
acks_to_follows k (Some p) = record { is = refl }

acks_all_follows : (k : Client) (hs : List Held) → Follows k (acks_all k hs)
acks_all_follows k [] = record { is = refl }
acks_all_follows k (h ∷ hs) = record { is = refl }

idle_follows : (k : Client) → Follows k (stays k)
idle_follows k = record { is = refl }

sends_follows : (k m : Client) (os : List Out) → m.cluster ≡ last_cluster k.cluster os → Follows k (becomes m os)
sends_follows k m os h = record { is = h }

ends_follows : (k : Client) (f : Frame) → Follows k (ends_sub k f)
ends_follows k f =
    on_if (Follows k) (is_some k.sub) _ _ (sends_follows k (record (past k) { sub = None; flow = None; held = [] }) (to_broker k f) refl) (idle_follows k)

go_line_follows : (s : Setup) (d : Declared) (k : Client) (l : Option Line) → Follows k (go_line s d k l)
go_line_follows s d k None = record { is = refl }
go_line_follows s d k (Some line.Produce) = record { is = refl }
go_line_follows s d k (Some (line.Pub seq to key text)) =
    on_if (Follows k) (is_some k.produce && nat_lt (length k.unanswered) most_unanswered) _ _
    (sends_follows k (record (past k) { unanswered = k.unanswered ++ k.done ∷ [] }) (command s d k k.done (Some (line.Pub seq to key text))) refl) (idle_follows k)
go_line_follows s d k (Some (line.Sub n kind earliest replicated)) = record { is = refl }
go_line_follows s d k (Some (line.Flow permits)) =
    on_if (Follows k) (is_some k.sub) _ _
    (sends_follows k (record (past k) { flow = Some k.done }) (command s d k k.done (Some (line.Flow permits))) refl) (idle_follows k)
go_line_follows s d k (Some (line.Ack i)) = acks_one_follows k i (first_held k.held i)
go_line_follows s d k (Some (line.AckTo i)) = acks_to_follows k (first_held k.held i)
go_line_follows s d k (Some line.AckAll) = acks_all_follows k k.held
go_line_follows s d k (Some line.Unsub) = ends_follows k (frame.Unsubscribe (id_of k.sub) k.done)
go_line_follows s d k (Some line.Close) = ends_follows k (frame.CloseConsumer (id_of k.sub) k.done)
go_line_follows s d k (Some line.CloseProducer) =
    on_if (Follows k) (is_some k.produce && (length k.unanswered == 0)) _ _
    (sends_follows k (record (past k) { produce = None }) (to_broker k (frame.CloseProducer (id_of k.produce) k.done)) refl) (idle_follows k)
go_line_follows s d k (Some line.Ping) = record { is = refl }
go_line_follows s d k (Some (line.Move x)) = connects_follows s d k (connected_to x (past k))

go_follows : (s : Setup) (d : Declared) (k : Client) → Follows k (go s d k)
unfolding go
go_follows s d k = on_if (Follows k) k.connected _ _ (go_line_follows s d k (slice_get d.lines k.done)) (idle_follows k)

reconnect_follows : (s : Setup) (d : Declared) (k : Client) → Follows k (reconnect s d k)
unfolding reconnect
reconnect_follows s d k = connects_follows s d k (connected_to k.cluster k)

record Stays (k m : Client) : Type 0 where
  pub is : m.cluster ≡ k.cluster

same_client : (k : Client) → Stays k k
same_client k = record { is = refl }

changed_client : (k m : Client) → m.cluster ≡ k.cluster → Stays k m
changed_client k m h = record { is = h }

answered_stays : (d : Declared) (k : Client) (n : ℕ) (counted : Client) → Stays k counted → Stays k (answered d k n counted)
answered_stays d k n counted h = on_if (Stays k) (list_any (publishes d n) k.unanswered) _ _ (changed_client k (record counted { unanswered = without_seq d k.unanswered n }) h.is) (same_client k)

receipt_stays : (k : Client) (b : Bool) → Stays k (with_receipt k b)
receipt_stays k true = record { is = refl }
receipt_stays k false = record { is = refl }

received_stays : (k : Client) (id : ℕ) (i : Ident) (p : Position) → Stays k (received k id i p)
received_stays k id i p = on_if (Stays k) (is_number id k.sub) _ _ (changed_client k (record k { held = k.held ++ record { ident = i; position = p } ∷ []; got = k.got ++ i ∷ [] }) refl) (same_client k)

got_stays : (d : Declared) (k : Client) (f : Frame) → Stays k (got_frame d k f)
got_stays d k (frame.SendReceipt id n p) = answered_stays d k n (with_receipt k (is_duplicate p)) (receipt_stays k (is_duplicate p))
got_stays d k (frame.SendError id n code) = answered_stays d k n (with_error k) (record { is = refl })
got_stays d k (frame.Error request code) = record { is = refl }
got_stays d k (frame.Message id p None e) = received_stays k id _ p
got_stays d k (frame.Message id p (Some (cluster_ref.Known x)) e) = received_stays k id _ p
got_stays d k (frame.Message id p (Some (cluster_ref.Stranger name)) e) = record { is = refl }
got_stays d k f = record { is = refl }

get_follows : (d : Declared) (k : Client) (p : Option Packet) → Follows k (get d k p)
unfolding get
get_follows d k None = record { is = refl }
get_follows d k (Some p) = record { is = (on_if (Stays k) (p.session == k.connection) _ _ (got_stays d k p.frame) (same_client k)).is }

pub client_follows : (s : Setup) (k : Client) (e : Event) (p : Option Packet) → Follows k (client_acted s k e p)
client_follows s k (event.Go c) p = go_follows s (declared_at s c) k
client_follows s k (event.Reconnect c) p = reconnect_follows s (declared_at s c) k
client_follows s k (event.Get c) p = get_follows (declared_at s c) k p
client_follows s k e p = record { is = refl }

-- along a history: where the client went last, its declared cluster before it sent anything
abbrev pub went : ℕ → List SentPacket → ℕ
went x [] = x
went x (o ∷ os) = went (cluster_of x o.to) os

abbrev pub went_along : ℕ → List RecordedEvent → ℕ
went_along x [] = x
went_along x (d ∷ ds) = went_along (went x d.sent) ds

went_sent : (x stamp : ℕ) (os : List Out) → went x (map (sent_with stamp) os) ≡ last_cluster x os
went_sent x stamp [] = refl
went_sent x stamp (o ∷ os) = went_sent (cluster_of x o.to) stamp os

pub went_once : (s : Setup) (n : ℕ) (k : Client) (clock : ℕ) (d : RecordedEvent) → HappensAt s n (ClientState k) clock d → (client_acted s k d.event d.taken).client.cluster ≡ went k.cluster d.sent
went_once s n k clock d h =
    (client_follows s k d.event d.taken).is
    ∙ (sym (went_sent k.cluster d.stamp (client_acted s k d.event d.taken).sent) ∙ ap (went k.cluster) (sym h.sent))

-- so the peer that a client's next get takes from is where its history went last
pub current_is : (s : Setup) (n : ℕ) (k : Client) (clock : ℕ) (ds : List RecordedEvent) → Replays s n (ClientState k) clock ds
    → current (replayed s (ClientState k) ds) ≡ Some (peer.Broker (went_along k.cluster ds))
current_is s n k clock [] r = refl
current_is s n k clock (d ∷ ds) r =
    current_is s n (client_acted s k d.event d.taken).client d.stamp ds r.1
    ∙ ap (λ (x : ℕ). Some (peer.Broker (went_along x ds))) (went_once s n k clock d r.0)
