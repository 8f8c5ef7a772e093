-- A client of a script sends to the brokers of its topic alone, and its current cluster is one of the setup.
use Rattle.std.proofs.Common.{◌≡◌, ℕ, zero, suc, ◌+◌, ◌<◌, ◌==◌, Bool, true, false, List, [], ◌∷◌, ◌++◌, length, refl, sym, ap, subst, ◌∙◌, arith, nat_lt}
use Rattle.std.specs.List.{list_all}
use Rattle.std.specs.Prelude.{Option, Some, None, ◌&&◌, slice_get, slice_index_or, is_some}
use Rattle.std.proofs.lemmas.Bool.{false≢true, ltb-true}
use Rattle.std.proofs.lemmas.Option.{none-some, same_Some}
use Rattle.world_laws.proofs.Types.{Event, Frame, Held, Ident, Line, Out, Packet, Peer, Position}
use Rattle.world_laws.proofs.Types.event
use Rattle.world_laws.proofs.Types.frame
use Rattle.world_laws.proofs.Types.line
use Rattle.world_laws.proofs.Types.peer
use Rattle.geo_base.specs.Client.{Acted, Client, becomes, command, command_at, commands_at, connected_to, connects, id_of, reconnect, stays, to_broker}
use Rattle.geo_base.specs.Getting.{get}
use Rattle.geo_base.specs.Going.{acks_all, acks_one, acks_to, ends_sub, first_held, go, go_line, most_unanswered, past}
use Rattle.geo_base.specs.Happening.{client_acted}
use Rattle.geo_base.specs.Nodes.{BrokerNode, ClientNode, Node, broker_count, is_event, is_node, is_peer, node_number, node_of}
use Rattle.geo_base.specs.Planned.{in_range}
use Rattle.geo_base.specs.Scripted.{IsScripted, is_declared, is_line}
use Rattle.geo_base.specs.Setup.{Declared, Setup, declared_at, nobody}
use Rattle.world_laws.proofs.Merges.ClientPeers.{client_follows, last_cluster}
use Rattle.world_laws.proofs.Replicating.Effects.{Each, each_both, each_map}
use Rattle.world_laws.proofs.Replicating.Sizes.{node_lt}
use Rattle.world_laws.proofs.Walks.Walk.{left, on_if, right}

abbrev pub IsCluster : Setup → ℕ → Type 0
IsCluster s x = nat_lt x (length s.clusters) ≡ true

abbrev goes_there : Setup → Peer → Bool
goes_there s (peer.Broker x) = nat_lt x (length s.clusters)
goes_there s q = false

abbrev GoesThere : Setup → Out → Type 0
GoesThere s o = goes_there s o.to ≡ true

pub record Roams (s : Setup) (a : Acted) : Type 0 where
  pub sends : Each (GoesThere s) a.sent
  pub cluster : IsCluster s a.client.cluster

roams : (s : Setup) (m : Client) (os : List Out) → Each (GoesThere s) os → IsCluster s m.cluster → Roams s (becomes m os)
roams s m os g v = record { sends = g; cluster = v }

idle_roams : (s : Setup) (k : Client) → IsCluster s k.cluster → Roams s (stays k)
idle_roams s k v = record { sends = tt; cluster = v }

command_there : (s : Setup) (d : Declared) (k : Client) (i : ℕ) (l : Option Line) → IsCluster s k.cluster → Each (GoesThere s) (command s d k i l)
command_there s d k i None v = tt
command_there s d k i (Some line.Produce) v = (v, tt)
command_there s d k i (Some (line.Sub n kind earliest replicated)) v = (v, tt)
command_there s d k i (Some (line.Flow permits)) v = (v, tt)
command_there s d k i (Some (line.Pub seq to key text)) v = (v, tt)
command_there s d k i (Some l) v = tt

command_at_there : (s : Setup) (d : Declared) (k : Client) (i : Option ℕ) → IsCluster s k.cluster → Each (GoesThere s) (command_at s d k i)
command_at_there s d k None v = tt
command_at_there s d k (Some i) v = command_there s d k i (slice_get d.lines i) v

commands_there : (s : Setup) (d : Declared) (k : Client) (is : List ℕ) → IsCluster s k.cluster → Each (GoesThere s) (commands_at s d k is)
commands_there s d k [] v = tt
commands_there s d k (i ∷ is) v =
    each_both (GoesThere s) (command_at s d k (Some i)) (commands_at s d k is) (command_at_there s d k (Some i) v) (commands_there s d k is v)

connects_roams : (s : Setup) (d : Declared) (k : Client) → IsCluster s k.cluster → Roams s (connects s d k)
connects_roams s d k v =
    record {
      sends = (
        v,
        each_both (GoesThere s) (command_at s d k k.produce) _ (command_at_there s d k k.produce v)
            (each_both (GoesThere s) (command_at s d k k.sub) _ (command_at_there s d k k.sub v)
            (each_both (GoesThere s) (command_at s d k k.flow) (commands_at s d k k.unanswered) (command_at_there s d k k.flow v) (commands_there s d k k.unanswered v))),
      );
      cluster = v;
    }

acks_one_roams : (s : Setup) (k : Client) (i : Ident) (o : Option Position) → IsCluster s k.cluster → Roams s (acks_one k i o)
acks_one_roams s k i None v = idle_roams s k v
acks_one_roams s k i (Some p) v = record { sends = (v, tt); cluster = v }

acks_to_roams : (s : Setup) (k : Client) (o : Option Position) → IsCluster s k.cluster → Roams s (acks_to k o)
acks_to_roams s k None v = idle_roams s k v
acks_to_roams s k (Some p) v = record { sends = (v, tt); cluster = v }

acks_all_roams : (s : Setup) (k : Client) (hs : List Held) → IsCluster s k.cluster → Roams s (acks_all k hs)
acks_all_roams s k [] v = idle_roams s k v
acks_all_roams s k (h ∷ hs) v = record { sends = (v, tt); cluster = v }

ends_roams : (s : Setup) (k : Client) (f : Frame) → IsCluster s k.cluster → Roams s (ends_sub k f)
ends_roams s k f v =
    on_if (Roams s) (is_some k.sub) _ _ (roams s (record (past k) { sub = None; flow = None; held = [] }) (to_broker k f) (v, tt) v) (idle_roams s k v)

-- a line of a script moves to a cluster of the setup
abbrev MayDo : Setup → Option Line → Type 0
MayDo s None = Unit {0}
MayDo s (Some l) = is_line s l ≡ true

go_line_roams : (s : Setup) (d : Declared) (k : Client) (l : Option Line) → MayDo s l → IsCluster s k.cluster → Roams s (go_line s d k l)
go_line_roams s d k None may v = idle_roams s k v
go_line_roams s d k (Some line.Produce) may v = record { sends = (v, tt); cluster = v }
go_line_roams s d k (Some (line.Pub seq to key text)) may v =
    on_if (Roams s) (is_some k.produce && nat_lt (length k.unanswered) most_unanswered) _ _
    (roams s (record (past k) { unanswered = k.unanswered ++ k.done ∷ [] }) (command s d k k.done (Some (line.Pub seq to key text))) (v, tt) v) (idle_roams s k v)
go_line_roams s d k (Some (line.Sub n kind earliest replicated)) may v = record { sends = (v, tt); cluster = v }
go_line_roams s d k (Some (line.Flow permits)) may v =
    on_if (Roams s) (is_some k.sub) _ _
    (roams s (record (past k) { flow = Some k.done }) (command s d k k.done (Some (line.Flow permits))) (v, tt) v) (idle_roams s k v)
go_line_roams s d k (Some (line.Ack i)) may v = acks_one_roams s k i (first_held k.held i) v
go_line_roams s d k (Some (line.AckTo i)) may v = acks_to_roams s k (first_held k.held i) v
go_line_roams s d k (Some line.AckAll) may v = acks_all_roams s k k.held v
go_line_roams s d k (Some line.Unsub) may v = ends_roams s k (frame.Unsubscribe (id_of k.sub) k.done) v
go_line_roams s d k (Some line.Close) may v = ends_roams s k (frame.CloseConsumer (id_of k.sub) k.done) v
go_line_roams s d k (Some line.CloseProducer) may v =
    on_if (Roams s) (is_some k.produce && (length k.unanswered == 0)) _ _
    (roams s (record (past k) { produce = None }) (to_broker k (frame.CloseProducer (id_of k.produce) k.done)) (v, tt) v) (idle_roams s k v)
go_line_roams s d k (Some line.Ping) may v = record { sends = (v, tt); cluster = v }
go_line_roams s d k (Some (line.Move x)) may v = connects_roams s d (connected_to x (past k)) may

-- of a list all of which is so
all_at : {X : Type 0} (p : X → Bool) (xs : List X) (i : ℕ) (x : X) → list_all p xs ≡ true → slice_get xs i ≡ Some x → p x ≡ true
all_at p [] i x h e = absurd (none-some x e)
all_at p (y ∷ ys) zero x h e = subst (λ z. p z ≡ true) (same_Some y x e) (left (p y) (list_all p ys) h)
all_at p (y ∷ ys) (suc i) x h e = all_at p ys i x (right (p y) (list_all p ys) h) e

pub all_index : {X : Type 0} (p : X → Bool) (xs : List X) (i : ℕ) (d : X) → list_all p xs ≡ true → i < length xs → p (slice_index_or xs i d) ≡ true
all_index p [] i d h lt = absurd (omega (arith, lt))
all_index p (y ∷ ys) zero d h lt = left (p y) (list_all p ys) h
all_index p (y ∷ ys) (suc i) d h lt = all_index p ys i d (right (p y) (list_all p ys) h) (omega (arith, lt))

may_do : (s : Setup) (d : Declared) (i : ℕ) → list_all (is_line s) d.lines ≡ true → MayDo s (slice_get d.lines i)
may_do s d i h = by (slice_get d.lines i) refl
  where
    by : (o : Option Line) → slice_get d.lines i ≡ o → MayDo s o
    by None e = tt
    by (Some l) e = all_at (is_line s) d.lines i l h e

go_roams : (s : Setup) (d : Declared) (k : Client) → list_all (is_line s) d.lines ≡ true → IsCluster s k.cluster → Roams s (go s d k)
unfolding go
go_roams s d k h v = on_if (Roams s) k.connected _ _ (go_line_roams s d k (slice_get d.lines k.done) (may_do s d k.done h) v) (idle_roams s k v)

reconnect_roams : (s : Setup) (d : Declared) (k : Client) → IsCluster s k.cluster → Roams s (reconnect s d k)
unfolding reconnect
reconnect_roams s d k v = connects_roams s d (connected_to k.cluster k) v

get_sends : (d : Declared) (k : Client) (p : Option Packet) → (get d k p).sent ≡ []
unfolding get
get_sends d k None = refl
get_sends d k (Some p) = refl

get_roams : (s : Setup) (c : ℕ) (k : Client) (p : Option Packet) → IsCluster s k.cluster → Roams s (get (declared_at s c) k p)
get_roams s c k p v =
    let none = get_sends (declared_at s c) k p in
    let f = (client_follows s k (event.Get c) p).is in
    let same : (get (declared_at s c) k p).client.cluster ≡ k.cluster = f ∙ ap (λ (os : List Out). last_cluster k.cluster os) none in
    record { sends = subst (Each (GoesThere s)) (sym none) tt; cluster = subst (IsCluster s) (sym same) v }

pub client_roams : (s : Setup) (k : Client) (e : Event) (p : Option Packet) (c : ℕ) → node_of s e ≡ ClientNode c
    → list_all (is_line s) (declared_at s c).lines ≡ true → IsCluster s k.cluster → Roams s (client_acted s k e p)
client_roams s k e p c is lines v = by e is
  where
    client_in : Node → ℕ
    client_in (ClientNode i) = i
    client_in (BrokerNode t x) = 0

    LinesAt : ℕ → Type 0
    LinesAt i = list_all (is_line s) (declared_at s i).lines ≡ true

    by : (e : Event) → node_of s e ≡ ClientNode c → Roams s (client_acted s k e p)
    by (event.Go i) is = go_roams s (declared_at s i) k (subst LinesAt (sym (ap client_in is)) lines) v
    by (event.Reconnect i) is = reconnect_roams s (declared_at s i) k v
    by (event.Get i) is = get_roams s i k p v
    by e is = idle_roams s k v

-- what IsScripted says of a client
pub record IsGood (s : Setup) (d : Declared) : Type 0 where
  pub topic : nat_lt d.topic (length s.topics) ≡ true
  pub cluster : nat_lt d.cluster (length s.clusters) ≡ true
  pub lines : list_all (is_line s) d.lines ≡ true

pub good_client : (s : Setup) (c : ℕ) → IsScripted s → c < length s.clients → IsGood s (declared_at s c)
good_client s c h lt =
    let d = declared_at s c in
    let all : is_declared s d ≡ true = all_index (is_declared s) s.clients c nobody h.clients.0 lt in
    let l1 = left _ _ all in
    let l2 = left _ _ l1 in
    record { topic = right _ _ (left _ _ l2); cluster = right _ _ l2; lines = right _ _ l1 }

-- an event of the client's node is one of that client
pub its_node : (s : Setup) (e : Event) (c : ℕ) → node_number s (node_of s e) ≡ broker_count s + c → is_event s e ≡ true → node_of s e ≡ ClientNode c
its_node s e c here range = by (node_of s e) here (right (in_range s e) _ range)
  where
    by : (n : Node) → node_number s n ≡ broker_count s + c → is_node s n ≡ true → n ≡ ClientNode c
    by (ClientNode i) is there = ap (λ (j : ℕ). ClientNode j) (omega (arith, is))
    by (BrokerNode t x) is there =
        let lt = node_lt s t x (ltb-true _ _ (left (nat_lt t (length s.topics)) _ there), ltb-true _ _ (right (nat_lt t (length s.topics)) _ there)) in
        absurd (omega (arith, is, lt))

-- so the peers of its next event
pub client_peers : (s : Setup) (c : ℕ) (k : Client) (e : Event) (p : Option Packet) → IsGood s (declared_at s c) → IsCluster s k.cluster
    → node_number s (node_of s e) ≡ broker_count s + c → is_event s e ≡ true
    → Each (λ (o : Out). is_peer s (ClientNode c) o.to ≡ true) (client_acted s k e p).sent
client_peers s c k e p good v here range =
    each_map (GoesThere s) (λ (o : Out). is_peer s (ClientNode c) o.to ≡ true) (λ o h. to_peer o.to h) (client_acted s k e p).sent
    (client_roams s k e p c (its_node s e c here range) good.lines v).sends
  where
    to_peer : (q : Peer) → goes_there s q ≡ true → is_peer s (ClientNode c) q ≡ true
    to_peer (peer.Broker x) h = ap (λ (b : Bool). b && nat_lt x (length s.clusters)) good.topic ∙ h
    to_peer (peer.Forward x) h = absurd (false≢true h)
    to_peer (peer.Back x) h = absurd (false≢true h)
    to_peer (peer.Client x) h = absurd (false≢true h)
