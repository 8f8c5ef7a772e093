-- So whatever a broker does that its history brought to its state, it sends to its peers.
use Rattle.std.proofs.Common.{◌≡◌, ℕ, ◌/◌, ◌<◌, true, List, [], length, refl, sym, ap, subst, ◌∙◌, ◌==◌, arith, nat_lt, ◌+◌}
use Rattle.std.specs.Prelude.{Option, Some, None, ◌&&◌, not}
use Rattle.std.proofs.lemmas.Bool.{ltb-true}
use Rattle.std.proofs.lemmas.Nat.{div-mul-add}
use Rattle.world_laws.proofs.Types.{Event, Out, Packet, Session}
use Rattle.world_laws.proofs.Types.event
use Rattle.world_laws.proofs.Types.peer
use Rattle.geo_base.specs.Broker.{Broker, Site, session_at}
use Rattle.geo_base.specs.Forwarding.{closes, receipt, reset, take_packet}
use Rattle.geo_base.specs.History.{is_input}
use Rattle.geo_base.specs.NodeState.{BrokerState, takes_from}
use Rattle.geo_base.specs.Nodes.{BrokerNode, ClientNode, Node, broker_count, is_event, is_node, is_peer, node_number, node_of}
use Rattle.geo_base.specs.Plan.{Plan, done, idle_plan, quiet_plan}
use Rattle.geo_base.specs.Planned.{broker_plan, has_client, has_node, in_range}
use Rattle.geo_base.specs.Seeking.{restart}
use Rattle.geo_base.specs.Serving.{drop_client, drop_session, serve}
use Rattle.geo_base.specs.Setup.{Setup, declared_at, sub_name}
use Rattle.geo_base.specs.World.{node, site}
use Rattle.world_laws.proofs.Replicating.Effects.{Each, each_both}
use Rattle.world_laws.proofs.Walks.LinkWalk.{fate_answered, fate_taken}
use Rattle.world_laws.proofs.Walks.OfferWalk.{offer_shape, seek_shape, snap_shape}
use Rattle.world_laws.proofs.Merges.PeerWalk.{AllServed, Gives, MayHave, done_has, picked_counts}
use Rattle.world_laws.proofs.Walks.ReadWalk.{read_shape}
use Rattle.world_laws.proofs.Walks.ServeWalk.{frame_served}
use Rattle.world_laws.proofs.Walks.Shapes.{Answered, Fated, Offers, Reads, Seeks, Served, Snaps, Taken}
use Rattle.world_laws.proofs.Walks.Walk.{on_test, right}

-- a client of the topic of a node
abbrev pub IsOf : Setup → Node → ℕ → Type 0
IsOf s n c = is_peer s n (peer.Client c) ≡ true

abbrev ToPeer : Setup → Node → Out → Type 0
ToPeer s n o = is_peer s n o.to ≡ true

-- a plan that gives permits to such clients, and sends to peers, where the permits of before are so
pub record Keeps (s : Setup) (n : Node) (b : Broker) (p : Plan) : Type 0 where
  pub gives : Each (Gives (IsOf s n)) p.changes
  pub sends : AllServed (IsOf s n) b → Each (ToPeer s n) p.sent

quiet : (s : Setup) (n : Node) (b : Broker) (p : Plan) → Each (Gives (IsOf s n)) p.changes → Each (ToPeer s n) p.sent → Keeps s n b p
quiet s n b p g k = record { gives = g; sends = λ h. k }

no_permits : (s : Setup) (n : Node) (c id : ℕ) → MayHave (IsOf s n) (record { client = c; id = id; permits = 0 })
no_permits s n c id = record { may = λ lt. absurd (omega (arith, lt)) }

served_keeps : (s : Setup) (n : Node) (h : Site) (b : Broker) (c : ℕ) (p : Packet) (q : Plan) → IsOf s n c → Served h b c p q → Keeps s n b q
served_keeps s n h b c p q of Served.Ignores = quiet s n b q tt tt
served_keeps s n h b c p q of Served.Disconnects = quiet s n b q (tt, (tt, tt)) tt
served_keeps s n h b c p q of (Served.Connects v is new) = quiet s n b q (tt, (tt, tt)) (of, tt)
served_keeps s n h b c p q of (Served.Answers v f at) = quiet s n b q tt (of, tt)
served_keeps s n h b c p q of (Served.ChangesProducers v ps f at) = quiet s n b q (tt, tt) (of, tt)
served_keeps s n h b c p q of (Served.Stores v id seq source e at sound new) = quiet s n b q tt (of, tt)
served_keeps s n h b c p q of (Served.Repeats v id seq source e at sound old) = quiet s n b q tt (of, tt)
served_keeps s n h b c p q of (Served.Creates v topic m kind id request consumer earliest replicated at is may named) =
    quiet s n b q (no_permits s n c id, tt) (of, tt)
served_keeps s n h b c p q of (Served.Joins v topic m kind id request consumer earliest replicated u at is may named free same) =
    quiet s n b q (no_permits s n c id, tt) (of, tt)
served_keeps s n h b c p q of (Served.Alters v topic m kind id request consumer earliest replicated u at is may named free other) =
    quiet s n b q (no_permits s n c id, tt) (of, tt)
served_keeps s n h b c p q of (Served.Permits v id permits u at is by) = quiet s n b q (of, tt) tt
served_keeps s n h b c p q of (Served.Acknowledges v id kind ps u i is ws at sent by some after) = quiet s n b q (tt, tt) tt
served_keeps s n h b c p q of (Served.Unsubscribes v id request u at is by last) = quiet s n b q tt (of, tt)
served_keeps s n h b c p q of (Served.ClosesConsumer v id request u at is by) = quiet s n b q (tt, tt) (of, tt)

-- the same of a plan in whatever state
record Always (s : Setup) (n : Node) (p : Plan) : Type 0 where
  pub gives : Each (Gives (IsOf s n)) p.changes
  pub sends : Each (ToPeer s n) p.sent

always : (s : Setup) (n : Node) (p : Plan) → Each (Gives (IsOf s n)) p.changes → Each (ToPeer s n) p.sent → Always s n p
always s n p g k = record { gives = g; sends = k }

taken_always : (s : Setup) (n : Node) (h : Site) (b : Broker) (x : ℕ) (p : Packet) (q : Plan) → is_peer s n (peer.Back x) ≡ true → Taken h b x p q → Always s n q
taken_always s n h b x p q back (Taken.Unreadable is) = always s n q (tt, tt) tt
taken_always s n h b x p q back (Taken.Opens topic id request name is opening) = always s n q (tt, tt) (back, tt)
taken_always s n h b x p q back (Taken.Discards other shut) = always s n q tt tt
taken_always s n h b x p q back (Taken.Refuses other at may) = always s n q (tt, tt) tt
taken_always s n h b x p q back (Taken.Stores id seq source e is at may new) = always s n q tt (back, tt)
taken_always s n h b x p q back (Taken.Repeats id seq source e is at may old) = always s n q tt (back, tt)

answered_always : (s : Setup) (n : Node) (b : Broker) (y : ℕ) (p : Packet) (q : Plan) → Answered b y p q → Always s n q
answered_always s n b y p q (Answered.Stale other) = always s n q tt tt
answered_always s n b y p q (Answered.Other at other) = always s n q tt tt
answered_always s n b y p q (Answered.Opened request name at is state) = always s n q (tt, tt) tt
answered_always s n b y p q (Answered.OpenBefore request name at is state) = always s n q tt tt
answered_always s n b y p q (Answered.ClosedBefore request name at is state) = always s n q tt tt
answered_always s n b y p q (Answered.Received id m i position at is pending) = always s n q (tt, tt) tt
answered_always s n b y p q (Answered.ReceivedBefore id m position at is pending) = always s n q tt tt

fated_keeps : (s : Setup) (n : Node) (per : ℕ) (b : Broker) (Acts : Broker → Plan → Type 0) (lost q : Plan)
    → ((c : Broker) (p : Plan) → Acts c p → Always s n p) → Always s n lost → Fated per b Acts lost q → Keeps s n b q
fated_keeps s n per b Acts lost q f l (Fated.Once p a) = let r = f b p a in quiet s n b q r.gives r.sends
fated_keeps s n per b Acts lost q f l Fated.Lost = quiet s n b q l.gives l.sends
fated_keeps s n per b Acts lost q f l (Fated.Twice p p' a a') =
    let r = f b p a in let r' = f (done per b p) p' a' in
    quiet s n b q (each_both (Gives (IsOf s n)) p.changes p'.changes r.gives r'.gives) (each_both (ToPeer s n) p.sent p'.sent r.sends r'.sends)

reads_keeps : (s : Setup) (t x : ℕ) (b : Broker) (y : ℕ) (q : Plan) → Reads (site s t x) b y q → Keeps s (BrokerNode t x) b q
reads_keeps s t x b y q Reads.NothingToRead = quiet s (BrokerNode t x) b q tt tt
reads_keeps s t x b y q (Reads.Forwards i e next out) = quiet s (BrokerNode t x) b q (tt, tt) (next.0, tt)
reads_keeps s t x b y q (Reads.Skips i e next other) = quiet s (BrokerNode t x) b q (tt, tt) tt
reads_keeps s t x b y q (Reads.Responds i e id source next of is) = quiet s (BrokerNode t x) b q (tt, tt) tt
reads_keeps s t x b y q (Reads.Counts i e id answer u u' next is heard) = quiet s (BrokerNode t x) b q (tt, (tt, tt)) tt
reads_keeps s t x b y q (Reads.AsksAgain i e id answer u u' next is heard) = quiet s (BrokerNode t x) b q (tt, (tt, tt)) tt
reads_keeps s t x b y q (Reads.Completes i e id answer u u' next is heard) = quiet s (BrokerNode t x) b q (tt, (tt, tt)) tt
reads_keeps s t x b y q (Reads.CreatesAt i j e m remote next is named) = quiet s (BrokerNode t x) b q (tt, (tt, tt)) tt
reads_keeps s t x b y q (Reads.ActsOnUpdate i j e m remote v ws next is named after) = quiet s (BrokerNode t x) b q (tt, (tt, tt)) tt

snaps_keeps : (s : Setup) (n : Node) (h : Site) (b : Broker) (q : Plan) → Snaps h b q → Keeps s n b q
snaps_keeps s n h b q Snaps.NothingToAsk = quiet s n b q tt tt
snaps_keeps s n h b q (Snaps.Asks any none) = quiet s n b q (tt, tt) tt

offers_keeps : (s : Setup) (n : Node) (h : Site) (b : Broker) (m : List ℕ) (q : Plan) → Offers h b m q → Keeps s n b q
offers_keeps s n h b m q Offers.NothingToOffer = quiet s n b q tt tt
offers_keeps s n h b m q (Offers.Gives v i at e due is picked) =
    record { gives = (tt, tt); sends = λ k. (picked_counts (IsOf s n) b m v _ at k due.0 picked, tt) }
offers_keeps s n h b m q (Offers.SkipsMarker v i e ws due is after) = quiet s n b q (tt, (tt, tt)) tt
offers_keeps s n h b m q (Offers.Caches v i j e c ws due is after) = quiet s n b q (tt, (tt, (tt, tt))) tt

seeks_keeps : (s : Setup) (n : Node) (h : Site) (b : Broker) (m : List ℕ) (to : Option _) (q : Plan) → Seeks h b m to q → Keeps s n b q
seeks_keeps s n h b m to q Seeks.NothingToSeek = quiet s n b q tt tt
seeks_keeps s n h b m to q (Seeks.SeeksTo v i ws named at after) = quiet s n b q (tt, tt) tt

dropped_keeps : (s : Setup) (n : Node) (b : Broker) (c : ℕ) (o : Option Session) → Keeps s n b (drop_session c o)
dropped_keeps s n b c None = quiet s n b _ tt tt
dropped_keeps s n b c (Some v) = quiet s n b _ (tt, (tt, tt)) tt

reset_keeps : (s : Setup) (t x : ℕ) (b : Broker) (y : ℕ) → Keeps s (BrokerNode t x) b (reset (site s t x) b y)
unfolding reset
reset_keeps s t x b y =
    on_test (Keeps s (BrokerNode t x) b) (nat_lt y (length s.clusters) && not (y == x)) _ _
    (λ remote. quiet s (BrokerNode t x) b _ (tt, tt) (remote, tt)) (λ _. quiet s (BrokerNode t x) b idle_plan tt tt)

serve_keeps : (s : Setup) (x c : ℕ) (b : Broker) (p : Option Packet) → is_input s (node_of s (event.Serve x c)) (Some (peer.Client c)) p ≡ true
    → Keeps s (node_of s (event.Serve x c)) b (serve (site s (declared_at s c).topic x) b c p)
unfolding serve
serve_keeps s x c b None took = quiet s _ b idle_plan tt tt
serve_keeps s x c b (Some p) took = served_keeps s _ (site s (declared_at s c).topic x) b c p _ took (frame_served _ b c p p.frame refl)

take_keeps : (s : Setup) (t x y : ℕ) (f : _) (b : Broker) (p : Option Packet) → is_input s (BrokerNode t y) (Some (peer.Back x)) p ≡ true
    → Keeps s (BrokerNode t y) b (take_packet (site s t y) b x f p)
unfolding take_packet
take_keeps s t x y f b None took = quiet s (BrokerNode t y) b idle_plan tt tt
take_keeps s t x y f b (Some p) took =
    fated_keeps s (BrokerNode t y) s.per_ledger b (λ c. Taken (site s t y) c x p) (closes x) _
    (λ c q taken. taken_always s (BrokerNode t y) (site s t y) c x p q took taken) (always s (BrokerNode t y) (closes x) (tt, tt) tt) (fate_taken (site s t y) b x p f)

receipt_keeps : (s : Setup) (t x y : ℕ) (f : _) (b : Broker) (p : Option Packet) → Keeps s (BrokerNode t x) b (receipt (site s t x) b y f p)
unfolding receipt
receipt_keeps s t x y f b None = quiet s (BrokerNode t x) b idle_plan tt tt
receipt_keeps s t x y f b (Some p) =
    fated_keeps s (BrokerNode t x) s.per_ledger b (λ c. Answered c y p) (quiet_plan []) _
    (λ c q answered. answered_always s (BrokerNode t x) c y p q answered) (always s (BrokerNode t x) (quiet_plan []) tt tt) (fate_answered (site s t x) b y p f)

-- of every event, with what it may take
pub plan_keeps : (s : Setup) (b : Broker) (e : Event) (p : Option Packet) → is_input s (node_of s e) (takes_from (BrokerState b) e) p ≡ true
    → Keeps s (node_of s e) b (broker_plan s b e p)
unfolding drop_client restart
plan_keeps s b (event.Serve x c) p took = serve_keeps s x c b p took
plan_keeps s b (event.Drop x c) p took = dropped_keeps s _ b c (session_at b c)
plan_keeps s b (event.Reset t x y) p took = reset_keeps s t x b y
plan_keeps s b (event.Read t x y) p took = reads_keeps s t x b y _ (read_shape (site s t x) b y)
plan_keeps s b (event.Take t x y f) p took = take_keeps s t x y f b p took
plan_keeps s b (event.Receipt t x y f) p took = receipt_keeps s t x y f b p
plan_keeps s b (event.Snap t x) p took = snaps_keeps s _ (site s t x) b _ (snap_shape (site s t x) b)
plan_keeps s b (event.Offer t x n) p took = offers_keeps s _ (site s t x) b (sub_name s t n) _ (offer_shape (site s t x) b (sub_name s t n))
plan_keeps s b (event.Seek t x n to) p took = seeks_keeps s _ (site s t x) b (sub_name s t n) to _ (seek_shape (site s t x) b (sub_name s t n) to)
plan_keeps s b (event.Restart t x) p took = quiet s _ b restart (tt, tt) tt
plan_keeps s b (event.Go c) p took = quiet s _ b idle_plan tt tt
plan_keeps s b (event.Get c) p took = quiet s _ b idle_plan tt tt
plan_keeps s b (event.Reconnect c) p took = quiet s _ b idle_plan tt tt

-- by the node's number
abbrev pub CountsAt : Setup → ℕ → ℕ → Type 0
CountsAt s n c = (has_client s c && ((declared_at s c).topic == n / length s.clusters)) ≡ true

abbrev pub ServedAt : Setup → ℕ → Broker → Type 0
ServedAt s n b = AllServed (CountsAt s n) b

same_counts : (s : Setup) (n t x : ℕ) (b : Broker) → n / length s.clusters ≡ t → ServedAt s n b → AllServed (IsOf s (BrokerNode t x)) b
same_counts s n t x b e h = subst (λ (i : ℕ). AllServed (λ c. (has_client s c && ((declared_at s c).topic == i)) ≡ true) b) e h

same_again : (s : Setup) (n t x : ℕ) (b : Broker) → n / length s.clusters ≡ t → AllServed (IsOf s (BrokerNode t x)) b → ServedAt s n b
same_again s n t x b e h = subst (λ (i : ℕ). AllServed (λ c. (has_client s c && ((declared_at s c).topic == i)) ≡ true) b) (sym e) h

-- an event of the broker of a number, at a state where permits are so
pub record IsNext (s : Setup) (n : ℕ) (b : Broker) (e : Event) (p : Option Packet) : Type 0 where
  pub here : node_number s (node_of s e) ≡ n
  pub in_range : is_event s e ≡ true
  pub took : is_input s (node_of s e) (takes_from (BrokerState b) e) p ≡ true

pub record Peered (s : Setup) (n : ℕ) (b : Broker) (e : Event) (p : Option Packet) : Type 0 where
  pub sends : Each (ToPeer s (node_of s e)) (broker_plan s b e p).sent
  pub after : ServedAt s n (done s.per_ledger b (broker_plan s b e p))

pub next_peered : (s : Setup) (n : ℕ) (b : Broker) (e : Event) (p : Option Packet) → n < broker_count s → ServedAt s n b → IsNext s n b e p → Peered s n b e p
next_peered s n b e p lt h next = by (node_of s e) refl
  where
    keeps : Keeps s (node_of s e) b (broker_plan s b e p)
    keeps = plan_keeps s b e p next.took

    by : (u : Node) → node_of s e ≡ u → Peered s n b e p
    by (ClientNode c) is =
        let here : broker_count s + c ≡ n = sym (ap (node_number s) is) ∙ next.here in
        absurd (omega (arith, here, lt))
    by (BrokerNode t x) is =
        let here : node s t x ≡ n = sym (ap (node_number s) is) ∙ next.here in
        let there : has_node s t x ≡ true = subst (λ (u : Node). is_node s u ≡ true) is (right (in_range s e) _ next.in_range) in
        let within : x < length s.clusters = ltb-true _ _ (right (nat_lt t (length s.topics)) _ there) in
        let topic : n / length s.clusters ≡ t = ap (λ (i : ℕ). i / length s.clusters) (sym here) ∙ div-mul-add t (length s.clusters) x within in
        let k : Keeps s (BrokerNode t x) b (broker_plan s b e p) = subst (λ (u : Node). Keeps s u b (broker_plan s b e p)) is keeps in
        let h' = same_counts s n t x b topic h in
        record {
          sends = subst (λ (u : Node). Each (ToPeer s u) (broker_plan s b e p).sent) (sym is) (k.sends h');
          after = same_again s n t x (done s.per_ledger b (broker_plan s b e p)) topic (done_has (IsOf s (BrokerNode t x)) s.per_ledger b (broker_plan s b e p) k.gives h');
        }
