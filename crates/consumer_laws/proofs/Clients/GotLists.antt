-- Where each sub line is earliest and no step seeks, what is handed out is in what some client of the subscription got.
use Rattle.std.proofs.Common.{◌≡◌, ℕ, zero, suc, ◌<◌, Bool, true, false, List, [], ◌∷◌, ◌++◌, drop, length, map, refl, sym, ap, subst, ◌∙◌, ◌==◌, arith, inl, inr, not}
use Rattle.std.specs.Prelude.{Option, Some, None, ◌&&◌, if◌then◌else◌, is_some, nat_lt, slice_get, slice_index_or}
use Rattle.std.specs.List.{list_any}
use Rattle.std.specs.Str.{bytes_eq}
use Rattle.std.proofs.lemmas.Bool.{eqb-true, false≢true, lt-ltb}
use Rattle.std.proofs.lemmas.List.{get_or-set_same}
use Rattle.world_laws.proofs.Types.{Entry, Event, Frame, Held, Ident, Line, Packet, Position, SubKind}
use Rattle.world_laws.proofs.Types.event
use Rattle.world_laws.proofs.Types.frame
use Rattle.world_laws.proofs.Types.line
use Rattle.world_laws.proofs.Types.cluster_ref
use Rattle.geo_base.specs.Broker.{Broker, session_at}
use Rattle.geo_base.specs.Client.{Acted, Client, new_client, reconnect, unconnected}
use Rattle.geo_base.specs.Entry.{same_ident}
use Rattle.geo_base.specs.Getting.{get, got_frame, is_duplicate, is_number, publishes, received, with_receipt}
use Rattle.geo_base.specs.Going.{acks_all, acks_one, acks_to, first_held, go, go_line, most_unanswered}
use Rattle.geo_base.specs.Happening.{broker_does, broker_halts, client_does, does_planned, halts_planned, happens, stops}
use Rattle.geo_base.specs.Link.{next_packet}
use Rattle.geo_base.specs.Planned.{Planned, has_client, planned}
use Rattle.geo_base.specs.Settled.{messages_at, settled_by_command, settled_by_packet, settled_event, first_indexes, is_created, is_session}
use Rattle.geo_base.specs.Setup.{Declared, Setup, declared_at, nobody, topic_name}
use Rattle.geo_base.specs.World.{LinkName, ToBroker, ToClient, World, client_at, link_at, topic_at}
use Rattle.world_laws.proofs.Replicating.Cursors.{or_right}
use Rattle.world_laws.proofs.Induction.Frames.{at_set}
use Rattle.world_laws.proofs.Dispatching.Remembers.{any_left}
use Rattle.world_laws.proofs.Induction.Runs.{IsKeptOn}
use Rattle.world_laws.proofs.Dispatching.SubFrames.{each_at_place}
use Rattle.world_laws.proofs.Walks.Walk.{on_if, on_test}
use Rattle.world_laws.proofs.OnceInOrder.Members.{below_or}
use Rattle.consumer_laws.proofs.Worlds.Growing.{past_none}
use Rattle.consumer_laws.specs.Got.{AllEarliest, WasGot, is_seek}
use Rattle.consumer_laws.specs.Handed.{brings_ack, got_by, got_event, handed_event, is_ack, skipped_event}
use Rattle.consumer_laws.specs.Lines.{names_line, subs_to}
use Rattle.world_laws.proofs.Clients.CalmWalk.{IsNamed, IsSentBy}
use Rattle.world_laws.proofs.Clients.ClientLinks.{SentUp}
use Rattle.world_laws.proofs.Clients.Meeting.{MeetsAll}

-- ---- what was got stays got

abbrev Has : (Ident → Bool) → Client → Type 0
Has p k = list_any p k.got ≡ true

go_got : (s : Setup) (d : Declared) (k : Client) (l : Option Line) → (go_line s d k l).client.got ≡ k.got
go_got s d k None = refl
go_got s d k (Some line.Produce) = refl
go_got s d k (Some (line.Pub seq to key text)) = on_if (λ (a : Acted). a.client.got ≡ k.got) (is_some k.produce && nat_lt (length k.unanswered) most_unanswered) _ _ refl refl
go_got s d k (Some (line.Sub n kind earliest replicated)) = refl
go_got s d k (Some (line.Flow permits)) = on_if (λ (a : Acted). a.client.got ≡ k.got) (is_some k.sub) _ _ refl refl
go_got s d k (Some (line.Ack i)) = by (first_held k.held i)
  where
    by : (o : Option Position) → (acks_one k i o).client.got ≡ k.got
    by None = refl
    by (Some p) = refl
go_got s d k (Some (line.AckTo i)) = by (first_held k.held i)
  where
    by : (o : Option Position) → (acks_to k o).client.got ≡ k.got
    by None = refl
    by (Some p) = refl
go_got s d k (Some line.AckAll) = by k.held
  where
    by : (hs : List Held) → (acks_all k hs).client.got ≡ k.got
    by [] = refl
    by (h ∷ hs) = refl
go_got s d k (Some line.Unsub) = on_if (λ (a : Acted). a.client.got ≡ k.got) (is_some k.sub) _ _ refl refl
go_got s d k (Some line.Close) = on_if (λ (a : Acted). a.client.got ≡ k.got) (is_some k.sub) _ _ refl refl
go_got s d k (Some line.CloseProducer) = on_if (λ (a : Acted). a.client.got ≡ k.got) (is_some k.produce && (length k.unanswered == 0)) _ _ refl refl
go_got s d k (Some line.Ping) = refl
go_got s d k (Some (line.Move x)) = refl

go_has : (s : Setup) (d : Declared) (k : Client) (p : Ident → Bool) → Has p k → Has p (go s d k).client
unfolding go
go_has s d k p h =
    on_if (λ (a : Acted). Has p a.client) k.connected _ _ (subst (λ (l : List Ident). list_any p l ≡ true) (sym (go_got s d k (slice_get d.lines k.done))) h) h

reconnect_has : (s : Setup) (d : Declared) (k : Client) (p : Ident → Bool) → Has p k → Has p (reconnect s d k).client
unfolding reconnect
reconnect_has s d k p h = h

received_has : (k : Client) (id : ℕ) (i : Ident) (q : Position) (p : Ident → Bool) → Has p k → Has p (received k id i q)
received_has k id i q p h = on_if (Has p) (is_number id k.sub) _ _ (any_left p k.got (i ∷ []) h) h

frame_has : (d : Declared) (k : Client) (f : Frame) (p : Ident → Bool) → Has p k → Has p (got_frame d k f)
frame_has d k (frame.SendReceipt id n q) p h = on_if (Has p) (list_any (publishes d n) k.unanswered) _ _ (by (is_duplicate q)) h
  where
    by : (t : Bool) → list_any p (with_receipt k t).got ≡ true
    by true = h
    by false = h
frame_has d k (frame.SendError id n code) p h = on_if (Has p) (list_any (publishes d n) k.unanswered) _ _ h h
frame_has d k (frame.Error request code) p h = h
frame_has d k (frame.Message id q None e) p h = received_has k id _ q p h
frame_has d k (frame.Message id q (Some (cluster_ref.Known x)) e) p h = received_has k id _ q p h
frame_has d k (frame.Message id q (Some (cluster_ref.Stranger name)) e) p h = h
frame_has d k f p h = h

get_has : (d : Declared) (k : Client) (o : Option Packet) (p : Ident → Bool) → Has p k → Has p (get d k o).client
unfolding get
get_has d k None p h = h
get_has d k (Some q) p h = on_if (Has p) (q.session == k.connection) _ _ (frame_has d k q.frame p h) h

abbrev pub GotOf : Setup → World → (Ident → Bool) → ℕ → Type 0
GotOf s w p c = Has p (client_at s w c)

acted_has : (s : Setup) (w : World) (z : ℕ) (l : Option LinkName) (a : Acted) (p : Ident → Bool) → (Has p (client_at s w z) → Has p a.client) → (c : ℕ) → GotOf s w p c → GotOf s (client_does s w z l a) p c
unfolding client_does
acted_has s w z l a p f c h =
    on_if (λ (w' : World). GotOf s w' p c) a.idle _ _ h
    (at_set (Has p) w.clients z c a.client (new_client (declared_at s c)) (λ same. f (mine same)) h)
  where
    mine : z ≡ c → Has p (client_at s w z)
    mine same = subst (λ (x : ℕ). Has p (client_at s w x)) (sym same) h

does_has : (s : Setup) (w : World) (o : Option Planned) (p : Ident → Bool) (c : ℕ) → GotOf s w p c → GotOf s (does_planned s w o) p c
unfolding broker_does
does_has s w None p c h = h
does_has s w (Some q) p c h = on_if (λ (w' : World). GotOf s w' p c) q.plan.idle _ _ h h

event_has : (s : Setup) (w : World) (e : Event) (p : Ident → Bool) (c : ℕ) → GotOf s w p c → GotOf s (happens s w e) p c
unfolding happens
event_has s w (event.Go z) p c h =
    on_if (λ (w' : World). GotOf s w' p c) (has_client s z) _ _ (acted_has s w z None _ p (go_has s (declared_at s z) (client_at s w z) p) c h) h
event_has s w (event.Reconnect z) p c h =
    on_if (λ (w' : World). GotOf s w' p c) (has_client s z) _ _ (acted_has s w z None (reconnect s (declared_at s z) (client_at s w z)) p (reconnect_has s (declared_at s z) (client_at s w z) p) c h) h
event_has s w (event.Get z) p c h =
    on_if (λ (w' : World). GotOf s w' p c) (has_client s z) _ _ (acted_has s w z _ _ p (get_has (declared_at s z) (client_at s w z) _ p) c h) h
event_has s w e p c h = does_has s w (planned s w e) p c h

halt_has : (s : Setup) (w : World) (m : ℕ) (o : Option Planned) (p : Ident → Bool) (c : ℕ) → GotOf s w p c → GotOf s (halts_planned s w m o) p c
unfolding broker_halts
halt_has s w m None p c h = h
halt_has s w m (Some q) p c h = h

stop_has : (s : Setup) (w : World) (p : Ident → Bool) (c : ℕ) → GotOf s w p c → GotOf s (stops s w) p c
unfolding stops
stop_has s w p c h = by w.clients c h
  where
    by : (ks : List Client) (i : ℕ) → Has p (slice_index_or ks i (new_client (declared_at s c))) → Has p (slice_index_or (map unconnected ks) i (new_client (declared_at s c)))
    by [] i g = g
    by (k ∷ ks) zero g = g
    by (k ∷ ks) (suc i) g = by ks i g

-- from a world v on
abbrev pub StaysGot : Setup → World → World → Type 0
StaysGot s v w = (p : Ident → Bool) (c : ℕ) → GotOf s v p c → GotOf s w p c

pub stays_got : (s : Setup) (v : World) → IsKeptOn s (StaysGot s v)
stays_got s v = record {
  idle = λ w n h. h;
  round = λ w n h. h;
  event = λ w e h p c g. event_has s w e p c (h p c g);
  halts = λ w m e h p c g. halt_has s w m (planned s w e) p c (h p c g);
  stop = λ w h p c g. stop_has s w p c (h p c g);
}

pub was_stays : (s : Setup) (v w : World) (t : ℕ) (n : List ℕ) (e : Entry) → StaysGot s v w → WasGot s v t n e → WasGot s w t n e
was_stays s v w t n e h g = record { client = g.client; topic = g.topic; line = g.line; names = g.names; got = h (same_ident e.ident) g.client g.got }

-- ---- what a get hands out is got

any_drop : (p : Ident → Bool) (n : ℕ) (xs : List Ident) → list_any p (drop n xs) ≡ true → list_any p xs ≡ true
any_drop p zero xs h = h
any_drop p (suc n) [] h = h
any_drop p (suc n) (x ∷ xs) h = or_right (p x) (list_any p xs) (any_drop p n xs h)

-- the client after it
acted_is : (s : Setup) (w : World) (c : ℕ) (l : Option LinkName) (a : Acted) (p : Ident → Bool) → c < length w.clients → (a.idle ≡ true → a.client ≡ client_at s w c) → Has p a.client → GotOf s (client_does s w c l a) p c
unfolding client_does
acted_is s w c l a p lt same h =
    on_test (λ (w' : World). GotOf s w' p c) a.idle _ _ (λ idle. subst (Has p) (same idle) h)
    (λ busy. subst (Has p) (sym (get_or-set_same w.clients c a.client (new_client (declared_at s c)) lt)) h)

get_idle : (d : Declared) (k : Client) (o : Option Packet) → (get d k o).idle ≡ true → (get d k o).client ≡ k
unfolding get
get_idle d k None h = refl
get_idle d k (Some p) h = absurd (false≢true h)

-- the line of the subscription
record SubOf (d : Declared) (o : Option ℕ) (n : List ℕ) : Type 0 where
  line : ℕ
  names : names_line n (slice_get d.lines line) ≡ true

sub_of : (d : Declared) (o : Option ℕ) (n : List ℕ) → subs_to d o n ≡ true → SubOf d o n
sub_of d None n h = absurd (false≢true h)
sub_of d (Some i) n h = record { line = i; names = h }

-- who has a line is a client of the setup
line_there : (s : Setup) (c i : ℕ) (n : List ℕ) → names_line n (slice_get (declared_at s c).lines i) ≡ true → c < length s.clients
line_there s c i n h =
    elim (below_or c (length s.clients)) [
      | inl lt ↦ lt
      | inr le ↦ absurd (false≢true (subst (λ (d : Declared). names_line n (slice_get d.lines i) ≡ true) (past_none s.clients c nobody le) h))
    ]

pub get_got : (s : Setup) (w : World) (c t : ℕ) (n : List ℕ) (e : Entry) → length w.clients ≡ length s.clients → list_any (same_ident e.ident) (got_event s w t n (event.Get c)) ≡ true
    → WasGot s (happens s w (event.Get c)) t n e
unfolding happens
get_got s w c t n e size h =
    on_test (λ (l : List Ident). list_any (same_ident e.ident) l ≡ true → WasGot s (happens s w (event.Get c)) t n e) (d.topic == t) (got_by d k o n) []
    (λ topic. on_test (λ (l : List Ident). list_any (same_ident e.ident) l ≡ true → WasGot s (happens s w (event.Get c)) t n e) (subs_to d k.sub n) (drop (length k.got) (get d k o).client.got) []
    (λ subs g. was topic (sub_of d k.sub n subs) g) (λ none g. absurd (false≢true g))) (λ other g. absurd (false≢true g)) h
  where
    d : Declared
    d = declared_at s c

    k : Client
    k = client_at s w c

    o : Option Packet
    o = next_packet (link_at w.links (ToClient c k.cluster))

    was : (d.topic == t) ≡ true → SubOf d k.sub n → list_any (same_ident e.ident) (drop (length k.got) (get d k o).client.got) ≡ true → WasGot s (happens s w (event.Get c)) t n e
    was topic l g = record {
      client = c;
      topic = eqb-true d.topic t topic;
      line = l.line;
      names = l.names;
      got =
          let small = line_there s c l.line n l.names in
          on_test (λ (w' : World). GotOf s w' (same_ident e.ident) c) (has_client s c) _ _
          (λ has. acted_is s w c (Some (ToClient c k.cluster)) (get d k o) (same_ident e.ident) (omega (arith, small, size)) (get_idle d k o)
          (any_drop (same_ident e.ident) (length k.got) (get d k o).client.got g))
          (λ none. absurd (false≢true (sym none ∙ lt-ltb c (length s.clients) small)));
    }

-- ---- nothing is passed over but by acknowledgements

command_none : (n : List ℕ) (b : Broker) (topic : List ℕ) (c : ℕ) (d : Declared) (f : Frame) → ((i : ℕ) (m : List ℕ) (kind : SubKind) (earliest replicated : Bool)
    → slice_get d.lines i ≡ Some (line.Sub m kind earliest replicated) → earliest ≡ true) → IsNamed d f → is_ack f ≡ false → settled_by_command n b topic c f ≡ []
command_none n b topic c d (frame.Ack id kind ps) all named other = absurd (false≢true (sym other))
command_none n b topic c d (frame.Subscribe to m kind id request consumer earliest replicated) all named other =
    let early = all id m kind earliest replicated named in
    subst (λ (e : Bool). (if bytes_eq m n && not e && is_created b topic c to m then first_indexes (length b.entries) else []) ≡ []) (sym early) (none (bytes_eq m n) (is_created b topic c to m) (first_indexes (length b.entries)))
  where
    none : (x y : Bool) (l : List ℕ) → (if x && not true && y then l else []) ≡ []
    none true y l = refl
    none false y l = refl
command_none n b topic c d f all named other = refl

packet_none : (s : Setup) (w : World) (x c : ℕ) (n : List ℕ) (b : Broker) (topic : List ℕ) (o : Option Packet) → AllEarliest s → MeetsAll s c w → next_packet (link_at w.links (ToBroker c x)) ≡ o → brings_ack o ≡ false
    → settled_by_packet n b topic c o ≡ []
packet_none s w x c n b topic None all m next other = refl
packet_none s w x c n b topic (Some p) all m next other =
    let d = declared_at s c in
    let up = each_at_place (λ (q : Packet). IsSentBy (client_at s w c).connection d q.session q.frame) (SentUp w.links c x) (link_at w.links (ToBroker c x)).taken p (m.up x) next in
    on_if (λ (is : List ℕ). is ≡ []) (is_session p.session (session_at b c)) (settled_by_command n b topic c p.frame) [] (command_none n b topic c d p.frame (λ i. all c i) up.named other) refl

skipped_none : (s : Setup) (w : World) (t : ℕ) (n : List ℕ) (e : Event) → AllEarliest s → ((c : ℕ) → MeetsAll s c w) → is_seek e ≡ false → skipped_event s w t n e ≡ []
unfolding settled_event
skipped_none s w t n (event.Serve x c) all m quiet =
    let b = topic_at s w t x in let o = next_packet (link_at w.links (ToBroker c x)) in
    on_test (λ (l : List Ident). l ≡ []) (brings_ack o) [] _ (λ ack. refl)
    (λ other. on_if (λ (l : List Ident). l ≡ []) ((declared_at s c).topic == t) (messages_at b.entries (settled_by_packet n b (topic_name s t) c o)) []
    (ap (messages_at b.entries) (packet_none s w x c n b (topic_name s t) o all (m c) refl other)) refl)
skipped_none s w t n (event.Seek u x k to) all m quiet = absurd (false≢true (sym quiet))
skipped_none s w t n e all m quiet = refl

-- ---- what an event hands out is got

got_none : (s : Setup) (w : World) (t : ℕ) (n : List ℕ) (e : Event) (x : Entry) → list_any (same_ident x.ident) (got_event s w t n e) ≡ true → length w.clients ≡ length s.clients
    → WasGot s (happens s w e) t n x
got_none s w t n (event.Get c) x h size = get_got s w c t n x size h
got_none s w t n e x h size = absurd (false≢true h)

pub event_got : (s : Setup) (w : World) (t : ℕ) (n : List ℕ) (e : Event) (x : Entry) → AllEarliest s → ((c : ℕ) → MeetsAll s c w) → is_seek e ≡ false
    → list_any (same_ident x.ident) (handed_event s w t n e) ≡ true → WasGot s (happens s w e) t n x
event_got s w t n e x all m quiet h =
    got_none s w t n e x (subst (λ (l : List Ident). list_any (same_ident x.ident) (l ++ got_event s w t n e) ≡ true) (skipped_none s w t n e all m quiet) h) (m 0).size

pub behind_none : (s : Setup) (w : World) (k t : ℕ) (n : List ℕ) (e : Event) (x : Entry) → AllEarliest s → ((c : ℕ) → MeetsAll s c w) → is_seek e ≡ false
    → list_any (same_ident x.ident) (if nat_lt 0 k then skipped_event s w t n e else []) ≡ true → ⊥
behind_none s w k t n e x all m quiet h =
    on_if (λ (l : List Ident). l ≡ [] → ⊥) (nat_lt 0 k) (skipped_event s w t n e) [] (λ is. contra _ is) (λ is. contra _ is) (empty (nat_lt 0 k))
  where
    empty : (b : Bool) → (if b then skipped_event s w t n e else []) ≡ []
    empty true = skipped_none s w t n e all m quiet
    empty false = refl

    contra : (l : List Ident) → l ≡ [] → ⊥
    contra l is = false≢true (subst (λ (y : List Ident). list_any (same_ident x.ident) y ≡ true) (empty (nat_lt 0 k)) h)
