-- Each event keeps it that the kept world stands for the machine's.
use Rattle.std.proofs.Common.{◌≡◌, ℕ, ◌+◌, Bool, true, false, List, [], ◌∷◌, length, map, refl, sym, ◌∙◌, ap, subst}
use Rattle.std.specs.Prelude.{Option, Some, None, IfSome, if◌then◌else◌, slice_index, slice_index_or, slice_set}
use Rattle.std.specs.List.{AllByRecursion}
use Rattle.geo_base.specs.declared.event.Event.{Event}
use Rattle.geo_base.specs.declared.event.Event.TheVariants as event
use Rattle.geo_base.specs.declared.frame.Frame.{Frame}
use Rattle.geo_base.specs.declared.frame.Frame.TheVariants as frame
use Rattle.geo_base.specs.declared.packet.Out.{Out}
use Rattle.geo_base.specs.declared.packet.Packet.{Packet}
use Rattle.geo_base.specs.Broker.{Broker, no_broker}
use Rattle.geo_base.specs.Client.{Acted, Client, unconnected}
use Rattle.geo_base.specs.Getting.{get}
use Rattle.geo_base.specs.FrameSizes.{sent_bytes}
use Rattle.geo_base.specs.Happening.{broker_does, broker_halts, client_acted as machine_acted, client_does, does_planned, halts_planned, happens, idles, next_stamp, stops}
use Rattle.geo_base.specs.Link.{next_packet}
use Rattle.geo_base.specs.Plan.{Plan, done, halted}
use Rattle.geo_base.specs.Planned.{Planned, has_client, in_range, planned, planned_in}
use Rattle.geo_base.specs.Run.{all_limits, or_else}
use Rattle.geo_base.specs.Seeking.{restart}
use Rattle.geo_base.specs.Setup.{Declared, Setup, declared_at}
use Rattle.geo_base.specs.World.{LinkName as MachineLink, Links, ToClient, World, client_at, delivered as machine_delivered, from_broker, from_client, link_at, node, opening_world, packet_at, taken_from as machine_taken}
use Rattle.std.proofs.lemmas.Bool.{false≢true}
use Rattle.std.proofs.lemmas.Option.{none-some}
use Rattle.frame_laws.specs.BytePackets.{StandsForPacket}
use Rattle.frame_values.proofs.One.{written_stands}
use Rattle.frame_values.specs.Told.{IsTold}
use Rattle.frame_values.specs.Texts.{is_readable}
use Rattle.links.proofs.Simulated.{broker_stands, bytes_stand, client_stands, got_stands, opening_stands, packet_stands, stamp_is, stopped_stands, taken_stands}
use Rattle.links.specs.declared.name.LinkName.{LinkName}
use Rattle.links.specs.declared.name.LinkName.TheVariants as name
use Rattle.links.specs.declared.name.Node.TheVariants as wire_node
use Rattle.geo_base.specs.declared.packet.WireOut.{WireOut}
use Rattle.wire_ends.specs.declared.packet.WirePacket.{WirePacket}
use Rattle.links.specs.Each.{Both, both, neither, none as none_sent}
use Rattle.links.specs.Names.{taken_name}
use Rattle.links.specs.Queues.{bytes_of, delivered, packet_on, taken_from}
use Rattle.links.specs.Standing.{IsReadableOut, LinksStand, OutsStand, PacketStands}
use Rattle.kept_laws.specs.Events.{IsBrokers, cluster_of, node_of, plan_in, sender_of, takes_of, topic_of}
use Rattle.kept_laws.specs.Kept.{Kept, all_stopped, broker_acted, broker_stopped, client_acted, idled, opening_kept, stamp_at}
use Rattle.kept_laws.specs.Standing.{Stands, limit_of}
use Rattle.world_laws.specs.Frames.{AllFrames, IsReadable}
use Rattle.world_laws.specs.Reached.{AreReadable, IsGround}

-- THE OPENING WORLD, AND COUNTS

pub opening : (s : Setup) → Stands s (opening_kept s) (opening_world s)
opening s = record {
  brokers = refl;
  clients = refl;
  links = opening_stands s;
  broker_clocks = refl;
  client_clocks = refl;
  events = refl;
  idle = refl;
  rounds = refl;
  frame_bytes = refl;
}

limit_is : (a b : Bool) → or_else (if a then Some 2 else None) (if b then Some 3 else None) ≡ (if a then Some 2 else if b then Some 3 else None)
limit_is true b = refl
limit_is false b = refl

pub counts : (s : Setup) (k : Kept) (w : World) → Stands s k w → all_limits w ≡ limit_of k.events k.idle k.frame_bytes
counts s k w h = rw (h.events, h.idle, h.frame_bytes) (limit_is _ _)

idled_stands : (s : Setup) (k : Kept) (w : World) → Stands s k w → Stands s (idled k) (idles w)
idled_stands s k w h = record {
  brokers = h.brokers;
  clients = h.clients;
  links = h.links;
  broker_clocks = h.broker_clocks;
  client_clocks = h.client_clocks;
  events = h.events;
  idle = ap (λ (n : ℕ). n + 1) h.idle;
  rounds = h.rounds;
  frame_bytes = h.frame_bytes;
}

-- PACKETS

readable : (f : Frame) → IsReadable f → is_readable f ≡ true
readable frame.Unreadable h = absurd h
readable f h = refl

readable_outs : (vs : List Out) → AreReadable vs → AllByRecursion IsReadableOut vs
readable_outs [] h = tt
readable_outs (v ∷ vs) h = (readable v.frame h.0, readable_outs vs h.1)

-- an event sends as many bytes as the machine counts
sent_is : (names : List (List ℕ)) (os : List WireOut) (vs : List Out) (n m : ℕ) → OutsStand names os vs → AreReadable vs → n ≡ m
    → n + bytes_of os ≡ m + sent_bytes names vs
sent_is names os vs n m sent read is = rw (is, bytes_stand names os vs sent (readable_outs vs read)) refl

-- its stamp is the machine's
stamp_stands : (names : List (List ℕ)) (takes : Option LinkName) (k : Kept) (ms : Links) (clocks machine : List ℕ) (n : ℕ) → LinksStand names k.links ms → clocks ≡ machine
    → stamp_at clocks n k.links takes ≡ next_stamp (slice_index machine n) (packet_at ms (taken_name (length names) takes))
stamp_stands names takes k ms clocks machine n links is = rw (is, stamp_is names takes k.links ms links) refl

-- what a packet that stands on a link says, its text tells
told_at : (s : Setup) (w : World) → AllFrames (IsTold s.clusters) w → (o : Option MachineLink) (v : Packet) → packet_at w.links o ≡ Some v → IsTold s.clusters v.frame
told_at s w told None v at = absurd (none-some v at)
told_at s w told (Some j) v at = told j (link_at w.links j).taken v at

both_with : {A B : Type 0} (R S : A → B → Type 0) (T : B → Type 0) (x : Option A) (y : Option B) → ((b : B) → y ≡ Some b → T b) → ((a : A) (b : B) → R a b → T b → S a b)
    → Both R x y → Both S x y
both_with R S T _ _ has f neither = neither
both_with R S T (Some a) (Some b) has f (both r) = both (f a b r (has b refl))

input_stands : (names : List (List ℕ)) (p : WirePacket) (v : Packet) → PacketStands names p v → IsTold names v.frame → StandsForPacket names p v
input_stands names p v h is = record { session = sym h.session; stamp = sym h.stamp; frame = written_stands names v.frame p.frame h.frame is }

pub input : (s : Setup) (k : Kept) (w : World) (takes : Option LinkName) → AllFrames (IsTold s.clusters) w → Stands s k w
    → Both (StandsForPacket s.clusters) (packet_on k.links takes) (packet_at w.links (taken_name (length s.clusters) takes))
input s k w takes told h =
    let names = s.clusters in let o = taken_name (length names) takes in
    both_with (PacketStands names) (StandsForPacket names) (λ (v : Packet). IsTold names v.frame) (packet_on k.links takes) (packet_at w.links o)
    (λ v at. told_at s w told o v at) (input_stands names) (packet_stands names takes k.links w.links h.links)

-- EVENTS OF BROKERS

when_false : {X : Type 0} (P : X → Type 0) (b : Bool) (x y : X) → b ≡ false → P y → P (if b then x else y)
when_false P true x y is p = absurd (false≢true (sym is))
when_false P false x y is p = p

when_true : {X : Type 0} (P : X → Type 0) (b : Bool) (x y : X) → b ≡ true → P x → P (if b then x else y)
when_true P true x y is p = p
when_true P false x y is p = absurd (false≢true is)

acts : (s : Setup) (k : Kept) (w : World) (t x : ℕ) (takes : Option LinkName) (p : Plan) (os : List WireOut) → Stands s k w → p.idle ≡ false
    → OutsStand s.clusters os p.sent → AreReadable p.sent
    → Stands s (broker_acted k (node s t x) (wire_node.Broker t x) takes (done s.per_ledger (slice_index_or k.brokers (node s t x) no_broker) p) os)
    (broker_does s w (record { topic = t; cluster = x; takes = taken_name (length s.clusters) takes; plan = p }))
unfolding broker_does
acts s k w t x takes p os h busy sent read =
    let names = s.clusters in let n : ℕ = node s t x in
    let stamp = next_stamp (slice_index w.broker_clocks n) (packet_at w.links (taken_name (length names) takes)) in
    let same : stamp_at k.broker_clocks n k.links takes ≡ stamp = stamp_stands names takes k w.links k.broker_clocks w.broker_clocks n h.links h.broker_clocks in
    when_false (Stands s _) p.idle _ _ busy (record {
      brokers = ap (λ (bs : List Broker). slice_set bs n (done s.per_ledger (slice_index_or bs n no_broker) p)) h.brokers;
      clients = h.clients;
      links = subst (λ (st : ℕ). LinksStand names (taken_from takes (delivered (wire_node.Broker t x) st os k.links))
          (machine_taken (taken_name (length names) takes) (machine_delivered (from_broker s t x) stamp p.sent w.links)))
          (sym same) (broker_stands s t x stamp takes os p.sent k.links w.links h.links sent);
      broker_clocks = rw (same, h.broker_clocks) refl;
      client_clocks = h.client_clocks;
      events = ap (λ (m : ℕ). m + 1) h.events;
      idle = h.idle;
      rounds = h.rounds;
      frame_bytes = sent_is names os p.sent k.frame_bytes w.frame_bytes sent read h.frame_bytes;
    })

rests : (s : Setup) (k : Kept) (w : World) (p : Planned) → Stands s k w → p.plan.idle ≡ true → Stands s (idled k) (broker_does s w p)
unfolding broker_does
rests s k w p h idle = when_true (Stands s _) p.plan.idle _ _ idle (idled_stands s k w h)

stops_in : (s : Setup) (k : Kept) (w : World) (n t x : ℕ) (takes : Option LinkName) (p : Plan) → Stands s k w
    → Stands s (broker_stopped k (node s t x) takes (halted s.per_ledger (slice_index_or k.brokers (node s t x) no_broker) n p))
    (broker_halts s w n (record { topic = t; cluster = x; takes = taken_name (length s.clusters) takes; plan = p }))
unfolding broker_halts
stops_in s k w n t x takes p h = record {
  brokers = ap (λ (bs : List Broker). slice_set bs (node s t x) (halted s.per_ledger (slice_index_or bs (node s t x) no_broker) n p)) h.brokers;
  clients = h.clients;
  links = taken_stands s.clusters takes k.links w.links h.links;
  broker_clocks = h.broker_clocks;
  client_clocks = h.client_clocks;
  events = ap (λ (m : ℕ). m + 1) h.events;
  idle = h.idle;
  rounds = h.rounds;
  frame_bytes = h.frame_bytes;
}

-- which event it is
abbrev pub event_plan : Setup → World → Event → Planned
event_plan s w e = record { topic = topic_of s e; cluster = cluster_of e; takes = taken_name (length s.clusters) (takes_of e); plan = plan_in s w e }

happens_is : (s : Setup) (w : World) (e : Event) → IsBrokers e → happens s w e ≡ does_planned s w (planned s w e)
unfolding happens
happens_is s w (event.Serve x c) b = refl
happens_is s w (event.Drop x c) b = refl
happens_is s w (event.Reset t x y) b = refl
happens_is s w (event.Read t x y) b = refl
happens_is s w (event.Take t x y f) b = refl
happens_is s w (event.Receipt t x y f) b = refl
happens_is s w (event.Snap t x) b = refl
happens_is s w (event.Offer t x n) b = refl
happens_is s w (event.Seek t x n to) b = refl
happens_is s w (event.Restart t x) b = refl
happens_is s w (event.Go c) b = absurd b
happens_is s w (event.Get c) b = absurd b
happens_is s w (event.Reconnect c) b = absurd b

in_is : (s : Setup) (w : World) (e : Event) → IsBrokers e → planned_in s w e ≡ Some (event_plan s w e)
in_is s w (event.Serve x c) b = refl
in_is s w (event.Drop x c) b = refl
in_is s w (event.Reset t x y) b = refl
in_is s w (event.Read t x y) b = refl
in_is s w (event.Take t x y f) b = refl
in_is s w (event.Receipt t x y f) b = refl
in_is s w (event.Snap t x) b = refl
in_is s w (event.Offer t x n) b = refl
in_is s w (event.Seek t x n to) b = refl
in_is s w (event.Restart t x) b = refl
in_is s w (event.Go c) b = absurd b
in_is s w (event.Get c) b = absurd b
in_is s w (event.Reconnect c) b = absurd b

pub planned_is : (s : Setup) (w : World) (e : Event) → IsBrokers e → in_range s e ≡ true → planned s w e ≡ Some (event_plan s w e)
unfolding planned
planned_is s w e b within = ap (λ (t : Bool). if t then planned_in s w e else None) within ∙ in_is s w e b

pub done_is : (s : Setup) (w : World) (e : Event) → IsBrokers e → in_range s e ≡ true → happens s w e ≡ broker_does s w (event_plan s w e)
done_is s w e b within = happens_is s w e b ∙ ap (does_planned s w) (planned_is s w e b within)

read_plan : (s : Setup) (w : World) (e : Event) → IsBrokers e → in_range s e ≡ true → IsGround s w → AreReadable (plan_in s w e).sent
read_plan s w e b within g = subst (λ (o : Option Planned). IfSome o (λ p. AreReadable p.plan.sent)) (planned_is s w e b within) (g.sends e)

pub broker_done : (s : Setup) (k : Kept) (w : World) (e : Event) (os : List WireOut) → IsBrokers e → in_range s e ≡ true → IsGround s w → Stands s k w
    → (plan_in s w e).idle ≡ false → OutsStand s.clusters os (plan_in s w e).sent
    → Stands s (broker_acted k (node_of s e) (sender_of s e) (takes_of e) (done s.per_ledger (slice_index_or k.brokers (node_of s e) no_broker) (plan_in s w e)) os) (happens s w e)
broker_done s k w e os b within g h busy sent =
    subst (Stands s _) (sym (done_is s w e b within)) (acts s k w (topic_of s e) (cluster_of e) (takes_of e) (plan_in s w e) os h busy sent (read_plan s w e b within g))

pub broker_idle : (s : Setup) (k : Kept) (w : World) (e : Event) → IsBrokers e → in_range s e ≡ true → Stands s k w
    → (plan_in s w e).idle ≡ true → Stands s (idled k) (happens s w e)
broker_idle s k w e b within h idle = subst (Stands s _) (sym (done_is s w e b within)) (rests s k w (event_plan s w e) h idle)

pub broker_halted : (s : Setup) (k : Kept) (w : World) (n : ℕ) (e : Event) → IsBrokers e → in_range s e ≡ true → Stands s k w
    → Stands s (broker_stopped k (node_of s e) (takes_of e) (halted s.per_ledger (slice_index_or k.brokers (node_of s e) no_broker) n (plan_in s w e))) (halts_planned s w n (planned s w e))
broker_halted s k w n e b within h =
    subst (Stands s _) (sym (ap (halts_planned s w n) (planned_is s w e b within))) (stops_in s k w n (topic_of s e) (cluster_of e) (takes_of e) (plan_in s w e) h)

-- EVENTS OF CLIENTS

client_busy : (s : Setup) (k : Kept) (w : World) (c : ℕ) (a : Acted) (os : List WireOut) → Stands s k w → a.idle ≡ false → OutsStand s.clusters os a.sent → AreReadable a.sent
    → Stands s (client_acted k c (wire_node.Client c) None a.client os) (client_does s w c None a)
unfolding client_does
client_busy s k w c a os h busy sent read =
    let names = s.clusters in
    let stamp = next_stamp (slice_index w.client_clocks c) None in
    let same : stamp_at k.client_clocks c k.links None ≡ stamp = stamp_stands names None k w.links k.client_clocks w.client_clocks c h.links h.client_clocks in
    when_false (Stands s _) a.idle _ _ busy (record {
      brokers = h.brokers;
      clients = ap (λ (ms : List Client). slice_set ms c a.client) h.clients;
      links = subst (λ (st : ℕ). LinksStand names (delivered (wire_node.Client c) st os k.links) (machine_delivered (from_client c) stamp a.sent w.links))
          (sym same) (client_stands names c stamp os a.sent k.links w.links h.links sent);
      broker_clocks = h.broker_clocks;
      client_clocks = rw (same, h.client_clocks) refl;
      events = ap (λ (m : ℕ). m + 1) h.events;
      idle = h.idle;
      rounds = h.rounds;
      frame_bytes = sent_is names os a.sent k.frame_bytes w.frame_bytes sent read h.frame_bytes;
    })

client_took : (s : Setup) (k : Kept) (w : World) (c x : ℕ) (a : Acted) → Stands s k w → a.idle ≡ false → a.sent ≡ []
    → Stands s (client_acted k c (wire_node.Client c) (Some (name.ToClient c x)) a.client []) (client_does s w c (Some (ToClient c x)) a)
unfolding client_does
client_took s k w c x a h busy silent =
    let names = s.clusters in let takes : Option LinkName = Some (name.ToClient c x) in
    let stamp = next_stamp (slice_index w.client_clocks c) (packet_at w.links (Some (ToClient c x))) in
    let same : stamp_at k.client_clocks c k.links takes ≡ stamp = stamp_stands names takes k w.links k.client_clocks w.client_clocks c h.links h.client_clocks in
    let sent : OutsStand names [] a.sent = subst (OutsStand names []) (sym silent) none_sent in
    let read : AreReadable a.sent = subst AreReadable (sym silent) tt in
    when_false (Stands s _) a.idle _ _ busy (record {
      brokers = h.brokers;
      clients = ap (λ (ms : List Client). slice_set ms c a.client) h.clients;
      links = subst (λ (st : ℕ). LinksStand names (taken_from takes (delivered (wire_node.Client c) st [] k.links))
          (machine_delivered (from_client c) stamp a.sent (machine_taken (Some (ToClient c x)) w.links)))
          (sym same) (got_stands names c x stamp [] a.sent k.links w.links h.links sent);
      broker_clocks = h.broker_clocks;
      client_clocks = rw (same, h.client_clocks) refl;
      events = ap (λ (m : ℕ). m + 1) h.events;
      idle = h.idle;
      rounds = h.rounds;
      frame_bytes = sent_is names [] a.sent k.frame_bytes w.frame_bytes sent read h.frame_bytes;
    })

client_rests : (s : Setup) (k : Kept) (w : World) (c : ℕ) (o : Option MachineLink) (a : Acted) → Stands s k w → a.idle ≡ true → Stands s (idled k) (client_does s w c o a)
unfolding client_does
client_rests s k w c o a h idle = when_true (Stands s _) a.idle _ _ idle (idled_stands s k w h)

get_silent : (d : Declared) (m : Client) (o : Option Packet) → (get d m o).sent ≡ []
unfolding get
get_silent d m None = refl
get_silent d m (Some p) = refl

abbrev Goes : Setup → World → ℕ → Acted
Goes s w c = machine_acted s (client_at s w c) (event.Go c) None

abbrev Reconnects : Setup → World → ℕ → Acted
Reconnects s w c = machine_acted s (client_at s w c) (event.Reconnect c) None

abbrev Gets : Setup → World → ℕ → Acted
Gets s w c = machine_acted s (client_at s w c) (event.Get c) (next_packet (link_at w.links (ToClient c (client_at s w c).cluster)))

pub client_goes : (s : Setup) (k : Kept) (w : World) (c : ℕ) (os : List WireOut) → has_client s c ≡ true → IsGround s w → Stands s k w
    → (Goes s w c).idle ≡ false → OutsStand s.clusters os (Goes s w c).sent
    → Stands s (client_acted k c (wire_node.Client c) None (Goes s w c).client os) (happens s w (event.Go c))
unfolding happens
client_goes s k w c os has g h busy sent = when_true (Stands s _) (has_client s c) _ _ has (client_busy s k w c (Goes s w c) os h busy sent (g.goes c (client_at s w c) None has))

pub client_stays : (s : Setup) (k : Kept) (w : World) (c : ℕ) → has_client s c ≡ true → Stands s k w → (Goes s w c).idle ≡ true → Stands s (idled k) (happens s w (event.Go c))
unfolding happens
client_stays s k w c has h idle = when_true (Stands s _) (has_client s c) _ _ has (client_rests s k w c None (Goes s w c) h idle)

pub client_reconnects : (s : Setup) (k : Kept) (w : World) (c : ℕ) (os : List WireOut) → has_client s c ≡ true → IsGround s w → Stands s k w
    → (Reconnects s w c).idle ≡ false → OutsStand s.clusters os (Reconnects s w c).sent
    → Stands s (client_acted k c (wire_node.Client c) None (Reconnects s w c).client os) (happens s w (event.Reconnect c))
unfolding happens
client_reconnects s k w c os has g h busy sent =
    when_true (Stands s _) (has_client s c) _ _ has (client_busy s k w c (Reconnects s w c) os h busy sent (g.reconnects c (client_at s w c) None has))

pub client_gets : (s : Setup) (k : Kept) (w : World) (c : ℕ) → has_client s c ≡ true → Stands s k w → (Gets s w c).idle ≡ false
    → Stands s (client_acted k c (wire_node.Client c) (Some (name.ToClient c (client_at s w c).cluster)) (Gets s w c).client []) (happens s w (event.Get c))
unfolding happens
client_gets s k w c has h busy =
    when_true (Stands s _) (has_client s c) _ _ has (client_took s k w c (client_at s w c).cluster (Gets s w c) h busy (get_silent (declared_at s c) (client_at s w c) _))

pub client_waits : (s : Setup) (k : Kept) (w : World) (c : ℕ) → has_client s c ≡ true → Stands s k w → (Gets s w c).idle ≡ true → Stands s (idled k) (happens s w (event.Get c))
unfolding happens
client_waits s k w c has h idle = when_true (Stands s _) (has_client s c) _ _ has (client_rests s k w c (Some (ToClient c (client_at s w c).cluster)) (Gets s w c) h idle)

-- A STOP OF EVERYTHING

pub stop : (s : Setup) (k : Kept) (w : World) → Stands s k w
    → Stands s (all_stopped k (map (λ (b : Broker). done s.per_ledger b restart) k.brokers) (map unconnected k.clients)) (stops s w)
unfolding stops
stop s k w h = record {
  brokers = ap (λ (bs : List Broker). map (λ (b : Broker). done s.per_ledger b restart) bs) h.brokers;
  clients = ap (λ (ms : List Client). map unconnected ms) h.clients;
  links = stopped_stands s.clusters k.links w.links h.links;
  broker_clocks = h.broker_clocks;
  client_clocks = h.client_clocks;
  events = ap (λ (m : ℕ). m + 1) h.events;
  idle = h.idle;
  rounds = h.rounds;
  frame_bytes = h.frame_bytes;
}
