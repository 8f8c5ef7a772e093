-- What an event of a broker needs of the world that it is done in: whose it is, and the numbers that rise.
use Rattle.std.proofs.Common.{◌≡◌, ℕ, ◌+◌, ◌*◌, ◌^◌, ◌<◌, ◌≤◌, true, List, [], ◌∷◌, length, refl, sym, ◌∙◌, ap, subst, arith}
use Rattle.std.proofs.lemmas.Bool.Decides.{nat_tests}
use Rattle.std.proofs.lemmas.List.{get_or-map, length-map}
use Rattle.std.specs.Prelude.{Option, IfSome, nat_lt, ◌&&◌, slice_index, slice_index_or}
use Rattle.std.specs.List.{AllByRecursion}
use Rattle.std.specs.Str.{bytes_eq}
use Rattle.geo_base.specs.declared.event.Event.{Event}
use Rattle.geo_base.specs.declared.event.Event.TheVariants as event
use Rattle.geo_base.specs.Broker.{Broker, Site, no_broker, sub_named}
use Rattle.geo_base.specs.Planned.{in_range}
use Rattle.geo_base.specs.Run.{most_events}
use Rattle.geo_base.specs.Scripted.{IsScripted, is_declared}
use Rattle.geo_base.specs.Setup.{Setup, declared_at, nobody, sub_names}
use Rattle.geo_base.specs.Subscription.{Subscription}
use Rattle.geo_base.specs.Topic.{next_marker}
use Rattle.geo_base.specs.World.{World, broker_at}
use Rattle.script_text.specs.Scenario.{IsEvent}
use Rattle.broker.specs.Events.{HasNextMarker, IsClients, IsHere, IsLink, IsNodeOf, IsOfNode, IsOfTopic, MarkerRises, NumbersRise, SeekRises, SessionRises, name_at}
use Rattle.broker.specs.Node.{BrokerView}
use Rattle.links.proofs.Simulated.{stamp_is}
use Rattle.links.specs.declared.name.LinkName.{LinkName}
use Rattle.links.specs.Names.{taken_name}
use Rattle.links.specs.Queues.{packet_on, stamp_of}
use Rattle.kept_laws.specs.Events.{IsBrokers, cluster_of, node_of, topic_of}
use Rattle.kept_laws.specs.Kept.{Kept, stamp_at}
use Rattle.kept_laws.specs.Standing.{Stands}
use Rattle.world_laws.proofs.Counters.Bounds.{packet_within}
use Rattle.world_laws.proofs.Merges.ClientRoams.{all_index}
use Rattle.kept_laws.proofs.Reaching.{ground}
use Rattle.world_laws.proofs.Replicating.Sizes.{node_lt}
use Rattle.world_laws.proofs.Walks.Walk.{on_if}
use Rattle.world_laws.specs.Reached.{IsGround}
use Rattle.world_laws.specs.Starts.{most_at_start}
use Rattle.world_laws.specs.Within.{BrokerWithin}
use Rattle.world.specs.World.{IsAt, IsWithin, SameWorld, WorldView, brokers_of, kept_of, no_node, node_at}
use Rattle.geo_base.proofs.Bools.{and_of_both}

-- ---- numbers in range

client_topic : (s : Setup) (c : ℕ) → IsScripted s → c < length s.clients → (declared_at s c).topic < length s.topics
client_topic s c scripted lt =
    let declared : is_declared s (declared_at s c) ≡ true = all_index (is_declared s) s.clients c nobody scripted.clients.0 lt in
    grind (arith, nat_tests, declared)

topic_in : (s : Setup) (e : Event) → IsScripted s → IsBrokers e → IsEvent s e → topic_of s e < length s.topics
topic_in s (event.Serve x c) scripted b h = client_topic s c scripted h.1
topic_in s (event.Drop x c) scripted b h = client_topic s c scripted h.1
topic_in s (event.Reset t x y) scripted b h = h.topic_in
topic_in s (event.Read t x y) scripted b h = h.topic_in
topic_in s (event.Take t x y f) scripted b h = h.0.topic_in
topic_in s (event.Receipt t x y f) scripted b h = h.0.topic_in
topic_in s (event.Snap t x) scripted b h = h.0
topic_in s (event.Offer t x n) scripted b h = h.0.0
topic_in s (event.Seek t x n to) scripted b h = h.0.0.0
topic_in s (event.Restart t x) scripted b h = h.0
topic_in s (event.Go c) scripted b h = absurd b
topic_in s (event.Get c) scripted b h = absurd b
topic_in s (event.Reconnect c) scripted b h = absurd b

cluster_in : (s : Setup) (e : Event) → IsBrokers e → IsEvent s e → cluster_of e < length s.clusters
cluster_in s (event.Serve x c) b h = h.0
cluster_in s (event.Drop x c) b h = h.0
cluster_in s (event.Reset t x y) b h = h.source_in
cluster_in s (event.Read t x y) b h = h.source_in
cluster_in s (event.Take t x y f) b h = h.0.target_in
cluster_in s (event.Receipt t x y f) b h = h.0.source_in
cluster_in s (event.Snap t x) b h = h.1
cluster_in s (event.Offer t x n) b h = h.0.1
cluster_in s (event.Seek t x n to) b h = h.0.0.1
cluster_in s (event.Restart t x) b h = h.1
cluster_in s (event.Go c) b h = absurd b
cluster_in s (event.Get c) b h = absurd b
cluster_in s (event.Reconnect c) b h = absurd b

pub below : (m n : ℕ) → m < n → nat_lt m n ≡ true
below m n h = grind (arith, nat_tests, h)

has_two : (m n i j : ℕ) → m < n → i < j → (nat_lt m n && nat_lt i j) ≡ true
has_two m n i j h k = and_of_both (nat_lt m n) (nat_lt i j) (below m n h) (below i j k)

has_three : (m n i j k l : ℕ) → m < n → i < j → k < l → ((nat_lt m n && nat_lt i j) && nat_lt k l) ≡ true
has_three m n i j k l p q r = and_of_both (nat_lt m n && nat_lt i j) (nat_lt k l) (has_two m n i j p q) (below k l r)

pub in_range_is : (s : Setup) (e : Event) → IsEvent s e → in_range s e ≡ true
in_range_is s (event.Serve x c) h = has_two x (length s.clusters) c (length s.clients) h.0 h.1
in_range_is s (event.Drop x c) h = has_two x (length s.clusters) c (length s.clients) h.0 h.1
in_range_is s (event.Reset t x y) h = has_three t (length s.topics) x (length s.clusters) y (length s.clusters) h.topic_in h.source_in h.target_in
in_range_is s (event.Read t x y) h = has_three t (length s.topics) x (length s.clusters) y (length s.clusters) h.topic_in h.source_in h.target_in
in_range_is s (event.Take t x y f) h = has_three t (length s.topics) x (length s.clusters) y (length s.clusters) h.0.topic_in h.0.source_in h.0.target_in
in_range_is s (event.Receipt t x y f) h = has_three t (length s.topics) x (length s.clusters) y (length s.clusters) h.0.topic_in h.0.source_in h.0.target_in
in_range_is s (event.Snap t x) h = has_two t (length s.topics) x (length s.clusters) h.0 h.1
in_range_is s (event.Offer t x n) h = has_three t (length s.topics) x (length s.clusters) n (length (sub_names s t)) h.0.0 h.0.1 h.1
in_range_is s (event.Seek t x n to) h = has_three t (length s.topics) x (length s.clusters) n (length (sub_names s t)) h.0.0.0 h.0.0.1 h.0.1
in_range_is s (event.Restart t x) h = has_two t (length s.topics) x (length s.clusters) h.0 h.1
in_range_is s (event.Go c) h = below c (length s.clients) h
in_range_is s (event.Get c) h = below c (length s.clients) h
in_range_is s (event.Reconnect c) h = below c (length s.clients) h

pub of_topic : (s : Setup) (e : Event) → IsOfTopic s (topic_of s e) e
of_topic s (event.Serve x c) = refl
of_topic s (event.Drop x c) = refl
of_topic s (event.Reset t x y) = tt
of_topic s (event.Read t x y) = tt
of_topic s (event.Take t x y f) = tt
of_topic s (event.Receipt t x y f) = tt
of_topic s (event.Snap t x) = tt
of_topic s (event.Offer t x n) = tt
of_topic s (event.Seek t x n to) = tt
of_topic s (event.Restart t x) = tt
of_topic s (event.Go c) = tt
of_topic s (event.Get c) = tt
of_topic s (event.Reconnect c) = tt

pub topic_below : (s : Setup) (b : WorldView) (e : Event) (t : ℕ) → IsAt s b → IsBrokers e → IsEvent s e → t ≡ topic_of s e → t < length s.topics
topic_below s b e t h brokers here is = rw is (topic_in s e h.setup brokers here)

pub cluster_below : (s : Setup) (e : Event) (x : ℕ) → IsBrokers e → IsEvent s e → x ≡ cluster_of e → x < length s.clusters
cluster_below s e x brokers here is = rw is (cluster_in s e brokers here)

pub node_in : (s : Setup) (e : Event) → IsScripted s → IsBrokers e → IsEvent s e → node_of s e < length s.topics * length s.clusters
node_in s e scripted b h = node_lt s (topic_of s e) (cluster_of e) (topic_in s e scripted b h, cluster_in s e b h)

-- ---- the broker of an event

pub broker_is : (vs : List BrokerView) (n : ℕ) → n < length vs → slice_index_or (brokers_of vs) n no_broker ≡ (node_at vs n).broker
broker_is vs n h = get_or-map (λ (v : BrokerView). v.broker) vs n no_node no_broker h

pub node_below : (s : Setup) (b : WorldView) (e : Event) → IsAt s b → IsBrokers e → IsEvent s e → node_of s e < length b.brokers
node_below s b e h brokers here = subst (λ (m : ℕ). node_of s e < m) (sym h.brokers.count) (node_in s e h.setup brokers here)

pub node_is : (s : Setup) (b : WorldView) (e : Event) → IsAt s b → IsBrokers e → IsEvent s e → IsNodeOf s (topic_of s e) (cluster_of e) (node_at b.brokers (node_of s e))
node_is s b e h brokers here = h.brokers.each (topic_of s e) (cluster_of e) (topic_in s e h.setup brokers here) (cluster_in s e brokers here)

pub stands_at : (s : Setup) (b : WorldView) (w : World) (n : ℕ) → Stands s (kept_of b) w → n < length b.brokers → (node_at b.brokers n).broker ≡ broker_at w n
stands_at s b w n h lt = sym (broker_is b.brokers n lt) ∙ ap (λ (bs : List Broker). slice_index_or bs n no_broker) h.brokers

here_is : (s : Setup) (t x : ℕ) (v : BrokerView) → IsNodeOf s t x v → IsHere v t x
here_is s t x v is = record { topic = sym is.topic; cluster = sym (ap (λ (h : Site). h.own) is.site) }

link_is : (s : Setup) (t x y : ℕ) (v : BrokerView) → IsNodeOf s t x v → y < length s.clusters → IsLink v t x y
link_is s t x y v is lt = record { here = here_is s t x v is; other = subst (λ (h : Site). y < length h.clusters) (sym is.site) lt }

client_is : (s : Setup) (t x c : ℕ) (v : BrokerView) → IsNodeOf s t x v → length v.broker.sessions ≡ length s.clients → c < length s.clients → IsClients v x c
client_is s t x c v is sessions lt = record { cluster = sym (ap (λ (h : Site). h.own) is.site); client = subst (λ (m : ℕ). c < m) (sym sessions) lt }

of_event : (s : Setup) (v : BrokerView) (e : Event) → IsNodeOf s (topic_of s e) (cluster_of e) v → length v.broker.sessions ≡ length s.clients → IsBrokers e → IsEvent s e → IsOfNode v e
of_event s v (event.Serve x c) is sessions b h = client_is s (declared_at s c).topic x c v is sessions h.1
of_event s v (event.Drop x c) is sessions b h = client_is s (declared_at s c).topic x c v is sessions h.1
of_event s v (event.Reset t x y) is sessions b h = link_is s t x y v is h.target_in
of_event s v (event.Read t x y) is sessions b h = link_is s t x y v is h.target_in
of_event s v (event.Take t x y f) is sessions b h = link_is s t y x v is h.0.source_in
of_event s v (event.Receipt t x y f) is sessions b h = link_is s t x y v is h.0.target_in
of_event s v (event.Snap t x) is sessions b h = here_is s t x v is
of_event s v (event.Offer t x n) is sessions b h = here_is s t x v is
of_event s v (event.Seek t x n to) is sessions b h = here_is s t x v is
of_event s v (event.Restart t x) is sessions b h = here_is s t x v is
of_event s v (event.Go c) is sessions b h = absurd b
of_event s v (event.Get c) is sessions b h = absurd b
of_event s v (event.Reconnect c) is sessions b h = absurd b

pub ground_of : (s : Setup) (b : WorldView) (h : IsAt s b) → IsGround s h.world
ground_of s b h = ground s h.setup h.world h.reached

sessions_at : (s : Setup) (b : WorldView) (n : ℕ) → IsAt s b → n < length b.brokers → length (node_at b.brokers n).broker.sessions ≡ length s.clients
sessions_at s b n h lt =
    let g = ground_of s b h in
    let size : length h.world.brokers ≡ length b.brokers = ap (λ (bs : List Broker). length bs) (sym h.stands.brokers) ∙ length-map b.brokers (λ (v : BrokerView). v.broker) in
    ap (λ (c : Broker). length c.sessions) (stands_at s b h.world n h.stands lt) ∙ (g.places.each n (subst (λ (m : ℕ). n < m) (sym size) lt)).sessions

pub of_node : (s : Setup) (b : WorldView) (e : Event) → IsAt s b → IsBrokers e → IsEvent s e → IsOfNode (node_at b.brokers (node_of s e)) e
of_node s b e h brokers here =
    of_event s (node_at b.brokers (node_of s e)) e (node_is s b e h brokers here) (sessions_at s b (node_of s e) h (node_below s b e h brokers here)) brokers here

-- ---- numbers that rise

-- what a start may have, and one more for each event
abbrev pub most_number : ℕ
most_number = most_at_start + most_events

pub few : (s : Setup) (b : WorldView) (h : IsAt s b) → h.world.events ≤ 2000000
few s b h = let same : b.events ≡ h.world.events = h.stands.events in let most : b.events + b.idle ≤ 2000000 = h.within.few in omega (arith, same, most)

seeks_in : (n : ℕ) (vs : List Subscription) (name : List ℕ) → n ≤ most_number → AllByRecursion (λ (v : Subscription). v.seeks ≤ n) vs
    → IfSome (sub_named vs name) (λ v. v.seeks + 1 < 2 ^ 64)
seeks_in n [] name most h = tt
seeks_in n (v ∷ vs) name most h =
    on_if (λ (o : Option Subscription). IfSome o (λ u. u.seeks + 1 < 2 ^ 64)) (bytes_eq v.name name) _ _ (omega (arith, most, h.0)) (seeks_in n vs name most h.1)

sessions_rise : (n : ℕ) (b : Broker) (e : Event) → n ≤ most_number → BrokerWithin n b → SessionRises b e
sessions_rise n b (event.Reset t x y) most h = omega (arith, most, (h.replicators y).session)
sessions_rise n b (event.Serve x c) most h = tt
sessions_rise n b (event.Drop x c) most h = tt
sessions_rise n b (event.Read t x y) most h = tt
sessions_rise n b (event.Take t x y f) most h = tt
sessions_rise n b (event.Receipt t x y f) most h = tt
sessions_rise n b (event.Snap t x) most h = tt
sessions_rise n b (event.Offer t x k) most h = tt
sessions_rise n b (event.Seek t x k to) most h = tt
sessions_rise n b (event.Restart t x) most h = tt
sessions_rise n b (event.Go c) most h = tt
sessions_rise n b (event.Get c) most h = tt
sessions_rise n b (event.Reconnect c) most h = tt

seeks_rise : (n : ℕ) (names : List (List ℕ)) (b : Broker) (e : Event) → n ≤ most_number → BrokerWithin n b → SeekRises names b e
seeks_rise n names b (event.Seek t x k to) most h = seeks_in n b.subs (name_at names k) most h.seeks
seeks_rise n names b (event.Reset t x y) most h = tt
seeks_rise n names b (event.Serve x c) most h = tt
seeks_rise n names b (event.Drop x c) most h = tt
seeks_rise n names b (event.Read t x y) most h = tt
seeks_rise n names b (event.Take t x y f) most h = tt
seeks_rise n names b (event.Receipt t x y f) most h = tt
seeks_rise n names b (event.Snap t x) most h = tt
seeks_rise n names b (event.Offer t x k) most h = tt
seeks_rise n names b (event.Restart t x) most h = tt
seeks_rise n names b (event.Go c) most h = tt
seeks_rise n names b (event.Get c) most h = tt
seeks_rise n names b (event.Reconnect c) most h = tt

marker_rises : (h : Site) (b : Broker) (e : Event) → HasNextMarker h b → MarkerRises h b e
marker_rises h b (event.Serve x c) fits = fits
marker_rises h b (event.Drop x c) fits = tt
marker_rises h b (event.Reset t x y) fits = tt
marker_rises h b (event.Read t x y) fits = fits
marker_rises h b (event.Take t x y f) fits = tt
marker_rises h b (event.Receipt t x y f) fits = tt
marker_rises h b (event.Snap t x) fits = fits
marker_rises h b (event.Offer t x k) fits = fits
marker_rises h b (event.Seek t x k to) fits = fits
marker_rises h b (event.Restart t x) fits = tt
marker_rises h b (event.Go c) fits = tt
marker_rises h b (event.Get c) fits = tt
marker_rises h b (event.Reconnect c) fits = tt

rises : (s : Setup) (n : ℕ) (v : BrokerView) (c : Broker) (t x : ℕ) (e : Event) → IsNodeOf s t x v → v.broker ≡ c → n ≤ most_number → BrokerWithin n c → next_marker x c.entries + 1 < 2 ^ 64
    → NumbersRise v e
rises s n v c t x e is same most h marker = record {
  session = subst (λ (b : Broker). SessionRises b e) (sym same) (sessions_rise n c e most h);
  seeks = subst (λ (b : Broker). SeekRises v.names b e) (sym same) (seeks_rise n v.names c e most h);
  marker = marker_rises v.site v.broker e
      (subst (λ (b : Broker). next_marker v.site.own b.entries + 1 < 2 ^ 64) (sym same)
      (subst (λ (i : ℕ). next_marker i c.entries + 1 < 2 ^ 64) (sym (ap (λ (h : Site). h.own) is.site)) marker));
}

pub numbers_rise : (s : Setup) (b : WorldView) (e : Event) → IsAt s b → IsBrokers e → IsEvent s e → NumbersRise (node_at b.brokers (node_of s e)) e
numbers_rise s b e h brokers here =
    let g = ground_of s b h in let w = h.world in let most = few s b h in
    let short : w.events < 2 ^ 62 = omega (arith, most) in let low : most_at_start + w.events ≤ most_number = omega (arith, most) in
    rises s (most_at_start + w.events) (node_at b.brokers (node_of s e)) (broker_at w (node_of s e)) (topic_of s e) (cluster_of e) e (node_is s b e h brokers here)
    (stands_at s b w (node_of s e) h.stands (node_below s b e h brokers here)) low (g.numbers.brokers (node_of s e))
    (g.markers short (topic_of s e) (cluster_of e) (topic_in s e h.setup brokers here) (cluster_in s e brokers here))

pub stamp_fits : (s : Setup) (b : WorldView) (n : ℕ) (takes : Option LinkName) → IsAt s b → stamp_at b.broker_clocks n b.links takes < 2 ^ 64
stamp_fits s b n takes h =
    let g = ground_of s b h in let w = h.world in let most = few s b h in let m : ℕ = most_at_start + w.events in
    let clock : slice_index b.broker_clocks n ≤ m = subst (λ (cs : List ℕ). slice_index cs n ≤ m) (sym h.stands.broker_clocks) (g.numbers.broker_clocks n) in
    let packet : stamp_of (packet_on b.links takes) ≤ m =
    subst (λ (k : ℕ). k ≤ m) (sym (stamp_is s.clusters takes b.links w.links h.stands.links)) (packet_within m w.links (taken_name (length s.clusters) takes) g.numbers.stamps) in
    omega (arith, most, clock, packet)

-- ---- the same where brokers have other room

pub at_same : (s : Setup) (old new : WorldView) → IsAt s old → SameWorld old new → IsAt s new
at_same s old new h same =
    let counts : new.events + new.idle ≡ old.events + old.idle = ap (λ (k : Kept). k.events + k.idle) same.kept in
    let bytes : new.frame_bytes ≡ old.frame_bytes = ap (λ (k : Kept). k.frame_bytes) same.kept in
    record {
      setup = h.setup;
      brokers = same.brokers s h.brokers;
      world = h.world;
      reached = h.reached;
      stands = subst (λ (k : Kept). Stands s k h.world) (sym same.kept) h.stands;
      within = record { few = omega (arith, counts, h.within.few); short = omega (arith, bytes, h.within.short) };
    }

-- ---- premises of the calls, for a number of a broker that is the event's

pub number_below : (s : Setup) (b : WorldView) (e : Event) (n : ℕ) → IsAt s b → IsBrokers e → IsEvent s e → n ≡ node_of s e → n < length b.brokers
number_below s b e n h brokers here is = rw is (node_below s b e h brokers here)

pub number_of : (s : Setup) (b : WorldView) (e : Event) (n : ℕ) → IsAt s b → IsBrokers e → IsEvent s e → n ≡ node_of s e → IsOfNode (node_at b.brokers n) e
number_of s b e n h brokers here is = rw is (of_node s b e h brokers here)

pub number_rises : (s : Setup) (b : WorldView) (e : Event) (n : ℕ) → IsAt s b → IsBrokers e → IsEvent s e → n ≡ node_of s e → NumbersRise (node_at b.brokers n) e
number_rises s b e n h brokers here is = rw is (numbers_rise s b e h brokers here)

clock_of : (s : Setup) (b : WorldView) (e : Event) → IsAt s b → IsBrokers e → IsEvent s e → node_of s e < length b.broker_clocks
clock_of s b e h brokers here =
    subst (λ (cs : List ℕ). node_of s e < length cs) (sym h.stands.broker_clocks) (subst (λ (m : ℕ). node_of s e < m) (sym (ground_of s b h).places.broker_clocks) (node_in s e h.setup brokers here))

pub mid_below : (s : Setup) (old mid : WorldView) (e : Event) (n : ℕ) → IsAt s old → SameWorld old mid → IsBrokers e → IsEvent s e → n ≡ node_of s e → n < length mid.brokers
mid_below s old mid e n h same brokers here is = number_below s mid e n (at_same s old mid h same) brokers here is

pub mid_clock : (s : Setup) (old mid : WorldView) (e : Event) (n : ℕ) → IsAt s old → SameWorld old mid → IsBrokers e → IsEvent s e → n ≡ node_of s e → n < length mid.broker_clocks
mid_clock s old mid e n h same brokers here is = rw is (clock_of s mid e (at_same s old mid h same) brokers here)

pub mid_within : (s : Setup) (old mid : WorldView) → IsAt s old → SameWorld old mid → IsWithin mid
mid_within s old mid h same = (at_same s old mid h same).within

pub mid_stamp : (s : Setup) (old mid : WorldView) (n : ℕ) (takes : Option LinkName) → IsAt s old → SameWorld old mid → stamp_at mid.broker_clocks n mid.links takes < 2 ^ 64
mid_stamp s old mid n takes h same = stamp_fits s mid n takes (at_same s old mid h same)

pub at_within : (s : Setup) (b : WorldView) → IsAt s b → IsWithin b
at_within s b h = h.within
