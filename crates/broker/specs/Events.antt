-- The events of a broker, and the machine's plan of each at it.
use Rattle.std.specs.Prelude.{◌≡◌, ℕ, ◌+◌, ◌<◌, ◌^◌, List, [], length, Option, slice_index_or, ⊤}
use Rattle.geo_base.specs.declared.event.Event.{Event}
use Rattle.geo_base.specs.declared.event.Event.TheVariants as event
use Rattle.geo_base.specs.declared.packet.Packet.{Packet}
use Rattle.geo_base.specs.Broker.{Broker, Site, replicator_at}
use Rattle.geo_base.specs.Forwarding.{receipt, reset, take_packet}
use Rattle.geo_base.specs.Markers.{snap}
use Rattle.geo_base.specs.Offering.{offer}
use Rattle.geo_base.specs.Plan.{Plan, idle_plan}
use Rattle.geo_base.specs.Reading.{read}
use Rattle.geo_base.specs.Seeking.{restart, seek}
use Rattle.geo_base.specs.Serving.{drop_client, serve}
use Rattle.geo_base.specs.Setup.{Setup, declared_at, sub_names}
use Rattle.geo_base.specs.Topic.{next_marker}
use Rattle.geo_base.specs.World.{site}
use Rattle.broker_tasks.specs.Seeking.{SeekFits}
use Rattle.broker.specs.Node.{BrokerView}

-- the name that an event's number of a subscription stands for; past the end it is empty, which no subscription's name is
abbrev pub name_at : List (List ℕ) → ℕ → List ℕ
name_at names n = slice_index_or names n []

-- The plan of an event at a broker of a site, whose topic's subscriptions have these names, with the packet that it takes; an
-- event of a client has none.
abbrev pub plan_at : Site → List (List ℕ) → Broker → Event → Option Packet → Plan
plan_at h names b (event.Serve x c) p = serve h b c p
plan_at h names b (event.Drop x c) p = drop_client b c
plan_at h names b (event.Reset t x y) p = reset h b y
plan_at h names b (event.Read t x y) p = read h b y
plan_at h names b (event.Take t x y f) p = take_packet h b x f p
plan_at h names b (event.Receipt t x y f) p = receipt h b y f p
plan_at h names b (event.Snap t x) p = snap h b
plan_at h names b (event.Offer t x n) p = offer h b (name_at names n)
plan_at h names b (event.Seek t x n to) p = seek h b (name_at names n) to
plan_at h names b (event.Restart t x) p = restart
plan_at h names b (event.Go c) p = idle_plan
plan_at h names b (event.Get c) p = idle_plan
plan_at h names b (event.Reconnect c) p = idle_plan

abbrev pub plan_at_node : BrokerView → Event → Option Packet → Plan
plan_at_node v e p = plan_at v.site v.names v.broker e p

-- ---- whose event it is

-- at this broker: of its topic at its cluster
pub record IsHere (v : BrokerView) (t x : ℕ) : Type 0 where
  pub topic : t ≡ v.topic
  pub cluster : x ≡ v.site.own

-- at this broker, with another cluster's number
pub record IsLink (v : BrokerView) (t x y : ℕ) : Type 0 where
  pub here : IsHere v t x
  pub other : y < length v.site.clusters

-- of a client and this broker
pub record IsClients (v : BrokerView) (x c : ℕ) : Type 0 where
  pub cluster : x ≡ v.site.own
  pub client : c < length v.broker.sessions

-- An event of this broker, whose numbers of clusters and clients are in range.
abbrev pub IsOfNode : BrokerView → Event → Type 0
IsOfNode v (event.Serve x c) = IsClients v x c
IsOfNode v (event.Drop x c) = IsClients v x c
IsOfNode v (event.Reset t x y) = IsLink v t x y
IsOfNode v (event.Read t x y) = IsLink v t x y
IsOfNode v (event.Take t x y f) = IsLink v t y x
IsOfNode v (event.Receipt t x y f) = IsLink v t x y
IsOfNode v (event.Snap t x) = IsHere v t x
IsOfNode v (event.Offer t x n) = IsHere v t x
IsOfNode v (event.Seek t x n to) = IsHere v t x
IsOfNode v (event.Restart t x) = IsHere v t x
IsOfNode v (event.Go c) = ⊥
IsOfNode v (event.Get c) = ⊥
IsOfNode v (event.Reconnect c) = ⊥

-- the numbers of clusters and clients alone
abbrev pub IsInRange : Site → Broker → Event → Type 0
IsInRange h b (event.Serve x c) = c < length b.sessions
IsInRange h b (event.Drop x c) = c < length b.sessions
IsInRange h b (event.Reset t x y) = y < length h.clusters
IsInRange h b (event.Read t x y) = y < length h.clusters
IsInRange h b (event.Take t x y f) = x < length h.clusters
IsInRange h b (event.Receipt t x y f) = y < length h.clusters
IsInRange h b (event.Snap t x) = ⊤
IsInRange h b (event.Offer t x n) = ⊤
IsInRange h b (event.Seek t x n to) = ⊤
IsInRange h b (event.Restart t x) = ⊤
IsInRange h b (event.Go c) = ⊤
IsInRange h b (event.Get c) = ⊤
IsInRange h b (event.Reconnect c) = ⊤

-- ---- numbers that rise

-- the sequence id of the cluster's next own marker has 64 bits, and so has the one after it
abbrev pub HasNextMarker : Site → Broker → Type 0
HasNextMarker h b = next_marker h.own b.entries + 1 < 2 ^ 64

abbrev pub SessionRises : Broker → Event → Type 0
SessionRises b (event.Reset t x y) = (replicator_at b y).session < 2 ^ 63
SessionRises b e = ⊤

-- the count of seeks of the subscription of a name, if there is one
abbrev pub SeekRises : List (List ℕ) → Broker → Event → Type 0
SeekRises names b (event.Seek t x n to) = SeekFits b (name_at names n)
SeekRises names b e = ⊤

-- the number of the cluster's next own marker, where the event may store one
abbrev pub MarkerRises : Site → Broker → Event → Type 0
MarkerRises h b (event.Serve x c) = HasNextMarker h b
MarkerRises h b (event.Read t x y) = HasNextMarker h b
MarkerRises h b (event.Snap t x) = HasNextMarker h b
MarkerRises h b (event.Offer t x n) = HasNextMarker h b
MarkerRises h b (event.Seek t x n to) = HasNextMarker h b
MarkerRises h b e = ⊤

-- The numbers that an event raises still have room to rise: that of a session which begins, the count of a subscription's seeks,
-- and the number of the cluster's next own marker.
pub record NumbersRise (v : BrokerView) (e : Event) : Type 0 where
  pub session : SessionRises v.broker e
  pub seeks : SeekRises v.names v.broker e
  pub marker : MarkerRises v.site v.broker e

-- it is the broker's, and its numbers have room to rise
pub record CanHappen (v : BrokerView) (e : Event) : Type 0 where
  pub node : IsOfNode v e
  pub numbers : NumbersRise v e

-- ---- the broker of a setup

-- the broker of topic t at cluster x of a setup
pub record IsNodeOf (s : Setup) (t x : ℕ) (v : BrokerView) : Type 0 where
  pub topic : v.topic ≡ t
  pub site : v.site ≡ site s t x
  pub names : v.names ≡ sub_names s t

-- a client's event is of the client's topic
abbrev pub IsOfTopic : Setup → ℕ → Event → Type 0
IsOfTopic s t (event.Serve x c) = (declared_at s c).topic ≡ t
IsOfTopic s t (event.Drop x c) = (declared_at s c).topic ≡ t
IsOfTopic s t e = ⊤
