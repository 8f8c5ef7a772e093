-- Which events are a node's own.
use Rattle.std.specs.Prelude.{◌≡◌, ◌<◌, ℕ, true, length, ⊤}
use Rattle.geo_base.specs.declared.event.Event.{Event}
use Rattle.geo_base.specs.declared.event.Event.TheVariants as event
use Rattle.geo_base.specs.Nodes.{Node, is_event, node_of}
use Rattle.geo_base.specs.Setup.{Setup, declared_at, sub_names}

-- it happens at the node, and all its numbers are in range
pub record IsOwn (s : Setup) (n : Node) (e : Event) : Type 0 where
  pub here : node_of s e ≡ n
  pub in_range : is_event s e ≡ true

-- the same of a broker of the setup, number by number

pub record IsOfTopic (s : Setup) (c t : ℕ) : Type 0 where
  pub client : c < length s.clients
  pub topic : (declared_at s c).topic ≡ t

abbrev pub IsAtBroker : Setup → ℕ → ℕ → Event → Type 0
IsAtBroker s t x (event.Serve y c) = (y ≡ x) × IsOfTopic s c t
IsAtBroker s t x (event.Drop y c) = (y ≡ x) × IsOfTopic s c t
IsAtBroker s t x (event.Reset u y z) = ((u ≡ t) × (y ≡ x)) × (z < length s.clusters)
IsAtBroker s t x (event.Read u y z) = ((u ≡ t) × (y ≡ x)) × (z < length s.clusters)
IsAtBroker s t x (event.Take u y z f) = ((u ≡ t) × (z ≡ x)) × (y < length s.clusters)
IsAtBroker s t x (event.Receipt u y z f) = ((u ≡ t) × (y ≡ x)) × (z < length s.clusters)
IsAtBroker s t x (event.Snap u y) = (u ≡ t) × (y ≡ x)
IsAtBroker s t x (event.Offer u y n) = ((u ≡ t) × (y ≡ x)) × (n < length (sub_names s u))
IsAtBroker s t x (event.Seek u y n to) = ((u ≡ t) × (y ≡ x)) × (n < length (sub_names s u))
IsAtBroker s t x (event.Restart u y) = (u ≡ t) × (y ≡ x)
IsAtBroker s t x (event.Go c) = ⊥
IsAtBroker s t x (event.Get c) = ⊥
IsAtBroker s t x (event.Reconnect c) = ⊥

-- an event of a link between brokers
abbrev pub IsOfLink : Event → Type 0
IsOfLink (event.Reset u y z) = ⊤
IsOfLink (event.Read u y z) = ⊤
IsOfLink (event.Take u y z f) = ⊤
IsOfLink (event.Receipt u y z f) = ⊤
IsOfLink e = ⊥

-- an event of a client, with its number in range
abbrev pub IsAtClient : ℕ → Event → Type 0
IsAtClient c (event.Go d) = d ≡ c
IsAtClient c (event.Get d) = d ≡ c
IsAtClient c (event.Reconnect d) = d ≡ c
IsAtClient c e = ⊥

-- the one that takes a packet
abbrev pub IsGet : Event → Type 0
IsGet (event.Get c) = ⊤
IsGet e = ⊥

-- the one that does its next line
abbrev pub IsGo : Event → Type 0
IsGo (event.Go c) = ⊤
IsGo e = ⊥
