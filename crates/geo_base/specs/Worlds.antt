-- A world of a setup.
use Rattle.std.specs.Prelude.{◌≡◌, ℕ, ◌*◌, ◌<◌, length}
use Rattle.geo_base.specs.Broker.{Broker}
use Rattle.geo_base.specs.Setup.{Setup}
use Rattle.geo_base.specs.World.{World, broker_at}

-- a broker has a place for each cluster and each client of the setup
pub record BrokerPlaces (s : Setup) (b : Broker) : Type 0 where
  pub replicators : length b.replicators ≡ length s.clusters
  pub receivers : length b.receivers ≡ length s.clusters
  pub sessions : length b.sessions ≡ length s.clients

-- a world has a broker for each topic at each cluster, and what is declared of clients
pub record IsWorldOf (s : Setup) (w : World) : Type 0 where
  pub brokers : length w.brokers ≡ length s.topics * length s.clusters
  pub clients : length w.clients ≡ length s.clients
  pub broker_clocks : length w.broker_clocks ≡ length s.topics * length s.clusters
  pub client_clocks : length w.client_clocks ≡ length s.clients
  pub each : (z : ℕ) → z < length w.brokers → BrokerPlaces s (broker_at w z)
