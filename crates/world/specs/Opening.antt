-- How the brokers of a world begin.
use Rattle.std.specs.Prelude.{◌≡◌, ℕ, ◌<◌, List, length, replicate}
use Rattle.geo_base.specs.Broker.{new_broker}
use Rattle.geo_base.specs.Setup.{Setup}
use Rattle.geo_base.specs.World.{node}
use Rattle.world.specs.World.{brokers_of, node_at}
use Rattle.broker.specs.Events.{IsNodeOf}
use Rattle.broker.specs.Node.{BrokerView}

-- the first n brokers of a setup, with empty topics and no session
pub record AreNew (s : Setup) (n : ℕ) (vs : List BrokerView) : Type 0 where
  pub brokers : brokers_of vs ≡ replicate n (new_broker (length s.clusters) (length s.clients))
  pub each : (t x : ℕ) → x < length s.clusters → node s t x < n → IsNodeOf s t x (node_at vs (node s t x))
