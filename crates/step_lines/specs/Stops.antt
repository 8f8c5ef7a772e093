-- What a stop of everything changes, by what was noted of each broker.
use Rattle.std.specs.Prelude.{◌≡◌, ℕ, ◌+◌, ◌<◌, List, [], ◌∷◌, ◌++◌, length, slice_index_or}
use Rattle.broker.specs.Node.{BrokerView}
use Rattle.geo_base.specs.Setup.{Setup, topic_name}
use Rattle.geo_base.specs.World.{node}
use Rattle.step_laws.specs.Steps.{broker_changes}
use Rattle.step_lines.specs.declared.noted.NotedBroker.{NotedBroker}
use Rattle.step_lines.specs.declared.stops.NotedTopic.{NotedTopic}
use Rattle.step_lines.specs.Changes.{place_line, placed}
use Rattle.step_lines.specs.Noted.{IsNoted}
use Rattle.world.specs.World.{node_at}

-- the topic's brokers at the first n clusters are noted as they are among all
pub record AreNoted (s : Setup) (bs : List BrokerView) (t n : ℕ) (ks : List NotedBroker) : Type 0 where
  pub many : length ks ≡ n
  pub each : (x : ℕ) (d : NotedBroker) → x < n → IsNoted (length s.clusters) (node_at bs (node s t x)).broker (slice_index_or ks x d)

-- all those of the first n topics
pub record AreNotedTopics (s : Setup) (bs : List BrokerView) (n : ℕ) (ks : List NotedTopic) : Type 0 where
  pub many : length ks ≡ n
  pub each : (t : ℕ) (d : NotedTopic) → t < n → AreNoted s bs t (length s.clusters) (slice_index_or ks t d).brokers.items

-- a broker is noted of each of n clusters, and a replicator of it to each
pub record AreWhole (n : ℕ) (ks : List NotedBroker) : Type 0 where
  pub many : length ks ≡ n
  pub each : (x : ℕ) (d : NotedBroker) → x < n → length (slice_index_or ks x d).replicators.items ≡ n

-- and so of each topic
pub record AreTopics (s : Setup) (ks : List NotedTopic) : Type 0 where
  pub many : length ks ≡ length s.topics
  pub each : (t : ℕ) (d : NotedTopic) → t < length s.topics → AreWhole (length s.clusters) (slice_index_or ks t d).brokers.items

-- what is told of the topic's brokers from cluster x on, which were among bs and are among cs
abbrev pub clusters_told : Setup → List BrokerView → List BrokerView → ℕ → ℕ → List (List ℕ) → List (List ℕ)
clusters_told s bs cs t x [] = []
clusters_told s bs cs t x (n ∷ ns) =
    placed (place_line (topic_name s t) (slice_index_or s.clusters x [])) (broker_changes s.clusters x (node_at bs (node s t x)).broker (node_at cs (node s t x)).broker)
    ++ clusters_told s bs cs t (x + 1) ns

-- and of those of the topics from t on
abbrev pub topics_told : Setup → List BrokerView → List BrokerView → ℕ → List (List ℕ) → List (List ℕ)
topics_told s bs cs t [] = []
topics_told s bs cs t (n ∷ ns) = clusters_told s bs cs t 0 s.clusters ++ topics_told s bs cs (t + 1) ns
