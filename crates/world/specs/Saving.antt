-- What a file holds of a world, and the world that goes on from it.
use Rattle.std.specs.Prelude.{◌≡◌, ℕ, ◌/◌, ◌%◌, ◌<◌, ◌≤◌, ◌∷◌, [], ◌++◌, List, length, None, Some, Result, Err, IfOk, OnOk, slice_index_or}
use Rattle.geo_base.specs.Broker.{Broker, no_broker}
use Rattle.geo_base.specs.Happening.{stops}
use Rattle.geo_base.specs.Run.{all_limits}
use Rattle.geo_base.specs.Setup.{Setup}
use Rattle.geo_base.specs.World.{World}
use Rattle.durable_parts.specs.Durable.{durable_part}
use Rattle.script_text.specs.Script.{Script}
use Rattle.state_file.specs.declared.saved.Saved.{Saved}
use Rattle.state_file.specs.State.{SavedState, state_in, state_of}
use Rattle.kept_laws.specs.Saved.{revived, world_from}
use Rattle.broker.specs.Events.{IsNodeOf}
use Rattle.broker.specs.Node.{BrokerView}
use Rattle.kept_laws.specs.Reached.{started_kept}
use Rattle.world_laws.specs.Starts.{most_at_start}
use Rattle.world.specs.declared.fault.RunFault.{RunFault}
use Rattle.world.specs.declared.fault.RunFault.TheVariants as fault
use Rattle.world.specs.World.{WorldView, kept_of, node_at}

-- what is durable of a broker after a stop, which opens a ledger
abbrev pub behind_stop : Broker → Broker
behind_stop b = record (durable_part b) { ledgers = b.ledgers ++ 0 ∷ [] }

-- The state after a stop is the machine's, and the stop is within the limits; a limit that it would pass is the one that is told.
-- Nothing is said of want of memory.
pub record Saves (s : Script) (w : World) (result : Result Saved RunFault) : Type 0 where
  pub state : IfOk result (λ v. state_of v ≡ state_in s (stops s.setup w))
  pub within : OnOk result (all_limits (stops s.setup w) ≡ None)
  pub large : (n : ℕ) → result ≡ Err (fault.TooLarge n) → all_limits (stops s.setup w) ≡ Some n

-- ---- going on

-- a broker of a number goes on from what is durable of it, of which there is not too much
pub record IsRevived (s : Setup) (n : ℕ) (b : Broker) (v : BrokerView) : Type 0 where
  pub node : IsNodeOf s (n / length s.clusters) (n % length s.clusters) v
  pub broker : v.broker ≡ revived s b
  pub few : length b.entries ≤ most_at_start

-- and so do the first so many brokers
pub record AreRevived (s : Setup) (bs : List Broker) (vs : List BrokerView) : Type 0 where
  pub count : length vs ≡ length bs
  pub each : (k : ℕ) → k < length bs → IsRevived s k (slice_index_or bs k no_broker) (node_at vs k)

-- A world goes on from a state: it has the brokers, and all else is as a start is kept.
pub record IsResumed (v : SavedState) (b : WorldView) : Type 0 where
  pub brokers : AreRevived v.scenario.setup v.brokers b.brokers
  pub kept : kept_of b ≡ started_kept v.scenario.setup (world_from v)
