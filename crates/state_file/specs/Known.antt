-- What is known of a state that was loaded: what a run may go on from.
use Rattle.std.specs.Prelude.{◌≡◌, ◌*◌, ◌%◌, List, [], length, Ok}
use Rattle.geo_base.specs.Broker.{Broker}
use Rattle.geo_base.specs.Client.{Client}
use Rattle.geo_base.specs.Setup.{Setup, declared_at}
use Rattle.script_text.specs.Canonical.{declarations_text}
use Rattle.script_text.specs.Rules.{script_of}
use Rattle.state_nodes.specs.ClientKnown.{IsKnownClient}
use Rattle.state_file.specs.State.{SavedState}
use Rattle.state_items.specs.Fitting.{AllFit}
use Rattle.state_nodes.specs.Fitting.{AreCounts}
use Rattle.state_nodes.specs.Known.{IsKnownNode}

-- a broker after others, by topic and then by cluster
abbrev pub IsKnownBehind : Setup → List Broker → Broker → Type 0
IsKnownBehind s before b = IsKnownNode s.per_ledger s.clusters (length before % length s.clusters) b

-- a client after others, in order
abbrev pub IsClientBehind : Setup → List Client → Client → Type 0
IsClientBehind s before k = IsKnownClient (length s.clusters) (declared_at s (length before)).lines k

-- the declarations are those of the scenario, which has no steps
pub record IsKnownState (s : SavedState) : Type 0 where
  pub declared : script_of (declarations_text s.scenario.setup s.scenario.chance) ≡ Ok s.scenario
  pub counts : AreCounts s.counts
  pub all_nodes : length s.brokers ≡ length s.scenario.setup.topics * length s.scenario.setup.clusters
  pub brokers : AllFit (IsKnownBehind s.scenario.setup) [] s.brokers
  pub all_clients : length s.clients ≡ length s.scenario.setup.clients
  pub clients : AllFit (IsClientBehind s.scenario.setup) [] s.clients
