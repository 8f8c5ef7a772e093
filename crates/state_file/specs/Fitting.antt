-- States that are loaded as they were saved.
use Rattle.std.specs.Prelude.{◌≡◌, ℕ, ◌+◌, ◌*◌, ◌%◌, ◌<◌, ◌^◌, List, [], ◌∷◌, length, Ok}
use Rattle.geo_base.specs.Broker.{Broker}
use Rattle.geo_base.specs.Client.{Client}
use Rattle.geo_base.specs.Setup.{Declared, Setup}
use Rattle.script_text.specs.Canonical.{declarations_text}
use Rattle.script_text.specs.Rules.{script_of}
use Rattle.state_nodes.specs.ClientFitting.{IsClientState}
use Rattle.state_file.specs.State.{SavedState}
use Rattle.state_file.specs.Texts.{body_text}
use Rattle.state_nodes.specs.Fitting.{AreCounts, IsDurable}

-- brokers from a number on, by topic and then by cluster
abbrev pub AreDurable : Setup → ℕ → List Broker → Type 0
AreDurable s k [] = Unit {0}
AreDurable s k (b ∷ bs) = IsDurable s.per_ledger s.clusters (k % length s.clusters) b × AreDurable s (k + 1) bs

-- a state for each client, in order
abbrev pub AreClients : ℕ → List Declared → List Client → Type 0
AreClients clusters [] [] = Unit {0}
AreClients clusters (d ∷ ds) (k ∷ ks) = IsClientState clusters d.lines k × AreClients clusters ds ks
AreClients clusters ds ks = ⊥

-- The state is one of its script, whose declarations are read again as they were written; a script's events are not part of it.
pub record IsState (s : SavedState) : Type 0 where
  pub declared : script_of (declarations_text s.scenario.setup s.scenario.chance) ≡ Ok s.scenario
  pub short : length (body_text s) < 2 ^ 32
  pub counts : AreCounts s.counts
  pub all_nodes : length s.brokers ≡ length s.scenario.setup.topics * length s.scenario.setup.clusters
  pub brokers : AreDurable s.scenario.setup 0 s.brokers
  pub clients : AreClients (length s.scenario.setup.clusters) s.scenario.setup.clients s.clients
