-- What the lines of a script keep: names told apart, numbers in range, texts printable.
use Rattle.std.specs.Prelude.{◌≡◌, ℕ, ◌<◌, ◌≤◌, true, List, length, map, All, IfSome}
use Rattle.geo_base.specs.declared.client.Line.{Line}
use Rattle.geo_base.specs.Name.{is_name}
use Rattle.geo_base.specs.Scripted.{AreDistinct, clients_of, is_line, stays_or_is_silent}
use Rattle.geo_base.specs.Setup.{Declared, Setup, sub_names}
use Rattle.script_rows.specs.NameWords.{Word}
use Rattle.script_rows.specs.Rows.{rank}
use Rattle.script_rows.specs.Written.{AreNames}
use Rattle.script_text.specs.Scenario.{IsChance, has_printable_text}
use Rattle.script_text.specs.Script.{Declarations}

pub record IsKeptLine (s : Setup) (l : Line) : Type 0 where
  pub known : is_line s l ≡ true
  pub text : has_printable_text l ≡ true

-- a client before line n
pub record IsKeptClient (n : ℕ) (s : Setup) (d : Declared) : Type 0 where
  pub name : is_name d.name ≡ true
  pub topic : d.topic < length s.topics
  pub cluster : d.cluster < length s.clusters
  pub lines : All (IsKeptLine s) d.lines
  pub silent : stays_or_is_silent d.lines ≡ true
  pub few : length d.lines < n

abbrev pub names_of_clients : Setup → List Word
names_of_clients s = map (λ (d : Declared). d.name) s.clients

pub record AreKeptClusters (clusters : List Word) : Type 0 where
  pub names : AreNames clusters
  pub few : length clusters ≤ 8

-- a topic comes after two clusters
pub record AreKeptTopics (clusters topics : List Word) : Type 0 where
  pub names : AreNames topics
  pub few : length topics ≤ 16
  pub pair : 0 < length topics → 2 ≤ length clusters

pub record AreKeptClients (n : ℕ) (s : Setup) : Type 0 where
  pub each : All (IsKeptClient n s) s.clients
  pub apart : AreDistinct (names_of_clients s)
  pub few : length s.clients < n
  pub of_topic : (t : ℕ) → length (clients_of s t) ≤ 32
  pub subs : (t : ℕ) → length (sub_names s t) ≤ 32

-- what is declared before line n, and in which order
pub record IsKept (n : ℕ) (d : Declarations) : Type 0 where
  pub ledger : (1 ≤ d.setup.per_ledger) × (d.setup.per_ledger ≤ 1000000)
  pub chance : IfSome d.chance IsChance
  pub clusters : AreKeptClusters d.setup.clusters
  pub topics : AreKeptTopics d.setup.clusters d.setup.topics
  pub clients : AreKeptClients n d.setup
  pub no_topics : rank d.progress.last < 3 → length d.setup.topics ≡ 0
  pub no_clients : rank d.progress.last < 4 → length d.setup.clients ≡ 0
