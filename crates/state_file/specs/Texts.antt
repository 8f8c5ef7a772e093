-- The bytes of a saved state (own). Numbers have eight bytes, the greatest first; a text is its length in four bytes and its bytes; a
-- list is how many items it has, and the items.
use Rattle.std.specs.Prelude.{ℕ, ◌+◌, ◌%◌, List, [], ◌∷◌, ◌++◌, length, codes}
use Rattle.geo_base.specs.Broker.{Broker}
use Rattle.geo_base.specs.Client.{Client}
use Rattle.script_text.specs.Canonical.{declarations_text}
use Rattle.script_text.specs.Script.{Script}
use Rattle.state_nodes.specs.Clients.{client_text}
use Rattle.state_items.specs.Texts.{number, word}
use Rattle.state_file.specs.State.{SavedState}
use Rattle.state_nodes.specs.Counts.{counts_text}
use Rattle.state_nodes.specs.Nodes.{node_text}

abbrev pub magic : List ℕ
magic = codes "GEOSTATE"

-- the version that is written; the one before it has no counts of seeks
abbrev pub newest : ℕ
newest = 2

-- the canonical declarations, after their length
abbrev pub declared_text : Script → List ℕ
declared_text s = number (length (declarations_text s.setup s.chance)) ++ declarations_text s.setup s.chance

-- brokers from a number on; they are numbered by topic and then by cluster
abbrev pub nodes_from : List (List ℕ) → ℕ → List Broker → List ℕ
nodes_from names k [] = []
nodes_from names k (b ∷ bs) = node_text names (k % length names) b ++ nodes_from names (k + 1) bs

abbrev pub clients_text : List Client → List ℕ
clients_text [] = []
clients_text (k ∷ ks) = client_text k ++ clients_text ks

abbrev pub body_text : SavedState → List ℕ
body_text s =
    declared_text s.scenario
    ++ (counts_text s.counts ++ (nodes_from s.scenario.setup.clusters 0 s.brokers ++ clients_text s.clients))

abbrev pub state_text : SavedState → List ℕ
state_text s = magic ++ (word newest ++ (number (length (body_text s)) ++ body_text s))
