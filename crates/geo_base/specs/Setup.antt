-- What a script declares: clusters, topics and clients with their lines.
use Rattle.std.specs.Prelude.{ℕ, ◌==◌, if◌then◌else◌, List, [], ◌∷◌, ◌++◌, fold, slice_index_or}
use Rattle.std.specs.List.{list_any}
use Rattle.std.specs.Str.{bytes_eq}
use Rattle.geo_base.specs.Types.{Line}
use Rattle.geo_base.specs.Types.line

-- a client: its name, which is also its producer's, the topic that it works on, the cluster that it is at first
pub record Declared : Type 0 where
  pub name : List ℕ
  pub topic : ℕ
  pub cluster : ℕ
  pub lines : List Line

-- per_ledger is how many entries a ledger takes; clusters, topics and clients are numbered from 0 in the script's order
pub record Setup : Type 0 where
  pub per_ledger : ℕ
  pub clusters : List (List ℕ)
  pub topics : List (List ℕ)
  pub clients : List Declared

abbrev pub nobody : Declared
nobody = record { name = []; topic = 0; cluster = 0; lines = [] }

abbrev pub declared_at : Setup → ℕ → Declared
declared_at s c = slice_index_or s.clients c nobody

abbrev pub topic_name : Setup → ℕ → List ℕ
topic_name s t = slice_index_or s.topics t []

-- the names of a topic's subscriptions, in the order of its clients and of their sub lines, each once
abbrev pub with_name : List (List ℕ) → List ℕ → List (List ℕ)
with_name names n = if list_any (λ m. bytes_eq m n) names then names else names ++ n ∷ []

abbrev pub with_line : List (List ℕ) → Line → List (List ℕ)
with_line names (line.Sub n kind earliest replicated) = with_name names n
with_line names l = names

abbrev pub with_client : ℕ → List (List ℕ) → Declared → List (List ℕ)
with_client t names d = if d.topic == t then fold with_line names d.lines else names

abbrev pub sub_names : Setup → ℕ → List (List ℕ)
sub_names s t = fold (with_client t) [] s.clients

-- the name that an event's number of a subscription stands for
abbrev pub sub_name : Setup → ℕ → ℕ → List ℕ
sub_name s t n = slice_index_or (sub_names s t) n []
