-- What a script can declare: the premise of the laws that need it.
use Rattle.std.specs.Prelude.{◌≡◌, ℕ, ◌<◌, ◌≤◌, ◌^◌, nat_lt, nat_le, ◌==◌, Bool, true, false, not, ◌&&◌, List, length, map, filter, Option, Some, None, slice_get}
use Rattle.std.specs.List.{list_all, list_any}
use Rattle.std.specs.Str.{bytes_eq}
use Rattle.geo_base.specs.Types.{Ident, Line, Targets}
use Rattle.geo_base.specs.Types.line
use Rattle.geo_base.specs.Types.targets
use Rattle.geo_base.specs.Name.{is_name}
use Rattle.geo_base.specs.Setup.{Declared, Setup, sub_names}
use Rattle.geo_base.specs.Subscribing.{most_subs}

-- entries of a ledger that a script may name: twenty times Pulsar's default (own)
abbrev pub most_per_ledger : ℕ
most_per_ledger = 1000000

-- a snapshot needs another cluster to ask, so a setup has two at least
abbrev pub least_clusters : ℕ
least_clusters = 2

-- clusters of a script: a target list is one byte of cluster bits (own)
abbrev pub most_clusters : ℕ
most_clusters = 8

-- topics of a script (own)
abbrev pub most_topics : ℕ
most_topics = 16

-- clients of a topic (own)
abbrev pub most_clients : ℕ
most_clients = 32

-- bytes of the text that a script's client publishes (own)
abbrev pub most_text_bytes : ℕ
most_text_bytes = 1024

-- permits of one `flow` line (own)
abbrev pub most_flow : ℕ
most_flow = 1000000

-- the names are told apart
abbrev pub AreDistinct : List (List ℕ) → Type 0
AreDistinct ns = (i j : ℕ) (m n : List ℕ) → i < j → slice_get ns i ≡ Some m → slice_get ns j ≡ Some n → bytes_eq m n ≡ false

abbrev pub is_known : Setup → Ident → Bool
is_known s i = nat_lt i.origin (length s.clusters) && nat_lt i.seq (2 ^ 63) && list_any (λ (d : Declared). bytes_eq d.name i.producer) s.clients

abbrev pub names_some : ℕ → Targets → Bool
names_some clusters targets.All = true
names_some clusters (targets.Only bits) = nat_lt 0 bits && nat_lt bits (2 ^ clusters)

abbrev pub is_optional_name : Option (List ℕ) → Bool
is_optional_name None = true
is_optional_name (Some k) = is_name k

-- the numbers and names of a line are in range
abbrev pub is_line : Setup → Line → Bool
is_line s (line.Pub seq to key text) =
    nat_lt seq (2 ^ 63) && names_some (length s.clusters) to && is_optional_name key && nat_le (length text) most_text_bytes
is_line s (line.Sub n kind earliest replicated) = is_name n
is_line s (line.Flow permits) = nat_lt 0 permits && nat_le permits most_flow
is_line s (line.Ack i) = is_known s i
is_line s (line.AckTo i) = is_known s i
is_line s (line.Move x) = nat_lt x (length s.clusters)
is_line s l = true

abbrev pub is_produce : Line → Bool
is_produce line.Produce = true
is_produce l = false

abbrev pub is_move : Line → Bool
is_move (line.Move x) = true
is_move l = false

-- a producer does not move (own)
abbrev pub stays_or_is_silent : List Line → Bool
stays_or_is_silent ls = not (list_any is_produce ls && list_any is_move ls)

abbrev pub is_declared : Setup → Declared → Bool
is_declared s d =
    is_name d.name && nat_lt d.topic (length s.topics) && nat_lt d.cluster (length s.clusters) && list_all (is_line s) d.lines && stays_or_is_silent d.lines

abbrev pub clients_of : Setup → ℕ → List Declared
clients_of s t = filter (λ (d : Declared). d.topic == t) s.clients

pub record IsScripted (s : Setup) : Type 0 where
  pub ledger : (1 ≤ s.per_ledger) × (s.per_ledger ≤ most_per_ledger)
  pub clusters : (least_clusters ≤ length s.clusters) × (length s.clusters ≤ most_clusters)
  pub topics : (1 ≤ length s.topics) × (length s.topics ≤ most_topics)
  pub cluster_names : (list_all is_name s.clusters ≡ true) × AreDistinct s.clusters
  pub topic_names : (list_all is_name s.topics ≡ true) × AreDistinct s.topics
  pub clients : (list_all (is_declared s) s.clients ≡ true) × AreDistinct (map (λ (d : Declared). d.name) s.clients)
  pub of_a_topic : (t : ℕ) → (length (clients_of s t) ≤ most_clients) × (length (sub_names s t) ≤ most_subs)
