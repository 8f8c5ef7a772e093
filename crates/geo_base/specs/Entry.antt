-- An entry: what names it, which clusters it is for, and what it is (MessageMetadata).
use Rattle.std.specs.Prelude.{ℕ, ◌/◌, ◌%◌, ◌^◌, ◌==◌, Bool, true, false, ◌&&◌, ◌||◌, List, [], Option, Some, None, codes}
use Rattle.std.specs.Str.{bytes_eq}
use Rattle.geo_base.specs.Types.{Content, Entry, Ident, ClusterRef, Targets}
use Rattle.geo_base.specs.Types.content
use Rattle.geo_base.specs.Types.cluster_ref
use Rattle.geo_base.specs.Types.targets

-- of one origin and producer: sequence ids are compared among these alone (own: Pulsar keys by the producer's name)
abbrev pub same_stream : Ident → Ident → Bool
same_stream a b = (a.origin == b.origin) && bytes_eq a.producer b.producer

abbrev pub same_ident : Ident → Ident → Bool
same_ident a b = same_stream a b && (a.seq == b.seq)

-- whether a name stands for the cluster of a number
abbrev pub means_cluster : ℕ → ClusterRef → Bool
means_cluster x (cluster_ref.Known y) = x == y
means_cluster x (cluster_ref.Stranger n) = false

abbrev pub is_data : Content → Bool
is_data content.Data = true
is_data (content.Marked m) = false
is_data (content.Unread k) = false

-- whether a target list names a cluster, or is empty: replicate_to restricts replication to the clusters that it names
-- (geo-replication manual, selective replication)
abbrev pub goes_to : ℕ → Targets → Bool
goes_to y targets.All = true
goes_to y (targets.Only bits) = (bits / (2 ^ y)) % 2 == 1

-- of origin x, and goes to y
abbrev pub is_outbound : ℕ → ℕ → Entry → Bool
is_outbound x y e = (e.ident.origin == x) && goes_to y e.to

-- what a cluster could have had: its own entries, and those that go to it (own: it makes selective replication safe)
abbrev pub meant_for : ℕ → Entry → Bool
meant_for a e = (e.ident.origin == a) || goes_to a e.to

-- a key's bytes: none where there is no partition_key
abbrev pub key_bytes : Option (List ℕ) → List ℕ
key_bytes None = []
key_bytes (Some k) = k

-- an entry that a cluster stored first
abbrev pub with_origin : ℕ → Entry → Entry
with_origin x e = record e { ident = record { origin = x; producer = e.ident.producer; seq = e.ident.seq } }

-- the producer that a cluster writes its markers as (own)
abbrev pub marker_producer : List ℕ
marker_producer = codes "pulsar.marker"

-- an own marker of a cluster, of whatever kind
abbrev pub is_own_marker : ℕ → Entry → Bool
is_own_marker x e = (e.ident.origin == x) && bytes_eq e.ident.producer marker_producer
