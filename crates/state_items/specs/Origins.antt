-- Which cluster stored a message first.
use Rattle.std.specs.Prelude.{ℕ, List, Option, Some, None}
use Rattle.geo_base.specs.declared.marker.ClusterRef.{ClusterRef}
use Rattle.geo_base.specs.declared.marker.ClusterRef.TheVariants as cluster_ref
use Rattle.frame_values.specs.Values.{place_of}

abbrev pub number_of : ClusterRef → Option ℕ
number_of (cluster_ref.Known x) = Some x
number_of (cluster_ref.Stranger n) = None

-- the one that `replicated_from` names, or else the storing one; None where no cluster has the name
abbrev pub origin_of : List (List ℕ) → ℕ → Option (List ℕ) → Option ℕ
origin_of names own None = Some own
origin_of names own (Some n) = number_of (place_of names n)
