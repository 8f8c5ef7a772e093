-- The receiving side of a forward link keeps the number of the session that is open, or none (own: what comes in another
-- session is discarded, so that nothing is stored out of order after a loss).
use Rattle.std.specs.Prelude.{ℕ, ◌==◌, Bool, false, Option, Some, None}
use Rattle.geo_base.specs.Types.{ClusterRef}
use Rattle.geo_base.specs.Entry.{means_cluster}

abbrev pub is_open : Option ℕ → ℕ → Bool
is_open None n = false
is_open (Some m) n = m == n

-- an entry that the cluster x says it stored first (replicated_from)
abbrev pub is_from : ℕ → Option ClusterRef → Bool
is_from x None = false
is_from x (Some p) = means_cluster x p
