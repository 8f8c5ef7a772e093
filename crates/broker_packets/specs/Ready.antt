-- What the beginning of a session needs.
use Rattle.std.specs.Prelude.{ℕ, ◌+◌, ◌<◌, ◌^◌}
use Rattle.geo_base.specs.Broker.{Broker, replicator_at}

-- the number of the next session to a cluster has 64 bits
abbrev pub SessionFits : Broker → ℕ → Type 0
SessionFits b y = (replicator_at b y).session + 1 < 2 ^ 64
