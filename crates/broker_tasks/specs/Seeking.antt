-- What a seek needs.
use Rattle.std.specs.Prelude.{ℕ, ◌+◌, ◌<◌, ◌^◌, List, IfSome}
use Rattle.geo_base.specs.Broker.{Broker, sub_named}

-- the subscription's count of seeks has 64 bits after one more
abbrev pub SeekFits : Broker → List ℕ → Type 0
SeekFits b n = IfSome (sub_named b.subs n) (λ s. s.seeks + 1 < 2 ^ 64)
