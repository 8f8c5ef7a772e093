-- Numbers of a client that one more event does not bring to their end.
use Rattle.std.specs.Prelude.{◌<◌, ◌^◌}
use Rattle.geo_base.specs.Client.{Client}

-- what `go` and `reconnect` may raise
abbrev pub CanConnect : Client → Type 0
CanConnect k = k.connection < 2 ^ 63

-- and what `get` may
pub record CanCount (k : Client) : Type 0 where
  pub receipts : k.receipts < 2 ^ 63
  pub duplicates : k.duplicates < 2 ^ 63
  pub errors : k.errors < 2 ^ 63
