-- The world that is measured: a machine's world with these brokers.
use Rattle.std.specs.Prelude.{◌≡◌}
use Rattle.geo_base.specs.World.{World}
use Rattle.world.specs.World.{WorldView, brokers_of}

abbrev pub HasBrokers : World → WorldView → Type 0
HasBrokers w b = w.brokers ≡ brokers_of b.brokers
