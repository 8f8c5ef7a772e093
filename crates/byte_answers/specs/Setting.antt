-- What the broker of the table knows: it is at b, the second of three clusters.
use Rattle.std.specs.Prelude.{◌∷◌, [], codes}
use Rattle.geo_base.specs.Broker.{Site}

abbrev pub setting : Site
setting = record { own = 1; clusters = codes "a" ∷ codes "b" ∷ codes "c" ∷ []; topic = codes "t"; per_ledger = 8 }
