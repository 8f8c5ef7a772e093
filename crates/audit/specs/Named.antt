-- The positions that a marker names for one cluster.
use Rattle.std.specs.Prelude.{List, [], ◌∷◌, Option, Some, None}
use Rattle.geo_base.specs.declared.position.Position.{Position}

-- the one position, where there is one alone
abbrev pub only_of : List Position → Option Position
only_of [] = None
only_of (p ∷ []) = Some p
only_of (p ∷ q ∷ ps) = None
