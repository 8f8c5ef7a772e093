-- The numbers of a trace's topics and lines.
use Rattle.std.specs.Prelude.{◌≡◌, ◌<◌, ◌*◌, length}
use Rattle.geo_base.specs.Mirror.{Mirrors}
use Rattle.geo_base.specs.Setup.{Setup}
use Rattle.geo_base.specs.TraceItems.{Act, Appends, Begins, Item, Writes}

-- there is a topic for each of the setup's at each cluster
abbrev pub AreSized : Setup → Mirrors → Type 0
AreSized s a = length a.topics ≡ length s.topics * length s.clusters

-- the numbers of a line are those of the setup
abbrev pub IsActOf : Setup → Act → Type 0
IsActOf s (Appends p e by) = e.ident.origin < length s.clusters
IsActOf s a = Unit {0}

abbrev pub IsItemOf : Setup → Item → Type 0
IsItemOf s (Begins n) = Unit {0}
IsItemOf s (Writes t x a) = (t < length s.topics) × (x < length s.clusters) × IsActOf s a
