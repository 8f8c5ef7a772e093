-- The sub lines of a client: what one names, and which one is in force.
use Rattle.std.specs.Prelude.{◌≡◌, ℕ, Bool, false, List, Option, Some, None, slice_get}
use Rattle.std.specs.Str.{bytes_eq}
use Rattle.geo_base.specs.declared.client.Line.TheVariants as line
use Rattle.geo_base.specs.declared.client.Line.{Line}
use Rattle.geo_base.specs.declared.frame.SubKind.{SubKind}
use Rattle.geo_base.specs.Setup.{Declared}

-- the line at an index is a sub line of this kind that names n
abbrev pub IsKindLine : Declared → ℕ → List ℕ → SubKind → Type 0
IsKindLine d i n kind = (earliest : Bool) × (replicated : Bool) × (slice_get d.lines i ≡ Some (line.Sub n kind earliest replicated))

-- a line is a sub line that names n
abbrev pub names_line : List ℕ → Option Line → Bool
names_line n (Some (line.Sub m kind earliest replicated)) = bytes_eq m n
names_line n o = false

-- the sub line in force names n
abbrev pub subs_to : Declared → Option ℕ → List ℕ → Bool
subs_to d None n = false
subs_to d (Some i) n = names_line n (slice_get d.lines i)
