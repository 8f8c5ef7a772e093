-- A table of where entries stand, by identity.
use Rattle.std.specs.Prelude.{◌≡◌, ℕ, ◌<◌, ◌==◌, Bool, ◌&&◌, List, [], length, Option, slice_index_or}
use Rattle.std.specs.Map.{lookup}
use Rattle.std.specs.Str.{bytes_eq}
use Rattle.geo_base.specs.declared.entry.Entry.{Entry}
use Rattle.geo_base.specs.declared.entry.Ident.{Ident}
use Rattle.geo_base.specs.Setup.{Setup}
use Rattle.geo_base.specs.World.{World, topic_at}
use Rattle.loss_laws.specs.Lost.{place_of}
use Rattle.world_measures.specs.declared.identity.Identity.{Identity}

abbrev pub identity_of : Ident → Identity
identity_of i = record { origin = i.origin; producer = i.producer; seq = i.seq }

abbrev pub is_identity : Identity → Identity → Bool
is_identity a b = ((a.origin == b.origin) && bytes_eq a.producer b.producer) && (a.seq == b.seq)

-- an identity, and an index at which an entry of it stands
abbrev pub Row : Type 0
Row = Identity × ℕ

abbrev pub place_in : List Row → Identity → Option ℕ
place_in rows k = lookup (is_identity k) rows

-- the rows say of each identity the first index at which an entry of it stands
abbrev pub Tells : List Row → List Entry → Type 0
Tells rows es = (g : Ident) → place_in rows (identity_of g) ≡ place_of es g

-- tables of a topic at each cluster
pub record TellAll (s : Setup) (w : World) (t : ℕ) (tables : List (List Row)) : Type 0 where
  pub many : length tables ≡ length s.clusters
  pub each : (y : ℕ) → y < length s.clusters → Tells (slice_index_or tables y []) (topic_at s w t y).entries
