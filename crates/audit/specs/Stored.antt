-- The entries of a topic as an audit keeps them: beside the entries and their positions, tables that answer what a walk would.
use Rattle.std.specs.Prelude.{◌≡◌, ℕ, ◌<◌, nat_lt, ◌==◌, Bool, true, false, ◌&&◌, List, length, take, Option, Some, None, slice_get, slice_index_or}
use Rattle.std.specs.List.{list_any}
use Rattle.std.specs.Map.{lookup}
use Rattle.std.specs.Str.{bytes_eq}
use Rattle.geo_base.specs.declared.entry.Entry.{Entry}
use Rattle.geo_base.specs.declared.entry.Ident.{Ident}
use Rattle.geo_base.specs.declared.position.Position.{Position}
use Rattle.geo_base.specs.Audit.{same_entry}
use Rattle.geo_base.specs.Position.{position_lt}
use Rattle.topic_store.specs.Table.{Row as StreamRow, Tells}
use Rattle.audit.specs.declared.identity.Identity.{Identity}

-- the entries and their positions, which are as many
pub record TopicEntries : Type 0 where
  pub entries : List Entry
  pub positions : List Position

abbrev pub identity_of : Ident → Identity
identity_of i = record { origin = i.origin; producer = i.producer; seq = i.seq }

abbrev pub is_identity : Identity → Identity → Bool
is_identity a b = ((a.origin == b.origin) && bytes_eq a.producer b.producer) && (a.seq == b.seq)

-- an identity, and the index at which its entry stands
abbrev pub Row : Type 0
Row = Identity × ℕ

abbrev pub place_in : List Row → Identity → Option ℕ
place_in rows k = lookup (is_identity k) rows

-- the rows find each entry by its identity
pub record FindsAll (rows : List Row) (es : List Entry) : Type 0 where
  pub at : (i : ℕ) (e : Entry) → slice_get es i ≡ Some e → place_in rows (identity_of e.ident) ≡ Some i

-- each position is above those before it
abbrev pub Ascend : List Position → Type 0
Ascend ps = (i j : ℕ) (d : Position) → i < j → j < length ps → position_lt (slice_index_or ps i d) (slice_index_or ps j d) ≡ true

-- the tables tell the entries
pub record AreTold (streams : List StreamRow) (rows : List Row) (es : List Entry) (ps : List Position) : Type 0 where
  pub told : Tells streams es
  pub finds : FindsAll rows es
  pub ascend : Ascend ps
  pub sized : length ps ≡ length es

-- the one index at which an entry stands: among the first so many entries it stands where these reach after the index
pub record StandsAt (e : Entry) (es : List Entry) (i : ℕ) : Type 0 where
  pub within : i < length es
  pub only : (n : ℕ) → list_any (same_entry e) (take n es) ≡ nat_lt i n

abbrev pub StandsNowhere : Entry → List Entry → Type 0
StandsNowhere e es = (n : ℕ) → list_any (same_entry e) (take n es) ≡ false

-- whether an entry is the one that stands somewhere
abbrev pub is_same_at : Entry → Option Entry → Bool
is_same_at e None = false
is_same_at e (Some f) = same_entry e f
