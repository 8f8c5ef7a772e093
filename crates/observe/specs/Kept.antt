-- The entries of a topic as a judge keeps them: beside the entries their identities, and a table that finds the first of an identity.
use Rattle.std.specs.Prelude.{◌≡◌, ℕ, List, is_some, if◌then◌else◌, map, length}
use Rattle.geo_base.specs.declared.entry.Entry.{Entry}
use Rattle.geo_base.specs.declared.entry.Ident.{Ident}
use Rattle.geo_base.specs.declared.position.Position.{Position}
use Rattle.audit.specs.declared.identity.Identity.{Identity}
use Rattle.audit.specs.Stored.{Ascend, Row, identity_of, is_identity, place_in}
use Rattle.indexmap.specs.IndexMap.{insert_entry}
use Rattle.observation.specs.Observed.{first_from}

abbrev pub identities_of : List Entry → List Identity
identities_of es = map (λ (e : Entry). identity_of e.ident) es

-- what a clause calls the identity of an entry
abbrev pub IdentOf : Type 0
IdentOf = Ident

-- and an entry that stands somewhere
abbrev pub EntryAt : Type 0
EntryAt = Entry

-- one more first of an identity, where there is none yet
abbrev pub with_first : List Row → Identity → ℕ → List Row
with_first rows k v = if is_some (place_in rows k) then rows else insert_entry is_identity rows k v

-- the rows tell where the first of each identity stands
pub record AreKept (es : List Entry) (ids : List Identity) (rows : List Row) : Type 0 where
  pub identities : ids ≡ identities_of es
  pub firsts : (g : Ident) → place_in rows (identity_of g) ≡ first_from 0 es g

-- positions ascend, and there are as many as entries
pub record ArePlaced (es : List Entry) (ps : List Position) : Type 0 where
  pub ascend : Ascend ps
  pub sized : length ps ≡ length es
