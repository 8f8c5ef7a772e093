-- The texts of an entry.
use Rattle.std.specs.Prelude.{◌≡◌, ℕ, ◌<◌, ◌^◌, ◌==◌, if◌then◌else◌, List, [], ◌++◌, length, Option, Some, None}
use Rattle.geo_base.specs.declared.entry.Entry.{Entry}
use Rattle.geo_base.specs.declared.marker.ClusterRef.{ClusterRef}
use Rattle.geo_base.specs.declared.marker.ClusterRef.TheVariants as cluster_ref
use Rattle.message_meta.specs.Canonical.{optional_fields, required_fields}
use Rattle.message_meta.specs.Metadata.{IsMetaText, Metadata}
use Rattle.pb_fields.specs.declared.field.Field.{Field}
use Rattle.pb_fields.specs.Canonical.{text as fields_text}
use Rattle.state_items.specs.Texts.{text}
use Rattle.frame_values.specs.Coded.{IsMarkerRight}
use Rattle.frame_values.specs.Texts.{metadata_of, payload_text}

-- `replicated_from` stands where another cluster stored the entry first
abbrev pub source_of : ℕ → ℕ → Option ClusterRef
source_of own origin = if origin == own then None else Some (cluster_ref.Known origin)

-- the fields that are known, and after them the bytes of those that nobody reads
abbrev pub with_rest : Metadata → List ℕ → List ℕ
with_rest m rest = fields_text (required_fields m) ++ (fields_text (optional_fields m) ++ rest)

abbrev pub metadata_text : List (List ℕ) → ℕ → Entry → List ℕ
metadata_text names own e = with_rest (metadata_of names (source_of own e.ident.origin) e []) e.meta.rest

abbrev pub entry_text : List (List ℕ) → ℕ → Entry → List ℕ
entry_text names own e = text (metadata_text names own e) ++ text (payload_text names e.content e.payload)

-- ---- texts that are read as what they were written of

pub record HasMetadata (names : List (List ℕ)) (own : ℕ) (e : Entry) : Type 0 where
  pub fields : List Field
  pub rest : e.meta.rest ≡ fields_text fields
  pub text : IsMetaText (metadata_text names own e) (metadata_of names (source_of own e.ident.origin) e fields)

pub record HasTexts (names : List (List ℕ)) (own : ℕ) (e : Entry) : Type 0 where
  pub metadata : HasMetadata names own e
  pub marker : IsMarkerRight names e.content e.payload

-- both texts have a length of four bytes
pub record AreShort (names : List (List ℕ)) (own : ℕ) (e : Entry) : Type 0 where
  pub metadata : length (metadata_text names own e) < 2 ^ 32
  pub payload : length (payload_text names e.content e.payload) < 2 ^ 32
