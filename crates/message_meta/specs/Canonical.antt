-- The canonical text of metadata.
use Rattle.std.specs.Prelude.{List, [], ◌∷◌, ◌++◌, map, IsUtf8, IfSome}
use Rattle.std.specs.List.{AllByRecursion}
use Rattle.pb_fields.specs.declared.field.Field.{Field}
use Rattle.pb_fields.specs.Field.{varint_field, bytes_field, IsField}
use Rattle.pb_fields.specs.Canonical.{optional}
use Rattle.pb_fields.specs.Message.{IsUnknown}
use Rattle.message_meta.specs.Table as field
use Rattle.message_meta.specs.Metadata.{Metadata}

-- the fields that are always there
abbrev pub required_fields : Metadata → List Field
required_fields m = bytes_field field.producer_name m.producer ∷ varint_field field.sequence_id m.seq ∷ varint_field field.publish_time m.publish_time ∷ []

-- the known fields that need not be there
abbrev pub optional_fields : Metadata → List Field
optional_fields m = optional (bytes_field field.replicated_from) m.replicated_from ++ (optional (bytes_field field.partition_key) m.key ++ (map (bytes_field field.replicate_to) m.replicate_to ++ optional (varint_field field.marker_type) m.marker))

-- The known fields by ascending number, a list in its order; then the unknown ones in their order (own).
abbrev pub canonical_fields : Metadata → List Field
canonical_fields m = required_fields m ++ (optional_fields m ++ m.rest)

-- Metadata that can be written: its numbers and lengths have 64 bits, its texts are UTF-8, and what is kept beside the
-- known fields is unknown.
pub record IsMetadata (m : Metadata) : Type 0 where
  pub fields : AllByRecursion IsField (canonical_fields m)
  pub producer : IsUtf8 m.producer
  pub replicated_from : IfSome m.replicated_from IsUtf8
  pub key : IfSome m.key IsUtf8
  pub replicate_to : AllByRecursion IsUtf8 m.replicate_to
  pub rest : AllByRecursion (IsUnknown field.rows) m.rest
