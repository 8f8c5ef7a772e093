-- The metadata of a message (MessageMetadata in PulsarApi.proto).
use Rattle.std.specs.Prelude.{◌≡◌, ℕ, List, Option, Some, map}
use Rattle.std.specs.Option.{option_map}
use Rattle.pb_fields.specs.declared.field.Field.{Field}
use Rattle.pb_fields.specs.declared.field.Value.TheVariants as value
use Rattle.pb_fields.specs.Text.{IsText}
use Rattle.pb_fields.specs.Message.{IsMessage, values, last_value, unknown}
use Rattle.message_meta.specs.Table as field

pub record Metadata : Type 0 where
  pub producer : List ℕ
  pub seq : ℕ
  pub publish_time : ℕ
  pub replicated_from : Option (List ℕ)
  pub key : Option (List ℕ)
  pub replicate_to : List (List ℕ)
  pub marker : Option ℕ
  pub rest : List Field

-- What fields say as metadata. A field that is not repeated counts by its last value; fields that the table does not
-- name are kept in their order (own).
pub record IsMeta (fields : List Field) (m : Metadata) : Type 0 where
  pub message : IsMessage field.rows fields
  pub producer_name : last_value field.producer_name fields ≡ Some (value.Bytes m.producer)
  pub sequence_id : last_value field.sequence_id fields ≡ Some (value.Varint m.seq)
  pub publish_time : last_value field.publish_time fields ≡ Some (value.Varint m.publish_time)
  pub replicated_from : last_value field.replicated_from fields ≡ option_map value.Bytes m.replicated_from
  pub partition_key : last_value field.partition_key fields ≡ option_map value.Bytes m.key
  pub replicate_to : values field.replicate_to fields ≡ map value.Bytes m.replicate_to
  pub marker_type : last_value field.marker_type fields ≡ option_map value.Varint m.marker
  pub rest : unknown field.rows fields ≡ m.rest

-- The bytes are a text of the metadata.
pub record IsMetaText (bytes : List ℕ) (m : Metadata) : Type 0 where
  pub fields : List Field
  pub text : IsText bytes fields
  pub means : IsMeta fields m
