-- Metadata whose known fields stand apart, and what else is written after them.
use Rattle.std.specs.Prelude.{◌≡◌, ℕ, List, [], ◌++◌, IsUtf8, IfSome}
use Rattle.std.specs.List.{AllByRecursion}
use Rattle.std.specs.Option.{option_copied}
use Rattle.pb_fields.specs.declared.field.Field.{Field}
use Rattle.pb_fields.specs.Canonical.{text}
use Rattle.pb_fields.specs.Field.{IsField}
use Rattle.pb_fields.specs.Message.{IsUnknown}
use Rattle.message_meta.specs.declared.known.KnownMeta.{KnownMeta}
use Rattle.message_meta.specs.Table.{rows}
use Rattle.message_meta.specs.Metadata.{Metadata, IsMetaText}
use Rattle.message_meta.specs.Canonical.{canonical_fields, optional_fields, required_fields}

-- The canonical text of fields that the table of metadata does not name.
pub record IsRest (bytes : List ℕ) : Type 0 where
  pub fields : List Field
  pub is : bytes ≡ text fields
  pub writable : AllByRecursion IsField fields
  pub unknown : AllByRecursion (IsUnknown rows) fields

-- the metadata of known fields, without where they lie in memory, and of the others
abbrev pub joined : KnownMeta → List Field → Metadata
joined k rest = record {
  producer = k.producer.now;
  seq = k.seq;
  publish_time = k.publish_time;
  replicated_from = option_copied k.replicated_from;
  key = k.key.now;
  replicate_to = k.replicate_to.now;
  marker = k.marker;
  rest = rest;
}

abbrev pub known_fields : KnownMeta → List Field
known_fields k = required_fields (joined k []) ++ optional_fields (joined k [])

-- Known fields that can be written: their numbers and lengths have 64 bits, their texts are UTF-8.
pub record IsKnown (k : KnownMeta) : Type 0 where
  pub required : AllByRecursion IsField (required_fields (joined k []))
  pub others : AllByRecursion IsField (optional_fields (joined k []))
  pub producer : IsUtf8 k.producer.now
  pub replicated_from : IfSome (option_copied k.replicated_from) IsUtf8
  pub key : IfSome k.key.now IsUtf8
  pub replicate_to : AllByRecursion IsUtf8 k.replicate_to.now

-- The bytes are the canonical text of the known fields and of those that rest is the text of, and a text of them.
pub record IsJoinedText (k : KnownMeta) (rest : List ℕ) (bytes : List ℕ) : Type 0 where
  pub fields : List Field
  pub kept : rest ≡ text fields
  pub canonical : bytes ≡ text (canonical_fields (joined k fields))
  pub is_text : IsMetaText bytes (joined k fields)
