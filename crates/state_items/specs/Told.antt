-- Entries that their texts tell.
use Rattle.std.specs.Prelude.{◌≡◌, ℕ, List, Some}
use Rattle.std.specs.Option.{option_map}
use Rattle.geo_base.specs.declared.entry.Entry.{Entry}
use Rattle.geo_base.specs.Sizes.{cluster_ref_name}
use Rattle.state_items.specs.Origins.{origin_of}
use Rattle.state_items.specs.Stored.{IsStored}
use Rattle.state_items.specs.EntryTexts.{metadata_text, source_of}
use Rattle.message_meta.specs.Metadata.{IsMetaText, Metadata}
use Rattle.frame_values.specs.Texts.{payload_text}
use Rattle.frame_values.specs.Told.{IsToldContent}
use Rattle.frame_values.specs.Values.{targets_of}

-- The targets are those of the names, the name of its origin is that cluster's, and the payload is kept exactly where it is not its
-- marker's canonical text.
pub record IsTold (names : List (List ℕ)) (own : ℕ) (e : Entry) : Type 0 where
  pub to : e.to ≡ targets_of names e.meta.names
  pub from : origin_of names own (option_map (cluster_ref_name names) (source_of own e.ident.origin)) ≡ Some e.ident.origin
  pub content : IsToldContent names e.content e.payload

-- what the texts say is the entry
pub record IsSaid (names : List (List ℕ)) (own : ℕ) (e : Entry) (m : Metadata) : Type 0 where
  pub text : IsMetaText (metadata_text names own e) m
  pub origin : origin_of names own m.replicated_from ≡ Some e.ident.origin
  pub producer : m.producer ≡ e.ident.producer
  pub seq : m.seq ≡ e.ident.seq
  pub stored : IsStored names m e.ident.origin (payload_text names e.content e.payload) e
