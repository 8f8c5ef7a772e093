-- The entry that metadata and a payload are.
use Rattle.std.specs.Prelude.{◌≡◌, ℕ, List}
use Rattle.geo_base.specs.declared.entry.Entry.{Entry}
use Rattle.message_meta.specs.Metadata.{Metadata}
use Rattle.pb_fields.specs.Canonical.{text}
use Rattle.frame_values.specs.Values.{IsContent, targets_of}

-- It was stored first by cluster x. The names are those of the clusters, by their numbers.
pub record IsStored (names : List (List ℕ)) (m : Metadata) (x : ℕ) (payload : List ℕ) (e : Entry) : Type 0 where
  pub origin : e.ident.origin ≡ x
  pub producer : e.ident.producer ≡ m.producer
  pub seq : e.ident.seq ≡ m.seq
  pub publish_time : e.meta.publish_time ≡ m.publish_time
  pub key : e.meta.key ≡ m.key
  pub listed : e.meta.names ≡ m.replicate_to
  pub to : e.to ≡ targets_of names m.replicate_to
  pub rest : e.meta.rest ≡ text m.rest
  pub content : IsContent names m.marker payload e.content e.payload
