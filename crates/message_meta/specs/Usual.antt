-- Metadata of the usual form: for all clusters, no marker, and nothing that the table does not name (own).
use Rattle.std.specs.Prelude.{[], None}
use Rattle.std.specs.Option.{option_copied}
use Rattle.message_meta.specs.declared.view.MetaView.{MetaView}
use Rattle.message_meta.specs.Metadata.{Metadata}

-- the code's view of metadata, without where its parts lie in memory
abbrev pub meta_viewed : MetaView → Metadata
meta_viewed v = record {
  producer = v.producer.now;
  seq = v.seq;
  publish_time = v.publish_time;
  replicated_from = option_copied v.replicated_from;
  key = option_copied v.key;
  replicate_to = [];
  marker = None;
  rest = [];
}
