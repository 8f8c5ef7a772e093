-- Entries that are messages of the usual form (own): to all clusters, with no field that nobody reads.
use Rattle.std.specs.Prelude.{◌&&◌, ◌==◌, ℕ, Bool, true, false, List, [], Option, length}
use Rattle.std.specs.Option.{option_copied, option_map}
use Rattle.geo_base.specs.declared.entry.Content.{Content}
use Rattle.geo_base.specs.declared.entry.Content.TheVariants as content
use Rattle.geo_base.specs.declared.entry.Entry.{Entry}
use Rattle.geo_base.specs.declared.entry.Targets.TheVariants as targets
use Rattle.geo_base.specs.declared.marker.ClusterRef.{ClusterRef}
use Rattle.pulsar_frames.specs.declared.view.MessageView.{MessageView}
use Rattle.frame_values.specs.Values.{place_of}

abbrev pub is_data : Content → Bool
is_data content.Data = true
is_data c = false

-- an entry that is such a message
abbrev pub is_usual : Entry → Bool
is_usual e = is_data e.content && (length e.meta.names == 0 && length e.meta.rest == 0)

-- the entry that a message is, where the cluster x stored it first
abbrev pub entry_viewed : ℕ → MessageView → Entry
entry_viewed x m = record {
  ident = record { origin = x; producer = m.meta.producer.now; seq = m.meta.seq };
  content = content.Data;
  to = targets.All;
  meta = record { publish_time = m.meta.publish_time; key = option_copied m.meta.key; names = []; rest = [] };
  payload = m.payload.now;
}

-- where it says that it was stored first
abbrev pub source_viewed : List (List ℕ) → MessageView → Option ClusterRef
source_viewed names m = option_map (place_of names) (option_copied m.meta.replicated_from)
