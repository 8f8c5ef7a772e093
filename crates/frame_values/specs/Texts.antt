-- The frame of the protocol that a value of the machine is written as, and its bytes. Where the machine has a cluster's number,
-- the bytes have the cluster's name; names are those of the clusters, by their numbers.
use Rattle.std.specs.Prelude.{ℕ, Bool, true, false, List, [], Option, Some, None, codes}
use Rattle.std.specs.Option.{option_map}
use Rattle.geo_base.specs.declared.entry.Content.{Content}
use Rattle.geo_base.specs.declared.entry.Content.TheVariants as content
use Rattle.geo_base.specs.declared.entry.Entry.{Entry}
use Rattle.geo_base.specs.declared.frame.Frame.{Frame}
use Rattle.geo_base.specs.declared.frame.Frame.TheVariants as frame
use Rattle.geo_base.specs.declared.marker.ClusterRef.{ClusterRef}
use Rattle.geo_base.specs.Sizes.{marker_type, cluster_ref_name}
use Rattle.marker_codec.specs.Canonical.{canonical_fields}
use Rattle.marker_codec.specs.Machine.{named_marker}
use Rattle.message_meta.specs.Metadata.{Metadata}
use Rattle.pb_fields.specs.declared.field.Field.{Field}
use Rattle.pb_fields.specs.Canonical.{text}
use Rattle.pulsar_commands.specs.declared.command.Command.{Command}
use Rattle.pulsar_commands.specs.declared.command.Command.TheVariants as command
use Rattle.pulsar_frames.specs.declared.frame.Body.{Body}
use Rattle.pulsar_frames.specs.declared.frame.Frame.{Frame as WireFrame}

-- CONNECT names the client `geo-client`, CONNECTED the server `geo-broker`, the text of an error is `error`, a SEND is one
-- message (own). Bytes that are no text are written by nobody
abbrev pub command_of : Frame → Command
command_of frame.Connect = command.Connect (codes "geo-client") None
command_of frame.Connected = command.Connected (codes "geo-broker") None
command_of (frame.Subscribe topic sub kind id request consumer earliest replicated) = command.Subscribe topic sub kind id request consumer earliest replicated
command_of (frame.Producer topic id request name) = command.Producer topic id request name
command_of (frame.Send id seq source e) = command.Send id seq 1
command_of (frame.SendReceipt id seq position) = command.SendReceipt id seq position
command_of (frame.SendError id seq code) = command.SendError id seq code (codes "error")
command_of (frame.Message id position source e) = command.Message id position
command_of (frame.Ack id kind positions) = command.Ack id kind positions
command_of (frame.Flow id permits) = command.Flow id permits
command_of (frame.Unsubscribe id request) = command.Unsubscribe id request
command_of (frame.Success request) = command.Success request
command_of (frame.Error request code) = command.Error request code (codes "error")
command_of (frame.CloseProducer id request) = command.CloseProducer id request
command_of (frame.CloseConsumer id request) = command.CloseConsumer id request
command_of (frame.ProducerSuccess request name) = command.ProducerSuccess request name
command_of frame.Ping = command.Ping
command_of frame.Pong = command.Pong
command_of frame.Unreadable = command.Pong

abbrev pub is_readable : Frame → Bool
is_readable frame.Unreadable = false
is_readable f = true

-- ---- an entry in a frame

abbrev pub marker_number : Content → Option ℕ
marker_number content.Data = None
marker_number (content.Marked m) = Some (marker_type m)
marker_number (content.Unread kind) = Some kind

-- a marker's payload that is not kept is its canonical text
abbrev pub payload_text : List (List ℕ) → Content → List ℕ → List ℕ
payload_text names (content.Marked m) [] = text (canonical_fields (named_marker names m))
payload_text names c bytes = bytes

-- the fields that nobody reads are given apart, since the machine keeps their bytes
abbrev pub metadata_of : List (List ℕ) → Option ClusterRef → Entry → List Field → Metadata
metadata_of names source e rest = record {
  producer = e.ident.producer;
  seq = e.ident.seq;
  publish_time = e.meta.publish_time;
  replicated_from = option_map (cluster_ref_name names) source;
  key = e.meta.key;
  replicate_to = e.meta.names;
  marker = marker_number e.content;
  rest = rest;
}

abbrev pub body_of : List (List ℕ) → Option ClusterRef → Entry → List Field → Body
body_of names source e rest = record { meta = metadata_of names source e rest; payload = payload_text names e.content e.payload }

abbrev pub carried : List (List ℕ) → List Field → Frame → Option Body
carried names rest (frame.Send id seq source e) = Some (body_of names source e rest)
carried names rest (frame.Message id position source e) = Some (body_of names source e rest)
carried names rest f = None

-- the bytes of the fields that nobody reads
abbrev pub unread_bytes : Frame → List ℕ
unread_bytes (frame.Send id seq source e) = e.meta.rest
unread_bytes (frame.Message id position source e) = e.meta.rest
unread_bytes f = []

abbrev pub wire_frame : List (List ℕ) → List Field → Frame → WireFrame
wire_frame names rest f = record { command = command_of f; body = carried names rest f }

-- commands that carry no message; a SUBSCRIBE is left to its own lemma
abbrev pub is_simple : Frame → Bool
is_simple (frame.Subscribe topic sub kind id request consumer earliest replicated) = false
is_simple (frame.Send id seq source e) = false
is_simple (frame.Message id position source e) = false
is_simple frame.Unreadable = false
is_simple f = true
