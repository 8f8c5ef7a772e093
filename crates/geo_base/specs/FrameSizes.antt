-- How many bytes a frame takes, its first four included (Pulsar binary protocol: total size, command size, command, and for
-- SEND and MESSAGE metadata size, metadata, payload; every field that a command has a value for is written).
use Rattle.std.specs.Prelude.{ℕ, ◌+◌, List, [], ◌∷◌, Option, Some, None}
use Rattle.geo_base.specs.Types.{Entry, Frame, Out, ClusterRef, Position}
use Rattle.geo_base.specs.Types.frame
use Rattle.geo_base.specs.Sizes.{bytes_field, number_field, optional_text, text_field, cluster_ref_name, position_size, entry_size}

abbrev pub optional_position : ℕ → Option Position → ℕ
optional_position field None = 0
optional_position field (Some p) = bytes_field field (position_size p)

abbrev pub repeated_position : ℕ → List Position → ℕ
repeated_position field [] = 0
repeated_position field (p ∷ ps) = bytes_field field (position_size p) + repeated_position field ps

abbrev pub source_size : List (List ℕ) → Option ClusterRef → ℕ
source_size names None = 0
source_size names (Some p) = text_field 5 (cluster_ref_name names p)

-- what follows the command: the metadata's length in four bytes, the metadata with replicated_from, the payload
abbrev pub body_size : List (List ℕ) → Option ClusterRef → Entry → ℕ
body_size names source e = 4 + (source_size names source + entry_size names e)

-- a field whose value is a number below 128
abbrev pub small_field : ℕ
small_field = 2

-- two lengths of four bytes, the command's type, the command in the field of its type's number, what follows
abbrev pub framed : ℕ → ℕ → ℕ → ℕ
framed kind len body = 8 + (small_field + bytes_field kind len + body)

abbrev pub simple : ℕ → ℕ → ℕ
simple kind len = framed kind len 0

-- the greatest size of a frame after its first four bytes: Pulsar's largest message, and 10 KiB for what frames it
abbrev pub most_frame_size : ℕ
most_frame_size = 5253120

-- CONNECT names the client `geo-client`, CONNECTED the server `geo-broker` (own), the text of an error is `error` (own);
-- bytes that cannot be read are written by nobody
abbrev pub frame_size : List (List ℕ) → Frame → ℕ
frame_size names frame.Connect = simple 2 (bytes_field 1 10)
frame_size names frame.Connected = simple 3 (bytes_field 1 10)
frame_size names (frame.Subscribe topic sub kind id request consumer earliest replicated) =
    simple 4 (text_field 1 topic + (text_field 2 sub + (small_field + (number_field 4 id + (number_field 5 request
    + (optional_text 6 consumer + (small_field + small_field)))))))
frame_size names (frame.Producer topic id request name) =
    simple 5 (text_field 1 topic + (number_field 2 id + (number_field 3 request + optional_text 4 name)))
frame_size names (frame.Send id seq source e) = framed 6 (number_field 1 id + (number_field 2 seq + small_field)) (body_size names source e)
frame_size names (frame.SendReceipt id seq position) = simple 7 (number_field 1 id + (number_field 2 seq + optional_position 3 position))
frame_size names (frame.SendError id seq code) = simple 8 (number_field 1 id + (number_field 2 seq + (number_field 3 code + bytes_field 4 5)))
frame_size names (frame.Message id position source e) = framed 9 (number_field 1 id + bytes_field 2 (position_size position)) (body_size names source e)
frame_size names (frame.Ack id kind positions) = simple 10 (number_field 1 id + (small_field + repeated_position 3 positions))
frame_size names (frame.Flow id permits) = simple 11 (number_field 1 id + number_field 2 permits)
frame_size names (frame.Unsubscribe id request) = simple 12 (number_field 1 id + number_field 2 request)
frame_size names (frame.Success request) = simple 13 (number_field 1 request)
frame_size names (frame.Error request code) = simple 14 (number_field 1 request + (number_field 2 code + bytes_field 3 5))
frame_size names (frame.CloseProducer id request) = simple 15 (number_field 1 id + number_field 2 request)
frame_size names (frame.CloseConsumer id request) = simple 16 (number_field 1 id + number_field 2 request)
frame_size names (frame.ProducerSuccess request name) = simple 17 (number_field 1 request + text_field 2 name)
frame_size names frame.Ping = simple 18 0
frame_size names frame.Pong = simple 19 0
frame_size names frame.Unreadable = 0

-- all that an event sends
abbrev pub sent_bytes : List (List ℕ) → List Out → ℕ
sent_bytes names [] = 0
sent_bytes names (o ∷ os) = frame_size names o.frame + sent_bytes names os
