-- How many bytes a field, a marker and an entry take as they are written (Protocol Buffers encoding; the fields' numbers are
-- those of PulsarApi.proto and PulsarMarkers.proto, but for marker_type, whose number 20 is own).
-- All fields here have numbers below 2048 and lengths below 2 ^ 63.
use Rattle.std.specs.Prelude.{ℕ, zero, suc, ◌+◌, ◌*◌, ◌/◌, nat_lt, if◌then◌else◌, List, [], ◌∷◌, length, Option, Some, None, slice_index_or}
use Rattle.geo_base.specs.Types.{ClusterPosition, Content, Entry, Marker, ClusterRef, Position}
use Rattle.geo_base.specs.Types.content
use Rattle.geo_base.specs.Types.marker
use Rattle.geo_base.specs.Types.cluster_ref

-- the bytes of a varint: groups of seven bits, at most ten for 64
abbrev pub varint_groups : ℕ → ℕ → ℕ
varint_groups zero n = 1
varint_groups (suc more) n = if nat_lt n 128 then 1 else 1 + varint_groups more (n / 128)

abbrev pub varint_size : ℕ → ℕ
varint_size n = varint_groups 9 n

-- a tag is the field's number times 8 and a wire type below 8, which changes no length
abbrev pub tag_size : ℕ → ℕ
tag_size field = varint_size (field * 8)

abbrev pub number_field : ℕ → ℕ → ℕ
number_field field n = tag_size field + varint_size n

-- a field of so many bytes: a text or an embedded message
abbrev pub bytes_field : ℕ → ℕ → ℕ
bytes_field field len = tag_size field + (varint_size len + len)

abbrev pub text_field : ℕ → List ℕ → ℕ
text_field field t = bytes_field field (length t)

abbrev pub optional_text : ℕ → Option (List ℕ) → ℕ
optional_text field None = 0
optional_text field (Some t) = text_field field t

abbrev pub repeated_text : ℕ → List (List ℕ) → ℕ
repeated_text field [] = 0
repeated_text field (t ∷ ts) = text_field field t + repeated_text field ts

-- the name that a place is written by
abbrev pub cluster_ref_name : List (List ℕ) → ClusterRef → List ℕ
cluster_ref_name names (cluster_ref.Known x) = slice_index_or names x []
cluster_ref_name names (cluster_ref.Stranger n) = n

-- MessageIdData and MarkersMessageIdData
abbrev pub position_size : Position → ℕ
position_size p = number_field 1 p.ledger + number_field 2 p.entry

-- ClusterMessageId
abbrev pub cluster_position_size : List (List ℕ) → ClusterPosition → ℕ
cluster_position_size names r = text_field 1 (cluster_ref_name names r.cluster) + bytes_field 2 (position_size r.position)

abbrev pub cluster_positions : List (List ℕ) → ℕ → List ClusterPosition → ℕ
cluster_positions names field [] = 0
cluster_positions names field (r ∷ rs) = bytes_field field (cluster_position_size names r) + cluster_positions names field rs

abbrev pub marker_size : List (List ℕ) → Marker → ℕ
marker_size names (marker.Request id source) = text_field 1 id + text_field 2 (cluster_ref_name names source)
marker_size names (marker.Response id answer) = text_field 1 id + bytes_field 2 (cluster_position_size names answer)
marker_size names (marker.Snapshot id local remote) = text_field 1 id + (bytes_field 2 (position_size local) + cluster_positions names 3 remote)
marker_size names (marker.Update sub remote) = text_field 1 sub + cluster_positions names 2 remote

-- the marker types (those of PulsarMarkers.proto, as known and not looked up)
abbrev pub marker_type : Marker → ℕ
marker_type (marker.Request id source) = 10
marker_type (marker.Response id answer) = 11
marker_type (marker.Snapshot id local remote) = 12
marker_type (marker.Update sub remote) = 13

abbrev pub marker_type_size : Content → ℕ
marker_type_size content.Data = 0
marker_type_size (content.Marked m) = number_field 20 (marker_type m)
marker_type_size (content.Unread kind) = number_field 20 kind

-- a marker's payload that is not kept is its canonical text
abbrev pub payload_size : List (List ℕ) → Content → List ℕ → ℕ
payload_size names (content.Marked m) [] = marker_size names m
payload_size names c bytes = length bytes

-- MessageMetadata without replicated_from
abbrev pub metadata_size : Entry → ℕ
metadata_size e =
    text_field 1 e.ident.producer + (number_field 2 e.ident.seq + (number_field 3 e.meta.publish_time
    + (optional_text 6 e.meta.key + (repeated_text 7 e.meta.names + (marker_type_size e.content + length e.meta.rest)))))

-- an entry's size: its metadata without replicated_from, and its payload
abbrev pub entry_size : List (List ℕ) → Entry → ℕ
entry_size names e = metadata_size e + payload_size names e.content e.payload

-- the greatest size of an entry that is stored: Pulsar's largest message, 5 MiB (maxMessageSize of a broker's configuration)
abbrev pub most_entry_size : ℕ
most_entry_size = 5242880
