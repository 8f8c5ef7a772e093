-- How long canonical texts are: the sizes that the machine computes.
use Rattle.std.proofs.Common.{◌≡◌, ℕ, zero, suc, ◌+◌, ◌*◌, ◌/◌, ◌<◌, List, [], ◌∷◌, ◌++◌, length, map, refl, sym, ◌∙◌, ap, arith, inl, inr, lt-ltb, le-ltb, length-append}
use Rattle.std.proofs.lemmas.Bool.{cases_lt}
use Rattle.std.specs.Int.{w32, w64, to_le_bytes}
use Rattle.std.specs.List.{flat_map}
use Rattle.std.specs.Prelude.{Option, Some, None}
use Rattle.geo_base.specs.Sizes.{varint_groups, varint_size, tag_size, bytes_field as bytes_size, number_field}
use Rattle.std.proofs.Common.{Bool, true, false, add-zero}
use Rattle.std.proofs.lemmas.List.{append-nil}
use Rattle.std.specs.Prelude.{if◌then◌else◌}
use Rattle.geo_base.specs.declared.frame.AckKind.{AckKind}
use Rattle.geo_base.specs.declared.frame.AckKind.TheVariants as ack_kind
use Rattle.geo_base.specs.declared.frame.Frame.{Frame}
use Rattle.geo_base.specs.declared.frame.Frame.TheVariants as frame
use Rattle.geo_base.specs.declared.frame.SubKind.{SubKind}
use Rattle.geo_base.specs.declared.frame.SubKind.TheVariants as sub_kind
use Rattle.geo_base.specs.declared.position.Position.{Position}
use Rattle.geo_base.specs.FrameSizes.{frame_size, repeated_position, simple}
use Rattle.geo_base.specs.Sizes.{position_size}
use Rattle.pulsar_commands.specs.Canonical.{id_field, id_text}
use Rattle.pulsar_commands.specs.Parts.{ack_number, sub_number}
use Rattle.frame_values.specs.Texts.{body_of, command_of, is_readable, is_simple, marker_number, metadata_of, payload_text, unread_bytes, wire_frame}
use Rattle.std.proofs.Common.{zero-add}
use Rattle.std.specs.Option.{option_map}
use Rattle.geo_base.specs.declared.entry.Content.{Content}
use Rattle.geo_base.specs.declared.entry.Content.TheVariants as content
use Rattle.geo_base.specs.declared.entry.Entry.{Entry}
use Rattle.geo_base.specs.declared.marker.ClusterRef.{ClusterRef}
use Rattle.geo_base.specs.Sizes.{marker_type, marker_type_size, metadata_size, optional_text, payload_size, cluster_ref_name, repeated_text, text_field}
use Rattle.geo_base.specs.FrameSizes.{body_size, framed, source_size}
use Rattle.marker_codec.proofs.Lengths.{sizes as marker_sizes}
use Rattle.message_meta.specs.Canonical.{canonical_fields, optional_fields, required_fields}
use Rattle.message_meta.specs.Metadata.{Metadata}
use Rattle.pb_fields.specs.Canonical.{optional}
use Rattle.pulsar_frames.specs.declared.frame.Body.{Body}
use Rattle.pulsar_frames.specs.Layout.{sized}
use Rattle.pb_fields.specs.declared.field.Field.{Field}
use Rattle.pb_fields.specs.declared.field.Value.{Value}
use Rattle.pb_fields.specs.declared.field.Value.TheVariants as value
use Rattle.pb_fields.specs.Canonical.{groups, varint, field_text, value_text, text}
use Rattle.pb_fields.specs.Field.{varint_field, bytes_field, wire_number, wire_type}
use Rattle.pulsar_commands.specs.declared.command.Command.{Command}
use Rattle.pulsar_commands.specs.declared.command.Command.TheVariants as command
use Rattle.pulsar_commands.specs.Canonical.{part_fields, body_text, command_fields, command_text}
use Rattle.pulsar_commands.specs.Parts.{kind_of, parts}
use Rattle.pulsar_commands.specs.Table.{kind_number}
use Rattle.pulsar_frames.specs.declared.frame.Frame.{Frame as WireFrame}
use Rattle.pulsar_frames.specs.Canonical.{canonical_layout, frame_text}
use Rattle.pulsar_frames.specs.Layout.{content_text}
use Rattle.pulsar_frames.proofs.Layouts.{content_length, length-sized}

length-groups : (k n : ℕ) → length (groups k n) ≡ varint_groups k n
unfolding groups
length-groups zero n = refl
length-groups (suc k) n =
    elim (cases_lt n 128) [
      | inl small ↦ rw (lt-ltb n 128 small) refl
      | inr le ↦ rw (le-ltb n 128 le) (omega (arith, length-groups k (n / 128)))
    ]

pub length-varint : (n : ℕ) → length (varint n) ≡ varint_size n
unfolding varint
length-varint n = length-groups 9 n

-- a tag's wire type changes no length
tag_same : (n w : ℕ) → w < 8 → varint_size (8 * n + w) ≡ tag_size n
tag_same n w h =
    elim (cases_lt (n * 8) 128) [
      | inl small ↦ rw (lt-ltb (n * 8) 128 small, lt-ltb (8 * n + w) 128 (omega arith)) refl
      | inr le ↦ let e : (8 * n + w) / 128 ≡ (n * 8) / 128 = omega arith in rw (le-ltb (n * 8) 128 le, le-ltb (8 * n + w) 128 (omega arith), e) refl
    ]

-- the size of a field
abbrev pub value_size : Value → ℕ
value_size (value.Varint n) = varint_size n
value_size (value.Fixed64 n) = length (to_le_bytes w64 n)
value_size (value.Bytes b) = varint_size (length b) + length b
value_size (value.Fixed32 n) = length (to_le_bytes w32 n)

abbrev pub field_size : Field → ℕ
field_size f = tag_size f.number + value_size f.value

abbrev pub fields_size : List Field → ℕ
fields_size [] = 0
fields_size (f ∷ fs) = field_size f + fields_size fs

type_small : (v : Value) → wire_number (wire_type v) < 8
type_small (value.Varint n) = omega arith
type_small (value.Fixed64 n) = omega arith
type_small (value.Bytes b) = omega arith
type_small (value.Fixed32 n) = omega arith

length-value : (v : Value) → length (value_text v) ≡ value_size v
length-value (value.Varint n) = length-varint n
length-value (value.Fixed64 n) = refl
length-value (value.Bytes b) = omega (arith, length-append (varint (length b)) b, length-varint (length b))
length-value (value.Fixed32 n) = refl

length-field : (f : Field) → length (field_text f) ≡ field_size f
length-field f =
    let w : ℕ = wire_number (wire_type f.value) in
    omega (arith, length-append (varint (8 * f.number + w)) (value_text f.value), length-varint (8 * f.number + w), tag_same f.number w (type_small f.value), length-value f.value)

pub length-text : (fs : List Field) → length (text fs) ≡ fields_size fs
length-text [] = refl
length-text (f ∷ fs) = omega (arith, length-append (field_text f) (text fs), length-field f, length-text fs)

-- a frame without a message
pub length-simple : (c : Command) (k len : ℕ) → kind_number (kind_of c) ≡ k → varint_size k ≡ 1 → fields_size (flat_map part_fields (parts c)) ≡ len
    → length (frame_text (record { command = c; body = None })) ≡ simple k len
length-simple c k len kind one size =
    let w : WireFrame = record { command = c; body = None } in
    let body : length (body_text c) ≡ len = length-text (flat_map part_fields (parts c)) ∙ size in
    let command : length (command_text c) ≡ tag_size 1 + varint_size (kind_number (kind_of c)) + (tag_size (kind_number (kind_of c)) + (varint_size (length (body_text c)) + length (body_text c)) + 0) = length-text (command_fields c) in
    let named : length (command_text c) ≡ tag_size 1 + varint_size k + (tag_size k + (varint_size len + len) + 0) = rw (← kind, ← body) command in
    omega (arith, length-sized (content_text (canonical_layout w)), content_length (canonical_layout w), named, one)

-- ---- each frame

number_size : (n k : ℕ) → field_size (varint_field n k) ≡ number_field n k
number_size n k = refl

small_kind : (k : SubKind) → number_field 3 (sub_number k) ≡ 2
small_kind sub_kind.Exclusive = refl
small_kind sub_kind.Shared = refl
small_kind sub_kind.Failover = refl
small_kind sub_kind.KeyShared = refl

small_ack : (k : AckKind) → number_field 2 (ack_number k) ≡ 2
small_ack ack_kind.Individual = refl
small_ack ack_kind.Cumulative = refl

small_flag : (n : ℕ) → tag_size n ≡ 1 → (b : Bool) → number_field n (if b then 1 else 0) ≡ 2
small_flag n h true = omega (arith, h)
small_flag n h false = omega (arith, h)

id_size : (n : ℕ) (p : Position) → field_size (id_field n p) ≡ bytes_size n (position_size p)
id_size n p =
    let e : length (id_text p) ≡ position_size p = length-text (varint_field 1 p.ledger ∷ varint_field 2 p.entry ∷ []) ∙ rw add-zero refl in
    rw e refl

ids_size : (ps : List Position) → fields_size (map (id_field 3) ps) ≡ repeated_position 3 ps
ids_size [] = refl
ids_size (p ∷ ps) = rw (id_size 3 p, ids_size ps) refl

pub simple_length : (f : Frame) → is_simple f ≡ true → length (frame_text (record { command = command_of f; body = None })) ≡ frame_size [] f
simple_length frame.Connect h = length-simple (command_of frame.Connect) 2 (bytes_size 1 10) refl refl refl
simple_length frame.Connected h = length-simple (command_of frame.Connected) 3 (bytes_size 1 10) refl refl refl
simple_length (frame.Flow id permits) h = length-simple (command.Flow id permits) 11 (number_field 1 id + number_field 2 permits) refl refl (rw add-zero refl)
simple_length (frame.Unsubscribe id request) h = length-simple (command.Unsubscribe id request) 12 (number_field 1 id + number_field 2 request) refl refl (rw add-zero refl)
simple_length (frame.Success request) h = length-simple (command.Success request) 13 (number_field 1 request) refl refl (rw add-zero refl)
simple_length (frame.CloseProducer id request) h = length-simple (command.CloseProducer id request) 15 (number_field 1 id + number_field 2 request) refl refl (rw add-zero refl)
simple_length (frame.CloseConsumer id request) h = length-simple (command.CloseConsumer id request) 16 (number_field 1 id + number_field 2 request) refl refl (rw add-zero refl)
simple_length (frame.ProducerSuccess request name) h = length-simple (command.ProducerSuccess request name) 17 (number_field 1 request + bytes_size 2 (length name)) refl refl (rw add-zero refl)
simple_length (frame.Producer topic id request None) h =
    length-simple (command.Producer topic id request None) 5 (bytes_size 1 (length topic) + (number_field 2 id + (number_field 3 request + 0))) refl refl refl
simple_length (frame.Producer topic id request (Some n)) h =
    length-simple (command.Producer topic id request (Some n)) 5 (bytes_size 1 (length topic) + (number_field 2 id + (number_field 3 request + bytes_size 4 (length n)))) refl refl (rw add-zero refl)
simple_length (frame.SendReceipt id seq None) h = length-simple (command.SendReceipt id seq None) 7 (number_field 1 id + (number_field 2 seq + 0)) refl refl refl
simple_length (frame.SendReceipt id seq (Some p)) h =
    length-simple (command.SendReceipt id seq (Some p)) 7 (number_field 1 id + (number_field 2 seq + bytes_size 3 (position_size p))) refl refl (rw (id_size 3 p, add-zero) refl)
simple_length (frame.SendError id seq code) h =
    length-simple (command_of (frame.SendError id seq code)) 8 (number_field 1 id + (number_field 2 seq + (number_field 3 code + bytes_size 4 5))) refl refl refl
simple_length (frame.Error request code) h = length-simple (command_of (frame.Error request code)) 14 (number_field 1 request + (number_field 2 code + bytes_size 3 5)) refl refl refl
simple_length (frame.Ack id kind ps) h =
    length-simple (command.Ack id kind ps) 10 (number_field 1 id + (2 + repeated_position 3 ps)) refl refl (rw (small_ack kind, append-nil (map (id_field 3) ps), ids_size ps) refl)
simple_length frame.Ping h = length-simple command.Ping 18 0 refl refl refl
simple_length frame.Pong h = length-simple command.Pong 19 0 refl refl refl
simple_length f h = absurd cc

-- ---- a frame with a message

fields_append : (fs gs : List Field) → fields_size (fs ++ gs) ≡ fields_size fs + fields_size gs
fields_append [] gs = sym (zero-add (fields_size gs))
fields_append (f ∷ fs) gs = omega (arith, fields_append fs gs)

optional_size : (n : ℕ) (o : Option (List ℕ)) → fields_size (optional (bytes_field n) o) ≡ optional_text n o
optional_size n None = refl
optional_size n (Some t) = add-zero (text_field n t)

from_size : (names : List (List ℕ)) (o : Option ClusterRef) → fields_size (optional (bytes_field 5) (option_map (cluster_ref_name names) o)) ≡ source_size names o
from_size names None = refl
from_size names (Some p) = add-zero (text_field 5 (cluster_ref_name names p))

listed_size : (ts : List (List ℕ)) → fields_size (map (bytes_field 7) ts) ≡ repeated_text 7 ts
listed_size [] = refl
listed_size (t ∷ ts) = rw (listed_size ts) refl

type_size : (c : Content) → fields_size (optional (varint_field 20) (marker_number c)) ≡ marker_type_size c
type_size content.Data = refl
type_size (content.Marked m) = add-zero (number_field 20 (marker_type m))
type_size (content.Unread k) = add-zero (number_field 20 k)

payload_length : (names : List (List ℕ)) (c : Content) (bs : List ℕ) → length (payload_text names c bs) ≡ payload_size names c bs
payload_length names content.Data bs = refl
payload_length names (content.Unread k) bs = refl
payload_length names (content.Marked m) [] = marker_sizes names m
payload_length names (content.Marked m) (b ∷ bs) = refl

meta_length : (names : List (List ℕ)) (source : Option ClusterRef) (e : Entry) (rest : List Field) → e.meta.rest ≡ text rest
    → length (text (canonical_fields (metadata_of names source e rest))) ≡ source_size names source + metadata_size e
meta_length names source e rest kept =
    let m : Metadata = metadata_of names source e rest in
    let all : length (text (canonical_fields m)) ≡ fields_size (canonical_fields m) = length-text (canonical_fields m) in
    let unread : length e.meta.rest ≡ fields_size rest = ap (λ (bs : List ℕ). length bs) kept ∙ length-text rest in
    let a : fields_size (canonical_fields m) ≡ fields_size (required_fields m) + (fields_size (optional_fields m) + fields_size rest) = fields_append (required_fields m) (optional_fields m ++ rest) ∙ ap (λ (n : ℕ). fields_size (required_fields m) + n) (fields_append (optional_fields m) rest) in
    let b : fields_size (optional_fields m) ≡ source_size names source + (optional_text 6 e.meta.key + (repeated_text 7 e.meta.names + marker_type_size e.content)) =
    fields_append (optional (bytes_field 5) (option_map (cluster_ref_name names) source)) (optional (bytes_field 6) e.meta.key ++ (map (bytes_field 7) e.meta.names ++ optional (varint_field 20) (marker_number e.content)))
    ∙ rw (from_size names source, fields_append (optional (bytes_field 6) e.meta.key) (map (bytes_field 7) e.meta.names ++ optional (varint_field 20) (marker_number e.content)), optional_size 6 e.meta.key, fields_append (map (bytes_field 7) e.meta.names) (optional (varint_field 20) (marker_number e.content)), listed_size e.meta.names, type_size e.content) refl in
    omega (arith, all, unread, a, b)

length-carried : (c : Command) (b : Body) (k len : ℕ) → kind_number (kind_of c) ≡ k → varint_size k ≡ 1 → fields_size (flat_map part_fields (parts c)) ≡ len
    → length (frame_text (record { command = c; body = Some b })) ≡ framed k len (4 + (length (text (canonical_fields b.meta)) + length b.payload))
length-carried c b k len kind one size =
    let w : WireFrame = record { command = c; body = Some b } in
    let body : length (body_text c) ≡ len = length-text (flat_map part_fields (parts c)) ∙ size in
    let command : length (command_text c) ≡ tag_size 1 + varint_size (kind_number (kind_of c)) + (tag_size (kind_number (kind_of c)) + (varint_size (length (body_text c)) + length (body_text c)) + 0) = length-text (command_fields c) in
    let named : length (command_text c) ≡ tag_size 1 + varint_size k + (tag_size k + (varint_size len + len) + 0) = rw (← kind, ← body) command in
    let meta : List ℕ = text (canonical_fields b.meta) in
    omega (arith, length-sized (content_text (canonical_layout w)), content_length (canonical_layout w), named, one, length-append (sized meta) b.payload, length-sized meta)

carried_length : (names : List (List ℕ)) (source : Option ClusterRef) (e : Entry) (rest : List Field) (c : Command) (k len : ℕ) → e.meta.rest ≡ text rest
    → kind_number (kind_of c) ≡ k → varint_size k ≡ 1 → fields_size (flat_map part_fields (parts c)) ≡ len
    → length (frame_text (record { command = c; body = Some (body_of names source e rest) })) ≡ framed k len (body_size names source e)
carried_length names source e rest c k len kept kind one size =
    length-carried c (body_of names source e rest) k len kind one size
    ∙ ap (λ (n : ℕ). framed k len (4 + n)) (rw (meta_length names source e rest kept, payload_length names e.content e.payload) (omega arith))

simple_named : (names : List (List ℕ)) (f : Frame) → is_simple f ≡ true → frame_size names f ≡ frame_size [] f
simple_named names frame.Connect h = refl
simple_named names frame.Connected h = refl
simple_named names (frame.Producer topic id request name) h = refl
simple_named names (frame.SendReceipt id seq position) h = refl
simple_named names (frame.SendError id seq code) h = refl
simple_named names (frame.Ack id kind positions) h = refl
simple_named names (frame.Flow id permits) h = refl
simple_named names (frame.Unsubscribe id request) h = refl
simple_named names (frame.Success request) h = refl
simple_named names (frame.Error request code) h = refl
simple_named names (frame.CloseProducer id request) h = refl
simple_named names (frame.CloseConsumer id request) h = refl
simple_named names (frame.ProducerSuccess request name) h = refl
simple_named names frame.Ping h = refl
simple_named names frame.Pong h = refl
simple_named names f h = absurd cc

subscribe_length : (topic sub : List ℕ) (kind : SubKind) (id request : ℕ) (consumer : Option (List ℕ)) (earliest replicated : Bool)
    → length (frame_text (record { command = command.Subscribe topic sub kind id request consumer earliest replicated; body = None })) ≡ frame_size [] (frame.Subscribe topic sub kind id request consumer earliest replicated)
subscribe_length topic sub kind id request None earliest replicated =
    length-simple (command.Subscribe topic sub kind id request None earliest replicated) 4 (bytes_size 1 (length topic) + (bytes_size 2 (length sub) + (2 + (number_field 4 id + (number_field 5 request + (0 + (2 + 2))))))) refl refl
    (rw (small_kind kind, small_flag 13 refl earliest, small_flag 14 refl replicated) refl)
subscribe_length topic sub kind id request (Some n) earliest replicated =
    length-simple (command.Subscribe topic sub kind id request (Some n) earliest replicated) 4 (bytes_size 1 (length topic) + (bytes_size 2 (length sub) + (2 + (number_field 4 id + (number_field 5 request + (bytes_size 6 (length n) + (2 + 2))))))) refl refl
    (rw (small_kind kind, small_flag 13 refl earliest, small_flag 14 refl replicated) refl)

pub frame_length : (names : List (List ℕ)) (rest : List Field) (f : Frame) → unread_bytes f ≡ text rest → is_readable f ≡ true → length (frame_text (wire_frame names rest f)) ≡ frame_size names f
frame_length names rest (frame.Send id seq source e) kept h =
    carried_length names source e rest (command.Send id seq 1) 6 (number_field 1 id + (number_field 2 seq + 2)) kept refl refl refl
frame_length names rest (frame.Message id position source e) kept h =
    carried_length names source e rest (command.Message id position) 9 (number_field 1 id + bytes_size 2 (position_size position)) kept refl refl (rw (id_size 2 position, add-zero) refl)
frame_length names rest (frame.Subscribe topic sub kind id request consumer earliest replicated) kept h = subscribe_length topic sub kind id request consumer earliest replicated
frame_length names rest frame.Connect kept h = simple_length frame.Connect refl ∙ sym (simple_named names frame.Connect refl)
frame_length names rest frame.Connected kept h = simple_length frame.Connected refl ∙ sym (simple_named names frame.Connected refl)
frame_length names rest (frame.Producer topic id request name) kept h = simple_length (frame.Producer topic id request name) refl ∙ sym (simple_named names (frame.Producer topic id request name) refl)
frame_length names rest (frame.SendReceipt id seq position) kept h = simple_length (frame.SendReceipt id seq position) refl ∙ sym (simple_named names (frame.SendReceipt id seq position) refl)
frame_length names rest (frame.SendError id seq code) kept h = simple_length (frame.SendError id seq code) refl
frame_length names rest (frame.Ack id kind ps) kept h = simple_length (frame.Ack id kind ps) refl
frame_length names rest (frame.Flow id permits) kept h = simple_length (frame.Flow id permits) refl
frame_length names rest (frame.Unsubscribe id request) kept h = simple_length (frame.Unsubscribe id request) refl
frame_length names rest (frame.Success request) kept h = simple_length (frame.Success request) refl
frame_length names rest (frame.Error request code) kept h = simple_length (frame.Error request code) refl
frame_length names rest (frame.CloseProducer id request) kept h = simple_length (frame.CloseProducer id request) refl
frame_length names rest (frame.CloseConsumer id request) kept h = simple_length (frame.CloseConsumer id request) refl
frame_length names rest (frame.ProducerSuccess request name) kept h = simple_length (frame.ProducerSuccess request name) refl
frame_length names rest frame.Ping kept h = simple_length frame.Ping refl
frame_length names rest frame.Pong kept h = simple_length frame.Pong refl
frame_length names rest frame.Unreadable kept h = absurd cc
