-- Small frames are within the limit on frames.
use Rattle.std.proofs.Common.{◌≡◌, ℕ, ◌+◌, ◌*◌, ◌<◌, ◌≤◌, List, [], ◌∷◌, length, refl, arith, lt-ltb}
use Rattle.std.specs.Prelude.{Option, Some, None, IfSome}
use Rattle.world_laws.proofs.Types.{Entry, Frame, ClusterRef, Position}
use Rattle.world_laws.proofs.Types.frame
use Rattle.geo_base.specs.FrameSizes.{body_size, frame_size, framed, most_frame_size, repeated_position, source_size}
use Rattle.geo_base.specs.Sizes.{bytes_field, number_field, optional_text, cluster_ref_name, position_size, tag_size, text_field, varint_size}
use Rattle.world_laws.specs.Small.{IsShortText, IsSmallEntry, IsSmallFrame}
use Rattle.world_laws.proofs.FrameContents.OwnSizes.{bytes_most, number_most, varint_most}

varint_one : (n : ℕ) → n < 128 → varint_size n ≡ 1
varint_one n lt = rw (lt-ltb n 128 lt) refl

optional_most : (f : ℕ) (o : Option (List ℕ)) → IfSome o IsShortText → optional_text f o ≤ 1044
optional_most f None h = omega arith
optional_most f (Some t) h = omega (arith, bytes_most f (length t), h)

-- a command and what follows it
framed_most : (kind len body most : ℕ) → len + body ≤ most → framed kind len body ≤ most + 30
framed_most kind len body most h = omega (arith, bytes_most kind len)

-- a position takes at most 22 bytes, and the two of its field
position_most : (p : Position) → position_size p ≤ 22
position_most p = omega (arith, varint_most p.ledger, varint_most p.entry)

id_most : (p : Position) → bytes_field 3 (position_size p) ≤ 24
id_most p =
    let small : position_size p ≤ 22 = position_most p in
    let one : varint_size (position_size p) ≡ 1 = varint_one (position_size p) (omega arith) in
    let tag : tag_size 3 ≡ 1 = refl in
    omega (arith, small, one, tag)

ids_most : (ps : List Position) → repeated_position 3 ps ≤ 24 * length ps
ids_most [] = omega arith
ids_most (p ∷ ps) = omega (arith, id_most p, ids_most ps)

source_most : (names : List (List ℕ)) (o : Option ClusterRef) → IfSome o (λ p. IsShortText (cluster_ref_name names p)) → source_size names o ≤ 1044
source_most names None h = omega arith
source_most names (Some p) h = omega (arith, bytes_most 5 (length (cluster_ref_name names p)), h)

carried_most : (names : List (List ℕ)) (source : Option ClusterRef) (e : Entry) → IsSmallEntry names source e → body_size names source e ≤ 5243928
carried_most names source e h = omega (arith, h.entry, source_most names source h.from)

pub fits : (names : List (List ℕ)) (f : Frame) → IsSmallFrame names f → frame_size names f ≤ 4 + most_frame_size
fits names frame.Connect h = omega arith
fits names frame.Connected h = omega arith
fits names (frame.Subscribe topic sub kind id request consumer earliest replicated) h =
    omega (
      arith,
      framed_most 4 (text_field 1 topic + (text_field 2 sub + (2 + (number_field 4 id + (number_field 5 request + (optional_text 6 consumer + (2 + 2))))))) 0 6000
          (omega (arith, bytes_most 1 (length topic), bytes_most 2 (length sub), number_most 4 id, number_most 5 request, optional_most 6 consumer h.2, h.0, h.1)),
    )
fits names (frame.Producer topic id request name) h =
    omega (
      arith,
      framed_most 5 (text_field 1 topic + (number_field 2 id + (number_field 3 request + optional_text 4 name))) 0 6000
          (omega (arith, bytes_most 1 (length topic), number_most 2 id, number_most 3 request, optional_most 4 name h.1, h.0)),
    )
fits names (frame.Send id seq source e) h =
    omega (arith, framed_most 6 (number_field 1 id + (number_field 2 seq + 2)) (body_size names source e) 5250000 (omega (arith, number_most 1 id, number_most 2 seq, carried_most names source e h)))
fits names (frame.SendReceipt id seq None) h = omega (arith, framed_most 7 (number_field 1 id + (number_field 2 seq + 0)) 0 6000 (omega (arith, number_most 1 id, number_most 2 seq)))
fits names (frame.SendReceipt id seq (Some p)) h =
    omega (arith, framed_most 7 (number_field 1 id + (number_field 2 seq + bytes_field 3 (position_size p))) 0 6000 (omega (arith, number_most 1 id, number_most 2 seq, id_most p)))
fits names (frame.SendError id seq code) h =
    omega (arith, framed_most 8 (number_field 1 id + (number_field 2 seq + (number_field 3 code + bytes_field 4 5))) 0 6000 (omega (arith, number_most 1 id, number_most 2 seq, number_most 3 code, bytes_most 4 5)))
fits names (frame.Message id position source e) h =
    omega (
      arith,
      framed_most 9 (number_field 1 id + bytes_field 2 (position_size position)) (body_size names source e) 5250000
          (omega (arith, number_most 1 id, bytes_most 2 (position_size position), position_most position, carried_most names source e h)),
    )
fits names (frame.Ack id kind positions) h =
    omega (arith, framed_most 10 (number_field 1 id + (2 + repeated_position 3 positions)) 0 4900000 (omega (arith, number_most 1 id, ids_most positions, h)))
fits names (frame.Flow id permits) h = omega (arith, framed_most 11 (number_field 1 id + number_field 2 permits) 0 6000 (omega (arith, number_most 1 id, number_most 2 permits)))
fits names (frame.Unsubscribe id request) h = omega (arith, framed_most 12 (number_field 1 id + number_field 2 request) 0 6000 (omega (arith, number_most 1 id, number_most 2 request)))
fits names (frame.Success request) h = omega (arith, framed_most 13 (number_field 1 request) 0 6000 (omega (arith, number_most 1 request)))
fits names (frame.Error request code) h =
    omega (arith, framed_most 14 (number_field 1 request + (number_field 2 code + bytes_field 3 5)) 0 6000 (omega (arith, number_most 1 request, number_most 2 code, bytes_most 3 5)))
fits names (frame.CloseProducer id request) h = omega (arith, framed_most 15 (number_field 1 id + number_field 2 request) 0 6000 (omega (arith, number_most 1 id, number_most 2 request)))
fits names (frame.CloseConsumer id request) h = omega (arith, framed_most 16 (number_field 1 id + number_field 2 request) 0 6000 (omega (arith, number_most 1 id, number_most 2 request)))
fits names (frame.ProducerSuccess request name) h = omega (arith, framed_most 17 (number_field 1 request + text_field 2 name) 0 6000 (omega (arith, number_most 1 request, bytes_most 2 (length name), h)))
fits names frame.Ping h = omega arith
fits names frame.Pong h = omega arith
fits names frame.Unreadable h = omega arith
