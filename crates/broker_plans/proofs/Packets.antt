-- What a broker keeps can be written: frames without an entry by their short texts, and a stored entry as a SEND and as a MESSAGE.
use Rattle.std.proofs.Common.{◌≡◌, ℕ, zero, suc, ◌+◌, ◌*◌, ◌≤◌, Bool, true, false, List, [], ◌∷◌, length, refl, arith, subst}
use Rattle.std.specs.Prelude.{◌==◌, if◌then◌else◌, Option, Some, None, IfSome, slice_get, slice_index_or}
use Rattle.std.specs.List.{AllByRecursion}
use Rattle.geo_base.specs.declared.entry.Entry.{Entry}
use Rattle.geo_base.specs.declared.frame.Frame.{Frame}
use Rattle.geo_base.specs.declared.frame.Frame.TheVariants as frame
use Rattle.geo_base.specs.declared.marker.ClusterRef.TheVariants as cluster_ref
use Rattle.geo_base.specs.declared.position.Position.{Position}
use Rattle.geo_base.specs.Broker.{Site}
use Rattle.geo_base.specs.FrameSizes.{source_size}
use Rattle.geo_base.specs.Offering.{source_of}
use Rattle.geo_base.specs.Sizes.{bytes_field, entry_size, number_field, position_size}
use Rattle.frame_values.specs.Coded.{IsWritable, carries_entry}
use Rattle.frame_values.specs.Fitting.{IsSmall}
use Rattle.frame_values.specs.Texts.{is_readable, unread_bytes}
use Rattle.frame_values.proofs.Counting.{varint_most}
use Rattle.frame_values.proofs.Entries.{no_rest}
use Rattle.frame_values.proofs.Fitting.{fits}
use Rattle.broker_state.specs.Site.{IsNameLong, IsSite}
use Rattle.broker_plans.specs.Storable.{AreStorable, IsStorable}

-- no field stands beside those that are read
nothing_unread : (f : Frame) → carries_entry f ≡ false → unread_bytes f ≡ []
nothing_unread frame.Connect h = refl
nothing_unread frame.Connected h = refl
nothing_unread (frame.Subscribe topic sub kind id request consumer earliest replicated) h = refl
nothing_unread (frame.Producer topic id request name) h = refl
nothing_unread (frame.Send id seq source e) h = absurd cc
nothing_unread (frame.SendReceipt id seq position) h = refl
nothing_unread (frame.SendError id seq code) h = refl
nothing_unread (frame.Message id position source e) h = absurd cc
nothing_unread (frame.Ack id kind positions) h = refl
nothing_unread (frame.Flow id permits) h = refl
nothing_unread (frame.Unsubscribe id request) h = refl
nothing_unread (frame.Success request) h = refl
nothing_unread (frame.Error request code) h = refl
nothing_unread (frame.CloseProducer id request) h = refl
nothing_unread (frame.CloseConsumer id request) h = refl
nothing_unread (frame.ProducerSuccess request name) h = refl
nothing_unread frame.Ping h = refl
nothing_unread frame.Pong h = refl
nothing_unread frame.Unreadable h = refl

pub simple_writable : (names : List (List ℕ)) (f : Frame) → carries_entry f ≡ false → is_readable f ≡ true → IsSmall names f → IsWritable names f
simple_writable names f simple readable small =
    record { readable = readable; rest = rw (nothing_unread f simple) no_rest; size = fits names f small }

-- a field of a number, and one of bytes
pub number_most : (f n : ℕ) → number_field f n ≤ 20
number_most f n = omega (arith, varint_most (f * 8), varint_most n)

pub bytes_most : (f n : ℕ) → bytes_field f n ≤ 20 + n
bytes_most f n = omega (arith, varint_most (f * 8), varint_most n)

pub place_most : (p : Position) → position_size p ≤ 40
place_most p = omega (arith, number_most 1 p.ledger, number_most 2 p.entry)

-- the name of any cluster, also of one that is none
pub name_most : (names : List (List ℕ)) (x : ℕ) → AllByRecursion IsNameLong names → length (slice_index_or names x []) ≤ 16
name_most [] x h = omega arith
name_most (n ∷ ns) zero h = h.0
name_most (n ∷ ns) (suc x) h = name_most ns x h.1

stored_most : (own origin : ℕ) (b : Bool) → (if b then 5242880 + 1024 else 5242880) ≤ 5243904
stored_most own origin true = omega arith
stored_most own origin false = omega arith

entry_most : (h : Site) (e : Entry) → IsStorable h e → entry_size h.clusters e ≤ 5243904
entry_most h e is = omega (arith, is.size, stored_most h.own e.ident.origin (e.ident.origin == h.own))

known_most : (h : Site) (x : ℕ) → IsSite h → source_size h.clusters (Some (cluster_ref.Known x)) ≤ 36
known_most h x site = omega (arith, bytes_most 5 (length (slice_index_or h.clusters x [])), name_most h.clusters x site.names)

source_most : (h : Site) (x : ℕ) (b : Bool) → IsSite h → source_size h.clusters (if b then None else Some (cluster_ref.Known x)) ≤ 36
source_most h x true site = omega arith
source_most h x false site = known_most h x site

pub send_writable : (h : Site) (id seq : ℕ) (e : Entry) → IsSite h → IsStorable h e → IsWritable h.clusters (frame.Send id seq (Some (cluster_ref.Known h.own)) e)
send_writable h id seq e site is = record {
  readable = refl;
  rest = is.read.rest;
  size = omega (arith, number_most 1 id, number_most 2 seq, bytes_most 6 (number_field 1 id + (number_field 2 seq + 2)), known_most h h.own site, entry_most h e is);
}

pub message_writable : (h : Site) (id : ℕ) (position : Position) (e : Entry) → IsSite h → IsStorable h e → IsWritable h.clusters (frame.Message id position (source_of h.own e) e)
message_writable h id position e site is = record {
  readable = refl;
  rest = is.read.rest;
  size = omega (
    arith,
    number_most 1 id,
    place_most position,
    bytes_most 2 (position_size position),
    bytes_most 9 (number_field 1 id + bytes_field 2 (position_size position)),
    source_most h e.ident.origin (e.ident.origin == h.own) site,
    entry_most h e is,
  );
}

-- each entry that a broker keeps can be written
each_stored : (h : Site) (es : List Entry) (i : ℕ) → AreStorable h es → IfSome (slice_get es i) (IsStorable h)
each_stored h [] i all = tt
each_stored h (e ∷ es) zero all = all.0
each_stored h (e ∷ es) (suc i) all = each_stored h es i all.1

pub stored_at : (h : Site) (es : List Entry) (i : ℕ) (e : Entry) → AreStorable h es → slice_get es i ≡ Some e → IsStorable h e
stored_at h es i e all is = subst (λ (o : Option Entry). IfSome o (IsStorable h)) is (each_stored h es i all)
