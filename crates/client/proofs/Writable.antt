-- What a client sends has a text within the limit on frames, and its packets are written one by one.
use Rattle.std.proofs.Common.{◌≡◌, ℕ, ◌+◌, ◌<◌, ◌≤◌, true, List, [], ◌∷◌, ◌++◌, length, take, get_or, nat_le, refl, sym, subst, arith}
use Rattle.std.specs.Prelude.{Option, Some, None, IfSome}
use Rattle.std.proofs.lemmas.Bool.Decides.{nat_tests}
use Rattle.std.proofs.lemmas.List.{take_more}
use Rattle.geo_base.specs.declared.entry.Content.{Content}
use Rattle.geo_base.specs.declared.entry.Content.TheVariants as content
use Rattle.geo_base.specs.declared.entry.Entry.{Entry}
use Rattle.geo_base.specs.declared.frame.Frame.{Frame}
use Rattle.geo_base.specs.declared.frame.Frame.TheVariants as frame
use Rattle.geo_base.specs.declared.marker.ClusterRef.{ClusterRef}
use Rattle.geo_base.specs.declared.packet.Out.{Out}
use Rattle.geo_base.specs.Entry.{is_data}
use Rattle.geo_base.specs.Message.{is_message}
use Rattle.geo_base.specs.Sizes.{entry_size, metadata_size, payload_size, cluster_ref_name}
use Rattle.message_meta.specs.Known.{IsRest}
use Rattle.frame_values.proofs.Entries.{no_rest}
use Rattle.frame_values.proofs.Fitting.{fits}
use Rattle.frame_values.specs.Coded.{IsWritable}
use Rattle.frame_values.specs.Fitting.{IsShort, IsSmallCarried}
use Rattle.geo_base.specs.declared.packet.WireOut.{WireOut}
use Rattle.client.specs.Packets.{AreWritten, IsWrittenOut}
use Rattle.client.specs.Sent.{IsSent}
use Rattle.geo_base.proofs.Bools.{both_true}

payload_is : (names : List (List ℕ)) (c : Content) (payload : List ℕ) → is_data c ≡ true → payload_size names c payload ≡ length payload
payload_is names content.Data payload h = refl
payload_is names (content.Marked m) payload h = absurd cc
payload_is names (content.Unread kind) payload h = absurd cc

small_message : (names : List (List ℕ)) (e : Entry) → is_message e ≡ true → entry_size names e ≤ 5242880
unfolding is_message
small_message names e h =
    let parts = both_true (is_data e.content) (nat_le (metadata_size e + length e.payload) 5242880) h in
    let small : metadata_size e + length e.payload ≤ 5242880 = grind (arith, nat_tests, parts.1) in
    let whole = payload_is names e.content e.payload parts.0 in
    omega (arith, small, whole)

no_place : (names : List (List ℕ)) (o : Option ClusterRef) → o ≡ None → IfSome o (λ p. IsShort (cluster_ref_name names p))
no_place names None h = tt
no_place names (Some p) h = absurd cc

small_entry : (names : List (List ℕ)) (source : Option ClusterRef) (e : Entry) → source ≡ None → is_message e ≡ true → IsSmallCarried names source e
small_entry names source e none h = record { entry = small_message names e h; from = no_place names source none }

kept_rest : (bytes : List ℕ) → bytes ≡ [] → IsRest bytes
kept_rest bytes h = subst (λ (bs : List ℕ). IsRest bs) (sym h) no_rest

pub writable : (names : List (List ℕ)) (f : Frame) → IsSent f → IsWritable names f
writable names frame.Connect h = record { readable = refl; rest = no_rest; size = fits names frame.Connect tt }
writable names frame.Connected h = absurd h
writable names (frame.Subscribe topic sub kind id request consumer earliest replicated) h =
    record { readable = refl; rest = no_rest; size = fits names (frame.Subscribe topic sub kind id request consumer earliest replicated) h }
writable names (frame.Producer topic id request name) h = record { readable = refl; rest = no_rest; size = fits names (frame.Producer topic id request name) h }
writable names (frame.Send id seq source e) h =
    record { readable = refl; rest = kept_rest e.meta.rest h.2; size = fits names (frame.Send id seq source e) (small_entry names source e h.0 h.1) }
writable names (frame.SendReceipt id seq position) h = absurd h
writable names (frame.SendError id seq code) h = absurd h
writable names (frame.Message id position source e) h = absurd h
writable names (frame.Ack id kind positions) h = record { readable = refl; rest = no_rest; size = fits names (frame.Ack id kind positions) h }
writable names (frame.Flow id permits) h = record { readable = refl; rest = no_rest; size = fits names (frame.Flow id permits) tt }
writable names (frame.Unsubscribe id request) h = record { readable = refl; rest = no_rest; size = fits names (frame.Unsubscribe id request) tt }
writable names (frame.Success request) h = absurd h
writable names (frame.Error request code) h = absurd h
writable names (frame.CloseProducer id request) h = record { readable = refl; rest = no_rest; size = fits names (frame.CloseProducer id request) tt }
writable names (frame.CloseConsumer id request) h = record { readable = refl; rest = no_rest; size = fits names (frame.CloseConsumer id request) tt }
writable names (frame.ProducerSuccess request name) h = absurd h
writable names frame.Ping h = record { readable = refl; rest = no_rest; size = fits names frame.Ping tt }
writable names frame.Pong h = absurd h
writable names frame.Unreadable h = absurd h

-- ---- one by one

written_one : (names : List (List ℕ)) (os : List WireOut) (ms : List Out) (o : WireOut) (m : Out) → AreWritten names os ms → IsWrittenOut names o m
    → AreWritten names (os ++ o ∷ []) (ms ++ m ∷ [])
written_one names [] [] o m h k = (k, tt)
written_one names [] (n ∷ ns) o m h k = absurd h
written_one names (p ∷ ps) [] o m h k = absurd h
written_one names (p ∷ ps) (n ∷ ns) o m h k = (h.0, written_one names ps ns o m h.1 k)

-- the packet at a place is the next one
pub written_more : (names : List (List ℕ)) (ws os : List WireOut) (ms : List Out) (o : WireOut) (i : ℕ) (d : Out) → i < length ms → AreWritten names os (take i ms)
    → IsWrittenOut names o (get_or ms i d) → ws ≡ os ++ o ∷ [] → AreWritten names ws (take (i + 1) ms)
written_more names ws os ms o i d within h k is = rw (is, take_more ms i d within) (written_one names os (take i ms) o (get_or ms i d) h k)
