-- What comes to a client as bytes: it does not look at the origin of an entry, which no bytes say.
use Rattle.std.proofs.Common.{◌≡◌, ℕ, Bool, true, false, ◌==◌, List, refl, sym, ◌∙◌, ap, subst, arith}
use Rattle.std.specs.Prelude.{Option, Some, None, if◌then◌else◌}
use Rattle.std.proofs.lemmas.Bool.Decides.{nat_tests}
use Rattle.geo_base.specs.declared.frame.Frame.{Frame}
use Rattle.geo_base.specs.declared.frame.Frame.TheVariants as frame
use Rattle.geo_base.specs.declared.marker.ClusterRef.TheVariants as cluster_ref
use Rattle.geo_base.specs.declared.packet.Packet.{Packet}
use Rattle.geo_base.specs.Client.{Client}
use Rattle.geo_base.specs.Getting.{get, got_frame}
use Rattle.geo_base.specs.Setup.{Declared}
use Rattle.pulsar_frames.specs.declared.frame.Frame.{Frame as WireFrame}
use Rattle.pulsar_frames.specs.Frames.{IsFrameText}
use Rattle.frame_values.proofs.Bare.{reads_stand}
use Rattle.frame_values.proofs.One.{value_one}
use Rattle.frame_values.specs.Standing.{Reads, text, no_text, bare}
use Rattle.wire_ends.specs.declared.packet.WirePacket.{WirePacket}
use Rattle.client.specs.Packets.{IsDiscarded, IsSaid, of_another, unread, StandsFor, StandsForNext}

got_bare : (d : Declared) (k : Client) (f : Frame) → got_frame d k (bare f) ≡ got_frame d k f
got_bare d k frame.Connect = refl
got_bare d k frame.Connected = refl
got_bare d k (frame.Subscribe topic sub kind id request consumer earliest replicated) = refl
got_bare d k (frame.Producer topic id request name) = refl
got_bare d k (frame.Send id seq source e) = refl
got_bare d k (frame.SendReceipt id seq position) = refl
got_bare d k (frame.SendError id seq code) = refl
got_bare d k (frame.Message id position None e) = refl
got_bare d k (frame.Message id position (Some (cluster_ref.Known x)) e) = refl
got_bare d k (frame.Message id position (Some (cluster_ref.Stranger n)) e) = refl
got_bare d k (frame.Ack id kind positions) = refl
got_bare d k (frame.Flow id permits) = refl
got_bare d k (frame.Unsubscribe id request) = refl
got_bare d k (frame.Success request) = refl
got_bare d k (frame.Error request code) = refl
got_bare d k (frame.CloseProducer id request) = refl
got_bare d k (frame.CloseConsumer id request) = refl
got_bare d k (frame.ProducerSuccess request name) = refl
got_bare d k frame.Ping = refl
got_bare d k frame.Pong = refl
got_bare d k frame.Unreadable = refl

-- the frame that was read is acted on as any that the bytes stand for
pub read_acts : (names : List (List ℕ)) (d : Declared) (k j : Client) (b : WirePacket) (f : Frame) → b.session ≡ k.connection
    → Reads names b.frame f → j ≡ got_frame d k f → (p : Packet) → StandsFor names b p → j ≡ (get d k (Some p)).client
unfolding get
read_acts names d k j b f here reads is p stands =
    let value : f ≡ bare p.frame = value_one names b.frame f (bare p.frame) reads stands.frame in
    let same : (p.session == k.connection) ≡ true = let e : p.session ≡ k.connection = stands.session ∙ here in grind (arith, nat_tests, e) in
    rw same (is ∙ ap (λ (g : Frame). got_frame d k g) value ∙ got_bare d k p.frame)

-- what is of another connection changes nothing
pub other_stays : (names : List (List ℕ)) (d : Declared) (k : Client) (b : WirePacket) → (b.session ≡ k.connection → ⊥)
    → (p : Packet) → StandsFor names b p → k ≡ (get d k (Some p)).client
unfolding get
other_stays names d k b other p stands = by (p.session == k.connection) refl
  where
    by : (t : Bool) → (p.session == k.connection) ≡ t → k ≡ (if t then got_frame d k p.frame else k)
    by true e = absurd (other (let same : p.session ≡ k.connection = grind (arith, nat_tests, e) in sym stands.session ∙ same))
    by false e = refl

-- bytes that are no text of a frame are read as such
reads_none : (names : List (List ℕ)) (bytes : List ℕ) (f : Frame) → Reads names bytes f → ((w : WireFrame) → IsFrameText bytes w → ⊥) → f ≡ frame.Unreadable
reads_none names bytes f (text w is says) none = absurd (none w is)
reads_none names bytes f (no_text not e) none = e

pub discarded_stays : (names : List (List ℕ)) (d : Declared) (k j : Client) (b : WirePacket) (f : Frame) → b.session ≡ k.connection
    → Reads names b.frame f → j ≡ got_frame d k f → IsDiscarded k b → j ≡ k
discarded_stays names d k j b f here reads is (of_another other) = absurd (other here)
discarded_stays names d k j b f here reads is (unread none) = is ∙ ap (λ (g : Frame). got_frame d k g) (reads_none names b.frame f reads none)

-- the next packet, where the client took one and where it found none
pub next_acts : (names : List (List ℕ)) (d : Declared) (k j : Client) (b : WirePacket) → ((p : Packet) → StandsFor names b p → j ≡ (get d k (Some p)).client)
    → (v : Option Packet) → StandsForNext names (Some b) v → j ≡ (get d k v).client
next_acts names d k j b each None h = absurd h
next_acts names d k j b each (Some p) h = each p h

pub next_taken : (names : List (List ℕ)) (d : Declared) (k : Client) (b : WirePacket) → (v : Option Packet) → StandsForNext names (Some b) v → false ≡ (get d k v).idle
unfolding get
next_taken names d k b None h = absurd h
next_taken names d k b (Some p) h = refl

pub none_acts : (names : List (List ℕ)) (d : Declared) (k : Client) → (v : Option Packet) → StandsForNext names None v → k ≡ (get d k v).client
unfolding get
none_acts names d k None h = refl
none_acts names d k (Some p) h = absurd h

pub none_taken : (names : List (List ℕ)) (d : Declared) (k : Client) → (v : Option Packet) → StandsForNext names None v → true ≡ (get d k v).idle
unfolding get
none_taken names d k None h = refl
none_taken names d k (Some p) h = absurd h

-- what was read is what its bytes stand for
pub said_of : (names : List (List ℕ)) (b : WirePacket) (f : Frame) → Reads names b.frame f → IsSaid names (Some b)
said_of names b f reads =
    record { said = Some (record { session = b.session; stamp = b.stamp; frame = f }); stands = record { session = refl; frame = reads_stand names b.frame f reads } }

pub reads_same : (names clusters : List (List ℕ)) (bytes read : List ℕ) (f : Frame) → clusters ≡ names → read ≡ bytes → Reads clusters read f → Reads names bytes f
reads_same names clusters bytes read f named same reads = subst (λ (ns : List (List ℕ)). Reads ns bytes f) named (subst (λ (bs : List ℕ). Reads clusters bs f) same reads)

pub said_none : (names : List (List ℕ)) (o : Option WirePacket) → o ≡ None → IsSaid names o
said_none names o is = rw is (record { said = None; stands = tt })
