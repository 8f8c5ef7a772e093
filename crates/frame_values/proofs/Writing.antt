-- What the code writes is the text of the frame.
use Rattle.std.proofs.Common.{◌≡◌, ◌≢◌, ℕ, ◌-◌, List, [], ◌∷◌, true, false, refl, sym, ap, subst, ◌∙◌, arith, length, ◌==◌}
use Rattle.std.specs.Prelude.{Option, Some, None, Result, Ok, Err, IfOk, IfErr}
use Rattle.geo_base.specs.declared.entry.Content.TheVariants as content
use Rattle.geo_base.specs.declared.entry.Entry.{Entry}
use Rattle.geo_base.specs.declared.frame.Frame.{Frame}
use Rattle.geo_base.specs.declared.frame.Frame.TheVariants as frame
use Rattle.geo_base.specs.FrameSizes.{frame_size}
use Rattle.geo_base.specs.declared.marker.ClusterRef.{ClusterRef}
use Rattle.geo_base.specs.declared.position.Position.{Position}
use Rattle.geo_base.specs.declared.marker.Marker.{Marker as MachineMarker}
use Rattle.geo_base.specs.declared.marker.Marker.TheVariants as machine
use Rattle.geo_base.specs.Sizes.{marker_type}
use Rattle.marker_codec.specs.declared.marker.Marker.{Marker}
use Rattle.marker_codec.specs.Canonical.{canonical_fields}
use Rattle.marker_codec.specs.Kinds.{kind_number, marker_kind}
use Rattle.marker_codec.specs.Machine.{named_marker}
use Rattle.marker_codec.specs.Markers.{IsMarkerText}
use Rattle.message_meta.specs.declared.known.KnownMeta.{KnownMeta}
use Rattle.message_meta.specs.Known.{joined}
use Rattle.message_meta.specs.Metadata.{Metadata}
use Rattle.pb_fields.specs.declared.field.Field.{Field}
use Rattle.pb_fields.specs.Canonical.{text}
use Rattle.pulsar_commands.specs.declared.command.Command.{Command}
use Rattle.pulsar_commands.specs.declared.command.Command.TheVariants as command
use Rattle.pulsar_frames.specs.declared.fault.FrameFault.{FrameFault}
use Rattle.pulsar_frames.specs.declared.fault.FrameFault.TheVariants as fault
use Rattle.pulsar_frames.specs.declared.frame.Frame.{Frame as WireFrame}
use Rattle.pulsar_frames.specs.Canonical.{IsComplete, IsTooLarge, canonical_layout, frame_size as wire_size, frame_text}
use Rattle.pulsar_frames.specs.Carrying.{IsCarryingFault, IsCarryingText, carrying}
use Rattle.pulsar_frames.specs.Frames.{IsFrameText}
use Rattle.pulsar_frames.specs.Layout.{content_text}
use Rattle.pulsar_frames.proofs.Layouts.{length-sized}
use Rattle.frame_values.specs.Coded.{IsCarriedFault, IsCarriedText, IsEntryRight, IsMarkerRight, IsWritable, IsWritten, carried_frame, carries_entry}
use Rattle.frame_values.specs.Texts.{carried, command_of, is_readable, metadata_of, payload_text, unread_bytes, wire_frame}
use Rattle.frame_values.proofs.Sized.{frame_length}
use Rattle.geo_base.proofs.Lists.{empty_by_length}

-- ---- a frame is complete

pub complete : (names : List (List ℕ)) (rest : List Field) (f : Frame) → IsComplete (wire_frame names rest f)
complete names rest frame.Connect = refl
complete names rest frame.Connected = refl
complete names rest (frame.Subscribe topic sub kind id request consumer earliest replicated) = refl
complete names rest (frame.Producer topic id request name) = refl
complete names rest (frame.Send id seq source e) = refl
complete names rest (frame.SendReceipt id seq position) = refl
complete names rest (frame.SendError id seq code) = refl
complete names rest (frame.Message id position source e) = refl
complete names rest (frame.Ack id kind positions) = refl
complete names rest (frame.Flow id permits) = refl
complete names rest (frame.Unsubscribe id request) = refl
complete names rest (frame.Success request) = refl
complete names rest (frame.Error request code) = refl
complete names rest (frame.CloseProducer id request) = refl
complete names rest (frame.CloseConsumer id request) = refl
complete names rest (frame.ProducerSuccess request name) = refl
complete names rest frame.Ping = refl
complete names rest frame.Pong = refl
complete names rest frame.Unreadable = refl

-- ---- an entry where it is stored

same_frame : (c : Command) (m n : Metadata) (p q : List ℕ) → m ≡ n → p ≡ q → ◌≡◌ {A = WireFrame} (record { command = c; body = Some (record { meta = m; payload = p }) }) (record { command = c; body = Some (record { meta = n; payload = q }) })
same_frame c m n p q a b = rw (a, b) refl

pub carried_is : (names : List (List ℕ)) (c : Command) (source : Option ClusterRef) (e : Entry) (k : KnownMeta) (rest payload bytes : List ℕ)
    → ((fields : List Field) → joined k fields ≡ metadata_of names source e fields) → rest ≡ e.meta.rest → payload ≡ payload_text names e.content e.payload
    → IsMarkerRight names e.content e.payload → IsCarryingText c k rest payload bytes → IsCarriedText names c source e bytes
carried_is names c source e k rest payload bytes known same is right h =
    let one : carrying c k h.fields payload ≡ carried_frame names c source e h.fields = same_frame c (joined k h.fields) (metadata_of names source e h.fields) payload (payload_text names e.content e.payload) (known h.fields) is in
    record {
      rest = h.fields;
      kept = sym same ∙ h.kept;
      canonical = h.canonical ∙ ap (λ (w : WireFrame). frame_text w) one;
      is_text = subst (λ (w : WireFrame). IsFrameText bytes w) one h.is_text;
      marker = right;
    }

pub carried_fault : (names : List (List ℕ)) (c : Command) (source : Option ClusterRef) (e : Entry) (k : KnownMeta) (rest payload : List ℕ) (why : FrameFault)
    → ((fields : List Field) → joined k fields ≡ metadata_of names source e fields) → rest ≡ e.meta.rest → payload ≡ payload_text names e.content e.payload
    → IsCarryingFault c k rest payload why → IsCarriedFault names c source e why
carried_fault names c source e k rest payload why known same is h =
    let one : carrying c k h.fields payload ≡ carried_frame names c source e h.fields = same_frame c (joined k h.fields) (metadata_of names source e h.fields) payload (payload_text names e.content e.payload) (known h.fields) is in
    record {
      rest = h.fields;
      kept = sym same ∙ h.kept;
      large = subst (λ (w : WireFrame). IsTooLarge (wire_size w) why) one h.large;
    }

-- what writing it answers
pub carried_answered : (names : List (List ℕ)) (c : Command) (source : Option ClusterRef) (e : Entry) (k : KnownMeta) (rest payload : List ℕ) (r : Result (List ℕ) FrameFault)
    → ((fields : List Field) → joined k fields ≡ metadata_of names source e fields) → rest ≡ e.meta.rest → payload ≡ payload_text names e.content e.payload
    → IsMarkerRight names e.content e.payload → IfOk r (IsCarryingText c k rest payload) → IfOk r (IsCarriedText names c source e)
carried_answered names c source e k rest payload (Ok bytes) known same is right h = carried_is names c source e k rest payload bytes known same is right h
carried_answered names c source e k rest payload (Err why) known same is right h = tt

pub carried_refused : (names : List (List ℕ)) (c : Command) (source : Option ClusterRef) (e : Entry) (k : KnownMeta) (rest payload : List ℕ) (r : Result (List ℕ) FrameFault)
    → ((fields : List Field) → joined k fields ≡ metadata_of names source e fields) → rest ≡ e.meta.rest → payload ≡ payload_text names e.content e.payload
    → IfErr r (IsCarryingFault c k rest payload) → IfErr r (IsCarriedFault names c source e)
carried_refused names c source e k rest payload (Ok bytes) known same is h = tt
carried_refused names c source e k rest payload (Err why) known same is h = carried_fault names c source e k rest payload why known same is h

-- ---- what is too large

-- the frame's size is the one that the machine computes, without its own four bytes
large_is : (names : List (List ℕ)) (rest : List Field) (f : Frame) (why : FrameFault) → unread_bytes f ≡ text rest → is_readable f ≡ true
    → IsTooLarge (wire_size (wire_frame names rest f)) why → IsTooLarge (frame_size names f - 4) why
large_is names rest f why kept readable large =
    let size : wire_size (wire_frame names rest f) ≡ frame_size names f - 4 = omega (arith, frame_length names rest f kept readable, length-sized (content_text (canonical_layout (wire_frame names rest f)))) in
    subst (λ (n : ℕ). IsTooLarge n why) size large

-- a frame that can be written is not too large
pub not_large : (names : List (List ℕ)) (f : Frame) (why : FrameFault) → IsWritable names f → IsTooLarge (frame_size names f - 4) why → why ≢ fault.Memory → ⊥
not_large names f (fault.TooLarge n) h large other =
    let size = h.size in
    omega (arith, large.1)
not_large names f fault.Memory h large other = other refl
not_large names f fault.Sizes h large other = large
not_large names f fault.Checksum h large other = large
not_large names f (fault.Command c) h large other = large
not_large names f (fault.Meta m) h large other = large

pub send_written : (names : List (List ℕ)) (id seq : ℕ) (source : Option ClusterRef) (e : Entry) (bytes : List ℕ) → IsCarriedText names (command.Send id seq 1) source e bytes → IsWritten names (frame.Send id seq source e) bytes
send_written names id seq source e bytes h = record { rest = h.rest; kept = h.kept; canonical = h.canonical; is_text = h.is_text; marker = h.marker }

pub send_fault : (names : List (List ℕ)) (id seq : ℕ) (source : Option ClusterRef) (e : Entry) (why : FrameFault) → IsCarriedFault names (command.Send id seq 1) source e why → IsTooLarge (frame_size names (frame.Send id seq source e) - 4) why
send_fault names id seq source e why k = large_is names k.rest (frame.Send id seq source e) why k.kept refl k.large

pub message_written : (names : List (List ℕ)) (id : ℕ) (position : Position) (source : Option ClusterRef) (e : Entry) (bytes : List ℕ) → IsCarriedText names (command.Message id position) source e bytes → IsWritten names (frame.Message id position source e) bytes
message_written names id position source e bytes h = record { rest = h.rest; kept = h.kept; canonical = h.canonical; is_text = h.is_text; marker = h.marker }

pub message_fault : (names : List (List ℕ)) (id : ℕ) (position : Position) (source : Option ClusterRef) (e : Entry) (why : FrameFault) → IsCarriedFault names (command.Message id position) source e why → IsTooLarge (frame_size names (frame.Message id position source e) - 4) why
message_fault names id position source e why k = large_is names k.rest (frame.Message id position source e) why k.kept refl k.large

-- ---- a frame that carries no message

no_message : (names : List (List ℕ)) (f : Frame) → carries_entry f ≡ false → (carried names [] f ≡ None) × (unread_bytes f ≡ [])
no_message names frame.Connect h = (refl, refl)
no_message names frame.Connected h = (refl, refl)
no_message names (frame.Subscribe topic sub kind id request consumer earliest replicated) h = (refl, refl)
no_message names (frame.Producer topic id request name) h = (refl, refl)
no_message names (frame.Send id seq source e) h = absurd cc
no_message names (frame.SendReceipt id seq position) h = (refl, refl)
no_message names (frame.SendError id seq code) h = (refl, refl)
no_message names (frame.Message id position source e) h = absurd cc
no_message names (frame.Ack id kind positions) h = (refl, refl)
no_message names (frame.Flow id permits) h = (refl, refl)
no_message names (frame.Unsubscribe id request) h = (refl, refl)
no_message names (frame.Success request) h = (refl, refl)
no_message names (frame.Error request code) h = (refl, refl)
no_message names (frame.CloseProducer id request) h = (refl, refl)
no_message names (frame.CloseConsumer id request) h = (refl, refl)
no_message names (frame.ProducerSuccess request name) h = (refl, refl)
no_message names frame.Ping h = (refl, refl)
no_message names frame.Pong h = (refl, refl)
no_message names frame.Unreadable h = (refl, refl)

no_marker : (names : List (List ℕ)) (f : Frame) → carries_entry f ≡ false → IsEntryRight names f
no_marker names frame.Connect h = tt
no_marker names frame.Connected h = tt
no_marker names (frame.Subscribe topic sub kind id request consumer earliest replicated) h = tt
no_marker names (frame.Producer topic id request name) h = tt
no_marker names (frame.Send id seq source e) h = absurd cc
no_marker names (frame.SendReceipt id seq position) h = tt
no_marker names (frame.SendError id seq code) h = tt
no_marker names (frame.Message id position source e) h = absurd cc
no_marker names (frame.Ack id kind positions) h = tt
no_marker names (frame.Flow id permits) h = tt
no_marker names (frame.Unsubscribe id request) h = tt
no_marker names (frame.Success request) h = tt
no_marker names (frame.Error request code) h = tt
no_marker names (frame.CloseProducer id request) h = tt
no_marker names (frame.CloseConsumer id request) h = tt
no_marker names (frame.ProducerSuccess request name) h = tt
no_marker names frame.Ping h = tt
no_marker names frame.Pong h = tt
no_marker names frame.Unreadable h = tt

-- the frame that the code makes of a command
abbrev simple_wire : Command → WireFrame
simple_wire c = record { command = c; body = None }

simple_is : (names : List (List ℕ)) (f : Frame) (c : Command) → carries_entry f ≡ false → c ≡ command_of f → simple_wire c ≡ wire_frame names [] f
simple_is names f c h is = rw (is, ← (no_message names f h).0) refl

pub simple_complete : (f : Frame) (c : Command) → carries_entry f ≡ false → c ≡ command_of f → IsComplete (simple_wire c)
simple_complete f c h is = subst (λ (w : WireFrame). IsComplete w) (sym (simple_is [] f c h is)) (complete [] [] f)

pub simple_written : (names : List (List ℕ)) (f : Frame) (c : Command) (bytes : List ℕ) → carries_entry f ≡ false → c ≡ command_of f → bytes ≡ frame_text (simple_wire c) → IsFrameText bytes (simple_wire c) → IsWritten names f bytes
simple_written names f c bytes h is whole is_text = record {
  rest = [];
  kept = (no_message names f h).1;
  canonical = whole ∙ ap (λ (w : WireFrame). frame_text w) (simple_is names f c h is);
  is_text = subst (λ (w : WireFrame). IsFrameText bytes w) (simple_is names f c h is) is_text;
  marker = no_marker names f h;
}

pub simple_fault : (names : List (List ℕ)) (f : Frame) (c : Command) (why : FrameFault) → carries_entry f ≡ false → is_readable f ≡ true → c ≡ command_of f → IsTooLarge (wire_size (simple_wire c)) why → IsTooLarge (frame_size names f - 4) why
simple_fault names f c why h readable is large =
    large_is names [] f why (no_message names f h).1 readable (subst (λ (w : WireFrame). IsTooLarge (wire_size w) why) (simple_is names f c h is) large)

-- what writing it answers
pub simple_answered : (names : List (List ℕ)) (f : Frame) (c : Command) (r : Result (List ℕ) FrameFault) → carries_entry f ≡ false → c ≡ command_of f
    → IfOk r (λ bytes. bytes ≡ frame_text (simple_wire c)) → IfOk r (λ bytes. IsFrameText bytes (simple_wire c)) → IfOk r (IsWritten names f)
simple_answered names f c (Ok bytes) h is whole is_text = simple_written names f c bytes h is whole is_text
simple_answered names f c (Err why) h is whole is_text = tt

pub simple_refused : (names : List (List ℕ)) (f : Frame) (c : Command) (r : Result (List ℕ) FrameFault) → carries_entry f ≡ false → is_readable f ≡ true → c ≡ command_of f
    → IfErr r (IsTooLarge (wire_size (simple_wire c))) → IfErr r (IsTooLarge (frame_size names f - 4))
simple_refused names f c (Ok bytes) h readable is large = tt
simple_refused names f c (Err why) h readable is large = simple_fault names f c why h readable is large

-- ---- a marker that keeps no payload

same_number : (names : List (List ℕ)) (m : MachineMarker) → kind_number (marker_kind (named_marker names m)) ≡ marker_type m
same_number names (machine.Request id source) = refl
same_number names (machine.Response id answer) = refl
same_number names (machine.Snapshot id local remote) = refl
same_number names (machine.Update sub remote) = refl

pub marker_right : (names : List (List ℕ)) (m : MachineMarker) (bytes : List ℕ) (n : Marker) → n ≡ named_marker names m → bytes ≡ text (canonical_fields n) → IsMarkerText (kind_number (marker_kind n)) bytes n
    → IsMarkerText (marker_type m) (text (canonical_fields (named_marker names m))) (named_marker names m)
marker_right names m bytes n named is h =
    let at : IsMarkerText (kind_number (marker_kind n)) (text (canonical_fields n)) n = subst (λ (b : List ℕ). IsMarkerText (kind_number (marker_kind n)) b n) is h in
    let of : IsMarkerText (kind_number (marker_kind (named_marker names m))) (text (canonical_fields (named_marker names m))) (named_marker names m) =
    subst (λ (x : Marker). IsMarkerText (kind_number (marker_kind x)) (text (canonical_fields x)) x) named at in
    subst (λ (k : ℕ). IsMarkerText k (text (canonical_fields (named_marker names m))) (named_marker names m)) (same_number names m) of

-- no payload is kept
pub unkept_text : (names : List (List ℕ)) (m : MachineMarker) (kept k bytes : List ℕ) → k ≡ kept → (length k == 0) ≡ true → bytes ≡ text (canonical_fields (named_marker names m)) → payload_text names (content.Marked m) kept ≡ bytes
unkept_text names m kept k bytes same none is = rw (sym same ∙ empty_by_length k none) (sym is)

pub unkept_right : (names : List (List ℕ)) (m : MachineMarker) (kept k : List ℕ) → k ≡ kept → (length k == 0) ≡ true
    → IsMarkerText (marker_type m) (text (canonical_fields (named_marker names m))) (named_marker names m) → IsMarkerRight names (content.Marked m) kept
unkept_right names m kept k same none h = rw (sym same ∙ empty_by_length k none) h

-- a payload is kept
pub kept_text : (names : List (List ℕ)) (m : MachineMarker) (kept k : List ℕ) → k ≡ kept → (length k == 0) ≡ false → payload_text names (content.Marked m) kept ≡ kept
kept_text names m [] [] same some = absurd cc
kept_text names m [] (b ∷ bs) same some = absurd cc
kept_text names m (b ∷ bs) k same some = refl

pub kept_right : (names : List (List ℕ)) (m : MachineMarker) (kept k : List ℕ) → k ≡ kept → (length k == 0) ≡ false → IsMarkerRight names (content.Marked m) kept
kept_right names m [] [] same some = absurd cc
kept_right names m [] (b ∷ bs) same some = absurd cc
kept_right names m (b ∷ bs) k same some = tt
