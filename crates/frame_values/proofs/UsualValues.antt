-- Frames of the usual form, and the entries that they carry.
use Rattle.std.proofs.Common.{◌≡◌, ℕ, true, List, [], length, refl, sym, ap, subst, ◌∙◌, ◌==◌}
use Rattle.std.specs.Prelude.{◌&&◌, IfOk, IfSome, Option, Result, Some, None}
use Rattle.std.specs.Option.{option_copied, option_map}
use Rattle.std.proofs.lemmas.Bool.{eqb-true}
use Rattle.std.proofs.lemmas.List.{nil_from_length}
use Rattle.std.proofs.lemmas.Option.{IfSome_then}
use Rattle.std.proofs.lemmas.Result.{IfOk-weaker}
use Rattle.geo_base.specs.declared.entry.Content.{Content}
use Rattle.geo_base.specs.declared.entry.Content.TheVariants as content
use Rattle.geo_base.specs.declared.entry.Entry.{Entry}
use Rattle.geo_base.specs.declared.frame.Frame.{Frame}
use Rattle.geo_base.specs.declared.frame.Frame.TheVariants as frame
use Rattle.geo_base.specs.declared.marker.ClusterRef.{ClusterRef}
use Rattle.geo_base.specs.declared.memory.Memory.{Memory}
use Rattle.geo_base.specs.declared.position.Position.{Position}
use Rattle.geo_base.specs.Sizes.{cluster_ref_name}
use Rattle.message_meta.specs.Known.{IsRest}
use Rattle.message_meta.specs.Metadata.{Metadata}
use Rattle.message_meta.specs.Usual.{meta_viewed}
use Rattle.pulsar_commands.proofs.Numbers.{both}
use Rattle.pulsar_commands.specs.declared.acks.AckView.{AckView}
use Rattle.pulsar_commands.specs.declared.view.CommandView.{CommandView}
use Rattle.pulsar_commands.specs.declared.view.CommandView.TheVariants as view
use Rattle.pulsar_commands.specs.Usual.{command_viewed}
use Rattle.pulsar_frames.specs.declared.frame.Body.{Body}
use Rattle.pulsar_frames.specs.declared.frame.Frame.{Frame as WireFrame}
use Rattle.pulsar_frames.specs.declared.view.FrameView.{FrameView}
use Rattle.pulsar_frames.specs.declared.view.MessageView.{MessageView}
use Rattle.pulsar_frames.specs.Frames.{IsFrameText}
use Rattle.pulsar_frames.specs.Usual.{IsUsualText, acking_viewed, bare_viewed, carrying_viewed, frame_viewed, message_viewed}
use Rattle.frame_values.specs.Coded.{IsCarriedText, IsMarkerRight, IsWritten}
use Rattle.frame_values.specs.Standing.{Reads, text as told}
use Rattle.frame_values.specs.Texts.{body_of, marker_number, metadata_of, payload_text}
use Rattle.frame_values.specs.Usual.{entry_viewed, is_data, is_usual, source_viewed}
use Rattle.frame_values.specs.Values.{IsEntryOf, Says, SaysValue, carrying, no_marker, simple_frame}
use Rattle.frame_values.proofs.Entries.{no_rest, says_is}

-- ---- read

pub viewed_reads : (names : List (List ℕ)) (bytes : List ℕ) (w : WireFrame) (r : Result Frame Memory) → IsFrameText bytes w → IfOk r (SaysValue names w) → IfOk r (Reads names bytes)
viewed_reads names bytes w r is says = IfOk-weaker r (SaysValue names w) (Reads names bytes) (λ f h. told w is h) says

-- what reading a frame of the usual form answers
pub viewed_answer : (names : List (List ℕ)) (bytes : List ℕ) (o : Option FrameView) (v : FrameView) (r : Result Frame Memory) → IfSome o (λ w. IsFrameText bytes (frame_viewed w)) → o ≡ Some v → IfOk r (SaysValue names (frame_viewed v)) → IfOk r (Reads names bytes)
viewed_answer names bytes o v r h there says =
    let is : IsFrameText bytes (frame_viewed v) = subst (λ (x : Option FrameView). IfSome x (λ w. IsFrameText bytes (frame_viewed w))) there h in
    viewed_reads names bytes (frame_viewed v) r is says

-- a command with a message, and one without
pub viewed_carries : (names : List (List ℕ)) (v : FrameView) (m : MessageView) (f : Frame) (source : Option ClusterRef) (e : Entry) → v.message ≡ Some m → f ≡ carrying (command_viewed v.command) source e → IsEntryOf names (message_viewed m) source e → SaysValue names (frame_viewed v) f
viewed_carries names v m f source e some is says = says_is names (command_viewed v.command) (option_map message_viewed v.message) (message_viewed m) f source e (ap (λ (o : Option MessageView). option_map message_viewed o) some) is says

pub viewed_simple : (names : List (List ℕ)) (v : FrameView) (f : Frame) → v.message ≡ None → f ≡ simple_frame (command_viewed v.command) → SaysValue names (frame_viewed v) f
viewed_simple names v f none is = subst (λ (o : Option MessageView). Says names (command_viewed v.command) (option_map message_viewed o) f) (sym none) is

empty_rest : (bytes : List ℕ) → bytes ≡ [] → IsRest bytes
empty_rest bytes is = subst (λ (b : List ℕ). IsRest b) (sym is) no_rest

-- the entry of a message
viewed : (names : List (List ℕ)) (m : MessageView) → IsEntryOf names (message_viewed m) (source_viewed names m) (entry_viewed 0 m)
viewed names m = record {
  origin = refl;
  producer = refl;
  seq = refl;
  publish_time = refl;
  from = refl;
  key = refl;
  listed = refl;
  to = refl;
  rest = refl;
  content = no_marker refl refl refl;
}

pub entry_is : (names : List (List ℕ)) (m : MessageView) (source : Option ClusterRef) (e : Entry) → source ≡ source_viewed names m → e ≡ entry_viewed 0 m → IsEntryOf names (message_viewed m) source e
entry_is names m source e from is = rw (from, is) (viewed names m)

-- it has no field that nobody reads
pub viewed_rest : (m : MessageView) (e : Entry) → e ≡ entry_viewed 0 m → IsRest e.meta.rest
viewed_rest m e is = empty_rest e.meta.rest (ap (λ (e : Entry). e.meta.rest) is)

-- ---- written

-- what a message of the usual form holds
record IsUsualEntry (c : Content) (names : List (List ℕ)) (rest : List ℕ) : Type 0 where
  pub message : c ≡ content.Data
  pub listed : names ≡ []
  pub rest_is : rest ≡ []

usual_parts : (c : Content) (names : List (List ℕ)) (rest : List ℕ) → (is_data c && (length names == 0 && length rest == 0)) ≡ true → IsUsualEntry c names rest
usual_parts content.Data names rest h =
    let empty = both (length names == 0) (length rest == 0) h in
    record { message = refl; listed = nil_from_length names (eqb-true (length names) 0 empty.0); rest_is = nil_from_length rest (eqb-true (length rest) 0 empty.1) }
usual_parts (content.Marked m) names rest h = absurd cc
usual_parts (content.Unread k) names rest h = absurd cc

same_meta : (p q : List ℕ) (a b c d : ℕ) (f g k l : Option (List ℕ)) (ns os : List (List ℕ)) (m n : Option ℕ) → p ≡ q → a ≡ b → c ≡ d → f ≡ g → k ≡ l → ns ≡ os → m ≡ n
    → ◌≡◌ {A = Metadata} (record { producer = p; seq = a; publish_time = c; replicated_from = f; key = k; replicate_to = ns; marker = m; rest = [] }) (record { producer = q; seq = b; publish_time = d; replicated_from = g; key = l; replicate_to = os; marker = n; rest = [] })
same_meta p q a b c d f g k l ns os m n e1 e2 e3 e4 e5 e6 e7 = rw (e1, e2, e3, e4, e5, e6, e7) refl

same_body : (m n : Metadata) (p q : List ℕ) → m ≡ n → p ≡ q → ◌≡◌ {A = Body} (record { meta = m; payload = p }) (record { meta = n; payload = q })
same_body m n p q e1 e2 = rw (e1, e2) refl

-- an entry of the usual form is the message that its parts are
pub message_is : (names : List (List ℕ)) (source : Option ClusterRef) (e : Entry) (m : MessageView) → is_usual e ≡ true → m.meta.producer.now ≡ e.ident.producer → m.meta.seq ≡ e.ident.seq → m.meta.publish_time ≡ e.meta.publish_time
    → option_copied m.meta.replicated_from ≡ option_map (cluster_ref_name names) source → option_copied m.meta.key ≡ e.meta.key → m.payload.now ≡ e.payload → message_viewed m ≡ body_of names source e []
message_is names source e m usual producer seq time from key payload =
    let h : IsUsualEntry e.content e.meta.names e.meta.rest = usual_parts e.content e.meta.names e.meta.rest usual in
    let number : marker_number e.content ≡ None = ap (λ (c : Content). marker_number c) h.message in
    let kept : payload_text names e.content e.payload ≡ e.payload = ap (λ (c : Content). payload_text names c e.payload) h.message in
    same_body (meta_viewed m.meta) (metadata_of names source e []) m.payload.now (payload_text names e.content e.payload)
    (same_meta m.meta.producer.now e.ident.producer m.meta.seq e.ident.seq m.meta.publish_time e.meta.publish_time (option_copied m.meta.replicated_from) (option_map (cluster_ref_name names) source) (option_copied m.meta.key) e.meta.key [] e.meta.names None (marker_number e.content) producer seq time from key (sym h.listed) (sym number))
    (payload ∙ sym kept)

-- the frame that is written is that of the entry
pub carried_is : (names : List (List ℕ)) (v : CommandView) (source : Option ClusterRef) (e : Entry) (m : MessageView) (o : Option (List ℕ)) → is_usual e ≡ true → message_viewed m ≡ body_of names source e [] → IfSome o (IsUsualText (carrying_viewed v m))
    → IfSome o (IsCarriedText names (command_viewed v) source e)
carried_is names v source e m o usual same h = IfSome_then o h (λ bytes text. carried bytes (subst (λ (b : Body). IsUsualText (record { command = command_viewed v; body = Some b }) bytes) same text))
  where
    parts : IsUsualEntry e.content e.meta.names e.meta.rest
    parts = usual_parts e.content e.meta.names e.meta.rest usual

    carried : (bytes : List ℕ) → IsUsualText (record { command = command_viewed v; body = Some (body_of names source e []) }) bytes → IsCarriedText names (command_viewed v) source e bytes
    carried bytes text = record {
      rest = [];
      kept = parts.rest_is;
      canonical = text.canonical;
      is_text = text.is_text;
      marker = subst (λ (c : Content). IsMarkerRight names c e.payload) (sym parts.message) tt;
    }

pub ack_written : (names : List (List ℕ)) (v : AckView) (bytes : List ℕ) → IsUsualText (acking_viewed v) bytes → IsWritten names (frame.Ack v.consumer_id v.ack_type v.message_id.now) bytes
ack_written names v bytes h = record { rest = []; kept = refl; canonical = h.canonical; is_text = h.is_text; marker = tt }

pub receipt_written : (names : List (List ℕ)) (id seq : ℕ) (o : Option Position) (p : Position) (bytes : List ℕ) → o ≡ Some p → IsUsualText (bare_viewed (view.SendReceipt id seq p)) bytes → IsWritten names (frame.SendReceipt id seq o) bytes
receipt_written names id seq o p bytes is h =
    subst (λ (x : Option Position). IsWritten names (frame.SendReceipt id seq x) bytes) (sym is) (record { rest = []; kept = refl; canonical = h.canonical; is_text = h.is_text; marker = tt })
