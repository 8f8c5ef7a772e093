-- Frames of the usual form, read and written.
use Rattle.std.proofs.Common.{◌≡◌, ℕ, ◌+◌, ◌<◌, ◌≤◌, true, false, List, [], ◌++◌, Option, None, Some, length, refl, sym, ap, subst, ◌∙◌, append_assoc, append-nil, length-append, arith}
use Rattle.std.specs.Prelude.{IfSome, is_some}
use Rattle.std.specs.Option.{option_map}
use Rattle.message_meta.specs.Canonical.{IsMetadata}
use Rattle.message_meta.specs.Metadata.{Metadata, IsMetaText}
use Rattle.message_meta.specs.Usual.{meta_viewed}
use Rattle.pulsar_commands.specs.declared.command.Command.{Command}
use Rattle.pulsar_commands.specs.declared.acks.AckView.{AckView}
use Rattle.pulsar_commands.specs.declared.view.CommandView.{CommandView}
use Rattle.pulsar_commands.specs.Canonical.{IsWritable, command_text}
use Rattle.pulsar_commands.specs.Parts.{kind_of}
use Rattle.pulsar_commands.specs.Text.{IsCommandText}
use Rattle.pulsar_commands.specs.Usual.{ack_viewed, command_viewed}
use Rattle.pulsar_frames.specs.declared.frame.Body.{Body}
use Rattle.pulsar_frames.specs.declared.frame.Frame.{Frame}
use Rattle.pulsar_frames.specs.declared.layout.BodyParts.{BodyParts}
use Rattle.pulsar_frames.specs.declared.layout.FrameParts.{FrameParts}
use Rattle.pulsar_frames.specs.declared.view.MessageView.{MessageView}
use Rattle.pulsar_frames.specs.Canonical.{IsComplete, canonical_body, canonical_layout, frame_text}
use Rattle.pulsar_frames.specs.Frames.{IsFrameText, MeansBody, carries}
use Rattle.pulsar_frames.specs.Layout.{BodyLayout, Layout, TakesLayout, content_text, frame_limit, layout_text, size, sized}
use Rattle.pulsar_frames.specs.Usual.{IsUsualText, acking_viewed, bare_viewed, carrying_viewed, message_viewed}
use Rattle.pulsar_frames.specs.Viewed.{body_layout, layout}
use Rattle.pulsar_frames.proofs.Layouts.{length-sized}
use Rattle.pulsar_frames.proofs.Written.{canonical_is}

-- ---- read

pub whole_layout : (bytes rest : List ℕ) (l : Layout) → TakesLayout bytes l rest → rest ≡ [] → TakesLayout bytes l []
whole_layout bytes rest l h nothing = subst (λ (x : List ℕ). TakesLayout bytes l x) nothing h

-- parts with nothing after them say a frame
says : (bytes : List ℕ) (l : Layout) (c : Command) (o : Option BodyLayout) (b : Option Body) → TakesLayout bytes l [] → IsCommandText l.command c → l.body ≡ o → is_some o ≡ carries (kind_of c) → MeansBody o b → IsFrameText bytes (record { command = c; body = b })
says bytes l c o b h text is carried means = record {
  layout = l;
  text = h.parts ∙ append-nil (layout_text l);
  fits = h.fits;
  means = record { command = text; carried = ap (λ (x : Option BodyLayout). is_some x) is ∙ carried; body = subst (λ (x : Option BodyLayout). MeansBody x b) (sym is) means };
}

pub bare_is : (bytes : List ℕ) (p : FrameParts) (c : Command) → TakesLayout bytes (layout p) [] → IsCommandText p.command.now c → p.body ≡ None → carries (kind_of c) ≡ false → IsFrameText bytes (record { command = c; body = None })
bare_is bytes p c h text none carried = says bytes (layout p) c None None h text (ap (λ (o : Option BodyParts). option_map body_layout o) none) (sym carried) tt

pub carrying_is : (bytes : List ℕ) (p : FrameParts) (b : BodyParts) (c : Command) (m : Metadata) (payload : List ℕ) → TakesLayout bytes (layout p) [] → IsCommandText p.command.now c → p.body ≡ Some b → carries (kind_of c) ≡ true
    → IsMetaText b.meta.now m → payload ≡ b.payload.now → IsFrameText bytes (record { command = c; body = Some (record { meta = m; payload = payload }) })
carrying_is bytes p b c m payload h text some carried meta same = says bytes (layout p) c (Some (body_layout b)) _ h text (ap (λ (o : Option BodyParts). option_map body_layout o) some) (sym carried) (meta, sym same)

-- ---- written

usual_is : (f : Frame) (bytes : List ℕ) → bytes ≡ frame_text f → IsWritable f.command → IsComplete f → IfSome f.body (λ b. IsMetadata b.meta) → length (content_text (canonical_layout f)) ≤ frame_limit → IsUsualText f bytes
usual_is f bytes is command carried meta small = record {
  canonical = is;
  is_text = subst (λ (b : List ℕ). IsFrameText b f) (sym is) (canonical_is f (record { command = command; carried = carried; meta = meta; fits = record { total = small } }));
}

-- a size where its bytes are counted
counts : (a b : ℕ) (bytes : List ℕ) → a ≡ b → size a ++ bytes ≡ size b ++ bytes
counts a b bytes same = ap (λ (n : ℕ). size n ++ bytes) same

-- a command that carries no message
pub command_text_is : (c : Command) (begun out : List ℕ) (command : ℕ) → carries (kind_of c) ≡ false → command ≡ length (command_text c) → command < 5000100
    → begun ≡ size (4 + command) ++ size command → out ≡ begun ++ command_text c → IsWritable c → IsUsualText (record { command = c; body = None }) out
command_text_is c begun out command carried sized_is few is written writable =
    let f : Frame = record { command = c; body = None } in
    let text : List ℕ = command_text c in
    let content : List ℕ = content_text (canonical_layout f) in
    let parts : content ≡ size command ++ text = append-nil (sized text) ∙ counts (length text) command text (sym sized_is) in
    let long : length content ≡ 4 + command = omega (arith, ap (λ (bs : List ℕ). length bs) (append-nil (sized text)), length-sized text, sized_is) in
    let whole : out ≡ frame_text f =
    written ∙ ap (λ (bs : List ℕ). bs ++ text) is ∙ append_assoc (size (4 + command)) (size command) text ∙ ap (λ (bs : List ℕ). size (4 + command) ++ bs) (sym parts) ∙ counts (4 + command) (length content) content (sym long) in
    usual_is f out whole writable (sym carried) tt (omega (arith, long, few))

pub bare_text_is : (v : CommandView) (begun out : List ℕ) (command : ℕ) → carries (kind_of (command_viewed v)) ≡ false → command ≡ length (command_text (command_viewed v)) → command < 64
    → begun ≡ size (4 + command) ++ size command → out ≡ begun ++ command_text (command_viewed v) → IsWritable (command_viewed v) → IsUsualText (bare_viewed v) out
bare_text_is v begun out command carried sized_is few is written writable = command_text_is (command_viewed v) begun out command carried sized_is (omega (arith, few)) is written writable

pub ack_text_is : (a : AckView) (begun out : List ℕ) (command : ℕ) → command ≡ length (command_text (ack_viewed a)) → command < 5000100 → begun ≡ size (4 + command) ++ size command → out ≡ begun ++ command_text (ack_viewed a) → IsWritable (ack_viewed a) → IsUsualText (acking_viewed a) out
ack_text_is a begun out command sized_is few is written writable = command_text_is (ack_viewed a) begun out command refl sized_is few is written writable

pub carrying_text_is : (v : CommandView) (m : MessageView) (begun first second third out : List ℕ) (command meta total : ℕ) → carries (kind_of (command_viewed v)) ≡ true → command ≡ length (command_text (command_viewed v))
    → meta ≡ length (canonical_body (message_viewed m)).meta → total ≡ 8 + command + meta + length m.payload.now → total ≤ frame_limit → begun ≡ size total ++ size command → first ≡ begun ++ command_text (command_viewed v) → second ≡ first ++ size meta
    → third ≡ second ++ (canonical_body (message_viewed m)).meta → out ≡ third ++ m.payload.now → IsWritable (command_viewed v) → IsMetadata (meta_viewed m.meta) → IsUsualText (carrying_viewed v m) out
carrying_text_is v m begun first second third out command meta total carried command_is meta_is total_is small is one two three written writable metadata =
    let f : Frame = carrying_viewed v m in
    let text : List ℕ = command_text (command_viewed v) in
    let known : List ℕ = (canonical_body (message_viewed m)).meta in
    let payload : List ℕ = m.payload.now in
    let body : List ℕ = sized known ++ payload in
    let content : List ℕ = content_text (canonical_layout f) in
    let long : length content ≡ total = omega (arith, length-append (sized text) body, length-sized text, length-append (sized known) payload, length-sized known, command_is, meta_is, total_is) in
    let inner : ((size meta ++ known) ++ payload) ≡ body = ap (λ (n : ℕ). (size n ++ known) ++ payload) meta_is in
    let outer : size command ++ text ≡ sized text = counts command (length text) text command_is in
    let parts : out ≡ (size total ++ size command) ++ (text ++ ((size meta ++ known) ++ payload)) =
    written ∙ ap (λ (bs : List ℕ). bs ++ payload) (three ∙ ap (λ (bs : List ℕ). bs ++ known) (two ∙ ap (λ (bs : List ℕ). bs ++ size meta) (one ∙ ap (λ (bs : List ℕ). bs ++ text) is))) ∙ regroup (size total ++ size command) text (size meta) known payload in
    let whole : out ≡ frame_text f =
    parts ∙ append_assoc (size total) (size command) (text ++ ((size meta ++ known) ++ payload)) ∙ ap (λ (bs : List ℕ). size total ++ bs) (sym (append_assoc (size command) text ((size meta ++ known) ++ payload)) ∙ ap (λ (bs : List ℕ). bs ++ ((size meta ++ known) ++ payload)) outer ∙ ap (λ (bs : List ℕ). sized text ++ bs) inner)
    ∙ counts total (length content) content (sym long) in
    usual_is f out whole writable (sym carried) metadata (omega (arith, long, small))
  where
    regroup : (a b c d e : List ℕ) → (((a ++ b) ++ c) ++ d) ++ e ≡ a ++ (b ++ ((c ++ d) ++ e))
    regroup a b c d e =
        append_assoc ((a ++ b) ++ c) d e ∙ append_assoc (a ++ b) c (d ++ e) ∙ append_assoc a b (c ++ (d ++ e)) ∙ ap (λ (bs : List ℕ). a ++ (b ++ bs)) (sym (append_assoc c d e))
