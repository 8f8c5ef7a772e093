-- Any bytes say a value of the machine.
use Rattle.std.proofs.Common.{◌≡◌, ℕ, List, Option, Some, None, refl, subst, inl, inr}
use Rattle.std.specs.Option.{option_map}
use Rattle.geo_base.specs.declared.entry.Entry.{Entry}
use Rattle.geo_base.specs.declared.frame.Frame.{Frame}
use Rattle.geo_base.specs.declared.frame.Frame.TheVariants as frame
use Rattle.geo_base.specs.declared.marker.ClusterRef.{ClusterRef}
use Rattle.pb_fields.specs.Canonical.{text}
use Rattle.pulsar_commands.specs.declared.command.Command.{Command}
use Rattle.pulsar_frames.specs.declared.frame.Body.{Body}
use Rattle.pulsar_frames.specs.Layout.{Layout, BodyLayout, layout_text, content_text, size}
use Rattle.pulsar_frames.specs.Frames.{MeansBody}
use Rattle.frame_values.specs.Standing.{Reads, no_text}
use Rattle.frame_values.specs.Standing as standing
use Rattle.frame_values.specs.Values.{IsEntryOf, Carries, Says, carrying, place_of, simple_frame, targets_of}
use Rattle.frame_values.proofs.Bare.{reads_stand}
use Rattle.codec_laws.specs.Answers.{AreBytes}
use Rattle.codec_laws.specs.Contents.{HasContent, HasValue}
use Rattle.codec_laws.proofs.AnswerBytes.{parts_are}
use Rattle.codec_laws.proofs.Contained.{content_answer}
use Rattle.codec_laws.proofs.Frames.{TextAnswer, text_answer}
use Rattle.codec_laws.proofs.Layouts.{body_are}

-- ---- an entry

entry_with : (names : List (List ℕ)) (b : Body) → HasContent names b.meta.marker b.payload → Entry
entry_with names b c = record {
  ident = record { origin = 0; producer = b.meta.producer; seq = b.meta.seq };
  content = c.content;
  to = targets_of names b.meta.replicate_to;
  meta = record { publish_time = b.meta.publish_time; key = b.meta.key; names = b.meta.replicate_to; rest = text b.meta.rest };
  payload = c.kept;
}

entry_says : (names : List (List ℕ)) (b : Body) (c : HasContent names b.meta.marker b.payload) → IsEntryOf names b (option_map (place_of names) b.meta.replicated_from) (entry_with names b c)
unfolding entry_with
entry_says names b c = record {
  origin = refl;
  producer = refl;
  seq = refl;
  publish_time = refl;
  from = refl;
  key = refl;
  listed = refl;
  to = refl;
  rest = refl;
  content = c.is;
}

-- ---- a frame

body_says : (names : List (List ℕ)) (c : Command) (b : Body) → AreBytes b.payload → (f : Frame) × Carries names c b f
body_says names c b are =
    let content = content_answer names b.meta.marker b.payload are in
    let source : Option ClusterRef = option_map (place_of names) b.meta.replicated_from in
    (carrying c source (entry_with names b content), record { source = source; entry = entry_with names b content; is = refl; says = entry_says names b content })

-- the payload of a message is of the frame's bytes
payload_are : (l : Layout) (o : Option BodyLayout) (b : Body) → l.body ≡ o → MeansBody o (Some b) → AreBytes (content_text l) → AreBytes b.payload
payload_are l None b is h are = absurd h
payload_are l (Some k) b is h are = subst (λ (z : List ℕ). AreBytes z) h.1 (body_are l k is are).1

says_of : (names : List (List ℕ)) (l : Layout) (c : Command) (o : Option Body) → MeansBody l.body o → AreBytes (content_text l) → (f : Frame) × Says names c o f
says_of names l c None h are = (simple_frame c, refl)
says_of names l c (Some b) h are = body_says names c b (payload_are l l.body b refl h are)

text_are : (l : Layout) (bytes : List ℕ) → bytes ≡ layout_text l → AreBytes bytes → AreBytes (content_text l)
text_are l bytes is are = (parts_are bytes (size _) (content_text l) is are).1

-- ---- bytes

of_text : (names : List (List ℕ)) (bytes : List ℕ) → AreBytes bytes → TextAnswer bytes → (f : Frame) × Reads names bytes f
of_text names bytes are (inr none) = (frame.Unreadable, no_text none refl)
of_text names bytes are (inl w) =
    let said = says_of names w.1.layout w.0.command w.0.body w.1.means.body (text_are w.1.layout bytes w.1.text are) in
    (said.0, standing.text w.0 w.1 said.1)

pub value_answer : (names : List (List ℕ)) (bytes : List ℕ) → AreBytes bytes → HasValue names bytes
value_answer names bytes are =
    let f = of_text names bytes are (text_answer bytes are) in
    record { frame = f.0; says = f.1; stands = reads_stand names bytes f.0 f.1 }
