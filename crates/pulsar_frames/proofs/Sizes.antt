-- How many bytes the parts of a frame take.
use Rattle.std.proofs.Common.{◌≡◌, ℕ, ◌+◌, Option, Some, None, length, ap, ◌∙◌, arith, length-append}
use Rattle.std.specs.Option.{option_map}
use Rattle.pulsar_frames.specs.declared.layout.BodyParts.{BodyParts}
use Rattle.pulsar_frames.specs.declared.layout.FrameParts.{FrameParts}
use Rattle.pulsar_frames.specs.Layout.{body_text, content_text, sized}
use Rattle.pulsar_frames.specs.Viewed.{layout, body_layout}
use Rattle.pulsar_frames.proofs.Layouts.{content_length, length-sized}

pub size_none : (p : FrameParts) → p.body ≡ None → 4 + length p.command.now ≡ length (content_text (layout p))
size_none p e =
    let body : length (body_text (option_map body_layout p.body)) ≡ 0 = ap (λ (o : Option BodyParts). length (body_text (option_map body_layout o))) e in
    omega (arith, content_length (layout p))

pub size_some : (p : FrameParts) (b : BodyParts) (n : ℕ) → p.body ≡ Some b → n ≡ 4 + length p.command.now + (4 + length b.meta.now) + length b.payload.now → n ≡ length (content_text (layout p))
size_some p b n e is =
    let body : length (body_text (option_map body_layout p.body)) ≡ length (sized b.meta.now) + length b.payload.now =
    ap (λ (o : Option BodyParts). length (body_text (option_map body_layout o))) e ∙ length-append (sized b.meta.now) b.payload.now in
    omega (arith, content_length (layout p), length-sized b.meta.now)
