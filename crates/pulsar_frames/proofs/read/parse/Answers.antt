use Rattle.std.proofs.Common.{List, subst, sym}
use Rattle.pulsar_frames.specs.declared.frame.Frame.{Frame}
use Rattle.pulsar_frames.specs.Streams.{AreFrames, end, unfinished, refused}
use Rattle.pulsar_frames.proofs.Reading.{frames_push, frame_shorter, is_fault}
use Rattle.pulsar_frames.proofs.read.parse.Goals as goal

pub each-init : goal.each-init
each-init c = subst (λ (fs : List Frame). AreFrames c.args.bytes.now fs c.args.bytes.now) (sym c.new-frames.ensures) end

pub each-smaller : goal.each-smaller
each-smaller c = let t = rw c.in-Ok-Some.field-0-is at c.in-Ok-Some.ensures.ok in frame_shorter c.each.rest.now c.in-Ok-Some.frame c.in-Ok-Some.after.now t

pub each-preserved : goal.each-preserved
each-preserved c =
    let t = rw c.in-Ok-Some.field-0-is at c.in-Ok-Some.ensures.ok in
    subst (λ (fs : List Frame). AreFrames c.args.bytes.now fs c.in-Ok-Some.after.now) (sym c.in-Ok.ensures.ok)
    (frames_push c.args.bytes.now c.each.rest.now c.in-Ok-Some.after.now c.each.frames c.in-Ok-Some.frame c.each.invariant t)

pub up_to_rest-requires : goal.up_to_rest-requires
up_to_rest-requires c = record { whole = c.each.invariant; ends = unfinished (rw c.in-Ok-None.field-0-is at c.in-Ok-None.ensures.ok) }

pub up_to_rest-requires-in_default-why : goal.up_to_rest-requires-in_default-why
up_to_rest-requires-in_default-why c = record { whole = c.each.invariant; ends = refused (is_fault c.each.rest.now c.in-Err.why c.in_default-why.not-Memory c.in-Err.ensures.err) }
