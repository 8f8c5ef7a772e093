use Rattle.std.proofs.Common.{arith}
use Rattle.pulsar_frames.specs.Layout.{begun, under_way, too_large, content}
use Rattle.pulsar_frames.proofs.SizeTexts.{sized_split}
use Rattle.pulsar_frames.proofs.layout.parts_at.Goals as goal

pub returns-in_default-clause-ok : goal.returns-in_default-clause-ok
returns-in_default-clause-ok c = begun c.in_default.ensures

pub returns-then-total-gt-FRAME_BYTES-clause-err : goal.returns-then-total-gt-FRAME_BYTES-clause-err
returns-then-total-gt-FRAME_BYTES-clause-err c = rw c.from-total.ensures (too_large c.in-Some.size c.in-Some.after.now (omega arith) c.in-Some.ensures.0 c.in-Some.ensures.1)

pub returns-then-size-after-clause-ok : goal.returns-then-size-after-clause-ok
returns-then-size-after-clause-ok c = under_way c.in-Some.size c.in-Some.after.now (omega arith) c.in-Some.ensures.1 c.if-size-after.true

pub returns-in-Err-clause-err : goal.returns-in-Err-clause-err
returns-in-Err-clause-err c =
    content c.split_at.result.0.now c.split_at.result.1.now (omega arith)
    (rw (c.split_at.ensures.front, c.split_at.ensures.back) (sized_split c.args.bytes.now c.in-Some.after.now c.in-Some.size c.in-Some.ensures.1 (omega arith)))
    c.in-Err.ensures.err
