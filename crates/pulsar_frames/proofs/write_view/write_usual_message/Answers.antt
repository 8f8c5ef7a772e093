use Rattle.std.proofs.Common.{◌+◌, arith, length, refl}
use Rattle.pulsar_frames.proofs.SizeTexts.{length-size}
use Rattle.pulsar_frames.proofs.UsualFrames.{carrying_text_is}
use Rattle.pulsar_frames.proofs.write_view.write_usual_message.Goals as goal

pub put-requires-clause-room : goal.put-requires-clause-room
put-requires-clause-room c = omega (arith, c.in_ok-out.ensures.spare)

pub put_size-requires-clause-room : goal.put_size-requires-clause-room
put_size-requires-clause-room c = omega (arith, c.in_ok-out.ensures.spare, c.size-size.ensures.size, c.put.ensures.text.spare)

pub put-requires-2 : goal.put-requires-2
put-requires-2 c = omega (arith, c.in_ok-out.ensures.spare, c.size-size.ensures.size, c.put.ensures.text.spare, c.put_size.ensures.spare, length-size c.in-Some.meta, c.in-Some.ensures.size)

pub put-requires-3 : goal.put-requires-3
put-requires-3 c =
    omega (arith, c.in_ok-out.ensures.spare, c.size-size.ensures.size, c.put.ensures.text.spare, c.put_size.ensures.spare, length-size c.in-Some.meta, c.in-Some.ensures.size, c.put-2.ensures.text.spare)

pub returns : goal.returns
returns c =
    rw c.into_blob.ensures
    (carrying_text_is c.args.command c.args.message c.in_ok-out.out.bytes c.put.new.out.bytes c.put_size.new.out.bytes c.put-2.new.out.bytes c.put-3.new.self.bytes c.size-size.result c.in-Some.meta
    (8 + c.size-size.result + c.in-Some.meta + length c.args.message.payload.now)
    c.requires c.size-size.ensures.size c.in-Some.ensures.size refl (omega (arith, c.if-total-gt-FRAME_BYTES.false)) c.in_ok-out.ensures.text c.put.ensures.text.bytes c.put_size.ensures.bytes c.put-2.ensures.text.bytes c.put-3.ensures.bytes
    c.put.ensures.writable c.put-2.ensures.writable)
