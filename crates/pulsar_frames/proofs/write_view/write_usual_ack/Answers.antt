use Rattle.std.proofs.Common.{arith}
use Rattle.pulsar_frames.proofs.UsualFrames.{ack_text_is}
use Rattle.pulsar_frames.proofs.write_view.write_usual_ack.Goals as goal

pub put-requires-clause-room : goal.put-requires-clause-room
put-requires-clause-room c = omega (arith, c.in_ok-out.ensures.spare, c.size-size.ensures.size)

pub returns : goal.returns
returns c =
    rw c.into_blob.ensures
    (ack_text_is c.args.ack c.in_ok-out.out.bytes c.put.new.out.bytes c.size-size.result c.size-size.ensures.size c.size-size.ensures.few c.in_ok-out.ensures.text c.put.ensures.text.bytes c.put.ensures.writable)
