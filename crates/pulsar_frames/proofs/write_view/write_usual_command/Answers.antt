use Rattle.std.proofs.Common.{arith}
use Rattle.pulsar_frames.proofs.UsualFrames.{bare_text_is}
use Rattle.pulsar_frames.proofs.write_view.write_usual_command.Goals as goal

pub put-requires-clause-room : goal.put-requires-clause-room
put-requires-clause-room c = omega (arith, c.in_ok-out.ensures.spare)

pub returns : goal.returns
returns c =
    rw c.into_blob.ensures
    (bare_text_is c.args.command c.in_ok-out.out.bytes c.put.new.out.bytes c.size-size.result c.requires c.size-size.ensures.size c.size-size.ensures.few c.in_ok-out.ensures.text c.put.ensures.text.bytes c.put.ensures.writable)
