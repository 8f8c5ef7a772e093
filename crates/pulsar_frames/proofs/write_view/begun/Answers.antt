use Rattle.std.proofs.Common.{ap, arith}
use Rattle.pb_fields.specs.Buffer.{Filled}
use Rattle.pulsar_frames.proofs.SizeTexts.{length-size}
use Rattle.pulsar_frames.proofs.write_view.begun.Goals as goal

pub put_size-requires-2-clause-room : goal.put_size-requires-2-clause-room
put_size-requires-2-clause-room c =
    let capacity = ap (λ (b : Filled). b.spare) c.in_ok-out.ensures in
    omega (arith, capacity, c.requires.room, c.put_size.ensures.spare, length-size c.args.total)

pub returns-clause-spare : goal.returns-clause-spare
returns-clause-spare c =
    let capacity = ap (λ (b : Filled). b.spare) c.in_ok-out.ensures in
    omega (arith, capacity, c.put_size.ensures.spare, c.put_size-2.ensures.spare, length-size c.args.total, length-size c.args.command)
