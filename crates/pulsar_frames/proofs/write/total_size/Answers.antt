use Rattle.std.proofs.Common.{◌+◌, arith, length, refl}
use Rattle.pulsar_frames.proofs.Sizes.{size_none, size_some}
use Rattle.pulsar_frames.proofs.write.total_size.Goals as goal

pub returns-in-None : goal.returns-in-None
returns-in-None c = let is = size_none c.args.parts c.in-None.is in omega (arith, is)

pub returns-in-Some : goal.returns-in-Some
returns-in-Some c =
    let whole = 4 + length c.args.parts.command.now + (4 + length c.in-Some.body.meta.now) + length c.in-Some.body.payload.now in
    let is = size_some c.args.parts c.in-Some.body whole c.in-Some.is refl in
    omega (arith, is)
