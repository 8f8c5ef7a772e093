use Rattle.std.proofs.Common.{arith}
use Rattle.pb_fields.proofs.Sizes.{length_more, length_most}
use Rattle.pb_fields.proofs.size.+varint_size.Goals as goal

pub returns-clause-few : goal.returns-clause-few
returns-clause-few t c =
    let more = length_more c.args.number (omega (arith, c.if-number-lt-GROUP.false)) (omega (arith, c.ranges.number.fits)) in
    let most = length_most c.args.number (omega (arith, c.ranges.number.fits)) in
    omega (arith, more, most, c.varint_size.ensures.size)
