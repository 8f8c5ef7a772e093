use Rattle.std.proofs.Common.{arith}
use Rattle.std.proofs.lemmas.Option.{IfSome_then}
use Rattle.pb_fields.proofs.Fronts.{varint_fronts}
use Rattle.pb_fields.proofs.front.front_varint.Goals as goal

pub returns-then-from-number : goal.returns-then-from-number
returns-then-from-number c =
    IfSome_then c.varint_of.result c.varint_of.ensures
    (λ x taken. varint_fronts c.args.bytes.now c.in_ok-tag.rest.now x.1.now c.in_ok-tag.tag.now c.args.number x.0 c.in_ok-tag.ensures.cases.0 (omega (arith, c.from.ensures, c.if-from-number.true)) c.requires taken)
