use Rattle.std.proofs.Common.{arith}
use Rattle.std.proofs.lemmas.Option.{IfSome_then}
use Rattle.pb_fields.proofs.Fronts.{bytes_fronts}
use Rattle.pb_fields.proofs.front.front_bytes.Goals as goal

pub returns-then-from-number : goal.returns-then-from-number
returns-then-from-number c =
    IfSome_then c.content_of.result c.content_of.ensures
    (λ x taken. bytes_fronts c.args.bytes.now c.in_ok-tag.rest.now x.0.now x.1.now c.in_ok-tag.tag.now c.args.number c.in_ok-tag.ensures.cases.0 (omega (arith, c.from.ensures, c.if-from-number.true)) c.requires taken)
