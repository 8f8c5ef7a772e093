use Rattle.std.proofs.Common.{sym, ◌∙◌}
use Rattle.pb_fields.proofs.Pairs.{no_tag, no_number, other_type}
use Rattle.pb_fields.proofs.pair.tag_of.Goals as goal

pub returns-in_default : goal.returns-in_default
returns-in_default c = λ f rest of t. no_tag c.args.bytes.now c.in_default.field-0 c.in_default.ensures.err f rest t

pub returns-in_default-number_and_type : goal.returns-in_default-number_and_type
returns-in_default-number_and_type c =
    λ f rest of t. no_number c.args.bytes.now c.in-Ok.rest.now c.in-Ok.tag c.in_default-number_and_type.field-0 c.in-Ok.ensures.ok c.in_default-number_and_type.ensures.err f rest t

pub returns-then-number : goal.returns-then-number
returns-then-number c =
    λ f rest of t. other_type c.args.bytes.now c.in-Ok.rest.now c.in-Ok.tag c.in-Ok-number_and_type.number c.in-Ok-number_and_type.found c.args.wire c.in-Ok.ensures.ok c.in-Ok-number_and_type.ensures.ok.0 (λ same. c.if-number.true (c.number.ensures ∙ same ∙ sym c.number-2.ensures)) f rest of t
