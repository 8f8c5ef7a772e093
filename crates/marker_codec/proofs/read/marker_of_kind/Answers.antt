use Rattle.std.proofs.Common.{List, refl, subst}
use Rattle.std.proofs.lemmas.Result.{err_from_is_err_and}
use Rattle.pb_fields.specs.declared.message.Row.{Row}
use Rattle.pb_fields.specs.Message.{IsWrongOrMemory}
use Rattle.pb_fields.specs.Embedded.{WrongMessageWith}
use Rattle.marker_codec.specs.Kinds.{kind_number, RightPart, WrongPart}
use Rattle.marker_codec.proofs.Meaning.{fault_of}
use Rattle.marker_codec.proofs.read.marker_of_kind.Goals as goal

pub returns-in_err-fields-clause-fault : goal.returns-in_err-fields-clause-fault
returns-in_err-fields-clause-fault c =
    let p = err_from_is_err_and c.from_residual.result c.from_residual.ensures.1 in
    let why = c.in_err-fields.field-0.0 in
    rw (p.1, p.2) (fault_of (kind_number c.args.kind) c.args.kind c.args.bytes.now why refl
    (subst (λ (rows : List Row). IsWrongOrMemory (WrongMessageWith (RightPart c.args.kind) (WrongPart c.args.kind) rows c.args.bytes.now) why) c.rows.ensures c.in_err-fields.ensures.fault))
