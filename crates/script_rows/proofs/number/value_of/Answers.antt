use Rattle.std.proofs.Common.{sym, ◌∙◌, arith}
use Rattle.script_rows.proofs.Numbers.{refused_at}
use Rattle.script_rows.proofs.number.value_of.Goals as goal

pub returns-in_err-value : goal.returns-in_err-value
returns-in_err-value c =
    let at = c.loop-digit in
    let none = refused_at c.args.most at.value at.digit-index c.args.digits.now _ (omega arith) (sym c.next_value.ensures ∙ c.in_err-value.was) in
    c.from_residual.ensures ∙ (sym none ∙ at.invariant.so_far)
