use Rattle.std.proofs.Common.{sym, ◌∙◌}
use Rattle.step_lines.specs.Resting.{are_apart}
use Rattle.step_lines.proofs.Finding.{apart_here}
use Rattle.step_lines.proofs.sub_names.are_apart.Goals as goal

pub returns-in-Some : goal.returns-in-Some
returns-in-Some c =
    let vs = c.args.broker.now.broker.subs in
    apart_here vs c.loop-place.place c.in-Some.sub.now.sub (are_apart vs) c.in-Some.ensures (sym c.is_named_later.ensures ∙ c.if-is_named_later.true) c.loop-place.invariant
