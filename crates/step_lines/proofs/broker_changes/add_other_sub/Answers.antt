use Rattle.std.proofs.Common.{◌∙◌}
use Rattle.step_lines.proofs.Changes.{sub_whole}
use Rattle.step_lines.proofs.broker_changes.add_other_sub.Goals as goal

pub returns : goal.returns
returns c =
    let v = c.args.broker.now.broker in
    sub_whole v c.args.noted.now v.subs c.args.place c.in-Some.sub.now.sub c.shown_of-now.result c.shown_named.result c.as_str-name.result.now c.as_bytes.result.now c.is_as_noted.result c.args.indent
    c.args.lines.now c.add.new.lines c.add_sub_line.new.lines c.add_sub_line.result c.in-Some.ensures c.shown_of-now.ensures (c.as_str-name.ensures.text ∙ c.name.ensures) c.as_bytes.ensures.value
    c.shown_named.ensures c.is_as_noted.ensures c.if-is_as_noted.false c.in_ok-add-in-Some.ensures.ok c.add_sub_line.ensures.ok
