use Rattle.std.proofs.Common.{sym, ◌∙◌}
use Rattle.broker_subs.specs.Table.{sub_at}
use Rattle.broker_packets.specs.Serving.{open_at}
use Rattle.broker_packets.proofs.Joins.{busy_refused, free_joins, same_name}
use Rattle.broker_packets.proofs.Shapes.{same_plan}
use Rattle.broker_packets.proofs.subscribing.join_unless_busy.Goals as goal

pub returns-then-is_busy-clause-prepared : goal.returns-then-is_busy-clause-prepared
returns-then-is_busy-clause-prepared c =
    let b = c.args.state.now.broker in
    let a = c.args.asked.now in
    let v = sub_at b.subs c.args.sub_index in
    same_plan c.args.state.now.site b _ _ c.refuse.new.plan c.refuse.result
    (busy_refused c.args.client (open_at b c.args.client) a.sub a.kind a.id a.request a.earliest a.replicated v (sym c.is_busy.ensures ∙ c.if-is_busy.true)) c.refuse.ensures.prepared

pub returns-else-is_busy-clause-prepared : goal.returns-else-is_busy-clause-prepared
returns-else-is_busy-clause-prepared c =
    let b = c.args.state.now.broker in
    let a = c.args.asked.now in
    let v = sub_at b.subs c.args.sub_index in
    same_plan c.args.state.now.site b _ _ c.join.new.plan c.join.result
    (free_joins c.args.client (open_at b c.args.client) a.sub a.kind a.id a.request a.earliest a.replicated v (same_name b.subs a.sub v c.requires.there) (sym c.is_busy.ensures ∙ c.if-is_busy.false)) c.join.ensures.prepared
