use Rattle.std.proofs.Common.{List, ℕ, ap}
use Rattle.geo_base.specs.Broker.{sub_named}
use Rattle.geo_base.specs.TraceItems.{Acks}
use Rattle.geo_base.specs.Traced.{cursor_of, gained}
use Rattle.trace_runs.specs.Writes.{indexes_acked, naming}
use Rattle.trace_runs.proofs.Steps.{on_said}
use Rattle.trace_runs.proofs.writes.add_gained.Goals as goal

pub returns-clause-ok : goal.returns-clause-ok
returns-clause-ok c =
    let v = c.args.node.now in let n = c.args.sub.now in
    let all = gained (cursor_of (sub_named v.broker.subs n)) (indexes_acked v.broker.entries c.args.write.now) in
    on_said c.add_acks-added.result c.naming.result (naming v.site) (Acks n c.in_ok-gained.gained.indexes c.args.cause) (Acks n all c.args.cause) c.args.lines.now c.add_acks-added.new.lines
    c.naming.ensures.naming (ap (λ (is : List ℕ). Acks n is c.args.cause) c.in_ok-gained.ensures) c.add_acks-added.ensures.ok
