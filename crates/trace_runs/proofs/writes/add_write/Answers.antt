use Rattle.std.proofs.Common.{List, ℕ, ap, refl, ◌∙◌}
use Rattle.geo_base.specs.TraceItems.{Appends, Creates, Deletes}
use Rattle.geo_base.specs.Topic.{next_position}
use Rattle.geo_base.specs.Traced.{snapshot_told}
use Rattle.trace_runs.specs.Writes.{naming}
use Rattle.trace_runs.proofs.Seen.{seen_same}
use Rattle.trace_runs.proofs.Steps.{on_line, on_said}
use Rattle.trace_runs.proofs.writes.add_write.Goals as goal

pub returns-in-Append-clause-told : goal.returns-in-Append-clause-told
returns-in-Append-clause-told c =
    let h = c.args.node.now.site in let b = c.args.node.now.broker in let e = c.in-Append.entry in
    rw c.in-Append.is
    (on_line c.append.result h (Appends (next_position h.per_ledger b.ledgers) e (snapshot_told h b e e.content)) c.args.telling.now.text c.append.new.telling.text c.append.ensures.told)

pub returns-in-Append-clause-seen : goal.returns-in-Append-clause-seen
returns-in-Append-clause-seen c = c.append.ensures.seen

pub returns-in-Create-clause-told : goal.returns-in-Create-clause-told
returns-in-Create-clause-told c =
    let h = c.args.node.now.site in let text = c.args.telling.now.text in let v = c.in-Create.sub in
    let name = c.as_bytes-name.ensures.value ∙ (c.as_str.ensures.text ∙ c.name.ensures) in
    rw c.in-Create.is
    (on_line c.add_create.result h (Creates v.sub.name c.in-Create.latest) text c.add_create.new.lines
    (on_said c.add_create.result c.naming.result (naming h) (Creates c.as_bytes-name.result.now c.in-Create.latest) (Creates v.sub.name c.in-Create.latest) text c.add_create.new.lines
    c.naming.ensures.naming (ap (λ (n : List ℕ). Creates n c.in-Create.latest) name) c.add_create.ensures.ok))

pub returns-in-Create-clause-seen : goal.returns-in-Create-clause-seen
returns-in-Create-clause-seen c = seen_same c.args.node.now c.args.telling.now.snapshots c.requires.known

pub returns-in-Delete-clause-told : goal.returns-in-Delete-clause-told
returns-in-Delete-clause-told c =
    let h = c.args.node.now.site in let text = c.args.telling.now.text in let a = Deletes c.args.sub.now in
    rw c.in-Delete.is
    (on_line c.add_delete.result h a text c.add_delete.new.lines
    (on_said c.add_delete.result c.naming-in-Delete.result (naming h) a a text c.add_delete.new.lines c.naming-in-Delete.ensures.naming refl c.add_delete.ensures.ok))

pub returns-in-Delete-clause-seen : goal.returns-in-Delete-clause-seen
returns-in-Delete-clause-seen c = seen_same c.args.node.now c.args.telling.now.snapshots c.requires.known

pub returns-in-Sub-clause-told : goal.returns-in-Sub-clause-told
returns-in-Sub-clause-told c = rw c.in-Sub.is c.add_sub_write.ensures.ok

pub returns-in-Sub-clause-seen : goal.returns-in-Sub-clause-seen
returns-in-Sub-clause-seen c = seen_same c.args.node.now c.args.telling.now.snapshots c.requires.known
