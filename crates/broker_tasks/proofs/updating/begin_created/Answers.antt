use Rattle.std.proofs.Common.{◌≡◌}
use Rattle.std.proofs.lemmas.Result.{on_ok_weaker}
use Rattle.broker_subs.specs.declared.writing.SubWrite.TheVariants as sub_write
use Rattle.broker_tasks.specs.Reading.{handled_view}
use Rattle.broker_tasks.specs.Updating.{acked_view, creating_writes}
use Rattle.broker_tasks.proofs.Acknowledged.{created_steps}
use Rattle.broker_tasks.proofs.updating.begin_created.Goals as goal

pub returns : goal.returns
returns c =
    let k = c.args.sub_index in
    let y = c.args.at.remote in
    let i = c.args.at.index in
    let p = c.acknowledge_read.new.plan in
    on_ok_weaker {P = p ≡ handled_view y i c.change.new.self} {Q = p ≡ handled_view y i (acked_view k (creating_writes c.args.sub (sub_write.UpdateTo c.args.to y c.args.runs)))} c.acknowledge_read.result
    (created_steps k y i c.args.to c.args.runs c.args.sub c.begin.new.self c.write.new.self c.write-2.new.self c.change.new.self p c.begin.ensures c.in_ok-write.ensures.ok c.in_ok-write-2.ensures.ok c.in_ok-change.ensures.ok)
    c.acknowledge_read.ensures
