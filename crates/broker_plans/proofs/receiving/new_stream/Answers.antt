use Rattle.std.proofs.Common.{◌≡◌, true, false}
use Rattle.geo_base.specs.Topic.{accepts}
use Rattle.broker_plans.proofs.Keeping.{stream_tells}
use Rattle.broker_plans.proofs.receiving.new_stream.Goals as goal

pub returns-then-not-accepts-clause-duplicate : goal.returns-then-not-accepts-clause-duplicate
returns-then-not-accepts-clause-duplicate c =
    let es = c.args.state.now.broker.entries in
    let i = c.args.ident.now in
    let told = stream_tells es i c.in_ok-stream.stream c.accepts.result c.in_ok-stream.ensures c.accepts.ensures in
    let old : accepts es i ≡ false = cc in
    old

pub returns-clause-new : goal.returns-clause-new
returns-clause-new c =
    let es = c.args.state.now.broker.entries in
    let i = c.args.ident.now in
    let told = stream_tells es i c.in_ok-stream.stream c.accepts.result c.in_ok-stream.ensures c.accepts.ensures in
    let new : accepts es i ≡ true = cc in
    (new, c.in_ok-stream.ensures, c.in_ok-reserve_entries.ensures.entries, c.in_ok-reserve_entries.ensures.streams)
