use Rattle.std.proofs.Common.{◌<◌, length, arith}
use Rattle.step_lines.proofs.Lines.{next_entry}
use Rattle.step_lines.proofs.entries.add_new_entries.Goals as goal

pub loop-index-preserved : goal.loop-index-preserved
loop-index-preserved c =
    let store = c.store-store.result.now in let names = c.clusters-clusters.result.now in
    let within : c.loop-index.index < length store.entries = omega arith in
    next_entry names store.ledgers store.entries c.args.indent c.loop-index.index c.loop-index.lines c.add.new.lines c.add_entry.new.lines _ within c.in_ok-add.ensures.ok c.in_ok-add_entry.ensures.ok c.loop-index.invariant
