use Rattle.std.proofs.Common.{rules, ◌-◌}
use Rattle.topic_compaction.proofs.Noted.{row_back, something}
use Rattle.topic_compaction.proofs.compacted.rows_between.Goals as goal

pub loop-index-preserved-in-Continue-1 : goal.loop-index-preserved-in-Continue-1
loop-index-preserved-in-Continue-1 g c =
    let i = c.loop-index.invariant in
    let es = g.S.EntryStore.entries c.args.store.now in
    record {
      above = search rules;
      below = search rules;
      rows = λ k. row_back k c.loop-index.rows.items c.add_row.new.rows.items es c.args.from c.args.to c.loop-index.index c.in-Some.entry.now (search rules) i.below (search rules) (i.rows k) (search rules);
    }

pub loop-index-preserved : goal.loop-index-preserved
loop-index-preserved g c =
    let i = c.loop-index.invariant in
    let es = g.S.EntryStore.entries c.args.store.now in
    absurd (something es (c.loop-index.index - 1) (search rules) (search rules))
