use Rattle.std.proofs.Common.{rules, ◌-◌}
use Rattle.world_measures.proofs.Placing.{tells_before}
use Rattle.world_measures.proofs.Walks.{something}
use Rattle.world_measures.proofs.places.PlaceTable.of.Goals as goal

pub loop-index-preserved-in-Continue-1 : goal.loop-index-preserved-in-Continue-1
loop-index-preserved-in-Continue-1 c =
    let i = c.loop-index.invariant in let es = c.args.store.now.entries in
    record {
      within = search rules;
      told = tells_before c.loop-index.first.entries c.note.new.first.entries (c.loop-index.index - 1) es c.in-Some.entry.now (search rules) (search rules) (search rules);
    }

pub loop-index-preserved : goal.loop-index-preserved
loop-index-preserved c = absurd (something c.args.store.now.entries (c.loop-index.index - 1) (search rules) (search rules))
