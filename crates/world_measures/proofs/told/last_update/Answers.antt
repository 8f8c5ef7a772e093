use Rattle.std.proofs.Common.{rules, refl}
use Rattle.std.specs.Option.{option_copied}
use Rattle.world_measures.proofs.Walks.{last_found, last_gone}
use Rattle.world_measures.proofs.told.last_update.Goals as goal

pub returns-in-Some : goal.returns-in-Some
returns-in-Some c =
    let i = c.loop-index.invariant in
    last_found c.args.source c.args.name.now c.args.store.now.entries c.loop-index.index _ (search rules) i.within (search rules) refl i.before

pub loop-index-preserved : goal.loop-index-preserved
loop-index-preserved c =
    let i = c.loop-index.invariant in
    record {
      within = search rules;
      before = last_gone c.args.source c.args.name.now c.args.store.now.entries c.loop-index.index (option_copied c.update_at.result) (search rules) i.within (search rules) (search rules) i.before;
    }
