use Rattle.std.proofs.Common.{rules, ap, ◌∙◌, drop, ◌+◌, Bool}
use Rattle.loss_laws.specs.Lost.{asked_from}
use Rattle.world_measures.proofs.Walks.{next_asked}
use Rattle.world_measures.proofs.told.is_asked.Goals as goal

pub loop-index-preserved : goal.loop-index-preserved
loop-index-preserved c =
    let es = c.args.store.now.entries in let i = c.loop-index.index in
    ap (λ (b : Bool). asked_from c.args.source b (drop (i + 1) es)) c.is_asked_behind-is_asked.ensures
    ∙ (next_asked c.args.source c.loop-index.is_asked es i c.in-Some.entry.now (search rules) ∙ c.loop-index.invariant)
