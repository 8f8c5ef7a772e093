use Rattle.std.proofs.Common.{[], take, ap, arith, subst, sym}
use Rattle.std.specs.Prelude.{length}
use Rattle.geo_base.specs.declared.entry.Entry.{Entry}
use Rattle.topic_store.specs.Table.{Tells}
use Rattle.topic_store.proofs.Tells.{tells_none}
use Rattle.observation.specs.Observed.{entries_seen}
use Rattle.observation.specs.Findings.{twice}
use Rattle.observe.proofs.Each.{each_all, each_more, each_none, item_at, take_more_at}
use Rattle.observe.proofs.observed.Observed.find_twice.Goals as goal

pub loop-index-init : goal.loop-index-init
loop-index-init c = record { told = subst (λ t. Tells t.rows []) (sym c.new-streams.ensures) tells_none; found = each_none _ _ _ }

pub loop-index-preserved : goal.loop-index-preserved
loop-index-preserved c =
    let e : Entry = c.index-entries-index.result in
    let i = c.loop-index.index in let es = entries_seen c.args.scenario.now.setup c.args.self.now c.args.at.topic c.args.at.cluster in
    let at = item_at es c.entries_at-entries.result.now i e c.entries_at-entries.ensures (omega (arith, c.loop-index-test.true)) c.index-entries-index.is in
    record {
      told = subst (Tells c.find_twice_at.new.streams.rows) (sym (take_more_at es i e at)) (c.in_ok-find_twice_at.ensures.told (take i es) c.loop-index.invariant.told);
      found = each_more _ _ _ _ _ _ e c.loop-index.invariant.found at (c.in_ok-find_twice_at.ensures.found (take i es) c.loop-index.invariant.told);
    }

pub returns : goal.returns
unfolding twice
returns c =
    let size = ap length c.entries_at-entries.ensures in
    each_all _ _ _ _ _ c.loop-index.invariant.found (omega (arith, c.loop-index-test.false, size))
