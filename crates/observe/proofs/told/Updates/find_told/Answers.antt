use Rattle.std.proofs.Common.{◌≡◌, ◌++◌, ◌∙◌, ap, arith, refl, subst}
use Rattle.std.specs.Prelude.{length}
use Rattle.geo_base.specs.declared.entry.Entry.{Entry}
use Rattle.observation.specs.Findings.{told, told_in}
use Rattle.observation.specs.Observed.{entries_seen}
use Rattle.observe.specs.Dealt.{LogsOf}
use Rattle.observe.proofs.Each.{each_all, each_more, each_none, item_at}
use Rattle.observe.proofs.told.Updates.find_told.Goals as goal

pub loop-index-init : goal.loop-index-init
loop-index-init c = record { same = refl; found = each_none _ _ _ }

pub loop-index-preserved : goal.loop-index-preserved
loop-index-preserved c =
    let e : Entry = c.index-entries-index.result in let i = c.loop-index.index in
    let there = subst (λ (q : LogsOf). c.entries_at-entries.result.now ≡ entries_seen q.setup q.observed q.topic c.args.cluster) c.self.view_is c.entries_at-entries.ensures in
    let at = item_at _ c.entries_at-entries.result.now i e there (omega (arith, c.loop-index-test.true)) c.index-entries-index.is in
    record {
      same = c.find_told_at.ensures.same ∙ c.loop-index.invariant.same;
      found =
          each_more _ _ _ _ _ _ e c.loop-index.invariant.found at
          (subst (λ (q : LogsOf). c.find_told_at.new.found.items ≡ c.loop-index.found.items ++ told_in q.setup q.observed q.topic c.args.cluster i e e.content) c.loop-index.invariant.same c.in_ok-find_told_at.ensures.found);
    }

pub returns : goal.returns
unfolding told
returns c =
    let there = subst (λ (q : LogsOf). c.entries_at-entries.result.now ≡ entries_seen q.setup q.observed q.topic c.args.cluster) c.self.view_is c.entries_at-entries.ensures in
    let size = ap length there in
    record {
      same = c.loop-index.invariant.same;
      found = each_all _ _ _ _ _ c.loop-index.invariant.found (omega (arith, c.loop-index-test.false, size));
    }
