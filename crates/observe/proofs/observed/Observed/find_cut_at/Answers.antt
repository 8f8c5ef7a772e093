use Rattle.std.proofs.Common.{arith, ap, sym, ◌∙◌}
use Rattle.std.specs.Prelude.{length}
use Rattle.std.proofs.lemmas.Option.{same_Some}
use Rattle.std.proofs.lemmas.Result.{on_ok_weaker}
use Rattle.geo_base.specs.declared.entry.Entry.{Entry}
use Rattle.observation.specs.Observed.{entries_seen}
use Rattle.observe.proofs.Cutting.{none_cut, other_cut, own_cut}
use Rattle.observe.proofs.Each.{item_at}
use Rattle.observe.proofs.observed.Observed.find_cut_at.Goals as goal

pub returns-in-None : goal.returns-in-None
returns-in-None c = λ e at.
    let s = c.args.scenario.now.setup in let o = c.args.self.now in let h = c.args.at in let f : Entry = c.index-entries-index.result in
    let there = item_at (entries_seen s o h.topic h.cluster) c.entries_at-entries.result.now c.args.index f c.entries_at-entries.ensures (omega (arith, c.requires.index, ap length c.entries_at-entries.ensures)) c.index-entries-index.is in
    none_cut s o h.topic h.cluster c.args.index c.args.found.now.items e f (same_Some e f (sym at ∙ there)) c.in-None.ensures

pub returns-then-entry-at : goal.returns-then-entry-at
returns-then-entry-at c = λ e at.
    let s = c.args.scenario.now.setup in let o = c.args.self.now in let h = c.args.at in let f : Entry = c.index-entries-index.result in
    let there = item_at (entries_seen s o h.topic h.cluster) c.entries_at-entries.result.now c.args.index f c.entries_at-entries.ensures (omega (arith, c.requires.index, ap length c.entries_at-entries.ensures)) c.index-entries-index.is in
    other_cut s o h.topic h.cluster c.args.index c.args.found.now.items e f c.in-Some.local.now c.in-Some.remote.now (same_Some e f (sym at ∙ there)) c.in-Some.ensures c.if-entry-at.true

pub returns-else-entry-at : goal.returns-else-entry-at
returns-else-entry-at c =
    let s = c.args.scenario.now.setup in let o = c.args.self.now in let h = c.args.at in let f : Entry = c.index-entries-index.result in
    let there = item_at (entries_seen s o h.topic h.cluster) c.entries_at-entries.result.now c.args.index f c.entries_at-entries.ensures (omega (arith, c.requires.index, ap length c.entries_at-entries.ensures)) c.index-entries-index.is in
    on_ok_weaker c.find_cut.result
    (λ found e at. own_cut s o h.topic h.cluster c.args.index c.args.found.now.items c.find_cut.new.found.items e f c.in-Some.local.now c.in-Some.remote.now (same_Some e f (sym at ∙ there)) c.in-Some.ensures c.if-entry-at.false found)
    c.find_cut.ensures
