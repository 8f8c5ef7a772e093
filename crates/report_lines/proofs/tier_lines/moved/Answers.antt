use Rattle.std.proofs.Common.{◌<◌, List, length, subst, sym, ap, ◌∙◌, arith}
use Rattle.geo_base.specs.declared.entry.Entry.{Entry}
use Rattle.geo_base.specs.declared.position.Position.{Position}
use Rattle.tiered_storage.specs.Readable.{AreTellable}
use Rattle.tiered_storage.specs.Kept.{TierState, kept_in}
use Rattle.tiered_storage.specs.Tiered.{Holds, Tiered, all_here}
use Rattle.report_lines.specs.Tiers.{moved_ledgers}
use Rattle.report_lines.proofs.Moving.{all_counted, all_moved, one_more, one_of}
use Rattle.report_lines.proofs.tier_lines.moved.Goals as goal

pub loop-ledger-init : goal.loop-ledger-init
loop-ledger-init g c =
    let names = c.args.clusters.now in let own = c.args.own in
    let ls = g.S.EntryStore.ledgers c.args.store.now in let es = g.S.EntryStore.entries c.args.store.now in
    let tellable : AreTellable names own es = subst (λ (xs : List Entry). AreTellable names own xs) (sym c.requires.1.1) c.requires.1.0 in
    record {
      holds = subst (λ (xs : List Entry). Holds names kept_in xs c.in_ok-topic.topic) c.requires.1.1 (c.in_ok-topic.ensures.holds names tellable);
      unclosed = ap (λ (t : Tiered TierState). t.unclosed) c.in_ok-topic.ensures.value;
      parts = ap (λ (t : Tiered TierState). t.parts) c.in_ok-topic.ensures.value ∙ ap (all_here ls) c.requires.1.1;
      few = omega arith;
    }

pub loop-ledger-preserved : goal.loop-ledger-preserved
loop-ledger-preserved g c =
    let ls = g.S.EntryStore.ledgers c.args.store.now in let n = c.loop-ledger.ledger in let inv = c.loop-ledger.invariant in
    let closed : n < c.loop-ledger.topic.unclosed =
    let test = c.loop-ledger-test.true in let end = c.saturating_sub-ledger-end.ensures in let next = ap (λ (p : Position). p.ledger) c.next-closed.ensures in
    let unclosed = inv.unclosed in omega (arith, test, end, next, unclosed) in
    let few : n < length ls = one_of ls g.entries n c.loop-ledger.topic.unclosed c.loop-ledger.topic.parts inv.parts inv.holds.closed closed in
    record {
      holds = c.move_ledger.ensures.holds;
      unclosed = c.move_ledger.ensures.unclosed ∙ inv.unclosed;
      parts = one_more ls g.entries n c.loop-ledger.topic.parts c.move_ledger.new.topic.parts inv.parts few c.in_ok-move_ledger.ensures.moved;
      few = omega (arith, few);
    }

pub returns-clause-moved : goal.returns-clause-moved
returns-clause-moved g c =
    let ls = g.S.EntryStore.ledgers c.args.store.now in let inv = c.loop-ledger.invariant in
    all_counted c.loop-ledger.ledger _ ls g.entries c.loop-ledger.topic.parts inv.parts inv.few
    (let past = c.loop-ledger-test.false in let low = c.loop-ledger.auto.ledger-end in let end = c.saturating_sub-ledger-end.ensures in
    let next = ap (λ (p : Position). p.ledger) c.next-closed.ensures in omega (arith, past, low, end, next))

pub returns-clause-parts : goal.returns-clause-parts
returns-clause-parts g c =
    let ls = g.S.EntryStore.ledgers c.args.store.now in let inv = c.loop-ledger.invariant in
    all_moved c.loop-ledger.ledger (moved_ledgers (g.S.EntryStore.per_ledger c.args.store.now) c.args.keep ls) ls g.entries c.loop-ledger.topic.parts inv.parts
    (let past = c.loop-ledger-test.false in let low = c.loop-ledger.auto.ledger-end in let end = c.saturating_sub-ledger-end.ensures in
    let next = ap (λ (p : Position). p.ledger) c.next-closed.ensures in omega (arith, past, low, end, next))
