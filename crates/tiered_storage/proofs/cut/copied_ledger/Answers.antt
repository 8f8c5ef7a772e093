use Rattle.std.proofs.Common.{sym}
use Rattle.tiered_storage.specs.Ledgers.{entries_in}
use Rattle.tiered_storage.proofs.Cutting.{copied_all, copied_fewer, copied_more}
use Rattle.tiered_storage.proofs.cut.copied_ledger.Goals as goal

pub loop-entry-preserved : goal.loop-entry-preserved
loop-entry-preserved g c =
    copied_more (entries_in (g.S.EntryStore.ledgers c.args.store.now) (g.S.EntryStore.entries c.args.store.now) c.args.ledger) c.loop-entry.copies c.push.new.self c.len.result c.in-Some.entry.now c.in_ok-copy.field-0
    c.loop-entry.invariant c.len.ensures c.in-Some.ensures c.in_ok-copy.ensures c.in_ok-push.ensures.ok

pub loop-entry-smaller : goal.loop-entry-smaller
loop-entry-smaller g c =
    copied_fewer (entries_in (g.S.EntryStore.ledgers c.args.store.now) (g.S.EntryStore.entries c.args.store.now) c.args.ledger) c.loop-entry.copies c.push.new.self c.len.result c.in-Some.entry.now c.in_ok-copy.field-0
    c.len.ensures c.in-Some.ensures c.in_ok-push.ensures.ok

pub returns : goal.returns
returns g c =
    let none = c.in_default.ensures in
    copied_all (entries_in (g.S.EntryStore.ledgers c.args.store.now) (g.S.EntryStore.entries c.args.store.now) c.args.ledger) c.loop-entry.copies c.len.result c.loop-entry.invariant c.len.ensures (sym none)
