use Rattle.std.proofs.Common.{◌∙◌, arith}
use Rattle.std.proofs.lemmas.List.{take_all}
use Rattle.tiered_storage.specs.Tiered.{all_here}
use Rattle.tiered_storage.proofs.Cutting.{parts_many, parts_more}
use Rattle.tiered_storage.proofs.cut.parts_of.Goals as goal

pub loop-ledger-preserved : goal.loop-ledger-preserved
loop-ledger-preserved g c =
    let test = c.loop-ledger-test.true in
    let end = c.ledgers-ledger-end.ensures in
    parts_more (g.S.EntryStore.ledgers c.args.store.now) (g.S.EntryStore.entries c.args.store.now) c.in_ok-entries.entries c.loop-ledger.ledger c.loop-ledger.parts.items c.push.new.self.items
    (omega (arith, test, end)) c.loop-ledger.invariant c.in_ok-entries.ensures c.in_ok-push.ensures.items

pub returns : goal.returns
returns g c =
    let all = all_here (g.S.EntryStore.ledgers c.args.store.now) (g.S.EntryStore.entries c.args.store.now) in
    let many = parts_many (g.S.EntryStore.ledgers c.args.store.now) (g.S.EntryStore.entries c.args.store.now) in
    let test = c.loop-ledger-test.false in
    let end = c.ledgers-ledger-end.ensures in
    c.loop-ledger.invariant ∙ take_all c.loop-ledger.ledger all (omega (arith, many, test, end))
