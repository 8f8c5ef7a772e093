use Rattle.std.proofs.Common.{◌≡◌, ◌==◌, true, arith, refl}
use Rattle.std.proofs.lemmas.Bool.Decides.{nat_tests}
use Rattle.geo_base.specs.declared.entry.Entry.{Entry}
use Rattle.observe.proofs.Each.{item_at}
use Rattle.observe.proofs.Walking.{next_some}
use Rattle.observe.proofs.brought.next_of.Goals as goal

pub returns-then-entries-index : goal.returns-then-entries-index
returns-then-entries-index c =
    let e : Entry = c.index-entries-index.result in let i = c.loop-index.index in
    let own : (e.ident.origin == c.args.origin) ≡ true = grind (arith, nat_tests, c.if-entries-index.true) in
    next_some c.args.origin c.args.entries.now c.args.from i e c.loop-index-test.true (item_at _ c.args.entries.now i e refl c.loop-index-test.true c.index-entries-index.is) own c.loop-index.invariant
