use Rattle.std.proofs.Common.{◌+◌, drop, refl}
use Rattle.observe.proofs.Each.{item_at}
use Rattle.observe.proofs.Walking.{ahead_all, ahead_begun, ahead_fails, ahead_on}
use Rattle.observe.proofs.brought.is_ahead.Goals as goal

pub loop-entry-init : goal.loop-entry-init
loop-entry-init c = ahead_begun _ _ _ _

pub loop-entry-preserved : goal.loop-entry-preserved
loop-entry-preserved c =
    let at = item_at _ _ c.loop-entry.entry-index c.entry-item.result refl c.loop-entry-test.true c.entry-item.is in
    ahead_on _ _ _ _ _ _ _ c.entry-item.result c.loop-entry.invariant at (c.in-Some.ensures (drop (c.loop-entry.entry-index + 1) c.args.there.now))

pub returns-in-None : goal.returns-in-None
returns-in-None c =
    let at = item_at _ _ c.loop-entry.entry-index c.entry-item.result refl c.loop-entry-test.true c.entry-item.is in
    ahead_fails _ _ _ _ _ _ c.entry-item.result c.loop-entry.invariant at (c.in-None.ensures (drop (c.loop-entry.entry-index + 1) c.args.there.now))

pub returns : goal.returns
returns c = ahead_all _ _ _ _ _ _ c.loop-entry.invariant c.loop-entry-test.false
