use Rattle.std.proofs.Common.{ℕ}
use Rattle.step_lines.proofs.Changes.{got_next, one_got}
use Rattle.step_lines.proofs.client_changes.add_new_got.Goals as goal

pub loop-place-preserved : goal.loop-place-preserved
loop-place-preserved c =
    let names = c.args.clusters.now in let is = c.args.got.now in let k : ℕ = c.loop-place.place in
    got_next names is _ k c.loop-place.lines c.add.new.lines c.add_got.new.lines _ c.loop-place-test.true (one_got is k) c.in_ok-add.ensures.ok c.in_ok-add_got.ensures.ok c.loop-place.invariant
