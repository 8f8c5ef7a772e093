use Rattle.std.proofs.Common.{◌+◌, ◌≤◌, arith, ap}
use Rattle.std.specs.Prelude.{length}
use Rattle.dispatcher.specs.Slots.{outs_of}
use Rattle.dispatcher.specs.Tables.{UnackedIndexes}
use Rattle.dispatcher.proofs.Slots.{length_outs}
use Rattle.dispatcher.proofs.unacked.UnackedTable.tidy.Goals as goal
use Rattle.dispatcher.proofs.unacked.UnackedTable.tidy.Goals.{else-self-gt-FEW-via-then-self-gt-FEW+else-self-len, else-self-gt-FEW-via-else-self-gt-FEW}

pub returns-else-self-gt-FEW-clause-few : goal.returns-else-self-gt-FEW-clause-few
returns-else-self-gt-FEW-clause-few c =
    let xs = c.self.inside.slots.items in
    let few : c.self.inside.empty ≤ 64 + length (outs_of xs) =
    elim c.else-self-gt-FEW.branch [
      | else-self-gt-FEW-via-then-self-gt-FEW+else-self-len w ↦ omega (arith, w.if-self-len.false, w.len.ensures, length_outs xs, c.self.invariant.counted, c.self.inside.slots.ok.0)
      | else-self-gt-FEW-via-else-self-gt-FEW w ↦ omega (arith, w.if-self-gt-FEW.false)
    ] in
    let new : c.args.self.now.empty ≤ 64 + length c.args.self.now.items =
    omega (arith, few, ap (λ (t : UnackedIndexes). t.empty) c.self.view_is, ap (λ (t : UnackedIndexes). length t.items) c.self.view_is) in new
