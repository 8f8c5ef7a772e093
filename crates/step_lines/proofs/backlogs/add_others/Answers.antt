use Rattle.std.proofs.Common.{ℕ, ◌<◌, length, arith, sym, ◌∙◌}
use Rattle.step_lines.proofs.OtherNames.{others_next, others_same}
use Rattle.step_lines.proofs.backlogs.add_others.Goals.{then-not-is_named_as+in_ok-push, else-not-is_named_as}
use Rattle.step_lines.proofs.backlogs.add_others.Goals as goal

pub loop-place-preserved : goal.loop-place-preserved
loop-place-preserved c =
    let b = c.args.broker.now.broker in let n = c.args.named.now.sub.name in let k : ℕ = c.loop-place.place in
    let lt : k < length b.subs = omega (arith, c.loop-place-test.true, c.subs-place-end.ensures) in
    elim c.if-not-is_named_as.branch [
      | then-not-is_named_as+in_ok-push w ↦
          rw w.next-is
          (others_next b n k w.count_at.result c.loop-place.next.items _ lt (sym c.is_named_as.ensures ∙ w.if-not-is_named_as.true) w.count_at.ensures c.loop-place.invariant w.in_ok-push.ensures.items)
      | else-not-is_named_as w ↦
          rw w.next-is (others_same b n k c.loop-place.next.items lt (sym c.is_named_as.ensures ∙ w.if-not-is_named_as.false) c.loop-place.invariant)
    ]
