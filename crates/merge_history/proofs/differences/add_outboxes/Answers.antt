use Rattle.std.proofs.Common.{◌+◌, ℕ, List, ap, length, subst, sym, take, ◌∙◌}
use Rattle.std.proofs.lemmas.List.{length_push}
use Rattle.merge_history.specs.Peers.{sent_to}
use Rattle.merge_history.specs.Walks.{AreOutboxes, Sends}
use Rattle.merge_history.proofs.Firsts.{outboxes_all, outboxes_more}
use Rattle.merge_history.proofs.differences.add_outboxes.Goals as goal

pub loop-history-preserved : goal.loop-history-preserved
loop-history-preserved c =
    let kept = c.args.histories.now in let i = c.loop-history.history-index in let os = c.loop-history.outboxes.items in (
      ap length c.in_ok-push.ensures.items ∙ length_push os c.in_ok-of.field-0 ∙ ap (λ (n : ℕ). n + 1) c.loop-history.invariant.0,
      subst (λ (ps : List Sends). AreOutboxes (take (i + 1) kept) ps) (sym c.in_ok-push.ensures.items)
          (outboxes_more kept i os c.in_ok-of.field-0 c.history-item.result c.loop-history-test.true c.history-item.is c.loop-history.invariant.0 c.loop-history.invariant.1
          (λ q. c.in_ok-of.ensures q ∙ ap (sent_to q) c.events.ensures)),
    )

pub returns : goal.returns
returns c = outboxes_all c.args.histories.now c.loop-history.history-index c.loop-history.outboxes.items c.loop-history-test.false c.loop-history.invariant.1
