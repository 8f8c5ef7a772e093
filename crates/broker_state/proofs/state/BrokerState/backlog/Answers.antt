use Rattle.std.proofs.Common.{◌≡◌, ◌∙◌, ℕ, ap}
use Rattle.cursor_acks.specs.Acks.{AckSet}
use Rattle.cursor_acks.specs.Ranges.{AreRangesOf}
use Rattle.topic_store.specs.Messages.{messages_before}
use Rattle.broker_state.specs.State.{StateView}
use Rattle.broker_state.proofs.Backlogs.{backlog_beside}
use Rattle.broker_state.proofs.state.BrokerState.backlog.Goals as goal

pub loop-range-init : goal.loop-range-init
loop-range-init c =
    let es = c.self.inside.store.entries in
    let entries : es ≡ c.args.self.now.broker.entries = ap (λ (b : StateView). b.broker.entries) c.self.view_is in
    let indexes : c.cursor.result.now.indexes ≡ c.args.sub.now.sub.cursor = ap (λ (a : AckSet). a.indexes) c.cursor.ensures in
    let ranges : AreRangesOf c.args.sub.now.sub.cursor c.ranges-2.result.now.list = rw (← indexes) c.ranges-2.ensures in
    let these : c.into_iter-range-iterator.result ≡ c.ranges-2.result.now.list = c.into_iter-range-iterator.ensures.into_iter_gives ∙ c.iter-range-items.ensures in
    rw (these, ← entries) (c.messages_before-left.ensures ∙ ap (λ (k : ℕ). messages_before es k) c.len.ensures.len ∙ backlog_beside c.args.sub.now.sub.cursor c.ranges-2.result.now.list es ranges)
