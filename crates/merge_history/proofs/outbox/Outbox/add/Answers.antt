use Rattle.std.proofs.Common.{◌≡◌, ◌==◌, ◌++◌, ◌∷◌, [], ℕ, subst}
use Rattle.std.specs.Prelude.{if◌then◌else◌}
use Rattle.wire_ends.specs.declared.packet.WirePacket.{WirePacket}
use Rattle.world_laws.specs.ByteHistories.{ByteSent}
use Rattle.merge_history.specs.Slots.{sends_in, slot}
use Rattle.merge_history.proofs.Tables.{sends_more}
use Rattle.merge_history.proofs.outbox.Outbox.add.Goals as goal

pub loop-one-preserved : goal.loop-one-preserved
loop-one-preserved c = λ q.
    let old = c.loop-one.self in let new = c.push.new.self in
    let pushed : (k : ℕ) → sends_in new k ≡ (if slot c.one.inside.to == k then sends_in old k ++ c.one.inside.packet ∷ [] else sends_in old k) = λ k.
    subst (λ (j : ℕ). sends_in new k ≡ (if j == k then sends_in old k ++ c.one.inside.packet ∷ [] else sends_in old k)) c.slot.ensures (c.in_ok-push.ensures k) in
    sends_more q c.args.sent.now c.loop-one.one-index c.one-item.result old new _ c.loop-one-test.true c.one-item.is
    (subst (λ (o : ByteSent WirePacket). (k : ℕ) → sends_in new k ≡ (if slot o.to == k then sends_in old k ++ o.packet ∷ [] else sends_in old k)) c.one.view_is pushed) (c.loop-one.invariant q)
