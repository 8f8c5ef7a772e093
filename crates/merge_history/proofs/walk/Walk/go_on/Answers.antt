use Rattle.std.proofs.Common.{◌≡◌, ℕ, List, ap, subst, ◌∙◌}
use Rattle.wire_ends.specs.declared.packet.WirePacket.{WirePacket}
use Rattle.merge_history.specs.Kept.{Kept}
use Rattle.merge_history.specs.Peers.{asked, cluster_then}
use Rattle.merge_history.specs.Slots.{IsRaised}
use Rattle.merge_history.specs.Walks.{WalkView}
use Rattle.world_laws.specs.ByteHistories.{ByteSent}
use Rattle.merge_history.proofs.Walking.{walked_on}
use Rattle.merge_history.proofs.walk.Walk.go_on.Goals as goal

pub returns : goal.returns
returns c = λ l n ds h.
    let w = c.args.self.now in let d = c.args.done.now in
    let raised : IsRaised (asked w.cluster d) c.self.inside.counts c.raise_for.new.self = rw c.asked-asked.ensures at c.in_ok-raise_for.ensures.ok in
    let at : c.cluster_then-self-inside.result ≡ cluster_then w.cluster d.sent =
    c.cluster_then-self-inside.ensures
    ∙ (ap (λ (os : List (ByteSent WirePacket)). cluster_then c.self.inside.cluster os) (c.as_slice.ensures.value ∙ ap (λ (x : Kept). x.sent) c.done.view_is)
    ∙ ap (λ (v : WalkView). cluster_then v.cluster d.sent) c.self.view_is) in
    walked_on l n ds w (record { counts = c.raise_for.new.self; cluster = c.cluster_then-self-inside.result }) d
    (subst (λ (ns : List ℕ). IsRaised (asked w.cluster d) ns c.raise_for.new.self) (ap (λ (v : WalkView). v.counts) c.self.view_is) raised) at h
