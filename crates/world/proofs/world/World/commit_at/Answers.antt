use Rattle.std.proofs.Common.{◌≡◌, ℕ, ◌<◌, List, length, ap, ◌∙◌, subst, sym}
use Rattle.std.specs.Prelude.{slice_set}
use Rattle.std.proofs.lemmas.List.{get_or_default}
use Rattle.broker.specs.Node.{BrokerView, SameNode}
use Rattle.world.specs.Steps.{done_at}
use Rattle.world.specs.World.{WorldView, no_node, node_at}
use Rattle.world.proofs.Nodes.{set_node}
use Rattle.world.proofs.world.World.commit_at.Goals as goal

pub returns-clause-brokers : goal.returns-clause-brokers
returns-clause-brokers c =
    let old = c.args.self.now in let n : ℕ = c.args.number in let v = c.commit.new.self in
    let brokers : c.self.inside.brokers.items ≡ old.brokers = ap (λ (b : WorldView). b.brokers) c.self.view_is in
    let within : n < length c.self.inside.brokers.items = subst (λ (vs : List BrokerView). n < length vs) (sym brokers) c.requires.node in
    let here : c.index_mut.result.now ≡ node_at old.brokers n =
    c.index_mut.ensures.value ∙ get_or_default c.self.inside.brokers.items n _ no_node within ∙ ap (λ (vs : List BrokerView). node_at vs n) brokers in
    set_node old.brokers _ n v (done_at (node_at old.brokers n) c.args.plan.now) (subst (λ (u : BrokerView). SameNode u v) here c.commit.ensures.node)
    (c.commit.ensures.broker ∙ ap (λ (u : BrokerView). done_at u c.args.plan.now) here) (ap (λ (vs : List BrokerView). slice_set vs n v) brokers)
