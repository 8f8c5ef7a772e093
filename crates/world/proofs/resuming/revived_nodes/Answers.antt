use Rattle.std.proofs.Common.{◌≡◌, ◌*◌, ◌%◌, ◌<◌, ◌∙◌, ℕ, List, length, map, ap, subst, sym, arith}
use Rattle.std.proofs.lemmas.List.{length-map}
use Rattle.state_nodes.specs.declared.brokers.NodeParts.{NodeParts}
use Rattle.state_nodes.specs.Known.{IsKnownNode}
use Rattle.state_nodes.specs.Nodes.{broker_of}
use Rattle.broker.specs.Node.{BrokerView}
use Rattle.world.specs.Saving.{IsRevived}
use Rattle.world.proofs.RevivedNodes.{IsOnTheWay, next_known, next_number, on_the_way, one_more}
use Rattle.world.proofs.resuming.revived_nodes.Goals as goal

pub loop-part-init : goal.loop-part-init
loop-part-init c =
    let s = c.args.scenario.now.setup in let all = map broker_of c.args.parts.items in let left = map broker_of c.into_iter-part-iterator.result.rest.items in
    let is : left ≡ all = ap (λ (ps : List NodeParts). map broker_of ps) c.into_iter-part-iterator.ensures.into_iter_gives.0 in
    subst (λ (vs : List BrokerView). IsOnTheWay s all left vs) (sym c.new-brokers.ensures.items) (on_the_way s all left is)

pub revived_node-requires-clause-number : goal.revived_node-requires-clause-number
revived_node-requires-clause-number c =
    let s = c.args.scenario.now.setup in
    let left = c.loop-part.part-iterator.rest.items in let rest = c.next.new.self.rest.items in let made = c.loop-part.brokers in
    let size : length made.items ≡ c.len-number.result = omega (arith, made.ok.0, c.len-number.ensures) in
    let many : length (map broker_of c.args.parts.items) ≡ length s.topics * length s.clusters = length-map c.args.parts.items broker_of ∙ c.requires.count in
    let below : length made.items < length s.topics * length s.clusters =
    next_number s (map broker_of c.args.parts.items) (map broker_of left) (map broker_of rest) (broker_of c.in-Some.part) made.items (length s.topics * length s.clusters)
    (ap (λ (ps : List NodeParts). map broker_of ps) c.in-Some.ensures.steps.0) many c.loop-part.invariant in
    omega (arith, size, below)

pub revived_node-requires-clause-known : goal.revived_node-requires-clause-known
revived_node-requires-clause-known c =
    let s = c.args.scenario.now.setup in
    let left = c.loop-part.part-iterator.rest.items in let rest = c.next.new.self.rest.items in let made = c.loop-part.brokers in
    let size : length made.items ≡ c.len-number.result = omega (arith, made.ok.0, c.len-number.ensures) in
    subst (λ (n : ℕ). IsKnownNode s.per_ledger s.clusters (n % length s.clusters) (broker_of c.in-Some.part)) size
    (next_known s (map broker_of c.args.parts.items) (map broker_of left) (map broker_of rest) (broker_of c.in-Some.part) made.items
    (ap (λ (ps : List NodeParts). map broker_of ps) c.in-Some.ensures.steps.0) c.requires.known c.loop-part.invariant)

pub loop-part-preserved : goal.loop-part-preserved
loop-part-preserved c =
    let s = c.args.scenario.now.setup in let all = map broker_of c.args.parts.items in
    let left = c.loop-part.part-iterator.rest.items in let rest = c.next.new.self.rest.items in let made = c.loop-part.brokers in
    let b = broker_of c.in-Some.part in let v = c.in_ok-revived_node.field-0 in
    let size : c.len-number.result ≡ length made.items = omega (arith, made.ok.0, c.len-number.ensures) in
    subst (λ (vs : List BrokerView). IsOnTheWay s all (map broker_of rest) vs) (sym c.in_ok-push.ensures.items)
    (one_more s all (map broker_of left) (map broker_of rest) b made.items v (ap (λ (ps : List NodeParts). map broker_of ps) c.in-Some.ensures.steps.0) c.loop-part.invariant
    (subst (λ (n : ℕ). IsRevived s n b v) size c.in_ok-revived_node.ensures))
