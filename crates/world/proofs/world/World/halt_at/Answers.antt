use Rattle.std.proofs.Common.{◌≡◌, ℕ, ◌<◌, List, length, ap, ◌∙◌, subst, sym}
use Rattle.std.specs.Option.{option_copied}
use Rattle.std.specs.Prelude.{Option, OnOk, slice_set}
use Rattle.std.proofs.lemmas.List.{get_or_default}
use Rattle.geo_base.specs.declared.packet.Packet.{Packet}
use Rattle.broker.specs.Input.{StandsForInput}
use Rattle.broker.specs.Node.{BrokerView, SameNode}
use Rattle.links.specs.Queues.{WireLinks, packet_in}
use Rattle.world.specs.Steps.{halted_at}
use Rattle.world.specs.World.{WorldView, no_node, node_at}
use Rattle.world.proofs.Halting.{halts}
use Rattle.world.proofs.world.World.halt_at.Goals as goal

pub returns-clause-ok : goal.returns-clause-ok
returns-clause-ok c =
    let old = c.args.self.now in let n : ℕ = c.args.number in let v = c.halt.new.self in let i = option_copied c.next.result in
    let brokers : c.self.inside.brokers.items ≡ old.brokers = ap (λ (b : WorldView). b.brokers) c.self.view_is in
    let within : n < length c.self.inside.brokers.items = subst (λ (vs : List BrokerView). n < length vs) (sym brokers) c.requires.node in
    let here : c.index_mut.result.now ≡ node_at old.brokers n =
    c.index_mut.ensures.value ∙ get_or_default c.self.inside.brokers.items n _ no_node within ∙ ap (λ (vs : List BrokerView). node_at vs n) brokers in
    let links : c.self.inside.links ≡ old.links = ap (λ (b : WorldView). b.links) c.self.view_is in
    halts old _ n (packet_in old.links c.args.takes) c.args.event.now c.args.writes v c.halt.result i (c.next.ensures ∙ ap (λ (l : WireLinks). packet_in l c.args.takes) links)
    (subst (λ (u : BrokerView). SameNode u v) here c.halt.ensures.node)
    (ap (λ (b : WorldView). record b { brokers = slice_set b.brokers n v }) c.self.view_is)
    (subst (λ (u : BrokerView). (o : Option Packet) → StandsForInput u.site.clusters i o → OnOk c.halt.result (v.broker ≡ halted_at u c.args.event.now c.args.writes o))
    here c.halt.ensures.halted)
