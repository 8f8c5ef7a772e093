use Rattle.std.proofs.Common.{◌≡◌, ℕ, ◌<◌, Bool, List, length, ap, ◌∙◌, subst, sym}
use Rattle.std.specs.Option.{option_copied}
use Rattle.std.specs.Prelude.{Option, IfOk, OnOk, not, slice_set}
use Rattle.std.proofs.lemmas.List.{get_or_default}
use Rattle.client.specs.Packets.{StandsForNext}
use Rattle.geo_base.specs.declared.packet.Packet.{Packet}
use Rattle.geo_base.specs.Client.{Client}
use Rattle.geo_base.specs.Getting.{get}
use Rattle.links.specs.Queues.{WireLinks, packet_in}
use Rattle.world.specs.ClientSteps.{client_in, no_client}
use Rattle.world.specs.World.{WorldView}
use Rattle.world.proofs.Getting.{got}
use Rattle.world.proofs.world.World.get_at.Goals as goal

pub returns-clause-ok : goal.returns-clause-ok
returns-clause-ok c =
    let old = c.args.self.now in let n : ℕ = c.args.client in let m = c.get.new.self in let r = c.get.result in let site = c.args.site.now in let i = option_copied c.next.result in
    let clients : c.self.inside.clients.items ≡ old.clients = ap (λ (b : WorldView). b.clients) c.self.view_is in
    let within : n < length c.self.inside.clients.items = subst (λ (ms : List Client). n < length ms) (sym clients) c.requires.client in
    let here : c.index_mut.result.now ≡ client_in old.clients n =
    c.index_mut.ensures.value ∙ get_or_default c.self.inside.clients.items n _ no_client within ∙ ap (λ (ms : List Client). client_in ms n) clients in
    let links : c.self.inside.links ≡ old.links = ap (λ (b : WorldView). b.links) c.self.view_is in
    got old _ site.setup.clusters site.declared n (packet_in old.links c.args.takes) m r i (c.next.ensures ∙ ap (λ (l : WireLinks). packet_in l c.args.takes) links)
    (ap (λ (b : WorldView). record b { clients = slice_set b.clients n m }) c.self.view_is)
    (subst (λ (k : Client). (v : Option Packet) → StandsForNext site.setup.clusters i v → OnOk r (m ≡ (get site.declared k v).client)) here c.get.ensures.client)
    (subst (λ (k : Client). (v : Option Packet) → StandsForNext site.setup.clusters i v → IfOk r (λ (took : Bool). not took ≡ (get site.declared k v).idle)) here c.get.ensures.took)
