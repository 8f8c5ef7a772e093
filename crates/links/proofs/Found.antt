-- A link that was found stays where it is.
use Rattle.std.proofs.Common.{◌≡◌, ℕ, ◌+◌, ◌*◌, List, [], ◌∷◌, length, refl, ◌∙◌, ap, arith}
use Rattle.std.specs.Prelude.{Option, Some, None, ◌&&◌, if◌then◌else◌, nat_lt}
use Rattle.std.proofs.lemmas.List.{length-set, set_past}
use Rattle.geo_base.proofs.Lists.{index_or_past}
use Rattle.geo_base.specs.declared.packet.WireOut.{WireOut}
use Rattle.links.specs.declared.name.LinkName.{LinkName}
use Rattle.links.specs.declared.name.LinkName.TheVariants as name
use Rattle.links.specs.declared.name.Node.{Node}
use Rattle.links.specs.Names.{sends_on}
use Rattle.links.specs.declared.port.Port.{Port}
use Rattle.links.specs.Queues.{IsFound, Queue, WireLinks, after_next, delivered, next_in, packet_in, packet_on, port_at, port_of, queue_in, sent_on, stamped, taken_from, taken_in, with_queue_in}

next_there : (ls : WireLinks) (takes : Option LinkName) (port : ℕ) → port ≡ port_at ls takes → next_in (queue_in ls port) ≡ packet_on ls takes
next_there ls None port is = ap next_in (index_or_past ls.queues port [] (omega (arith, is)))
next_there ls (Some k) port is = ap (λ (p : ℕ). next_in (queue_in ls p)) is

taken_there : (ls : WireLinks) (takes : Option LinkName) (port : ℕ) → port ≡ port_at ls takes → with_queue_in ls port (after_next (queue_in ls port)) ≡ taken_from takes ls
taken_there ls None port is = ap (λ (qs : List Queue). record ls { queues = qs }) (set_past ls.queues port (after_next (queue_in ls port)) (omega (arith, is)))
taken_there ls (Some k) port is = ap (λ (p : ℕ). with_queue_in ls p (after_next (queue_in ls p))) is

-- what is taken at the port where a link was found, is taken from that link
pub next_found : (ls : WireLinks) (port : Port) → IsFound ls port → packet_in ls port ≡ packet_on ls port.link
next_found ls port is = next_there ls port.link port.number is

pub taken_found : (ls : WireLinks) (port : Port) → IsFound ls port → taken_in port ls ≡ taken_from port.link ls
taken_found ls port is = taken_there ls port.link port.number is

-- with as many links, all are where they were
port_same : (ls : WireLinks) (qs : List Queue) (takes : Option LinkName) → length qs ≡ length ls.queues → port_at (record ls { queues = qs }) takes ≡ port_at ls takes
unfolding port_of
port_same ls qs None many = many
port_same ls qs (Some (name.Forward t x y)) many =
    ap (λ (n : ℕ). if nat_lt (t * ls.clusters + x) ls.brokers && nat_lt y ls.clusters then (0 + (t * ls.clusters + x)) * ls.clusters + y else n) many
port_same ls qs (Some (name.Back t x y)) many =
    ap (λ (n : ℕ). if nat_lt (t * ls.clusters + x) ls.brokers && nat_lt y ls.clusters then (ls.brokers + (t * ls.clusters + x)) * ls.clusters + y else n) many
port_same ls qs (Some (name.ToBroker c x)) many =
    ap (λ (n : ℕ). if nat_lt c ls.clients && nat_lt x ls.clusters then (ls.brokers + ls.brokers + c) * ls.clusters + x else n) many
port_same ls qs (Some (name.ToClient c x)) many =
    ap (λ (n : ℕ). if nat_lt c ls.clients && nat_lt x ls.clusters then (ls.brokers + (ls.brokers + ls.clients) + c) * ls.clusters + x else n) many

pub delivered_port : (from : Node) (stamp : ℕ) (os : List WireOut) (ls : WireLinks) (takes : Option LinkName) → port_at (delivered from stamp os ls) takes ≡ port_at ls takes
delivered_port from stamp [] ls takes = refl
delivered_port from stamp (o ∷ os) ls takes =
    let k = sends_on from o.to in
    delivered_port from stamp os (sent_on k (stamped stamp o) ls) takes ∙ port_same ls _ takes (length-set ls.queues (port_of ls k) _)
