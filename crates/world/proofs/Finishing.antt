-- An event whose packets were sent, and which was done then: of a broker, and of a client.
use Rattle.std.proofs.Common.{◌≡◌, ℕ, ◌+◌, true, List, [], ◌∷◌, length, refl, sym, ◌∙◌, ap, subst, arith}
use Rattle.std.proofs.lemmas.Bool.{eqb-true}
use Rattle.std.specs.Prelude.{◌==◌, Option, Some, None, Ok, Err, OnOk, slice_set}
use Rattle.client.specs.Changing.{client_after}
use Rattle.client.specs.Prepared.{PreparedClient}
use Rattle.geo_base.specs.declared.packet.WireOut.{WireOut}
use Rattle.geo_base.specs.Broker.{Broker}
use Rattle.broker_state.specs.Plan.{PlanView}
use Rattle.links.specs.declared.name.Node.{Node}
use Rattle.links.specs.declared.name.Node.TheVariants as wire_node
use Rattle.links.proofs.Found.{delivered_port, next_found, taken_found}
use Rattle.links.specs.Queues.{IsFound, bytes_of, delivered, packet_in, stamp_of, taken_from}
use Rattle.wire_ends.specs.declared.packet.WirePacket.{WirePacket}
use Rattle.kept_laws.specs.Kept.{broker_acted, stamp_at}
use Rattle.kept_laws.specs.Standing.{limit_of}
use Rattle.world.specs.ClientSteps.{IsSent, client_in}
use Rattle.world.specs.declared.fault.RunFault.TheVariants as fault
use Rattle.world.specs.declared.broker_ref.BrokerRef.{BrokerRef}
use Rattle.world.specs.Steps.{IsCommitted, IsFinished, IsSetNode, done_at, stamp_over}
use Rattle.world.specs.World.{WorldView, brokers_of, kept_of, node_at}
use Rattle.world.proofs.Leading.{Answer}

-- ---- where nothing is sent

nothing : (os : List WireOut) → (length os == 0) ≡ true → os ≡ []
nothing [] e = refl
nothing (o ∷ os) e = absurd (omega (arith, eqb-true (length (o ∷ os)) 0 e))

same_bytes : (b : WorldView) (os : List WireOut) → (length os == 0) ≡ true → b.frame_bytes ≡ b.frame_bytes + bytes_of os
same_bytes b os none =
    let zero : bytes_of os ≡ 0 = ap (λ (ps : List WireOut). bytes_of ps) (nothing os none) in
    omega (arith, zero)

-- the world and the plan are as if it had been sent
pub none_sent : (from : Node) (stamp : ℕ) (b : WorldView) (os : List WireOut) (r : Answer) → (length os == 0) ≡ true
    → OnOk r (b ≡ record b { links = delivered from stamp os b.links; frame_bytes = b.frame_bytes + bytes_of os })
none_sent from stamp b os (Ok u) none =
    ap (λ (n : ℕ). record b { frame_bytes = n }) (same_bytes b os none)
    ∙ ap (λ (ps : List WireOut). record b { links = delivered from stamp ps b.links; frame_bytes = b.frame_bytes + bytes_of os }) (sym (nothing os none))
none_sent from stamp b os (Err f) none = tt

pub none_left : (p : PlanView) (r : Answer) → (length p.sent == 0) ≡ true → OnOk r (p ≡ record p { sent = [] })
none_left p (Ok u) none = ap (λ (ps : List WireOut). record p { sent = ps }) (nothing p.sent none)
none_left p (Err f) none = tt

-- and so are the limits
pub none_low : (b : WorldView) (os : List WireOut) (r : Answer) → (length os == 0) ≡ true → OnOk r (limit_of (b.events + 1) b.idle b.frame_bytes ≡ None)
    → OnOk r (limit_of (b.events + 1) b.idle (b.frame_bytes + bytes_of os) ≡ None)
none_low b os r none low = subst (λ (n : ℕ). OnOk r (limit_of (b.events + 1) b.idle n ≡ None)) (same_bytes b os none) low

pub none_past : (b : WorldView) (os : List WireOut) (r : Answer) → (length os == 0) ≡ true
    → ((n : ℕ) → r ≡ Err (fault.TooLarge n) → limit_of (b.events + 1) b.idle b.frame_bytes ≡ Some n)
    → (n : ℕ) → r ≡ Err (fault.TooLarge n) → limit_of (b.events + 1) b.idle (b.frame_bytes + bytes_of os) ≡ Some n
none_past b os r none large n is = subst (λ (m : ℕ). limit_of (b.events + 1) b.idle m ≡ Some n) (same_bytes b os none) (large n is)

-- ---- of a broker

acted_is : (broker_ref : BrokerRef) (from : Node) (n stamp : ℕ) (v : Broker) (os : List WireOut) (old new : WorldView) → from ≡ wire_node.Broker broker_ref.topic broker_ref.cluster
    → stamp ≡ stamp_at old.broker_clocks n old.links broker_ref.takes.link → brokers_of new.brokers ≡ slice_set (brokers_of old.brokers) n v → new.clients ≡ old.clients
    → new.links ≡ taken_from broker_ref.takes.link (delivered from stamp os old.links) → new.broker_clocks ≡ slice_set old.broker_clocks n stamp
    → new.client_clocks ≡ old.client_clocks → new.events ≡ old.events + 1 → new.idle ≡ old.idle → new.rounds ≡ old.rounds
    → new.frame_bytes ≡ old.frame_bytes + bytes_of os
    → kept_of new ≡ broker_acted (kept_of old) n (wire_node.Broker broker_ref.topic broker_ref.cluster) broker_ref.takes.link v os
acted_is broker_ref from n stamp v os old new sender at brokers clients links broker_clocks client_clocks events idle rounds frame_bytes = cc

pub finished : (broker_ref : BrokerRef) (from : Node) (n stamp : ℕ) (p q : PlanView) (old mid new : WorldView) → from ≡ wire_node.Broker broker_ref.topic broker_ref.cluster
    → stamp ≡ stamp_over old.broker_clocks n (stamp_of (packet_in old.links broker_ref.takes))
    → mid ≡ record old { links = delivered from stamp p.sent old.links; frame_bytes = old.frame_bytes + bytes_of p.sent } → q ≡ record p { sent = [] }
    → IsSetNode mid.brokers new.brokers n (done_at (node_at mid.brokers n) q) → IsCommitted broker_ref n stamp mid new → IsFinished broker_ref n p old new
finished broker_ref from n stamp p q old mid new sender at sent rest set committed =
    let is : IsCommitted broker_ref n stamp (record old { links = delivered from stamp p.sent old.links; frame_bytes = old.frame_bytes + bytes_of p.sent }) new =
    subst (λ (b : WorldView). IsCommitted broker_ref n stamp b new) sent committed in
    let node : IsSetNode old.brokers new.brokers n (done_at (node_at old.brokers n) p) =
    subst (λ (r : PlanView). IsSetNode old.brokers new.brokers n (done_at (node_at old.brokers n) r)) rest
    (subst (λ (b : WorldView). IsSetNode b.brokers new.brokers n (done_at (node_at b.brokers n) q)) sent set) in
    record {
      kept = λ found.
          let sent_there : IsFound (delivered from stamp p.sent old.links) broker_ref.takes = found ∙ sym (delivered_port from stamp p.sent old.links broker_ref.takes.link) in
          acted_is broker_ref from n stamp (done_at (node_at old.brokers n) p) p.sent old new sender
          (at ∙ ap (λ (o : Option WirePacket). stamp_over old.broker_clocks n (stamp_of o)) (next_found old.links broker_ref.takes found)) node.brokers is.clients
          (is.links ∙ taken_found (delivered from stamp p.sent old.links) broker_ref.takes sent_there) is.broker_clocks is.client_clocks is.events is.idle is.rounds is.frame_bytes;
      same = node.same;
    }

-- ---- of a client

-- the world in which its packets were sent, by their stamp, and in which it is done then
abbrev sent_by : WorldView → ℕ → ℕ → List WireOut → WorldView
sent_by b c stamp os = record b { links = delivered (wire_node.Client c) stamp os b.links; frame_bytes = b.frame_bytes + bytes_of os }

abbrev done_by : WorldView → ℕ → ℕ → PreparedClient → WorldView
done_by b c stamp p = record b {
  clients = slice_set b.clients c (client_after p.change (client_in b.clients c));
  client_clocks = slice_set b.client_clocks c stamp;
  events = b.events + 1;
}

pub client_finished : (c stamp : ℕ) (p q : PreparedClient) (old mid new : WorldView) → stamp ≡ stamp_at old.client_clocks c old.links None → mid ≡ sent_by old c stamp p.sent
    → q ≡ record p { sent = [] } → new ≡ done_by mid c stamp q → IsSent c p old new
client_finished c stamp p q old mid new at sent rest is =
    let all : new ≡ done_by (sent_by old c stamp p.sent) c stamp p =
    is ∙ ap (λ (b : WorldView). done_by b c stamp q) sent ∙ ap (λ (r : PreparedClient). done_by (sent_by old c stamp p.sent) c stamp r) rest in
    record {
      kept = ap (λ (b : WorldView). kept_of b) all ∙ ap (λ (n : ℕ). kept_of (done_by (sent_by old c n p.sent) c n p)) at;
      brokers = ap (λ (b : WorldView). b.brokers) all;
    }
