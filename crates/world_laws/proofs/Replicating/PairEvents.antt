-- The parts that an event has at the source and at the target of a pair of its topic.
use Rattle.std.proofs.Common.{◌≡◌, ℕ, ◌+◌, ◌<◌, Bool, true, false, List, [], length, refl, sym, ap, subst, ◌∙◌, ◌==◌}
use Rattle.std.specs.Prelude.{Option, Some, None, if◌then◌else◌}
use Rattle.std.proofs.lemmas.Bool.{eqb-true, eq-eqb, eqb-false, ltb-true}
use Rattle.world_laws.proofs.Types.{Change, Entry, Out, Packet, Peer, Write}
use Rattle.world_laws.proofs.Types.change
use Rattle.world_laws.proofs.Types.frame
use Rattle.world_laws.proofs.Types.peer
use Rattle.world_laws.proofs.Types.write
use Rattle.geo_base.specs.Broker.{Broker, replicator_at}
use Rattle.geo_base.specs.Forwarding.{closes, link_producer, resets}
use Rattle.geo_base.specs.Link.{Link, next_packet, sent_on}
use Rattle.geo_base.specs.Plan.{Plan, done, halted, idle_plan, quiet_plan}
use Rattle.geo_base.specs.Planned.{Planned}
use Rattle.geo_base.specs.Seeking.{restart}
use Rattle.geo_base.specs.Setup.{Setup, declared_at}
use Rattle.geo_base.specs.World.{Back, Forward, LinkName, World, link_at, node, site, topic_at}
use Rattle.world_laws.proofs.Replicating.Effects.{Each, each_map}
use Rattle.world_laws.proofs.Walks.EventWalk.{of_node, of_pair}
use Rattle.world_laws.proofs.Replicating.LinkFrames.{TakesElse, pushed, same_node}
use Rattle.world_laws.proofs.OnceInOrder.Members.{Stands}
use Rattle.world_laws.proofs.OnceInOrder.Once.{OnceIn}
use Rattle.world_laws.proofs.Replicating.Packets.{Asks}
use Rattle.world_laws.proofs.Replicating.PairRoles.{AtSource, PairIn, source_again, source_answered, source_idle, source_in, source_out, source_reads}
use Rattle.world_laws.proofs.Replicating.Prefixes.{is_of}
use Rattle.world_laws.proofs.Replicating.Reach.{IncomingChange, IncomingOut, IncomingPeer, IncomingWrite, Outgoing, OutgoingChange, OutgoingOut, OutgoingPeer, OutgoingWrite, fated_in, fated_out, offers_out, reads_out, resets_out, seeks_out, served_out, snaps_out}
use Rattle.world_laws.proofs.Replicating.ReceiverSide.{Extends, LeavesSession, OfOther, others_extend}
use Rattle.world_laws.proofs.Replicating.ReplicatorEvents.{reset_done, reset_halted}
use Rattle.world_laws.proofs.Replicating.ReplicatorSide.{Facts, facts_halted}
use Rattle.world_laws.proofs.Walks.Shapes.{Answered, Fated, Reads, Shape, Taken}
use Rattle.world_laws.proofs.Replicating.TakeEvents.{fated_extends}

-- at the source
abbrev pub SourceOf : Setup → World → Planned → ℕ → Type 0
SourceOf s w p y =
    AtSource p.cluster y s.per_ledger (topic_at s w p.topic p.cluster) (topic_at s w p.topic y) (link_at w.links (Forward (node s p.topic p.cluster) y))
    (link_at w.links (Back (node s p.topic p.cluster) y)).sent p.plan

abbrev HasReplicator : Setup → World → Planned → ℕ → Type 0
HasReplicator s w p y = y < length (topic_at s w p.topic p.cluster).replicators

reset_source : (s : Setup) (w : World) (t x y z : ℕ) (k : Option LinkName) → (b : Bool) → (z == y) ≡ b
    → HasReplicator s w (record { topic = t; cluster = x; takes = k; plan = resets (site s t x) z ((replicator_at (topic_at s w t x) z).session + 1) }) y
    → PairIn s w t x y → SourceOf s w (record { topic = t; cluster = x; takes = k; plan = resets (site s t x) z ((replicator_at (topic_at s w t x) z).session + 1) }) y
reset_source s w t x y z k true e lt facts =
    AtSource.Resets (site s t x) (ap (λ (n : ℕ). resets (site s t x) n ((replicator_at (topic_at s w t x) n).session + 1)) (eqb-true z y e))
reset_source s w t x y z k false e lt facts =
    source_out x y x z s.per_ledger (topic_at s w t x) (topic_at s w t y) (link_at w.links (Forward (node s t x) y)) (link_at w.links (Back (node s t x) y)).sent _ lt
    (eqb-false z y e) (resets_out (site s t x) x z _) facts

read_source : (s : Setup) (w : World) (t x y z : ℕ) (plan : Plan) → (b : Bool) → (z == y) ≡ b → Reads (site s t x) (topic_at s w t x) z plan
    → y < length (topic_at s w t x).replicators → PairIn s w t x y → SourceOf s w (record { topic = t; cluster = x; takes = None; plan = plan }) y
read_source s w t x y z plan true e reads =
    let Q : ℕ → Type 0 = λ n. n < length (topic_at s w t x).replicators → PairIn s w t x n → SourceOf s w (record { topic = t; cluster = x; takes = None; plan = plan }) n in
    subst Q (eqb-true z y e) (λ lt facts. source_reads z s.per_ledger (site s t x) _ _ _ _ plan lt reads facts)
read_source s w t x y z plan false e reads = λ lt facts.
    source_out x y x z s.per_ledger (topic_at s w t x) (topic_at s w t y) (link_at w.links (Forward (node s t x) y)) (link_at w.links (Back (node s t x) y)).sent plan lt
    (eqb-false z y e) (reads_out (site s t x) (topic_at s w t x) z plan reads) facts

receipt_source : (s : Setup) (w : World) (t x y z : ℕ) (k : Option LinkName) (q : Packet) (plan : Plan) → (b : Bool) → (z == y) ≡ b
    → next_packet (link_at w.links (Back (node s t x) z)) ≡ Some q → Fated s.per_ledger (topic_at s w t x) (λ b. Answered b z q) (quiet_plan []) plan
    → y < length (topic_at s w t x).replicators → PairIn s w t x y → SourceOf s w (record { topic = t; cluster = x; takes = k; plan = plan }) y
receipt_source s w t x y z k q plan true e next answered =
    let Q : ℕ → Type 0 = λ n. n < length (topic_at s w t x).replicators → PairIn s w t x n → SourceOf s w (record { topic = t; cluster = x; takes = k; plan = plan }) n in
    let l = link_at w.links (Back (node s t x) z) in
    let came : Stands l.sent q = record { place = l.taken; is = next } in
    subst Q (eqb-true z y e) (λ lt facts. source_answered x z s.per_ledger _ _ _ _ q plan lt came answered facts)
receipt_source s w t x y z k q plan false e next answered = λ lt facts.
    source_out x y x z s.per_ledger (topic_at s w t x) (topic_at s w t y) (link_at w.links (Forward (node s t x) y)) (link_at w.links (Back (node s t x) y)).sent plan lt
    (eqb-false z y e) (fated_out s.per_ledger (topic_at s w t x) x z q plan answered) facts

pub source_role : (s : Setup) (w : World) (p : Planned) → Shape s w p → (y : ℕ) → (p.cluster ≡ y → ⊥) → HasReplicator s w p y → PairIn s w p.topic p.cluster y
    → SourceOf s w p y
source_role s w p (Shape.Idle t x within) y other lt facts = source_idle x y s.per_ledger _ _ _ _ facts
source_role s w p (Shape.Empty t x k within next) y other lt facts = source_idle x y s.per_ledger _ _ _ _ facts
source_role s w p (Shape.Serve x c q plan within next served) y other lt facts =
    source_out x y x x s.per_ledger _ _ _ _ plan lt other (served_out (site s (declared_at s c).topic x) _ c q x plan served) facts
source_role s w p (Shape.Drop x c v within at) y other lt facts =
    source_out x y x x s.per_ledger _ _ _ _ _ lt other (record { writes = tt; changes = (tt, (tt, tt)); sent = tt }) facts
source_role s w p (Shape.Reset t x z within remote) y other lt facts = reset_source s w t x y z None (z == y) refl lt facts
source_role s w p (Shape.Read t x z plan within reads) y other lt facts = read_source s w t x y z plan (z == y) refl reads lt facts
source_role s w p (Shape.Take t z x q plan within next taken) y other lt facts =
    source_in x y z s.per_ledger _ _ _ _ plan lt (fated_in s.per_ledger (site s t x) _ z q plan taken) facts
source_role s w p (Shape.Receipt t x z q plan within next answered) y other lt facts = receipt_source s w t x y z (Some (Back (node s t x) z)) q plan (z == y) refl next answered lt facts
source_role s w p (Shape.Snap t x plan within snaps) y other lt facts =
    source_out x y x x s.per_ledger _ _ _ _ plan lt other (snaps_out (site s t x) _ x plan snaps) facts
source_role s w p (Shape.Offer t x n plan within offers) y other lt facts =
    source_out x y x x s.per_ledger _ _ _ _ plan lt other (offers_out (site s t x) _ _ x plan offers) facts
source_role s w p (Shape.Seek t x n to plan within seeks) y other lt facts =
    source_out x y x x s.per_ledger _ _ _ _ plan lt other (seeks_out (site s t x) _ _ to x plan seeks) facts
source_role s w p (Shape.Restart t x within) y other lt facts = source_again x y s.per_ledger _ _ _ _ lt facts

-- what an event at the source leaves, sent and all
pub source_does : (x y per : ℕ) (a b : Broker) (f : Link) (back : List Packet) (p : Plan) (stamp : ℕ) → y < length a.replicators → AtSource x y per a b f back p
    → Facts x y a b f back → Facts x y (done per a p) b (pushed y stamp f p.sent) back
source_does x y per a b f back p stamp lt (AtSource.Works ok does) facts = does stamp
source_does x y per a b f back p stamp lt (AtSource.Resets h is) facts =
    let n = (replicator_at a y).session + 1 in
    let q : Packet = record { session = n; stamp = stamp; frame = frame.Producer h.topic n n (Some (link_producer h h.own)) } in
    let P : Plan → Type 0 = λ p. Facts x y (done per a p) b (pushed y stamp f p.sent) back in
    let L : Link → Type 0 = λ l. Facts x y (done per a (resets h y n)) b l back in
    let asks : Asks q n = record { session = refl; topic = h.topic; id = n; request = n; name = Some (link_producer h h.own); is = refl } in
    subst P (sym is) (subst L (sym (ap (λ (t : Bool). if t then sent_on f q else f) (eq-eqb y y refl))) (reset_done x y per h a b f back q lt asks facts))

pub source_halts : (x y per k : ℕ) (a b : Broker) (f : Link) (back : List Packet) (p : Plan) → y < length a.replicators → AtSource x y per a b f back p
    → Facts x y a b f back → Facts x y (halted per a k p) b f back
source_halts x y per k a b f back p lt (AtSource.Works ok does) facts = facts_halted x y per k a b f back p lt ok facts
source_halts x y per k a b f back p lt (AtSource.Resets h is) facts =
    let P : Plan → Type 0 = λ p. Facts x y (halted per a k p) b f back in subst P (sym is) (reset_halted x y per k h a b f back lt facts)

-- a packet that goes back on another link
abbrev pub ElseBack : Setup → ℕ → ℕ → Peer → Type 0
ElseBack s t i (peer.Back v) = node s t v ≡ i → ⊥
ElseBack s t i to = Unit {0}

-- at the target of a pair: it stores of others alone and leaves the session and both links, or it takes the next packet of the
-- pair, or it starts again, or nothing happens
pub data AtTarget (s : Setup) (w : World) (p : Planned) (x : ℕ) : Type 0 where
  Aside : Each (OfOther x) p.plan.writes → Each (LeavesSession x) p.plan.changes → TakesElse (node s p.topic x) p.cluster p.takes
      → Each (λ (o : Out). ElseBack s p.topic (node s p.topic x) o.to) p.plan.sent → AtTarget s w p x
  Takes : (q : Packet) → next_packet (link_at w.links (Forward (node s p.topic x) p.cluster)) ≡ Some q
      → Fated s.per_ledger (topic_at s w p.topic p.cluster) (λ b. Taken (site s p.topic p.cluster) b x q) (closes x) p.plan
      → p.takes ≡ Some (Forward (node s p.topic x) p.cluster) → AtTarget s w p x
  Again : p.plan ≡ restart → p.takes ≡ None → AtTarget s w p x
  Nothing : p.plan ≡ idle_plan → AtTarget s w p x

other_origin : (x z : ℕ) (e : Entry) → (z ≡ x → ⊥) → e.ident.origin ≡ z → is_of x e ≡ false
other_origin x z e other is = by (e.ident.origin == x) refl
  where
    by : (b : Bool) → (e.ident.origin == x) ≡ b → b ≡ false
    by true h = absurd (other (sym is ∙ eqb-true _ _ h))
    by false h = refl

own_write : (x own z : ℕ) → (own ≡ x → ⊥) → (w : Write) → OutgoingWrite own z w → OfOther x w
own_write x own z other (write.Append e) h = other_origin x own e other h
own_write x own z other w h = tt

pub own_change : (x z : ℕ) (c : Change) → OutgoingChange z c → LeavesSession x c
own_change x z (change.Receiver v r) h = absurd h
own_change x z change.Forget h = h
own_change x z c h = tt

from_write : (x z : ℕ) → (z ≡ x → ⊥) → (w : Write) → IncomingWrite z w → OfOther x w
from_write x z other (write.Append e) h = other_origin x z e other h
from_write x z other w h = tt

pub from_change : (x z : ℕ) → (z ≡ x → ⊥) → (c : Change) → IncomingChange z c → LeavesSession x c
from_change x z other (change.Receiver v r) h = λ is. other (sym h ∙ is)
from_change x z other change.Forget h = h
from_change x z other c h = tt

own_peer : (s : Setup) (t i z : ℕ) (to : Peer) → OutgoingPeer z to → ElseBack s t i to
own_peer s t i z (peer.Back v) h = absurd h
own_peer s t i z (peer.Forward v) h = tt
own_peer s t i z (peer.Client c) h = tt
own_peer s t i z (peer.Broker v) h = tt

from_peer : (s : Setup) (t i z : ℕ) → (node s t z ≡ i → ⊥) → (to : Peer) → IncomingPeer z to → ElseBack s t i to
from_peer s t i z other (peer.Back v) h = λ is. other (ap (node s t) (sym h) ∙ is)
from_peer s t i z other (peer.Forward v) h = tt
from_peer s t i z other (peer.Client c) h = tt
from_peer s t i z other (peer.Broker v) h = tt

target_out : (s : Setup) (w : World) (p : Planned) (x z : ℕ) → (p.cluster ≡ x → ⊥) → Outgoing p.cluster z p.plan → TakesElse (node s p.topic x) p.cluster p.takes
    → AtTarget s w p x
target_out s w p x z other o takes =
    AtTarget.Aside (each_map (OutgoingWrite p.cluster z) (OfOther x) (own_write x p.cluster z other) p.plan.writes o.writes)
    (each_map (OutgoingChange z) (LeavesSession x) (own_change x z) p.plan.changes o.changes) takes
    (each_map (OutgoingOut z) (λ (o : Out). ElseBack s p.topic (node s p.topic x) o.to) (λ o h. own_peer s p.topic (node s p.topic x) z o.to h) p.plan.sent o.sent)

take_target : (s : Setup) (w : World) (t x y z : ℕ) (q : Packet) (plan : Plan) → x < length s.clusters → z < length s.clusters → (b : Bool) → (z == x) ≡ b
    → next_packet (link_at w.links (Forward (node s t z) y)) ≡ Some q → Fated s.per_ledger (topic_at s w t y) (λ b. Taken (site s t y) b z q) (closes z) plan
    → AtTarget s w (record { topic = t; cluster = y; takes = Some (Forward (node s t z) y); plan = plan }) x
take_target s w t x y z q plan lt lt' true e next taken =
    let p : Planned = record { topic = t; cluster = y; takes = Some (Forward (node s t z) y); plan = plan } in
    let Q : ℕ → Type 0 = λ n. p.takes ≡ Some (Forward (node s t n) y) → AtTarget s w p n in
    subst Q (eqb-true z x e) (λ is. AtTarget.Takes q next taken is) (ap (λ (n : ℕ). Some (Forward (node s t n) y)) (eqb-true z x e))
take_target s w t x y z q plan lt lt' false e next taken =
    let i = fated_in s.per_ledger (site s t y) (topic_at s w t y) z q plan taken in
    let other : z ≡ x → ⊥ = eqb-false z x e in
    let apart : node s t z ≡ node s t x → ⊥ = λ is. other (same_node s t t z x lt' lt is).1 in
    AtTarget.Aside (each_map (IncomingWrite z) (OfOther x) (from_write x z other) plan.writes i.writes)
    (each_map (IncomingChange z) (LeavesSession x) (from_change x z other) plan.changes i.changes) (λ is _. apart is)
    (each_map (IncomingOut z) (λ (o : Out). ElseBack s t (node s t x) o.to) (λ o h. from_peer s t (node s t x) z apart o.to h) plan.sent i.sent)

pub target_role : (s : Setup) (w : World) (p : Planned) → Shape s w p → (x : ℕ) → x < length s.clusters → (p.cluster ≡ x → ⊥) → AtTarget s w p x
target_role s w p (Shape.Idle t y within) x lt other = AtTarget.Nothing refl
target_role s w p (Shape.Empty t y k within next) x lt other = AtTarget.Nothing refl
target_role s w p (Shape.Serve y c q plan within next served) x lt other =
    target_out s w _ x y other (served_out (site s (declared_at s c).topic y) _ c q y plan served) tt
target_role s w p (Shape.Drop y c v within at) x lt other = AtTarget.Aside tt (tt, (tt, tt)) tt tt
target_role s w p (Shape.Reset t y z within remote) x lt other = target_out s w _ x z other (resets_out (site s t y) y z _) tt
target_role s w p (Shape.Read t y z plan within reads) x lt other = target_out s w _ x z other (reads_out (site s t y) _ z plan reads) tt
target_role s w p (Shape.Take t z y q plan within next taken) x lt other =
    take_target s w t x y z q plan lt (ltb-true _ _ (of_node s t z (of_pair s t z y within))) (z == x) refl next taken
target_role s w p (Shape.Receipt t y z q plan within next answered) x lt other =
    target_out s w _ x z other (fated_out s.per_ledger _ y z q plan answered) tt
target_role s w p (Shape.Snap t y plan within snaps) x lt other = target_out s w _ x y other (snaps_out (site s t y) _ y plan snaps) tt
target_role s w p (Shape.Offer t y n plan within offers) x lt other = target_out s w _ x y other (offers_out (site s t y) _ _ y plan offers) tt
target_role s w p (Shape.Seek t y n to plan within seeks) x lt other = target_out s w _ x y other (seeks_out (site s t y) _ _ to y plan seeks) tt
target_role s w p (Shape.Restart t y within) x lt other = AtTarget.Again refl refl

-- all that an event at the target appends leaves a beginning
pub target_extends : (s : Setup) (w : World) (p : Planned) (x : ℕ) (a : Broker) (back : List Packet) → OnceIn a.entries
    → x < length (topic_at s w p.topic p.cluster).receivers → AtTarget s w p x
    → Facts x p.cluster a (topic_at s w p.topic p.cluster) (link_at w.links (Forward (node s p.topic x) p.cluster)) back
    → Extends x p.cluster a.entries (topic_at s w p.topic p.cluster).entries p.plan.writes
unfolding restart
target_extends s w p x a back once lt (AtTarget.Aside others leaves takes sent) facts =
    others_extend x p.cluster a.entries (topic_at s w p.topic p.cluster).entries p.plan.writes others facts.carried.begins
target_extends s w p x a back once lt (AtTarget.Takes q next taken takes) facts =
    fated_extends x p.cluster (site s p.topic p.cluster) a (topic_at s w p.topic p.cluster) (link_at w.links (Forward (node s p.topic x) p.cluster)) back q p.plan once lt next taken facts
target_extends s w p x a back once lt (AtTarget.Again is takes) facts =
    let P : Plan → Type 0 = λ q. Extends x p.cluster a.entries (topic_at s w p.topic p.cluster).entries q.writes in subst P (sym is) tt
target_extends s w p x a back once lt (AtTarget.Nothing is) facts =
    let P : Plan → Type 0 = λ q. Extends x p.cluster a.entries (topic_at s w p.topic p.cluster).entries q.writes in subst P (sym is) tt
