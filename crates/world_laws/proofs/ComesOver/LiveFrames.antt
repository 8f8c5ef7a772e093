-- What the events of a round do to the five values of a pair on which its session rests, and that an event of another pair leaves
-- them.
use Rattle.std.proofs.Common.{◌≡◌, ℕ, ◌<◌, Bool, true, false, List, [], ◌∷◌, length, refl, sym, ap, subst, ◌∙◌, ◌==◌, arith}
use Rattle.std.specs.Prelude.{Option, Some, None, ◌&&◌, if◌then◌else◌, slice_index_or, slice_set}
use Rattle.std.proofs.lemmas.Bool.{eqb-true, eq-eqb, false≢true}
use Rattle.std.proofs.lemmas.List.{get_or-set_same}
use Rattle.world_laws.proofs.Types.{Out, Packet, Peer, Write}
use Rattle.world_laws.proofs.Types.peer
use Rattle.world_laws.proofs.Types.write
use Rattle.geo_base.specs.Broker.{Broker, Site, no_broker, receiver_at, replicator_at}
use Rattle.geo_base.specs.Laws.{ArePair}
use Rattle.geo_base.specs.Link.{Link, sent_on, took}
use Rattle.geo_base.specs.Nodes.{same_link}
use Rattle.geo_base.specs.Plan.{Plan, done}
use Rattle.geo_base.specs.Planned.{Planned}
use Rattle.geo_base.specs.Replicator.{Replicator}
use Rattle.geo_base.specs.Setup.{Setup, topic_name}
use Rattle.geo_base.specs.World.{Back, Forward, LinkName, Links, ToBroker, ToClient, World, broker_at, cell, delivered, from_broker, link_at, node, site, stamped, taken_from, topic_at, with_cell, with_link}
use Rattle.world_laws.proofs.Replicating.Effects.{Each, done_replicator, done_session, each_map, replicator_after, replicator_then, session_then}
use Rattle.world_laws.proofs.Induction.Frames.{at_set, cell_set}
use Rattle.world_laws.proofs.Replicating.LinkFrames.{HasCell, forward_sent, pushed, same_node}
use Rattle.world_laws.proofs.Merges.LinkTables.{HasLink, delivered_has, link_at_with, same_link_self}
use Rattle.world_laws.proofs.ComesOver.Live.{Live}
use Rattle.world_laws.proofs.ComesOver.LiveReplicator.{LeavesCursor, left_writes}
use Rattle.world_laws.proofs.Replicating.PairEvents.{from_change, own_change}
use Rattle.world_laws.proofs.Replicating.PairRoles.{in_change, out_change}
use Rattle.world_laws.proofs.Replicating.Reach.{Incoming, IncomingChange, IncomingOut, IncomingPeer, IncomingWrite, Outgoing, OutgoingChange, OutgoingOut, OutgoingPeer, OutgoingWrite}
use Rattle.world_laws.proofs.Replicating.ReceiverSide.{LeavesSession, left_sessions}
use Rattle.world_laws.proofs.Replicating.ReplicatorSide.{LeavesReplicator, left_all}
use Rattle.world_laws.proofs.Walks.Shapes.{Taken}
use Rattle.world_laws.proofs.Replicating.Sizes.{IsThere, Sized, node_there}
use Rattle.world_laws.proofs.ComesOver.Waiting.{all_sent}
use Rattle.world_laws.proofs.Walks.Walk.{by_test, left, right}

-- the session of a pair, of lists of brokers and tables of links
abbrev pub LiveAt : Setup → List Broker → Links → ℕ → ℕ → ℕ → Type 0
LiveAt s bs ls t x y =
    Live x (topic_name s t) (replicator_at (slice_index_or bs (node s t x) no_broker) y) (receiver_at (slice_index_or bs (node s t y) no_broker) x)
    (link_at ls (Forward (node s t x) y)) (link_at ls (Back (node s t x) y))

abbrev pub LiveIn : Setup → World → ℕ → ℕ → ℕ → Type 0
LiveIn s w t x y = LiveAt s w.brokers w.links t x y

-- the same values by other names
live_moved : (x : ℕ) (topic : List ℕ) (s s' : Replicator) (r r' : Option ℕ) (f f' k k' : Link) → s' ≡ s → r' ≡ r → f' ≡ f → k' ≡ k → Live x topic s r f k → Live x topic s' r' f' k'
live_moved x topic s s' r r' f f' k k' a b c d h =
    let S : Replicator → Type 0 = λ v. Live x topic v r f k in
    let R : Option ℕ → Type 0 = λ v. Live x topic s' v f k in
    let F : Link → Type 0 = λ v. Live x topic s' r' v k in
    let K : Link → Type 0 = λ v. Live x topic s' r' f' v in
    subst K (sym d) (subst F (sym c) (subst R (sym b) (subst S (sym a) h)))

-- whether two pairs are one, the first of which is of u, v and z
abbrev pub is_it : Setup → ℕ → ℕ → ℕ → ℕ → ℕ → ℕ → Bool
is_it s u v z t x y = (node s u v == node s t x) && (z == y)

-- what holds of the one and, where they differ, of the other
pub by_pair : (s : Setup) (u v z t x y : ℕ) → v < length s.clusters → x < length s.clusters → (G : ℕ → ℕ → ℕ → Type 0) → G u v z
    → (is_it s u v z t x y ≡ false → G t x y) → G t x y
by_pair s u v z t x y lv lx G here elsewhere =
    by_test (is_it s u v z t x y)
    (λ e.
    let same = same_node s u t v x lv lx (eqb-true _ _ (left (node s u v == node s t x) (z == y) e)) in
    let one = eqb-true z y (right (node s u v == node s t x) (z == y) e) in
    subst (λ (c : ℕ). G t x c) one (subst (λ (b : ℕ). G t b z) same.1 (subst (λ (a : ℕ). G a v z) same.0 here)))
    elsewhere

-- of two tests that hold both do
not_both : (a b : Bool) → a ≡ true → b ≡ true → (a && b) ≡ false → ⊥
not_both true b h k other = false≢true (sym other ∙ k)
not_both false b h k other = false≢true h

-- LINKS

-- another link than the one that is new
other_cell : (m : List (List Link)) (i v x y : ℕ) (l : Link) → ((i == x) && (v == y)) ≡ false → cell (with_cell m i v l) x y ≡ cell m x y
other_cell m i v x y l other =
    cell_set (λ (k : Link). k ≡ cell m x y) m i v l x y (λ h k. absurd (not_both (i == x) (v == y) (eq-eqb i x h) (eq-eqb v y k) other)) refl

with_other : (ls : Links) (j : LinkName) (l : Link) (k : LinkName) → same_link j k ≡ false → link_at (with_link ls j l) k ≡ link_at ls k
with_other ls (Forward n y) l (Forward m z) other = other_cell ls.forward n y m z l other
with_other ls (Back n y) l (Back m z) other = other_cell ls.back n y m z l other
with_other ls (ToBroker n y) l (ToBroker m z) other = other_cell ls.to_broker n y m z l other
with_other ls (ToClient n y) l (ToClient m z) other = other_cell ls.to_client n y m z l other
with_other ls (Forward n y) l k other = refl
with_other ls (Back n y) l k other = refl
with_other ls (ToBroker n y) l k other = refl
with_other ls (ToClient n y) l k other = refl

-- what is sent on other links
abbrev pub SendsElse : Setup → ℕ → ℕ → LinkName → List Out → Type 0
SendsElse s t c k os = Each (λ (o : Out). same_link (from_broker s t c o.to) k ≡ false) os

pub delivered_other : (s : Setup) (t c stamp : ℕ) (os : List Out) (ls : Links) (k : LinkName) → SendsElse s t c k os
    → link_at (delivered (from_broker s t c) stamp os ls) k ≡ link_at ls k
delivered_other s t c stamp [] ls k h = refl
delivered_other s t c stamp (o ∷ os) ls k h =
    let j = from_broker s t c o.to in let l = sent_on (link_at ls j) (stamped stamp o) in
    delivered_other s t c stamp os (with_link ls j l) k h.1 ∙ with_other ls j l k h.0

-- what is taken from another link, and from this one
abbrev pub TakesOther : Option LinkName → LinkName → Type 0
TakesOther None k = Unit {0}
TakesOther (Some j) k = same_link j k ≡ false

pub taken_other : (o : Option LinkName) (ls : Links) (k : LinkName) → TakesOther o k → link_at (taken_from o ls) k ≡ link_at ls k
taken_other None ls k h = refl
taken_other (Some j) ls k h = with_other ls j _ k h

pub taken_one : (ls : Links) (k : LinkName) → HasLink ls k → link_at (taken_from (Some k) ls) k ≡ took (link_at ls k)
taken_one ls k h = link_at_with ls k (took (link_at ls k)) k h ∙ ap (λ (b : Bool). if b then took (link_at ls k) else link_at ls k) (same_link_self k)

-- the links that an event of the replicator to z sends on
out_forward : (s : Setup) (u v z t x y : ℕ) (to : Peer) → is_it s u v z t x y ≡ false → OutgoingPeer z to → same_link (from_broker s u v to) (Forward (node s t x) y) ≡ false
out_forward s u v z t x y (peer.Forward c) other h = ap (λ (k : ℕ). is_it s u v k t x y) h ∙ other
out_forward s u v z t x y (peer.Back c) other h = absurd h
out_forward s u v z t x y (peer.Client c) other h = refl
out_forward s u v z t x y (peer.Broker c) other h = absurd h

out_back : (s : Setup) (u v z i y : ℕ) (to : Peer) → OutgoingPeer z to → same_link (from_broker s u v to) (Back i y) ≡ false
out_back s u v z i y (peer.Forward c) h = refl
out_back s u v z i y (peer.Back c) h = absurd h
out_back s u v z i y (peer.Client c) h = refl
out_back s u v z i y (peer.Broker c) h = absurd h

pub outs_back : (s : Setup) (u v own z i y : ℕ) (p : Plan) → Outgoing own z p → SendsElse s u v (Back i y) p.sent
outs_back s u v own z i y p o =
    each_map (OutgoingOut z) (λ (o : Out). same_link (from_broker s u v o.to) (Back i y) ≡ false) (λ o h. out_back s u v z i y o.to h) p.sent o.sent

-- and those that a take from z answers on
in_forward : (s : Setup) (u v z i y : ℕ) (to : Peer) → IncomingPeer z to → same_link (from_broker s u v to) (Forward i y) ≡ false
in_forward s u v z i y (peer.Forward c) h = absurd h
in_forward s u v z i y (peer.Back c) h = refl
in_forward s u v z i y (peer.Client c) h = refl
in_forward s u v z i y (peer.Broker c) h = absurd h

ins_forward : (s : Setup) (u v z i y : ℕ) (p : Plan) → Incoming z p → SendsElse s u v (Forward i y) p.sent
ins_forward s u v z i y p o =
    each_map (IncomingOut z) (λ (o : Out). same_link (from_broker s u v o.to) (Forward i y) ≡ false) (λ o h. in_forward s u v z i y o.to h) p.sent o.sent

in_back : (s : Setup) (u v z t x y : ℕ) (to : Peer) → is_it s u z v t x y ≡ false → IncomingPeer z to → same_link (from_broker s u v to) (Back (node s t x) y) ≡ false
in_back s u v z t x y (peer.Forward c) other h = absurd h
in_back s u v z t x y (peer.Back c) other h = ap (λ (k : ℕ). is_it s u k v t x y) h ∙ other
in_back s u v z t x y (peer.Client c) other h = refl
in_back s u v z t x y (peer.Broker c) other h = absurd h

-- one answer
one_answer : (s : Setup) (t y stamp x : ℕ) (o : Out) (ls : Links) → o.to ≡ peer.Back x → HasLink ls (Back (node s t x) y)
    → link_at (delivered (from_broker s t y) stamp (o ∷ []) ls) (Back (node s t x) y) ≡ sent_on (link_at ls (Back (node s t x) y)) (stamped stamp o)
one_answer s t y stamp x o ls to has =
    let k = Back (node s t x) y in
    let P : Peer → Type 0 = λ v.
    link_at (with_link ls (from_broker s t y v) (sent_on (link_at ls (from_broker s t y v)) (stamped stamp o))) k ≡ sent_on (link_at ls k) (stamped stamp o) in
    let l = sent_on (link_at ls k) (stamped stamp o) in
    subst P (sym to) (link_at_with ls k l k has ∙ ap (λ (b : Bool). if b then l else link_at ls k) (same_link_self k))

-- its answers all go to the cluster that sent it
pub take_answers : (s : Setup) (t y stamp : ℕ) (h : Site) (b : Broker) (x : ℕ) (p : Packet) (q : Plan) (ls : Links) → HasLink ls (Back (node s t x) y) → Taken h b x p q
    → link_at (delivered (from_broker s t y) stamp q.sent ls) (Back (node s t x) y) ≡ all_sent stamp (link_at ls (Back (node s t x) y)) q.sent
take_answers s t y stamp h b x p q ls has (Taken.Unreadable is) = refl
take_answers s t y stamp h b x p q ls has (Taken.Opens topic id request name is opening) = one_answer s t y stamp x _ ls refl has
take_answers s t y stamp h b x p q ls has (Taken.Discards other shut) = refl
take_answers s t y stamp h b x p q ls has (Taken.Refuses other at may) = refl
take_answers s t y stamp h b x p q ls has (Taken.Stores id seq source e is at may new) = one_answer s t y stamp x _ ls refl has
take_answers s t y stamp h b x p q ls has (Taken.Repeats id seq source e is at may old) = one_answer s t y stamp x _ ls refl has

-- BROKERS

out_write : (own y z : ℕ) → (z ≡ y → ⊥) → (w : Write) → OutgoingWrite own z w → LeavesCursor y w
out_write own y z other (write.ReplicatorAck v i) h = λ is. other (sym h ∙ is)
out_write own y z other (write.SessionNumber v n) h = λ is. other (sym h ∙ is)
out_write own y z other (write.Append e) h = tt
out_write own y z other w h = tt

in_write : (y z : ℕ) (w : Write) → IncomingWrite z w → LeavesCursor y w
in_write y z (write.ReplicatorAck v i) h = absurd h
in_write y z (write.SessionNumber v n) h = absurd h
in_write y z (write.Append e) h = tt
in_write y z w h = tt

-- a plan that leaves the replicator to y, and one that leaves the session from x
replicator_left : (per y : ℕ) (b : Broker) (p : Plan) → y < length b.replicators → Each (LeavesCursor y) p.writes → Each (LeavesReplicator y) p.changes
    → replicator_at (done per b p) y ≡ replicator_at b y
replicator_left per y b p lt writes changes =
    done_replicator per b y p lt ∙ (left_all y (replicator_after y (replicator_at b y) p.writes) p.changes changes ∙ left_writes y (replicator_at b y) p.writes writes)

session_left : (per x : ℕ) (b : Broker) (p : Plan) → x < length b.receivers → Each (LeavesSession x) p.changes → receiver_at (done per b p) x ≡ receiver_at b x
session_left per x b p lt changes = done_session per b x p lt ∙ left_sessions x (receiver_at b x) p.changes changes

-- the broker of an event is new
abbrev pub after_done : Setup → World → Planned → List Broker
after_done s w p = slice_set w.brokers (node s p.topic p.cluster) (done s.per_ledger (topic_at s w p.topic p.cluster) p.plan)

replicator_kept : (s : Setup) (w : World) (p : Planned) (t x y : ℕ) → Sized s w → IsThere s t x → y < length s.clusters
    → (node s p.topic p.cluster ≡ node s t x → Each (LeavesCursor y) p.plan.writes × Each (LeavesReplicator y) p.plan.changes)
    → replicator_at (slice_index_or (after_done s w p) (node s t x) no_broker) y ≡ replicator_at (topic_at s w t x) y
replicator_kept s w p t x y z there ly leaves =
    at_set (λ (c : Broker). replicator_at c y ≡ replicator_at (topic_at s w t x) y) w.brokers (node s p.topic p.cluster) (node s t x)
    (done s.per_ledger (topic_at s w p.topic p.cluster) p.plan) no_broker
    (λ is.
    let wide = ap (λ (k : ℕ). length (broker_at w k).replicators) is in
    let l = leaves is in
    let lt : y < length (topic_at s w p.topic p.cluster).replicators = omega (arith, ly, wide, (z.wide t x there).replicators) in
    replicator_left s.per_ledger y (topic_at s w p.topic p.cluster) p.plan lt l.0 l.1 ∙ ap (λ (k : ℕ). replicator_at (broker_at w k) y) is)
    refl

session_kept : (s : Setup) (w : World) (p : Planned) (t x y : ℕ) → Sized s w → IsThere s t y → x < length s.clusters
    → (node s p.topic p.cluster ≡ node s t y → Each (LeavesSession x) p.plan.changes)
    → receiver_at (slice_index_or (after_done s w p) (node s t y) no_broker) x ≡ receiver_at (topic_at s w t y) x
session_kept s w p t x y z there lx leaves =
    at_set (λ (c : Broker). receiver_at c x ≡ receiver_at (topic_at s w t y) x) w.brokers (node s p.topic p.cluster) (node s t y)
    (done s.per_ledger (topic_at s w p.topic p.cluster) p.plan) no_broker
    (λ is.
    let wide = ap (λ (k : ℕ). length (broker_at w k).receivers) is in
    let lt : x < length (topic_at s w p.topic p.cluster).receivers = omega (arith, lx, wide, (z.wide t y there).receivers) in
    session_left s.per_ledger x (topic_at s w p.topic p.cluster) p.plan lt (leaves is) ∙ ap (λ (k : ℕ). receiver_at (broker_at w k) x) is)
    refl

outgoing_session : (own z x : ℕ) (p : Plan) → Outgoing own z p → Each (LeavesSession x) p.changes
outgoing_session own z x p o = each_map (OutgoingChange z) (LeavesSession x) (own_change x z) p.changes o.changes

incoming_cursor : (y z : ℕ) (p : Plan) → Incoming z p → Each (LeavesCursor y) p.writes × Each (LeavesReplicator y) p.changes
incoming_cursor y z p i = (
  each_map (IncomingWrite z) (LeavesCursor y) (in_write y z) p.writes i.writes,
  each_map (IncomingChange z) (LeavesReplicator y) (in_change y z) p.changes i.changes,
)

-- EVENTS

abbrev pub after_sent : Setup → World → Planned → ℕ → Links
after_sent s w p stamp = delivered (from_broker s p.topic p.cluster) stamp p.plan.sent w.links

-- at the replicator to z, of another pair
pub outward_else : (s : Setup) (w : World) (p : Planned) (z stamp t x y : ℕ) → Outgoing p.cluster z p.plan → TakesOther p.takes (Forward (node s t x) y)
    → TakesOther p.takes (Back (node s t x) y) → Sized s w → t < length s.topics → ArePair s x y → is_it s p.topic p.cluster z t x y ≡ false → LiveIn s w t x y
    → LiveAt s (after_done s w p) (taken_from p.takes (after_sent s w p stamp)) t x y
outward_else s w p z stamp t x y o forward back sized lt pair other live =
    live_moved x (topic_name s t) (replicator_at (topic_at s w t x) y) _ (receiver_at (topic_at s w t y) x) _ (link_at w.links (Forward (node s t x) y)) _
    (link_at w.links (Back (node s t x) y)) _
    (replicator_kept s w p t x y sized (lt, pair.0) pair.1
    (λ is.
    let apart : z ≡ y → ⊥ = λ one. not_both (node s p.topic p.cluster == node s t x) (z == y) (eq-eqb _ _ is) (eq-eqb z y one) other in (
      each_map (OutgoingWrite p.cluster z) (LeavesCursor y) (out_write p.cluster y z apart) p.plan.writes o.writes,
      each_map (OutgoingChange z) (LeavesReplicator y) (out_change y z apart) p.plan.changes o.changes,
    )))
    (session_kept s w p t x y sized (lt, pair.1) pair.0 (λ is. outgoing_session p.cluster z x p.plan o))
    (taken_other p.takes (after_sent s w p stamp) (Forward (node s t x) y) forward
    ∙ delivered_other s p.topic p.cluster stamp p.plan.sent w.links (Forward (node s t x) y)
    (each_map (OutgoingOut z) (λ (q : Out). same_link (from_broker s p.topic p.cluster q.to) (Forward (node s t x) y) ≡ false)
    (λ q h. out_forward s p.topic p.cluster z t x y q.to other h) p.plan.sent o.sent))
    (taken_other p.takes (after_sent s w p stamp) (Back (node s t x) y) back
    ∙ delivered_other s p.topic p.cluster stamp p.plan.sent w.links (Back (node s t x) y) (outs_back s p.topic p.cluster p.cluster z (node s t x) y p.plan o))
    live

-- and of its own
pub outward_here : (s : Setup) (w : World) (p : Planned) (y stamp : ℕ) (k : Link) → Outgoing p.cluster y p.plan → TakesOther p.takes (Forward (node s p.topic p.cluster) y)
    → Sized s w → p.topic < length s.topics → ArePair s p.cluster y
    → link_at (taken_from p.takes (after_sent s w p stamp)) (Back (node s p.topic p.cluster) y) ≡ k
    → Live p.cluster (topic_name s p.topic)
    (replicator_then y (replicator_after y (replicator_at (topic_at s w p.topic p.cluster) y) p.plan.writes) p.plan.changes) (receiver_at (topic_at s w p.topic y) p.cluster)
    (pushed y stamp (link_at w.links (Forward (node s p.topic p.cluster) y)) p.plan.sent) k
    → LiveAt s (after_done s w p) (taken_from p.takes (after_sent s w p stamp)) p.topic p.cluster y
outward_here s w p y stamp k o forward sized lt pair back live =
    let n = node s p.topic p.cluster in
    let there : IsThere s p.topic p.cluster = (lt, pair.0) in
    let a = topic_at s w p.topic p.cluster in
    let wide : y < length a.replicators = omega (arith, pair.1, (sized.wide p.topic p.cluster there).replicators) in
    live_moved p.cluster (topic_name s p.topic) _ _ (receiver_at (topic_at s w p.topic y) p.cluster) _ _ _ k _
    (ap (λ (c : Broker). replicator_at c y) (get_or-set_same w.brokers n (done s.per_ledger a p.plan) no_broker (node_there s w p.topic p.cluster sized there))
    ∙ done_replicator s.per_ledger a y p.plan wide)
    (session_kept s w p p.topic p.cluster y sized (lt, pair.1) pair.0 (λ is. outgoing_session p.cluster y p.cluster p.plan o))
    (taken_other p.takes (after_sent s w p stamp) (Forward n y) forward
    ∙ forward_sent s p.topic p.cluster y stamp p.plan.sent w.links (sized.cells p.topic p.cluster y there pair.1))
    back live

-- a take from z, of another pair
pub inward_else : (s : Setup) (w : World) (p : Planned) (z stamp t x y : ℕ) → Incoming z p.plan → p.takes ≡ Some (Forward (node s p.topic z) p.cluster)
    → Sized s w → t < length s.topics → ArePair s x y → p.cluster < length s.clusters → is_it s p.topic z p.cluster t x y ≡ false → LiveIn s w t x y
    → LiveAt s (after_done s w p) (taken_from p.takes (after_sent s w p stamp)) t x y
inward_else s w p z stamp t x y i takes sized lt pair within other live =
    live_moved x (topic_name s t) (replicator_at (topic_at s w t x) y) _ (receiver_at (topic_at s w t y) x) _ (link_at w.links (Forward (node s t x) y)) _
    (link_at w.links (Back (node s t x) y)) _
    (replicator_kept s w p t x y sized (lt, pair.0) pair.1 (λ is. incoming_cursor y z p.plan i))
    (session_kept s w p t x y sized (lt, pair.1) pair.0
    (λ is.
    let same = same_node s p.topic t p.cluster y within pair.1 is in
    let apart : z ≡ x → ⊥ = λ one.
    not_both (node s p.topic z == node s t x) (p.cluster == y) (eq-eqb _ _ (ap (λ (k : ℕ). node s k z) same.0 ∙ ap (node s t) one)) (eq-eqb p.cluster y same.1) other in
    each_map (IncomingChange z) (LeavesSession x) (from_change x z apart) p.plan.changes i.changes))
    (taken_other p.takes (after_sent s w p stamp) (Forward (node s t x) y)
    (subst (λ (k : Option LinkName). TakesOther k (Forward (node s t x) y)) (sym takes) other)
    ∙ delivered_other s p.topic p.cluster stamp p.plan.sent w.links (Forward (node s t x) y) (ins_forward s p.topic p.cluster z (node s t x) y p.plan i))
    (taken_other p.takes (after_sent s w p stamp) (Back (node s t x) y) (subst (λ (k : Option LinkName). TakesOther k (Back (node s t x) y)) (sym takes) refl)
    ∙ delivered_other s p.topic p.cluster stamp p.plan.sent w.links (Back (node s t x) y)
    (each_map (IncomingOut z) (λ (q : Out). same_link (from_broker s p.topic p.cluster q.to) (Back (node s t x) y) ≡ false)
    (λ q h. in_back s p.topic p.cluster z t x y q.to other h) p.plan.sent i.sent))
    live

-- and of its own
pub inward_here : (s : Setup) (w : World) (t x y stamp : ℕ) (p : Packet) (plan : Plan) → Incoming x plan → Sized s w → t < length s.topics → ArePair s x y
    → HasCell w.links.back (node s t x) y → Taken (site s t y) (topic_at s w t y) x p plan
    → Live x (topic_name s t) (replicator_at (topic_at s w t x) y) (session_then x (receiver_at (topic_at s w t y) x) plan.changes)
    (took (link_at w.links (Forward (node s t x) y))) (all_sent stamp (link_at w.links (Back (node s t x) y)) plan.sent)
    → (let q : Planned = record { topic = t; cluster = y; takes = Some (Forward (node s t x) y); plan = plan } in
    LiveAt s (after_done s w q) (taken_from (Some (Forward (node s t x) y)) (after_sent s w q stamp)) t x y)
inward_here s w t x y stamp p plan i sized lt pair cell_there taken live =
    let n = node s t y in
    let q : Planned = record { topic = t; cluster = y; takes = Some (Forward (node s t x) y); plan = plan } in
    let b = topic_at s w t y in
    let wide : x < length b.receivers = omega (arith, pair.0, (sized.wide t y (lt, pair.1)).receivers) in
    let ls = after_sent s w q stamp in
    live_moved x (topic_name s t) (replicator_at (topic_at s w t x) y) _ _ _ _ _ _ _
    (replicator_kept s w q t x y sized (lt, pair.0) pair.1 (λ is. incoming_cursor y x plan i))
    (ap (λ (c : Broker). receiver_at c x) (get_or-set_same w.brokers n (done s.per_ledger b plan) no_broker (node_there s w t y sized (lt, pair.1)))
    ∙ done_session s.per_ledger b x plan wide)
    (taken_one ls (Forward (node s t x) y)
    (delivered_has (from_broker s t y) stamp plan.sent w.links (Forward (node s t x) y) (sized.cells t x y (lt, pair.0) pair.1))
    ∙ ap took (delivered_other s t y stamp plan.sent w.links (Forward (node s t x) y) (ins_forward s t y x (node s t x) y plan i)))
    (taken_other (Some (Forward (node s t x) y)) ls (Back (node s t x) y) refl ∙ take_answers s t y stamp (site s t y) b x p plan w.links cell_there taken)
    live
