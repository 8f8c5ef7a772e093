-- A cluster has no link to itself: nothing is ever sent on the forward link from a topic to its own cluster.
use Rattle.std.proofs.Common.{◌≡◌, ℕ, suc, ◌*◌, ◌<◌, Bool, true, false, List, [], ◌∷◌, length, refl, sym, ap, subst, ◌∙◌, ◌==◌, arith}
use Rattle.std.specs.Prelude.{Option, Some, None, nat_lt, not}
use Rattle.std.proofs.lemmas.Bool.{eq-eqb, false≢true}
use Rattle.world_laws.proofs.Types.{Out, Packet, Peer}
use Rattle.world_laws.proofs.Types.peer
use Rattle.geo_base.specs.Broker.{Broker, Site}
use Rattle.geo_base.specs.Client.{Acted}
use Rattle.geo_base.specs.Forwarding.{is_remote}
use Rattle.geo_base.specs.Happening.{broker_does, broker_halts, client_does, stops}
use Rattle.geo_base.specs.Link.{Link, sent_on}
use Rattle.geo_base.specs.Plan.{Plan}
use Rattle.geo_base.specs.Planned.{Planned}
use Rattle.geo_base.specs.Seeking.{restart}
use Rattle.geo_base.specs.Setup.{Setup, declared_at}
use Rattle.geo_base.specs.World.{Back, Forward, LinkName, Links, ToBroker, ToClient, World, cell, delivered, from_broker, link_at, node, site, stamped, taken_from, with_link}
use Rattle.world_laws.proofs.Replicating.Effects.{Each, each_map}
use Rattle.world_laws.proofs.Induction.Frames.{cell_set}
use Rattle.world_laws.proofs.Replicating.LinkFrames.{client_forward, same_node}
use Rattle.world_laws.proofs.Replicating.PairRoles.{ElsePeer, in_peer, out_peer, shape_within}
use Rattle.world_laws.proofs.Replicating.Pairs.{discarded_cell, empty_cell}
use Rattle.world_laws.proofs.Replicating.Reach.{IncomingOut, Outgoing, OutgoingOut, fated_in, fated_quiet, offers_out, served_out, snaps_out, seeks_out}
use Rattle.world_laws.proofs.Induction.Runs.{IsKept}
use Rattle.world_laws.proofs.Walks.Shapes.{Reads, Shape}
use Rattle.world_laws.proofs.Walks.Walk.{on_if, right}

-- nothing goes to the own cluster's replicator
abbrev Elsewhere : ℕ → Plan → Type 0
Elsewhere own p = Each (λ (o : Out). ElsePeer own o.to) p.sent

pub remote_other : (h : Site) (y : ℕ) → is_remote h y ≡ true → y ≡ h.own → ⊥
remote_other h y remote is = other (y == h.own) (right (nat_lt y (length h.clusters)) (not (y == h.own)) remote) (eq-eqb y h.own is)
  where
    other : (b : Bool) → not b ≡ true → b ≡ true → ⊥
    other true h k = false≢true h
    other false h k = false≢true k

-- what reaches no replicator at all may be said to reach another one
any_out : (own : ℕ) (p : Plan) → Outgoing own (suc own) p → Elsewhere own p
any_out own p o =
    each_map (OutgoingOut (suc own)) (λ (o : Out). ElsePeer own o.to) (λ o h. out_peer own (suc own) (λ is. omega (arith, is)) o.to h) p.sent o.sent

reads_elsewhere : (h : Site) (b : Broker) (y : ℕ) (q : Plan) → Reads h b y q → Elsewhere h.own q
reads_elsewhere h b y q Reads.NothingToRead = tt
reads_elsewhere h b y q (Reads.Forwards i e next out) = (remote_other h y next.0, tt)
reads_elsewhere h b y q (Reads.Skips i e next other) = tt
reads_elsewhere h b y q (Reads.Responds i e id source next of is) = tt
reads_elsewhere h b y q (Reads.Counts i e id answer u u' next is heard) = tt
reads_elsewhere h b y q (Reads.AsksAgain i e id answer u u' next is heard) = tt
reads_elsewhere h b y q (Reads.Completes i e id answer u u' next is heard) = tt
reads_elsewhere h b y q (Reads.CreatesAt i j e n remote next is named) = tt
reads_elsewhere h b y q (Reads.ActsOnUpdate i j e n remote v ws next is named after) = tt

shape_elsewhere : (s : Setup) (w : World) (p : Planned) → Shape s w p → Elsewhere p.cluster p.plan
unfolding restart
shape_elsewhere s w p (Shape.Idle t x within) = tt
shape_elsewhere s w p (Shape.Empty t x k within next) = tt
shape_elsewhere s w p (Shape.Serve x c q plan within next served) = any_out x plan (served_out (site s (declared_at s c).topic x) _ c q (suc x) plan served)
shape_elsewhere s w p (Shape.Drop x c v within at) = tt
shape_elsewhere s w p (Shape.Reset t x y within remote) = (remote_other (site s t x) y remote, tt)
shape_elsewhere s w p (Shape.Read t x y plan within reads) = reads_elsewhere (site s t x) _ y plan reads
shape_elsewhere s w p (Shape.Take t x y q plan within next taken) =
    each_map (IncomingOut x) (λ (o : Out). ElsePeer y o.to) (λ o h. in_peer y x o.to h) plan.sent (fated_in s.per_ledger (site s t y) _ x q plan taken).sent
shape_elsewhere s w p (Shape.Receipt t x y q plan within next answered) =
    subst (λ (os : List Out). Each (λ (o : Out). ElsePeer x o.to) os) (sym (fated_quiet s.per_ledger _ y q plan answered)) tt
shape_elsewhere s w p (Shape.Snap t x plan within snaps) = any_out x plan (snaps_out (site s t x) _ (suc x) plan snaps)
shape_elsewhere s w p (Shape.Offer t x n plan within offers) = any_out x plan (offers_out (site s t x) _ _ (suc x) plan offers)
shape_elsewhere s w p (Shape.Seek t x n to plan within seeks) = any_out x plan (seeks_out (site s t x) _ _ to (suc x) plan seeks)
shape_elsewhere s w p (Shape.Restart t x within) = tt

-- what was sent on the link from a node to its own cluster
abbrev self_sent : Setup → Links → ℕ → ℕ → List Packet
self_sent s ls t x = (link_at ls (Forward (node s t x) x)).sent

abbrev pub NoSelf : Setup → World → Type 0
NoSelf s w = (t x : ℕ) → x < length s.clusters → self_sent s w.links t x ≡ []

sent_one : (s : Setup) (t x u v : ℕ) (to : Peer) (p : Packet) (ls : Links) → x < length s.clusters → v < length s.clusters → ElsePeer x to
    → self_sent s (with_link ls (from_broker s t x to) (sent_on (link_at ls (from_broker s t x to)) p)) u v ≡ self_sent s ls u v
sent_one s t x u v (peer.Forward z) p ls lx lv other =
    cell_set (λ (l : Link). l.sent ≡ self_sent s ls u v) ls.forward (node s t x) z _ (node s u v) v (λ h k. absurd (other (k ∙ sym (same_node s t u x v lx lv h).1))) refl
sent_one s t x u v (peer.Broker z) p ls lx lv other =
    cell_set (λ (l : Link). l.sent ≡ self_sent s ls u v) ls.forward (node s t x) z _ (node s u v) v (λ h k. absurd (other (k ∙ sym (same_node s t u x v lx lv h).1))) refl
sent_one s t x u v (peer.Back z) p ls lx lv other = refl
sent_one s t x u v (peer.Client c) p ls lx lv other = refl

sent_all : (s : Setup) (t x u v stamp : ℕ) (os : List Out) (ls : Links) → x < length s.clusters → v < length s.clusters → Each (λ (o : Out). ElsePeer x o.to) os
    → self_sent s (delivered (from_broker s t x) stamp os ls) u v ≡ self_sent s ls u v
sent_all s t x u v stamp [] ls lx lv h = refl
sent_all s t x u v stamp (o ∷ os) ls lx lv h =
    sent_all s t x u v stamp os _ lx lv h.1 ∙ sent_one s t x u v o.to (stamped stamp o) ls lx lv h.0

taken_self : (s : Setup) (k : Option LinkName) (ls : Links) (u v : ℕ) → self_sent s (taken_from k ls) u v ≡ self_sent s ls u v
taken_self s None ls u v = refl
taken_self s (Some (Forward a b)) ls u v =
    let C : ℕ → ℕ → List Packet = λ i j. (cell ls.forward i j).sent in
    cell_set (λ (l : Link). l.sent ≡ C (node s u v) v) ls.forward a b _ (node s u v) v (λ h k. ap (λ (i : ℕ). C i b) h ∙ ap (C (node s u v)) k) refl
taken_self s (Some (Back a b)) ls u v = refl
taken_self s (Some (ToBroker a b)) ls u v = refl
taken_self s (Some (ToClient a b)) ls u v = refl

does_self : (s : Setup) (w : World) (p : Planned) → Shape s w p → NoSelf s w → NoSelf s (broker_does s w p)
unfolding broker_does
does_self s w p shape none u v lt =
    on_if (λ (w' : World). self_sent s w'.links u v ≡ []) p.plan.idle _ _ (none u v lt)
    (taken_self s p.takes (delivered (from_broker s p.topic p.cluster) _ p.plan.sent w.links) u v
    ∙ sent_all s p.topic p.cluster u v _ p.plan.sent w.links (shape_within s w p shape) lt (shape_elsewhere s w p shape) ∙ none u v lt)

halts_self : (s : Setup) (w : World) (k : ℕ) (p : Planned) → NoSelf s w → NoSelf s (broker_halts s w k p)
unfolding broker_halts
halts_self s w k p none u v lt = taken_self s p.takes w.links u v ∙ none u v lt

client_self : (s : Setup) (w : World) (c : ℕ) (k : Option LinkName) (a : Acted) → NoSelf s w → NoSelf s (client_does s w c k a)
unfolding client_does
client_self s w c k a none u v lt =
    on_if (λ (w' : World). self_sent s w'.links u v ≡ []) a.idle _ _ (none u v lt)
    (ap (λ (m : List (List Link)). (cell m (node s u v) v).sent) (client_forward c _ a.sent (taken_from k w.links)) ∙ taken_self s k w.links u v ∙ none u v lt)

stops_self : (s : Setup) (w : World) → NoSelf s w → NoSelf s (stops s w)
unfolding stops
stops_self s w none u v lt = ap (λ (l : Link). l.sent) (discarded_cell w.links.forward (node s u v) v) ∙ none u v lt

pub no_self_kept : (s : Setup) → IsKept s (NoSelf s)
no_self_kept s = record {
  opening = λ u v lt. ap (λ (l : Link). l.sent) (empty_cell (length s.topics * length s.clusters) (length s.clusters) (node s u v) v);
  idle = λ w n none. none;
  round = λ w n none. none;
  does = does_self s;
  halts = λ w k p shape none. halts_self s w k p none;
  goes = λ w c a none. client_self s w c None a none;
  gets = λ w c x a none. client_self s w c (Some (ToClient c x)) a none;
  stop = stops_self s;
}
