-- The two links of each client and cluster are there, in every world; so what is sent on one stands there after what was sent before.
use Rattle.std.proofs.Common.{◌≡◌, ◌==◌, ℕ, ◌<◌, Bool, true, false, List, [], ◌∷◌, length, map, refl, sym, ap, subst, ◌∙◌}
use Rattle.std.specs.Prelude.{Option, Some, None, if◌then◌else◌, ◌&&◌}
use Rattle.std.proofs.lemmas.Bool.{false≢true}
use Rattle.world_laws.proofs.Types.{Out, Packet, Peer}
use Rattle.world_laws.proofs.Types.peer
use Rattle.geo_base.specs.Happening.{broker_does, broker_halts, client_does, stops}
use Rattle.geo_base.specs.History.{sent_over, sent_with}
use Rattle.geo_base.specs.Link.{took}
use Rattle.geo_base.specs.Nodes.{BrokerNode, same_link}
use Rattle.geo_base.specs.Setup.{Setup}
use Rattle.geo_base.specs.World.{LinkName, Links, ToBroker, ToClient, World, delivered, from_broker, from_client, link_at, stamped, taken_from}
use Rattle.world_laws.proofs.Induction.Runs.{IsKept}
use Rattle.world_laws.proofs.Merges.LinkTables.{HasLink, delivered_has, link_at_with, same_link_is, same_link_self, with_link_has}
use Rattle.world_laws.proofs.Merges.Opened.{table_has}
use Rattle.world_laws.proofs.Replicating.Effects.{Each}
use Rattle.world_laws.proofs.Replicating.Sizes.{discarded_has}
use Rattle.world_laws.proofs.Walks.Walk.{on_if}

abbrev pub AreLinked : Setup → Links → Type 0
AreLinked s ls = (c x : ℕ) → c < length s.clients → x < length s.clusters → HasLink ls (ToBroker c x) × HasLink ls (ToClient c x)

abbrev pub Linked : Setup → World → Type 0
Linked s w = AreLinked s w.links

pub taken_has : (o : Option LinkName) (ls : Links) (k : LinkName) → HasLink ls k → HasLink (taken_from o ls) k
taken_has None ls k h = h
taken_has (Some j) ls k h = with_link_has ls j (took (link_at ls j)) k h

pub linked_kept : (s : Setup) → IsKept s (Linked s)
unfolding broker_does broker_halts client_does stops
linked_kept s = record {
  opening = λ c x lt small. (table_has (length s.clients) (length s.clusters) c x lt small, table_has (length s.clients) (length s.clusters) c x lt small);
  idle = λ w n h. h;
  round = λ w n h. h;
  does = λ w p shape h. on_if (Linked s) p.plan.idle _ _ h (λ c x lt small. let g = h c x lt small in (
    taken_has p.takes (delivered (from_broker s p.topic p.cluster) _ p.plan.sent w.links) (ToBroker c x) (delivered_has (from_broker s p.topic p.cluster) _ p.plan.sent w.links (ToBroker c x) g.0),
    taken_has p.takes (delivered (from_broker s p.topic p.cluster) _ p.plan.sent w.links) (ToClient c x) (delivered_has (from_broker s p.topic p.cluster) _ p.plan.sent w.links (ToClient c x) g.1),
  ));
  halts = λ w k p shape h c x lt small. let g = h c x lt small in (taken_has p.takes w.links (ToBroker c x) g.0, taken_has p.takes w.links (ToClient c x) g.1);
  goes = λ w z a h. on_if (Linked s) a.idle _ _ h (λ c x lt small. let g = h c x lt small in
      (delivered_has (from_client z) _ a.sent w.links (ToBroker c x) g.0, delivered_has (from_client z) _ a.sent w.links (ToClient c x) g.1));
  gets = λ w z y a h. on_if (Linked s) a.idle _ _ h (λ c x lt small. let g = h c x lt small in let ls = taken_from (Some (ToClient z y)) w.links in (
    delivered_has (from_client z) _ a.sent ls (ToBroker c x) (taken_has (Some (ToClient z y)) w.links (ToBroker c x) g.0),
    delivered_has (from_client z) _ a.sent ls (ToClient c x) (taken_has (Some (ToClient z y)) w.links (ToClient c x) g.1),
  ));
  stop = λ w h c x lt small. let g = h c x lt small in (discarded_has w.links.to_broker c x g.0, discarded_has w.links.to_client c x g.1);
}

-- ---- taking

abbrev pub takes_it : Option LinkName → LinkName → Bool
takes_it None k = false
takes_it (Some j) k = same_link j k

pub taken_at : (o : Option LinkName) (ls : Links) (k : LinkName) → HasLink ls k → link_at (taken_from o ls) k ≡ (if takes_it o k then took (link_at ls k) else link_at ls k)
taken_at None ls k h = refl
taken_at (Some j) ls k h = link_at_with ls j (took (link_at ls j)) k h ∙ by (same_link j k) refl
  where
    by : (t : Bool) → same_link j k ≡ t → (if t then took (link_at ls j) else link_at ls k) ≡ (if t then took (link_at ls k) else link_at ls k)
    by true is = ap (λ (i : LinkName). took (link_at ls i)) (same_link_is j k is)
    by false is = refl

-- ---- what a broker at x sends to c there is sent on its link

abbrev pub GoesTo : ℕ → Peer → Type 0
GoesTo c (peer.Client z) = z ≡ c
GoesTo c q = ⊥

-- what goes over a link of c's, of all that is sent
goes_else : (s : Setup) (t c x : ℕ) (q : Peer) → same_link (from_broker s t x q) (ToClient c x) ≡ false → GoesTo c q → ⊥
goes_else s t c x (peer.Client z) other same = false≢true (sym other ∙ subst (λ (n : ℕ). ((n == c) && (x == x)) ≡ true) (sym same) (same_link_self (ToClient c x)))
goes_else s t c x (peer.Forward z) other same = same
goes_else s t c x (peer.Back z) other same = same
goes_else s t c x (peer.Broker z) other same = same

one_over : (s : Setup) (t c x stamp : ℕ) (P : Packet → Type 0) (o : Out) (more : List Packet) (b : Bool) → same_link (from_broker s t x o.to) (ToClient c x) ≡ b → Each P (if b then stamped stamp o ∷ more else more)
    → (GoesTo c o.to → P (stamped stamp o)) × Each P more
one_over s t c x stamp P o more true is h = ((λ same. h.0), h.1)
one_over s t c x stamp P o more false is h = ((λ same. absurd (goes_else s t c x o.to is same)), h)

pub over_each : (s : Setup) (t c x stamp : ℕ) (P : Packet → Type 0) (os : List Out) → Each P (sent_over s (ToClient c x) (BrokerNode t x) (map (sent_with stamp) os)) → Each (λ (o : Out). GoesTo c o.to → P (stamped stamp o)) os
over_each s t c x stamp P [] h = tt
over_each s t c x stamp P (o ∷ os) h =
    let r = one_over s t c x stamp P o (sent_over s (ToClient c x) (BrokerNode t x) (map (sent_with stamp) os)) (same_link (from_broker s t x o.to) (ToClient c x)) refl h in
    (r.0, over_each s t c x stamp P os r.1)
