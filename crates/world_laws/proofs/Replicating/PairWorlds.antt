-- What an event of a broker does to the facts of each pair of a world: the pair is tied to the world here, once.
use Rattle.std.proofs.Common.{◌≡◌, ℕ, zero, suc, ◌+◌, ◌<◌, ◌≤◌, Bool, true, false, List, [], ◌∷◌, length, refl, sym, ap, subst, ◌∙◌, ◌==◌, arith}
use Rattle.std.specs.Prelude.{Option, Some, None, slice_get, slice_set, slice_index_or}
use Rattle.std.proofs.lemmas.Bool.{eqb-true, eqb-false, false≢true}
use Rattle.std.proofs.lemmas.List.{get_or-set_other, get_or-set_same}
use Rattle.std.proofs.lemmas.Option.{none-some, slice_get_within}
use Rattle.std.proofs.Math.Nat.{min-eq_left, min-eq_right}
use Rattle.world_laws.proofs.Types.{Entry, Out, Packet, Peer}
use Rattle.world_laws.proofs.Types.peer
use Rattle.geo_base.specs.Broker.{Broker, no_broker, receiver_at, replicator_at}
use Rattle.geo_base.specs.Happening.{broker_does, broker_halts}
use Rattle.geo_base.specs.Laws.{ArePair}
use Rattle.geo_base.specs.Link.{Link, next_packet, took}
use Rattle.geo_base.specs.Plan.{Plan, done, halted, idle_plan}
use Rattle.geo_base.specs.Planned.{Planned}
use Rattle.geo_base.specs.Seeking.{restart}
use Rattle.geo_base.specs.Setup.{Setup}
use Rattle.geo_base.specs.World.{Back, Forward, LinkName, Links, ToBroker, ToClient, World, cell, delivered, from_broker, link_at, node, site, stamped, taken_from, topic_at}
use Rattle.world_laws.proofs.Replicating.Effects.{Each, each_map}
use Rattle.world_laws.proofs.Induction.Frames.{cell_set}
use Rattle.world_laws.proofs.Replicating.LinkFrames.{HasCell, MayBack, TakesElse, back_sent, forward_else, forward_sent, pushed, same_node, sent_cells, taken_back, taken_else, taken_here}
use Rattle.geo_base.specs.Safe.{AllOnce}
use Rattle.world_laws.proofs.Replicating.PairEvents.{AtTarget, ElseBack, source_does, source_halts, source_role, target_extends, target_role}
use Rattle.world_laws.proofs.Replicating.PairFacts.{Carried, Receiving, carried_back}
use Rattle.world_laws.proofs.Replicating.PairRoles.{IsEmpty, NotForward, PairIn, Reaches, shape_reaches, shape_within}
use Rattle.world_laws.proofs.Replicating.Reach.{IncomingOut, IncomingPeer, OutgoingOut, OutgoingPeer}
use Rattle.world_laws.proofs.Replicating.ReceiverSide.{there_aside, there_halted}
use Rattle.world_laws.proofs.Replicating.ReplicatorSide.{Facts}
use Rattle.world_laws.proofs.Walks.Shapes.{Shape}
use Rattle.world_laws.proofs.Replicating.Sizes.{IsThere, Sized, node_there}
use Rattle.world_laws.proofs.Replicating.TakeEvents.{HasTaken, OkOut, taken_done}
use Rattle.world_laws.proofs.Walks.Walk.{on_test}

-- the facts of a pair, of lists of brokers and tables of links
abbrev pub PairAt : Setup → List Broker → Links → ℕ → ℕ → ℕ → Type 0
PairAt s bs ls t x y =
    Facts x y (slice_index_or bs (node s t x) no_broker) (slice_index_or bs (node s t y) no_broker) (link_at ls (Forward (node s t x) y))
    (link_at ls (Back (node s t x) y)).sent

-- the same values by other names
pub moved : (x y : ℕ) (a a' b b' : Broker) (f f' : Link) (k k' : List Packet) → a' ≡ a → b' ≡ b → f' ≡ f → k' ≡ k → Facts x y a b f k → Facts x y a' b' f' k'
moved x y a a' b b' f f' k k' p q r u h =
    let A : Broker → Type 0 = λ c. Facts x y c b f k in
    let B : Broker → Type 0 = λ c. Facts x y a' c f k in
    let F : Link → Type 0 = λ l. Facts x y a' b' l k in
    let K : List Packet → Type 0 = λ ps. Facts x y a' b' f' ps in
    subst K (sym u) (subst F (sym r) (subst B (sym q) (subst A (sym p) h)))

-- the link of a pair is none that an event at a node takes from or answers on
abbrev IsElse : Setup → Planned → ℕ → ℕ → Type 0
IsElse s p i y = (z : ℕ) → z < length s.clusters → node s p.topic z ≡ i → p.cluster ≡ y → ⊥

not_forward : (i y : ℕ) (k : Option LinkName) → NotForward k → TakesElse i y k
not_forward i y None h = tt
not_forward i y (Some (Forward a b)) h = absurd h
not_forward i y (Some (Back a b)) h = tt
not_forward i y (Some (ToBroker a b)) h = tt
not_forward i y (Some (ToClient a b)) h = tt

-- a link that gives nothing is left as it is
took_none : (l : Link) → next_packet l ≡ None → l.taken ≤ length l.sent → took l ≡ l
took_none l none le =
    let end : l.taken ≡ length l.sent = past l.sent l.taken none le in
    ap (λ (n : ℕ). record { sent = l.sent; taken = n }) (min-eq_right (omega (arith, end)) ∙ sym end)
  where
    past : (ps : List Packet) (n : ℕ) → slice_get ps n ≡ None → n ≤ length ps → n ≡ length ps
    past [] n h le = omega (arith, le)
    past (p ∷ ps) zero h le = absurd (none-some p (sym h))
    past (p ∷ ps) (suc n) h le = let r = past ps n h (omega (arith, le)) in omega (arith, r)

taken_none : (k : LinkName) (ls : Links) (i y : ℕ) → next_packet (link_at ls k) ≡ None → (link_at ls (Forward i y)).taken ≤ length (link_at ls (Forward i y)).sent
    → link_at (taken_from (Some k) ls) (Forward i y) ≡ link_at ls (Forward i y)
taken_none (Forward a b) ls i y none le =
    let C : ℕ → ℕ → Type 0 = λ u v. next_packet (cell ls.forward u v) ≡ None → took (cell ls.forward u v) ≡ cell ls.forward i y in
    cell_set (λ (l : Link). l ≡ cell ls.forward i y) ls.forward a b (took (cell ls.forward a b)) i y
    (λ h k. subst (λ (u : ℕ). C u b) (sym h) (subst (C i) (sym k) (λ none. took_none (cell ls.forward i y) none le)) none) refl
taken_none (Back a b) ls i y none le = refl
taken_none (ToBroker a b) ls i y none le = refl
taken_none (ToClient a b) ls i y none le = refl

-- what is taken leaves the forward link of another pair
taken_kept : (s : Setup) (w : World) (p : Planned) (i y : ℕ) → Reaches s w p → IsElse s p i y → (link_at w.links (Forward i y)).taken ≤ length (link_at w.links (Forward i y)).sent
    → link_at (taken_from p.takes w.links) (Forward i y) ≡ link_at w.links (Forward i y)
taken_kept s w p i y (Reaches.Outward z o not) other le = taken_else p.takes w.links i y (not_forward i y p.takes not)
taken_kept s w p i y (Reaches.Inward z lt o is) other le =
    let P : Option LinkName → Type 0 = λ k. link_at (taken_from k w.links) (Forward i y) ≡ link_at w.links (Forward i y) in
    subst P (sym is) (taken_else (Some (Forward (node s p.topic z) p.cluster)) w.links i y (other z lt))
taken_kept s w p i y (Reaches.Again r is) other le =
    let P : Option LinkName → Type 0 = λ k. link_at (taken_from k w.links) (Forward i y) ≡ link_at w.links (Forward i y) in subst P (sym is) refl
taken_kept s w p i y (Reaches.Empties is empty) other le = by p.takes empty
  where
    by : (k : Option LinkName) → IsEmpty w k → link_at (taken_from k w.links) (Forward i y) ≡ link_at w.links (Forward i y)
    by None none = refl
    by (Some k) none = taken_none k w.links i y none le

-- no taking changes what was sent on a forward link, or takes more than that
abbrev IsOf : Link → Link → Type 0
IsOf l k = (l.sent ≡ k.sent) × (l.taken ≤ length k.sent)

taken_of : (k : Option LinkName) (ls : Links) (i y : ℕ) → (link_at ls (Forward i y)).taken ≤ length (link_at ls (Forward i y)).sent
    → IsOf (link_at (taken_from k ls) (Forward i y)) (link_at ls (Forward i y))
taken_of None ls i y le = (refl, le)
taken_of (Some (Forward a b)) ls i y le =
    let C : ℕ → ℕ → Type 0 = λ u v. IsOf (took (cell ls.forward u v)) (cell ls.forward i y) in
    cell_set (λ (l : Link). IsOf l (cell ls.forward i y)) ls.forward a b (took (cell ls.forward a b)) i y
    (λ h k. subst (λ (u : ℕ). C u b) (sym h) (subst (C i) (sym k) (refl, omega arith))) (refl, le)
taken_of (Some (Back a b)) ls i y le = (refl, le)
taken_of (Some (ToBroker a b)) ls i y le = (refl, le)
taken_of (Some (ToClient a b)) ls i y le = (refl, le)

-- which part the node of an event has in a pair
pub data Role (s : Setup) (p : Planned) (t x y : ℕ) : Type 0 where
  Source : t ≡ p.topic → x ≡ p.cluster → Role s p t x y
  Target : t ≡ p.topic → y ≡ p.cluster → Role s p t x y
  Elsewhere : (node s p.topic p.cluster ≡ node s t x → ⊥) → (node s p.topic p.cluster ≡ node s t y → ⊥) → Role s p t x y

pub role_of : (s : Setup) (p : Planned) (t x y : ℕ) → p.cluster < length s.clusters → x < length s.clusters → y < length s.clusters → Role s p t x y
role_of s p t x y lt lx ly = by (node s p.topic p.cluster == node s t x) (node s p.topic p.cluster == node s t y) refl refl
  where
    by : (a b : Bool) → (node s p.topic p.cluster == node s t x) ≡ a → (node s p.topic p.cluster == node s t y) ≡ b → Role s p t x y
    by true b e f = let same = same_node s p.topic t p.cluster x lt lx (eqb-true _ _ e) in Role.Source (sym same.0) (sym same.1)
    by false true e f = let same = same_node s p.topic t p.cluster y lt ly (eqb-true _ _ f) in Role.Target (sym same.0) (sym same.1)
    by false false e f = Role.Elsewhere (eqb-false _ _ e) (eqb-false _ _ f)

-- two clusters of one topic have two nodes
pub apart : (s : Setup) (t x y : ℕ) → x < length s.clusters → y < length s.clusters → (x ≡ y → ⊥) → node s t x ≡ node s t y → ⊥
apart s t x y lx ly other is = other (same_node s t t x y lx ly is).1

-- a stop after some writes of an event
abbrev HaltedAt : Setup → World → ℕ → Planned → ℕ → ℕ → ℕ → Type 0
HaltedAt s w k p t x y =
    PairAt s (slice_set w.brokers (node s p.topic p.cluster) (halted s.per_ledger (topic_at s w p.topic p.cluster) k p.plan)) (taken_from p.takes w.links) t x y

halted_source : (s : Setup) (w : World) (k : ℕ) (p : Planned) (y : ℕ) → Shape s w p → Sized s w → IsThere s p.topic p.cluster → y < length s.clusters
    → (p.cluster ≡ y → ⊥) → PairIn s w p.topic p.cluster y → HaltedAt s w k p p.topic p.cluster y
halted_source s w k p y shape z there ly other facts =
    let n = node s p.topic p.cluster in
    let a = topic_at s w p.topic p.cluster in
    let wide : y < length a.replicators = omega (arith, ly, (z.wide p.topic p.cluster there).replicators) in
    moved p.cluster y (halted s.per_ledger a k p.plan) _ (topic_at s w p.topic y) _ (link_at w.links (Forward n y)) _ (link_at w.links (Back n y)).sent _
    (get_or-set_same w.brokers n _ no_broker (node_there s w p.topic p.cluster z there))
    (get_or-set_other w.brokers n (node s p.topic y) _ no_broker (λ is. apart s p.topic p.cluster y there.1 ly other (sym is)))
    (taken_kept s w p n y (shape_reaches s w p shape) (λ v lt is e. other e) facts.receiving.within)
    (taken_back p.takes w.links n y)
    (source_halts p.cluster y s.per_ledger k a (topic_at s w p.topic y) (link_at w.links (Forward n y)) (link_at w.links (Back n y)).sent p.plan wide
    (source_role s w p shape y other wide facts) facts)

halted_target : (s : Setup) (w : World) (k : ℕ) (p : Planned) (x : ℕ) → Shape s w p → AllOnce w → Sized s w → IsThere s p.topic p.cluster → x < length s.clusters
    → (p.cluster ≡ x → ⊥) → PairIn s w p.topic x p.cluster → HaltedAt s w k p p.topic x p.cluster
halted_target s w k p x shape once z there lx other facts =
    let n = node s p.topic p.cluster in let i = node s p.topic x in let y = p.cluster in
    let b = topic_at s w p.topic p.cluster in let a = topic_at s w p.topic x in
    let wide : x < length b.receivers = omega (arith, lx, (z.wide p.topic p.cluster there).receivers) in
    let of = taken_of p.takes w.links i y facts.receiving.within in
    let back = (link_at w.links (Back i y)).sent in
    let extends = target_extends s w p x a back (once i) wide (target_role s w p shape x lx other) facts in
    moved x y a _ (halted s.per_ledger b k p.plan) _ (link_at (taken_from p.takes w.links) (Forward i y)) _ back _
    (get_or-set_other w.brokers n i _ no_broker (λ is. apart s p.topic p.cluster x there.1 lx other (sym is)))
    (get_or-set_same w.brokers n _ no_broker (node_there s w p.topic p.cluster z there)) refl (taken_back p.takes w.links i y)
    (there_halted x y s.per_ledger k a b (link_at w.links (Forward i y)) (link_at (taken_from p.takes w.links) (Forward i y)) back p.plan extends of.0 of.1 facts)

-- the links of the pair are none of the event's
is_else : (s : Setup) (p : Planned) (t x y : ℕ) → x < length s.clusters → (node s p.topic p.cluster ≡ node s t y → ⊥) → IsElse s p (node s t x) y
is_else s p t x y lx other z lt is e =
    let same = same_node s p.topic t z x lt lx is in
    other (ap (λ (k : ℕ). node s k p.cluster) same.0 ∙ ap (node s t) e)

halted_else : (s : Setup) (w : World) (k : ℕ) (p : Planned) (t x y : ℕ) → Shape s w p → x < length s.clusters → (node s p.topic p.cluster ≡ node s t x → ⊥)
    → (node s p.topic p.cluster ≡ node s t y → ⊥) → PairIn s w t x y → HaltedAt s w k p t x y
halted_else s w k p t x y shape lx other other' facts =
    let n = node s p.topic p.cluster in
    moved x y (topic_at s w t x) _ (topic_at s w t y) _ (link_at w.links (Forward (node s t x) y)) _ (link_at w.links (Back (node s t x) y)).sent _
    (get_or-set_other w.brokers n (node s t x) _ no_broker (λ is. other (sym is))) (get_or-set_other w.brokers n (node s t y) _ no_broker (λ is. other' (sym is)))
    (taken_kept s w p (node s t x) y (shape_reaches s w p shape) (is_else s p t x y lx other') facts.receiving.within) (taken_back p.takes w.links (node s t x) y) facts

pub pair_halts : (s : Setup) (w : World) (k : ℕ) (p : Planned) (t x y : ℕ) → Shape s w p → AllOnce w → Sized s w → t < length s.topics → ArePair s x y → PairIn s w t x y
    → PairIn s (broker_halts s w k p) t x y
unfolding broker_halts
pair_halts s w k p t x y shape once z lt pair = by (role_of s p t x y (shape_within s w p shape) pair.0 pair.1)
  where
    within : p.cluster < length s.clusters
    within = shape_within s w p shape

    by : Role s p t x y → PairIn s w t x y → HaltedAt s w k p t x y
    by (Role.Source e f) =
        let G : ℕ → ℕ → Type 0 = λ t x. t < length s.topics → (x ≡ y → ⊥) → PairIn s w t x y → HaltedAt s w k p t x y in
        let h : G p.topic p.cluster = λ lt other facts. halted_source s w k p y shape z (lt, within) pair.1 other facts in
        (subst (λ (n : ℕ). G n x) (sym e) (subst (G p.topic) (sym f) h)) lt pair.2
    by (Role.Target e f) =
        let G : ℕ → ℕ → Type 0 = λ t y. t < length s.topics → (x ≡ y → ⊥) → PairIn s w t x y → HaltedAt s w k p t x y in
        let h : G p.topic p.cluster = λ lt other facts. halted_target s w k p x shape once z (lt, within) pair.0 (λ is. other (sym is)) facts in
        (subst (λ (n : ℕ). G n y) (sym e) (subst (G p.topic) (sym f) h)) lt pair.2
    by (Role.Elsewhere other other') = halted_else s w k p t x y shape pair.0 other other'

-- an event that is done: its links are those that it sent on, less what it took
abbrev DoneLinks : Setup → World → Planned → ℕ → Links
DoneLinks s w p stamp = taken_from p.takes (delivered (from_broker s p.topic p.cluster) stamp p.plan.sent w.links)

abbrev DoneAt : Setup → World → Planned → ℕ → ℕ → ℕ → ℕ → Type 0
DoneAt s w p stamp t x y =
    PairAt s (slice_set w.brokers (node s p.topic p.cluster) (done s.per_ledger (topic_at s w p.topic p.cluster) p.plan)) (DoneLinks s w p stamp) t x y

-- what an event that is not idle takes from
acts_takes : (s : Setup) (w : World) (p : Planned) (i y : ℕ) → Reaches s w p → p.plan.idle ≡ false → IsElse s p i y → TakesElse i y p.takes
acts_takes s w p i y (Reaches.Outward z o not) acts other = not_forward i y p.takes not
acts_takes s w p i y (Reaches.Inward z lt o is) acts other =
    let P : Option LinkName → Type 0 = λ k. TakesElse i y k in subst P (sym is) (other z lt)
acts_takes s w p i y (Reaches.Again r is) acts other = let P : Option LinkName → Type 0 = λ k. TakesElse i y k in subst P (sym is) tt
acts_takes s w p i y (Reaches.Empties is empty) acts other = absurd (false≢true (sym acts ∙ ap (λ (q : Plan). q.idle) is))

-- and what it answers on
outward_back : (s : Setup) (t x i y stamp z : ℕ) (P : Link → Type 0) (o : Out) (to : Peer) → OutgoingPeer z to → MayBack s t x i y P stamp o to
outward_back s t x i y stamp z P o (peer.Back v) h = absurd h
outward_back s t x i y stamp z P o (peer.Forward v) h = tt
outward_back s t x i y stamp z P o (peer.Client c) h = tt
outward_back s t x i y stamp z P o (peer.Broker v) h = tt

inward_back : (s : Setup) (t x i y stamp z : ℕ) (P : Link → Type 0) (o : Out) (to : Peer) → (node s t z ≡ i → x ≡ y → ⊥) → IncomingPeer z to
    → MayBack s t x i y P stamp o to
inward_back s t x i y stamp z P o (peer.Back v) other h = λ is e. absurd (other (ap (node s t) (sym h) ∙ is) e)
inward_back s t x i y stamp z P o (peer.Forward v) other h = tt
inward_back s t x i y stamp z P o (peer.Client c) other h = tt
inward_back s t x i y stamp z P o (peer.Broker v) other h = tt

acts_back : (s : Setup) (w : World) (p : Planned) (i y stamp : ℕ) (P : Link → Type 0) → Reaches s w p → IsElse s p i y
    → Each (λ (o : Out). MayBack s p.topic p.cluster i y P stamp o o.to) p.plan.sent
unfolding restart
acts_back s w p i y stamp P (Reaches.Outward z o not) other =
    each_map (OutgoingOut z) (λ (o : Out). MayBack s p.topic p.cluster i y P stamp o o.to) (λ o h. outward_back s p.topic p.cluster i y stamp z P o o.to h) p.plan.sent o.sent
acts_back s w p i y stamp P (Reaches.Inward z lt o is) other =
    each_map (IncomingOut z) (λ (o : Out). MayBack s p.topic p.cluster i y P stamp o o.to)
    (λ o h. inward_back s p.topic p.cluster i y stamp z P o o.to (other z lt) h) p.plan.sent o.sent
acts_back s w p i y stamp P (Reaches.Again is no_take) other =
    let Q : Plan → Type 0 = λ q. Each (λ (o : Out). MayBack s p.topic p.cluster i y P stamp o o.to) q.sent in subst Q (sym is) tt
acts_back s w p i y stamp P (Reaches.Empties is empty) other =
    let Q : Plan → Type 0 = λ q. Each (λ (o : Out). MayBack s p.topic p.cluster i y P stamp o o.to) q.sent in subst Q (sym is) tt

-- so it leaves the back link of a pair that is not its own
back_kept : (s : Setup) (w : World) (p : Planned) (i y stamp : ℕ) → Reaches s w p → IsElse s p i y
    → (link_at (DoneLinks s w p stamp) (Back i y)).sent ≡ (link_at w.links (Back i y)).sent
back_kept s w p i y stamp r other =
    let P : Link → Type 0 = λ l. l.sent ≡ (link_at w.links (Back i y)).sent in
    taken_back p.takes (delivered (from_broker s p.topic p.cluster) stamp p.plan.sent w.links) i y
    ∙ back_sent s p.topic p.cluster i y stamp P p.plan.sent w.links (acts_back s w p i y stamp P r other) refl

done_source : (s : Setup) (w : World) (p : Planned) (stamp y : ℕ) → Shape s w p → p.plan.idle ≡ false → Sized s w → IsThere s p.topic p.cluster → y < length s.clusters
    → (p.cluster ≡ y → ⊥) → PairIn s w p.topic p.cluster y → DoneAt s w p stamp p.topic p.cluster y
done_source s w p stamp y shape acts z there ly other facts =
    let n = node s p.topic p.cluster in
    let a = topic_at s w p.topic p.cluster in let f = link_at w.links (Forward n y) in
    let wide : y < length a.replicators = omega (arith, ly, (z.wide p.topic p.cluster there).replicators) in
    let r = shape_reaches s w p shape in
    moved p.cluster y (done s.per_ledger a p.plan) _ (topic_at s w p.topic y) _ (pushed y stamp f p.plan.sent) _ (link_at w.links (Back n y)).sent _
    (get_or-set_same w.brokers n _ no_broker (node_there s w p.topic p.cluster z there))
    (get_or-set_other w.brokers n (node s p.topic y) _ no_broker (λ is. apart s p.topic p.cluster y there.1 ly other (sym is)))
    (taken_else p.takes (delivered (from_broker s p.topic p.cluster) stamp p.plan.sent w.links) n y (acts_takes s w p n y r acts (λ v lt is e. other e))
    ∙ forward_sent s p.topic p.cluster y stamp p.plan.sent w.links (z.cells p.topic p.cluster y there ly))
    (back_kept s w p n y stamp r (λ v lt is e. other e))
    (source_does p.cluster y s.per_ledger a (topic_at s w p.topic y) f (link_at w.links (Back n y)).sent p.plan stamp wide (source_role s w p shape y other wide facts) facts)

done_else : (s : Setup) (w : World) (p : Planned) (stamp t x y : ℕ) → Shape s w p → p.plan.idle ≡ false → x < length s.clusters
    → (node s p.topic p.cluster ≡ node s t x → ⊥) → (node s p.topic p.cluster ≡ node s t y → ⊥) → PairIn s w t x y → DoneAt s w p stamp t x y
done_else s w p stamp t x y shape acts lx other other' facts =
    let n = node s p.topic p.cluster in let r = shape_reaches s w p shape in let else_ = is_else s p t x y lx other' in
    moved x y (topic_at s w t x) _ (topic_at s w t y) _ (link_at w.links (Forward (node s t x) y)) _ (link_at w.links (Back (node s t x) y)).sent _
    (get_or-set_other w.brokers n (node s t x) _ no_broker (λ is. other (sym is))) (get_or-set_other w.brokers n (node s t y) _ no_broker (λ is. other' (sym is)))
    (taken_else p.takes (delivered (from_broker s p.topic p.cluster) stamp p.plan.sent w.links) (node s t x) y (acts_takes s w p (node s t x) y r acts else_)
    ∙ forward_else s p.topic p.cluster (node s t x) y stamp p.plan.sent w.links other)
    (back_kept s w p (node s t x) y stamp r else_) facts

-- an answer that goes back on the link of the pair
answer_back : (s : Setup) (t x i y stamp : ℕ) (near : List Entry) (cursor : List ℕ) (far : List Entry) (sent : List Packet) (u v : ℕ) (o : Out) (to : Peer) → OkOut far sent o
    → MayBack s t x i y (λ (l : Link). Carried u v near cursor far sent l.sent) stamp o to
answer_back s t x i y stamp near cursor far sent u v o (peer.Back z) ok = λ is e l c. carried_back u v near cursor far sent l.sent (stamped stamp o) (ok stamp) c
answer_back s t x i y stamp near cursor far sent u v o (peer.Forward z) ok = tt
answer_back s t x i y stamp near cursor far sent u v o (peer.Client c) ok = tt
answer_back s t x i y stamp near cursor far sent u v o (peer.Broker z) ok = tt

not_back : (s : Setup) (t x i y stamp : ℕ) (P : Link → Type 0) (o : Out) (to : Peer) → ElseBack s t i to → MayBack s t x i y P stamp o to
not_back s t x i y stamp P o (peer.Back v) h = λ is e. absurd (h is)
not_back s t x i y stamp P o (peer.Forward v) h = tt
not_back s t x i y stamp P o (peer.Client c) h = tt
not_back s t x i y stamp P o (peer.Broker v) h = tt

done_target : (s : Setup) (w : World) (p : Planned) (stamp x : ℕ) → AtTarget s w p x → p.plan.idle ≡ false → AllOnce w → Sized s w → IsThere s p.topic p.cluster
    → x < length s.clusters → (p.cluster ≡ x → ⊥) → PairIn s w p.topic x p.cluster → DoneAt s w p stamp p.topic x p.cluster
unfolding restart
done_target s w p stamp x (AtTarget.Aside others leaves takes sent) acts once z there lx other facts =
    let n = node s p.topic p.cluster in let i = node s p.topic x in let y = p.cluster in
    let b = topic_at s w p.topic p.cluster in let a = topic_at s w p.topic x in let f = link_at w.links (Forward i y) in
    let wide : x < length b.receivers = omega (arith, lx, (z.wide p.topic p.cluster there).receivers) in
    let ls = delivered (from_broker s p.topic p.cluster) stamp p.plan.sent w.links in
    let not_i : n ≡ i → ⊥ = apart s p.topic p.cluster x there.1 lx other in
    let P : Link → Type 0 = λ l. l.sent ≡ (link_at w.links (Back i y)).sent in
    let may = each_map (λ (o : Out). ElseBack s p.topic i o.to) (λ (o : Out). MayBack s p.topic y i y P stamp o o.to)
    (λ o h. not_back s p.topic y i y stamp P o o.to h) p.plan.sent sent in
    moved x y a _ (done s.per_ledger b p.plan) _ f _ (link_at w.links (Back i y)).sent _
    (get_or-set_other w.brokers n i _ no_broker (λ is. not_i (sym is))) (get_or-set_same w.brokers n _ no_broker (node_there s w p.topic p.cluster z there))
    (taken_else p.takes ls i y takes ∙ forward_else s p.topic p.cluster i y stamp p.plan.sent w.links not_i)
    (taken_back p.takes ls i y ∙ back_sent s p.topic p.cluster i y stamp P p.plan.sent w.links may refl)
    (there_aside x y s.per_ledger a b f (link_at w.links (Back i y)).sent p.plan wide others leaves facts)
done_target s w p stamp x (AtTarget.Nothing is) acts once z there lx other facts = absurd (false≢true (sym acts ∙ ap (λ (q : Plan). q.idle) is))
done_target s w p stamp x (AtTarget.Again is takes) acts once z there lx other facts =
    let n = node s p.topic p.cluster in let i = node s p.topic x in let y = p.cluster in
    let b = topic_at s w p.topic p.cluster in let a = topic_at s w p.topic x in let f = link_at w.links (Forward i y) in
    let not_i : n ≡ i → ⊥ = apart s p.topic p.cluster x there.1 lx other in
    let Q : Option LinkName → Plan → Type 0 = λ k q.
    PairAt s (slice_set w.brokers n (done s.per_ledger b q)) (taken_from k (delivered (from_broker s p.topic p.cluster) stamp q.sent w.links)) p.topic x y in
    let h : Q None restart =
    moved x y a _ (halted s.per_ledger b 0 idle_plan) _ f _ (link_at w.links (Back i y)).sent _
    (get_or-set_other w.brokers n i _ no_broker (λ e. not_i (sym e))) (get_or-set_same w.brokers n _ no_broker (node_there s w p.topic p.cluster z there)) refl refl
    (there_halted x y s.per_ledger 0 a b f f (link_at w.links (Back i y)).sent idle_plan tt refl facts.receiving.within facts) in
    subst (λ (k : Option LinkName). Q k p.plan) (sym takes) (subst (Q None) (sym is) h)
done_target s w p stamp x (AtTarget.Takes q next taken takes) acts once z there lx other facts =
    let n = node s p.topic p.cluster in let i = node s p.topic x in let y = p.cluster in
    let b = topic_at s w p.topic p.cluster in let a = topic_at s w p.topic x in let f = link_at w.links (Forward i y) in
    let b' = done s.per_ledger b p.plan in let cursor = (replicator_at a y).cursor in
    let wide : x < length b.receivers = omega (arith, lx, (z.wide p.topic p.cluster there).receivers) in
    let ls = delivered (from_broker s p.topic p.cluster) stamp p.plan.sent w.links in
    let not_i : n ≡ i → ⊥ = apart s p.topic p.cluster x there.1 lx other in
    let back = (link_at w.links (Back i y)).sent in
    let got : HasTaken x y a.entries cursor b'.entries (receiver_at b' x) f.sent back (f.taken + 1) p.plan.sent =
    taken_done x y (site s p.topic y) a b f back q p.plan (once i) wide next taken facts in
    let P : Link → Type 0 = λ l. Carried x y a.entries cursor b'.entries f.sent l.sent in
    let may = each_map (OkOut b'.entries f.sent) (λ (o : Out). MayBack s p.topic y i y P stamp o o.to)
    (λ o ok. answer_back s p.topic y i y stamp a.entries cursor b'.entries f.sent x y o o.to ok) p.plan.sent got.answers in
    let carried = back_sent s p.topic y i y stamp P p.plan.sent w.links may got.carried in
    let R : ℕ → Type 0 = λ m. Receiving (receiver_at b' x) b'.entries f.sent m in
    let in_sent = slice_get_within f.sent f.taken q next in
    let T : Option LinkName → Type 0 = λ k. link_at (taken_from k ls) (Forward i y) ≡ took f in
    let there_cell : HasCell ls.forward i y =
    sent_cells s p.topic p.cluster stamp p.plan.sent w.links i y (z.cells p.topic x y (there.0, lx) there.1) in
    moved x y a _ b' _ (took f) _ (link_at ls (Back i y)).sent _
    (get_or-set_other w.brokers n i _ no_broker (λ is. not_i (sym is))) (get_or-set_same w.brokers n _ no_broker (node_there s w p.topic p.cluster z there))
    (subst T (sym takes) (taken_here ls i y there_cell ∙ ap took (forward_else s p.topic p.cluster i y stamp p.plan.sent w.links not_i)))
    (taken_back p.takes ls i y)
    (record { carried = carried; session = facts.session; receiving = subst R (sym (min-eq_left (omega (arith, in_sent)))) got.receiving })

pub pair_does : (s : Setup) (w : World) (p : Planned) (t x y : ℕ) → Shape s w p → AllOnce w → Sized s w → t < length s.topics → ArePair s x y → PairIn s w t x y
    → PairIn s (broker_does s w p) t x y
unfolding broker_does
pair_does s w p t x y shape once z lt pair facts =
    on_test (λ (w' : World). PairIn s w' t x y) p.plan.idle _ _ (λ _. facts) (λ acts. by _ acts (role_of s p t x y (shape_within s w p shape) pair.0 pair.1))
  where
    within : p.cluster < length s.clusters
    within = shape_within s w p shape

    by : (stamp : ℕ) → p.plan.idle ≡ false → Role s p t x y → DoneAt s w p stamp t x y
    by stamp acts (Role.Source e f) =
        let G : ℕ → ℕ → Type 0 = λ t x. t < length s.topics → (x ≡ y → ⊥) → PairIn s w t x y → DoneAt s w p stamp t x y in
        let h : G p.topic p.cluster = λ lt other facts. done_source s w p stamp y shape acts z (lt, within) pair.1 other facts in
        (subst (λ (n : ℕ). G n x) (sym e) (subst (G p.topic) (sym f) h)) lt pair.2 facts
    by stamp acts (Role.Target e f) =
        let G : ℕ → ℕ → Type 0 = λ t y. t < length s.topics → (x ≡ y → ⊥) → PairIn s w t x y → DoneAt s w p stamp t x y in
        let h : G p.topic p.cluster = λ lt other facts.
        done_target s w p stamp x (target_role s w p shape x pair.0 (λ is. other (sym is))) acts once z (lt, within) pair.0 (λ is. other (sym is)) facts in
        (subst (λ (n : ℕ). G n y) (sym e) (subst (G p.topic) (sym f) h)) lt pair.2 facts
    by stamp acts (Role.Elsewhere other other') = done_else s w p stamp t x y shape acts pair.0 other other' facts
