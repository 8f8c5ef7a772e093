-- What comes back on a link is of a session that its replicator began, of no later one: so it is in every world of every run.
use Rattle.std.proofs.Common.{◌≡◌, ℕ, zero, suc, ◌+◌, ◌*◌, ◌<◌, ◌≤◌, true, List, [], ◌∷◌, length, map, refl, sym, ap, subst, ◌∙◌, ◌==◌, arith, length-append}
use Rattle.std.specs.Prelude.{Option, Some, None, nat_lt, replicate, slice_index_or, slice_set, take}
use Rattle.std.specs.Str.{bytes_eq}
use Rattle.std.proofs.lemmas.Bool.{eqb-true, ltb-true}
use Rattle.std.proofs.lemmas.List.{get_or-replicate, length-replicate}
use Rattle.std.proofs.lemmas.Option.{none-some}
use Rattle.world_laws.proofs.Types.{Change, Out, Packet, Peer}
use Rattle.world_laws.proofs.Types.change
use Rattle.world_laws.proofs.Types.peer
use Rattle.world_laws.proofs.Types.write
use Rattle.geo_base.specs.Broker.{Broker, Site, no_broker, replicator_at}
use Rattle.geo_base.specs.Client.{Acted}
use Rattle.geo_base.specs.Forwarding.{closes, resets}
use Rattle.geo_base.specs.Happening.{broker_does, broker_halts, client_does, stops}
use Rattle.geo_base.specs.Laws.{ArePair}
use Rattle.geo_base.specs.Link.{Link, discarded, no_link, took}
use Rattle.geo_base.specs.Plan.{Plan, done, halted}
use Rattle.geo_base.specs.Planned.{Planned, has_pair}
use Rattle.geo_base.specs.Seeking.{restart}
use Rattle.geo_base.specs.Replicator.{Replicator}
use Rattle.geo_base.specs.Setup.{Setup, declared_at}
use Rattle.geo_base.specs.World.{Back, Forward, LinkName, Links, ToBroker, ToClient, World, cell, delivered, from_broker, link_at, node, opening_world, site, stamped, taken_from, topic_at}
use Rattle.world_laws.proofs.Replicating.Effects.{Each, done_replicator, each_both, each_map, each_take, halted_replicator, replicator_after, replicator_changed, replicator_then}
use Rattle.world_laws.proofs.Walks.EventWalk.{of_node, of_pair, of_target}
use Rattle.world_laws.proofs.Induction.Frames.{at_set, cell_set}
use Rattle.world_laws.proofs.Induction.Layers.{KeptWith}
use Rattle.world_laws.proofs.Replicating.LinkFrames.{HasCell, MayBack, back_sent, client_back, same_node}
use Rattle.world_laws.proofs.Merges.LinkTables.{delivered_has, taken_has}
use Rattle.world_laws.proofs.Replicating.PairEvents.{source_role}
use Rattle.world_laws.proofs.Replicating.PairRoles.{AtSource, shape_within}
use Rattle.world_laws.proofs.Replicating.Pairs.{Replicates, discarded_cell, empty_cell}
use Rattle.world_laws.proofs.Replicating.Reach.{Outgoing, OutgoingOut, OutgoingPeer, fated_quiet, offers_out, reads_out, seeks_out, served_out, snaps_out}
use Rattle.world_laws.proofs.Replicating.ReplicatorEvents.{chosen, reset_replicator}
use Rattle.world_laws.proofs.Replicating.ReplicatorSide.{OkWrite, all_ok_written, none_written}
use Rattle.world_laws.proofs.Walks.Shapes.{Fated, Shape, Taken}
use Rattle.world_laws.proofs.Replicating.Sizes.{IsThere, discarded_has, node_lt, node_there, stopped_at}
use Rattle.world_laws.proofs.ComesOver.Waiting.{AllSent, one_sent}
use Rattle.world_laws.proofs.Walks.Walk.{left, on_if, right}

-- of a link, whose replicator's session has a number: nothing later was sent on it, and no more is taken than was sent
pub record BackAt (m : ℕ) (k : Link) : Type 0 where
  pub bounded : AllSent (λ u. u.session ≤ m) k
  pub within : k.taken ≤ length k.sent

abbrev pub number_of : Setup → List Broker → ℕ → ℕ → ℕ → ℕ
number_of s bs t x y = (replicator_at (slice_index_or bs (node s t x) no_broker) y).session

abbrev pub number_at : Setup → World → ℕ → ℕ → ℕ → ℕ
number_at s w t x y = number_of s w.brokers t x y

-- of all pairs, of lists of brokers and tables of links
pub record BacksOf (s : Setup) (bs : List Broker) (ls : Links) : Type 0 where
  pub cells : (t x y : ℕ) → IsThere s t x → y < length s.clusters → HasCell ls.back (node s t x) y
  pub links : (t x y : ℕ) → t < length s.topics → ArePair s x y → BackAt (number_of s bs t x y) (link_at ls (Back (node s t x) y))

abbrev pub Backs : Setup → World → Type 0
Backs s w = BacksOf s w.brokers w.links

-- SESSIONS

-- no change turns a session's number
number_changed : (y : ℕ) (s : Replicator) (c : Change) → (replicator_changed y s c).session ≡ s.session
number_changed y s (change.Opening z) = on_if (λ (t : Replicator). t.session ≡ s.session) (z == y) _ _ refl refl
number_changed y s (change.Opened z) = on_if (λ (t : Replicator). t.session ≡ s.session) (z == y) _ _ refl refl
number_changed y s (change.Pend z i) = on_if (λ (t : Replicator). t.session ≡ s.session) (z == y) _ _ refl refl
number_changed y s (change.ReadTo z i) = on_if (λ (t : Replicator). t.session ≡ s.session) (z == y) _ _ refl refl
number_changed y s (change.Unpend z n) = on_if (λ (t : Replicator). t.session ≡ s.session) (z == y) _ _ refl refl
number_changed y s change.Forget = refl
number_changed y s c = refl

number_then : (y : ℕ) (s : Replicator) (cs : List Change) → (replicator_then y s cs).session ≡ s.session
number_then y s [] = refl
number_then y s (c ∷ cs) = number_then y (replicator_changed y s c) cs ∙ number_changed y s c

-- nor does a write, but for that of a reset
source_rises : (x y per : ℕ) (a b : Broker) (f : Link) (back : List Packet) (p : Plan) → y < length a.replicators → AtSource x y per a b f back p
    → (replicator_at a y).session ≤ (replicator_at (done per a p) y).session
source_rises x y per a b f back p lt (AtSource.Works ok does) =
    let s = replicator_at a y in
    let w = all_ok_written x y a.entries b.entries s a.entries s p.writes ok (none_written x y a.entries b.entries s) in
    let e = ap (λ (t : Replicator). t.session) (done_replicator per a y p lt) ∙ (number_then y (replicator_after y s p.writes) p.changes ∙ ap (λ (t : Replicator). t.session) w.rest) in
    omega (arith, e)
source_rises x y per a b f back p lt (AtSource.Resets h is) =
    let s = replicator_at a y in
    let n = s.session + 1 in
    let P : Plan → Type 0 = λ q. s.session ≤ (replicator_at (done per a q) y).session in
    let e = ap (λ (t : Replicator). t.session) (done_replicator per a y (resets h y n) lt ∙ reset_replicator y n s) in subst P (sym is) (omega (arith, e))

halt_rises : (x y per k : ℕ) (a b : Broker) (f : Link) (back : List Packet) (p : Plan) → y < length a.replicators → AtSource x y per a b f back p
    → (replicator_at a y).session ≤ (replicator_at (halted per a k p) y).session
halt_rises x y per k a b f back p lt (AtSource.Works ok does) =
    let s = replicator_at a y in
    let w = all_ok_written x y a.entries b.entries s a.entries s (take k p.writes) (each_take (OkWrite x y a.entries b.entries) k p.writes ok)
    (none_written x y a.entries b.entries s) in
    let e = ap (λ (t : Replicator). t.session) (halted_replicator per a y k p lt) ∙ ap (λ (t : Replicator). t.session) w.rest in
    omega (arith, e)
halt_rises x y per k a b f back p lt (AtSource.Resets h is) =
    let s = replicator_at a y in
    let n = s.session + 1 in
    let P : Plan → Type 0 = λ q. s.session ≤ (replicator_at (halted per a k q) y).session in
    let e = ap (λ (t : Replicator). t.session) (halted_replicator per a y k (resets h y n) lt) in
    let le = by k s n in
    subst P (sym is) (omega (arith, e, le))
  where
    by : (k : ℕ) (s : Replicator) (n : ℕ) → s.session ≤ (replicator_after y s (take k (write.SessionNumber y (s.session + 1) ∷ []))).session
    by zero s n = omega arith
    by (suc zero) s n = let e = ap (λ (t : Replicator). t.session) (chosen y (record s { session = s.session + 1 }) s) in omega (arith, e)
    by (suc (suc k)) s n = let e = ap (λ (t : Replicator). t.session) (chosen y (record s { session = s.session + 1 }) s) in omega (arith, e)

done_rises : (s : Setup) (w : World) (p : Planned) (y : ℕ) → Shape s w p → Replicates s w → p.topic < length s.topics → ArePair s p.cluster y
    → number_at s w p.topic p.cluster y ≤ (replicator_at (done s.per_ledger (topic_at s w p.topic p.cluster) p.plan) y).session
done_rises s w p y shape r lt pair =
    let a = topic_at s w p.topic p.cluster in
    let wide : y < length a.replicators = omega (arith, pair.1, (r.sized.wide p.topic p.cluster (lt, pair.0)).replicators) in
    source_rises p.cluster y s.per_ledger a (topic_at s w p.topic y) _ _ p.plan wide
    (source_role s w p shape y pair.2 wide (r.pairs p.topic p.cluster y lt pair))

halted_rises : (s : Setup) (w : World) (k : ℕ) (p : Planned) (y : ℕ) → Shape s w p → Replicates s w → p.topic < length s.topics → ArePair s p.cluster y
    → number_at s w p.topic p.cluster y ≤ (replicator_at (halted s.per_ledger (topic_at s w p.topic p.cluster) k p.plan) y).session
halted_rises s w k p y shape r lt pair =
    let a = topic_at s w p.topic p.cluster in
    let wide : y < length a.replicators = omega (arith, pair.1, (r.sized.wide p.topic p.cluster (lt, pair.0)).replicators) in
    halt_rises p.cluster y s.per_ledger k a (topic_at s w p.topic y) _ _ p.plan wide
    (source_role s w p shape y pair.2 wide (r.pairs p.topic p.cluster y lt pair))

-- one broker is new
node_rises : (s : Setup) (w : World) (p : Planned) (b : Broker) (t x y : ℕ) → p.cluster < length s.clusters → t < length s.topics → ArePair s x y
    → (p.topic < length s.topics → ArePair s p.cluster y → number_at s w p.topic p.cluster y ≤ (replicator_at b y).session)
    → number_at s w t x y ≤ (replicator_at (slice_index_or (slice_set w.brokers (node s p.topic p.cluster) b) (node s t x) no_broker) y).session
node_rises s w p b t x y within lt pair h =
    at_set (λ (c : Broker). number_at s w t x y ≤ (replicator_at c y).session) w.brokers (node s p.topic p.cluster) (node s t x) b no_broker
    (λ is.
    let same = same_node s p.topic t p.cluster x within pair.0 is in
    let G : ℕ → ℕ → Type 0 = λ u v. u < length s.topics → ArePair s v y → number_at s w u v y ≤ (replicator_at b y).session in
    (subst (λ (u : ℕ). G u x) same.0 (subst (G p.topic) same.1 h)) lt pair)
    (omega arith)

-- ANSWERS

-- what goes back is of a session that its replicator began
abbrev BoundedOut : Setup → World → ℕ → ℕ → Out → Peer → Type 0
BoundedOut s w t c o (peer.Back v) = (v < length s.clusters) × ((v ≡ c → ⊥) → o.session ≤ number_at s w t v c)
BoundedOut s w t c o to = Unit {0}

abbrev AllBounded : Setup → World → ℕ → ℕ → Plan → Type 0
AllBounded s w t c p = Each (λ (o : Out). BoundedOut s w t c o o.to) p.sent

out_bounded : (s : Setup) (w : World) (t c z : ℕ) (o : Out) (to : Peer) → OutgoingPeer z to → BoundedOut s w t c o to
out_bounded s w t c z o (peer.Back v) h = absurd h
out_bounded s w t c z o (peer.Forward v) h = tt
out_bounded s w t c z o (peer.Client k) h = tt
out_bounded s w t c z o (peer.Broker v) h = tt

outgoing_bounded : (s : Setup) (w : World) (t c own z : ℕ) (p : Plan) → Outgoing own z p → AllBounded s w t c p
outgoing_bounded s w t c own z p o = each_map (OutgoingOut z) (λ (o : Out). BoundedOut s w t c o o.to) (λ o h. out_bounded s w t c z o o.to h) p.sent o.sent

taken_bounded : (s : Setup) (w : World) (t c : ℕ) (h : Site) (b : Broker) (x : ℕ) (p : Packet) (q : Plan) → x < length s.clusters
    → ((x ≡ c → ⊥) → p.session ≤ number_at s w t x c) → Taken h b x p q → AllBounded s w t c q
taken_bounded s w t c h b x p q lt le (Taken.Unreadable is) = tt
taken_bounded s w t c h b x p q lt le (Taken.Opens topic id request name is opening) =
    let same = eqb-true id p.session (right (bytes_eq topic h.topic) (id == p.session) opening) in
    ((lt, λ other. let l = le other in omega (arith, l, same)), tt)
taken_bounded s w t c h b x p q lt le (Taken.Discards other shut) = tt
taken_bounded s w t c h b x p q lt le (Taken.Refuses other at may) = tt
taken_bounded s w t c h b x p q lt le (Taken.Stores id seq source e is at may new) = ((lt, le), tt)
taken_bounded s w t c h b x p q lt le (Taken.Repeats id seq source e is at may old) = ((lt, le), tt)

fated_bounded : (s : Setup) (w : World) (t c per : ℕ) (h : Site) (b : Broker) (x : ℕ) (p : Packet) (q : Plan) → x < length s.clusters
    → ((x ≡ c → ⊥) → p.session ≤ number_at s w t x c) → Fated per b (λ d. Taken h d x p) (closes x) q → AllBounded s w t c q
fated_bounded s w t c per h b x p q lt le (Fated.Once r taken) = taken_bounded s w t c h b x p r lt le taken
fated_bounded s w t c per h b x p q lt le Fated.Lost = tt
fated_bounded s w t c per h b x p q lt le (Fated.Twice r r' taken taken') =
    each_both (λ (o : Out). BoundedOut s w t c o o.to) r.sent r'.sent (taken_bounded s w t c h b x p r lt le taken) (taken_bounded s w t c h _ x p r' lt le taken')

topic_lt : (s : Setup) (t x y : ℕ) → has_pair s t x y ≡ true → t < length s.topics
topic_lt s t x y within =
    ltb-true t (length s.topics) (left (nat_lt t (length s.topics)) (nat_lt x (length s.clusters)) (of_pair s t x y within))

shape_bounded : (s : Setup) (w : World) (p : Planned) → Shape s w p → Replicates s w → AllBounded s w p.topic p.cluster p.plan
unfolding restart
shape_bounded s w p (Shape.Idle t x within) r = tt
shape_bounded s w p (Shape.Empty t x k within next) r = tt
shape_bounded s w p (Shape.Serve x c q plan within next served) r =
    outgoing_bounded s w _ x x x plan (served_out (site s (declared_at s c).topic x) _ c q x plan served)
shape_bounded s w p (Shape.Drop x c v within at) r = tt
shape_bounded s w p (Shape.Reset t x y within remote) r = (tt, tt)
shape_bounded s w p (Shape.Read t x y plan within reads) r = outgoing_bounded s w t x x y plan (reads_out (site s t x) _ y plan reads)
shape_bounded s w p (Shape.Take t x y q plan within next taken) r =
    let lx = ltb-true _ _ (of_node s t x (of_pair s t x y within)) in
    let ly = ltb-true _ _ (of_target s t x y within) in
    fated_bounded s w t y s.per_ledger (site s t y) _ x q plan lx
    (λ other. (r.pairs t x y (topic_lt s t x y within) (lx, ly, other)).session.bounded (link_at w.links (Forward (node s t x) y)).taken q next) taken
shape_bounded s w p (Shape.Receipt t x y q plan within next answered) r =
    subst (λ (os : List Out). Each (λ (o : Out). BoundedOut s w t x o o.to) os) (sym (fated_quiet s.per_ledger _ y q plan answered)) tt
shape_bounded s w p (Shape.Snap t x plan within snaps) r = outgoing_bounded s w t x x x plan (snaps_out (site s t x) _ x plan snaps)
shape_bounded s w p (Shape.Offer t x n plan within offers) r = outgoing_bounded s w t x x x plan (offers_out (site s t x) _ _ x plan offers)
shape_bounded s w p (Shape.Seek t x n to plan within seeks) r = outgoing_bounded s w t x x x plan (seeks_out (site s t x) _ _ to x plan seeks)
shape_bounded s w p (Shape.Restart t x within) r = tt

-- LINKS

took_bounded : (m : ℕ) (k : Link) → BackAt m k → BackAt m (took k)
took_bounded m k h = record { bounded = h.bounded; within = omega arith }

taken_keeps : (P : Link → Type 0) (o : Option LinkName) (ls : Links) (i y : ℕ) → ((l : Link) → P l → P (took l)) → P (link_at ls (Back i y))
    → P (link_at (taken_from o ls) (Back i y))
taken_keeps P None ls i y keeps p = p
taken_keeps P (Some (Forward a b)) ls i y keeps p = p
taken_keeps P (Some (Back a b)) ls i y keeps p =
    let C : ℕ → ℕ → Type 0 = λ u v. P (took (cell ls.back u v)) in
    cell_set P ls.back a b (took (cell ls.back a b)) i y (λ h k. subst (λ (u : ℕ). C u b) (sym h) (subst (C i) (sym k) (keeps (cell ls.back i y) p))) p
taken_keeps P (Some (ToBroker a b)) ls i y keeps p = p
taken_keeps P (Some (ToClient a b)) ls i y keeps p = p

may_back : (s : Setup) (w : World) (t c u x y stamp m : ℕ) (o : Out) (to : Peer) → ArePair s x y → number_at s w u x y ≤ m → BoundedOut s w t c o to
    → MayBack s t c (node s u x) y (BackAt m) stamp o to
may_back s w t c u x y stamp m o (peer.Back v) pair le h = λ is at l b.
    let same = same_node s t u v x h.0 pair.0 is in
    let G : ℕ → ℕ → ℕ → Type 0 = λ t v c. (v ≡ c → ⊥) → o.session ≤ number_at s w t v c in
    let one : G u x y = subst (λ (n : ℕ). G u x n) at (subst (λ (n : ℕ). G u n c) same.1 (subst (λ (n : ℕ). G n v c) same.0 h.1)) in
    let low = one pair.2 in
    record {
      bounded = one_sent (λ q. q.session ≤ m) l (stamped stamp o) (omega (arith, low, le)) b.bounded;
      within = let e = length-append l.sent (stamped stamp o ∷ []) in let k = b.within in omega (arith, e, k);
    }
may_back s w t c u x y stamp m o (peer.Forward v) pair le h = tt
may_back s w t c u x y stamp m o (peer.Client k) pair le h = tt
may_back s w t c u x y stamp m o (peer.Broker v) pair le h = tt

more_bounded : (m n : ℕ) (k : Link) → m ≤ n → BackAt m k → BackAt n k
more_bounded m n k le h = record { bounded = λ i u at. let b = h.bounded i u at in omega (arith, b, le); within = h.within }

-- EVENTS

backs_does : (s : Setup) (w : World) (p : Planned) → Shape s w p → Replicates s w → Backs s w → Backs s (broker_does s w p)
unfolding broker_does
backs_does s w p shape r h = on_if (Backs s) p.plan.idle _ _ h (acts _)
  where
    b : Broker
    b = done s.per_ledger (topic_at s w p.topic p.cluster) p.plan

    acts : (stamp : ℕ)
        → BacksOf s (slice_set w.brokers (node s p.topic p.cluster) b) (taken_from p.takes (delivered (from_broker s p.topic p.cluster) stamp p.plan.sent w.links))
    acts stamp = record {
      cells = λ t x y there lt.
          taken_has p.takes (delivered (from_broker s p.topic p.cluster) stamp p.plan.sent w.links) (Back (node s t x) y)
          (delivered_has (from_broker s p.topic p.cluster) stamp p.plan.sent w.links (Back (node s t x) y) (h.cells t x y there lt));
      links = λ t x y lt pair.
          let n = (replicator_at (slice_index_or (slice_set w.brokers (node s p.topic p.cluster) b) (node s t x) no_broker) y).session in
          let le = node_rises s w p b t x y (shape_within s w p shape) lt pair (λ lt pair. done_rises s w p y shape r lt pair) in
          taken_keeps (BackAt n) p.takes (delivered (from_broker s p.topic p.cluster) stamp p.plan.sent w.links) (node s t x) y (took_bounded n)
          (back_sent s p.topic p.cluster (node s t x) y stamp (BackAt n) p.plan.sent w.links
          (each_map (λ (o : Out). BoundedOut s w p.topic p.cluster o o.to) (λ (o : Out). MayBack s p.topic p.cluster (node s t x) y (BackAt n) stamp o o.to)
          (λ o bounded. may_back s w p.topic p.cluster t x y stamp n o o.to pair le bounded) p.plan.sent (shape_bounded s w p shape r))
          (more_bounded (number_at s w t x y) n (link_at w.links (Back (node s t x) y)) le (h.links t x y lt pair)));
    }

backs_halts : (s : Setup) (w : World) (k : ℕ) (p : Planned) → Shape s w p → Replicates s w → Backs s w → Backs s (broker_halts s w k p)
unfolding broker_halts
backs_halts s w k p shape r h = record {
  cells = λ t x y there lt. taken_has p.takes w.links (Back (node s t x) y) (h.cells t x y there lt);
  links = λ t x y lt pair.
      let b = halted s.per_ledger (topic_at s w p.topic p.cluster) k p.plan in
      let n = (replicator_at (slice_index_or (slice_set w.brokers (node s p.topic p.cluster) b) (node s t x) no_broker) y).session in
      let le = node_rises s w p b t x y (shape_within s w p shape) lt pair (λ lt pair. halted_rises s w k p y shape r lt pair) in
      taken_keeps (BackAt n) p.takes w.links (node s t x) y (took_bounded n)
      (more_bounded (number_at s w t x y) n (link_at w.links (Back (node s t x) y)) le (h.links t x y lt pair));
}

-- the same back links
backs_same : (s : Setup) (bs : List Broker) (ls ls' : Links) → ls'.back ≡ ls.back → BacksOf s bs ls → BacksOf s bs ls'
backs_same s bs ls ls' back h = record {
  cells = λ t x y there lt. let P : List (List Link) → Type 0 = λ m. HasCell m (node s t x) y in subst P (sym back) (h.cells t x y there lt);
  links = λ t x y lt pair.
      let P : List (List Link) → Type 0 = λ m. BackAt (number_of s bs t x y) (cell m (node s t x) y) in subst P (sym back) (h.links t x y lt pair);
}

backs_client : (s : Setup) (w : World) (c : ℕ) (k : Option LinkName) (a : Acted) → (taken_from k w.links).back ≡ w.links.back → Backs s w → Backs s (client_does s w c k a)
unfolding client_does
backs_client s w c k a same h =
    on_if (Backs s) a.idle _ _ h (backs_same s w.brokers w.links _ (client_back c _ a.sent (taken_from k w.links) ∙ same) h)

backs_stops : (s : Setup) (w : World) → Replicates s w → Backs s w → Backs s (stops s w)
unfolding stops restart
backs_stops s w r h = record {
  cells = λ t x y there lt. discarded_has w.links.back (node s t x) y (h.cells t x y there lt);
  links = λ t x y lt pair.
      let a = topic_at s w t x in
      let wide : y < length a.replicators = omega (arith, pair.1, (r.sized.wide t x (lt, pair.0)).replicators) in
      let e = ap (λ (b : Broker). (replicator_at b y).session) (stopped_at w.brokers (λ b. done s.per_ledger b restart) (node s t x) (node_there s w t x r.sized (lt, pair.0)))
      ∙ ap (λ (t : Replicator). t.session) (done_replicator s.per_ledger a y restart wide) in
      let n = (replicator_at (slice_index_or (map (λ (b : Broker). done s.per_ledger b restart) w.brokers) (node s t x) no_broker) y).session in
      subst (λ (l : Link). BackAt n l) (sym (discarded_cell w.links.back (node s t x) y))
      (more_bounded (number_at s w t x y) n (discarded (link_at w.links (Back (node s t x) y))) (omega (arith, e))
      (record { bounded = (h.links t x y lt pair).bounded; within = omega arith }));
}

backs_opening : (s : Setup) → Backs s (opening_world s)
backs_opening s = record {
  cells = λ t x y there lt.
      let n = length s.clusters in
      let lt' = node_lt s t x there in
      record {
        row = let e = length-replicate (length s.topics * n) (replicate n no_link) in omega (arith, e, lt');
        column =
            let row = get_or-replicate (length s.topics * n) (node s t x) (replicate n no_link) [] lt' in
            let e = ap (λ (ls : List Link). length ls) row ∙ length-replicate n no_link in
            omega (arith, e, lt);
      };
  links = λ t x y lt pair.
      subst (λ (l : Link). BackAt (number_at s (opening_world s) t x y) l) (sym (empty_cell (length s.topics * length s.clusters) (length s.clusters) (node s t x) y))
      (record { bounded = λ i u at. absurd (none-some u at); within = omega arith });
}

pub backs_kept : (s : Setup) → KeptWith s (Replicates s) (Backs s)
backs_kept s = record {
  opening = backs_opening s;
  idle = λ w n r h. h;
  round = λ w n r h. h;
  does = λ w p shape r r' h. backs_does s w p shape r h;
  halts = λ w k p shape r r' h. backs_halts s w k p shape r h;
  goes = λ w c a r r' h. backs_client s w c None a refl h;
  gets = λ w c x a r r' h. backs_client s w c (Some (ToClient c x)) a refl h;
  stop = λ w r r' h. backs_stops s w r h;
}
