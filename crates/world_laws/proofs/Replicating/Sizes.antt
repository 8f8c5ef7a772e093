-- How many brokers, links, replicators and receiving sides there are: as many as the setup says, at every moment.
use Rattle.std.proofs.Common.{◌≡◌, ℕ, ◌*◌, ◌<◌, List, [], length, map, refl, sym, ap, subst, ◌∙◌, arith}
use Rattle.std.specs.Prelude.{Some, None, replicate, slice_set, slice_index_or}
use Rattle.std.proofs.lemmas.List.{get_or-map, get_or-replicate, length-map, length-replicate, length-set}
use Rattle.std.proofs.lemmas.Nat.{mul-add-lt}
use Rattle.std.proofs.Math.Nat.{mul_comm}
use Rattle.geo_base.specs.Broker.{Broker, new_broker, no_broker}
use Rattle.geo_base.specs.Client.{Acted}
use Rattle.geo_base.specs.Happening.{all_discarded, broker_does, broker_halts, client_does, stops}
use Rattle.geo_base.specs.Link.{Link, discarded, no_link}
use Rattle.geo_base.specs.Plan.{done, halted}
use Rattle.geo_base.specs.Planned.{Planned}
use Rattle.geo_base.specs.Seeking.{restart}
use Rattle.geo_base.specs.Replicator.{new_replicator}
use Rattle.geo_base.specs.Setup.{Setup}
use Rattle.geo_base.specs.World.{Links, ToClient, World, broker_at, delivered, from_broker, node, opening_world, taken_from, topic_at}
use Rattle.world_laws.proofs.Replicating.Effects.{SameSize, done_size, halted_size}
use Rattle.world_laws.proofs.Induction.Frames.{at_set}
use Rattle.world_laws.proofs.Replicating.LinkFrames.{HasCell, client_forward, sent_cells, taken_cells}
use Rattle.world_laws.proofs.Induction.Runs.{IsKept}
use Rattle.world_laws.proofs.Walks.Walk.{on_if}

-- a broker has a replicator and a receiving side for each cluster
pub record IsWide (s : Setup) (b : Broker) : Type 0 where
  pub replicators : length b.replicators ≡ length s.clusters
  pub receivers : length b.receivers ≡ length s.clusters

-- a topic and its clusters are there
abbrev pub IsThere : Setup → ℕ → ℕ → Type 0
IsThere s t x = (t < length s.topics) × (x < length s.clusters)

pub record Sized (s : Setup) (w : World) : Type 0 where
  pub brokers : length w.brokers ≡ length s.topics * length s.clusters
  pub cells : (t x y : ℕ) → IsThere s t x → y < length s.clusters → HasCell w.links.forward (node s t x) y
  pub wide : (t x : ℕ) → IsThere s t x → IsWide s (topic_at s w t x)

-- the node of what is there
pub node_lt : (s : Setup) (t x : ℕ) → IsThere s t x → node s t x < length s.topics * length s.clusters
node_lt s t x h = let l = mul-add-lt t (length s.clusters) x (length s.topics) h.0 h.1 in let c = mul_comm (length s.topics) (length s.clusters) in omega (arith, l, c)

pub node_there : (s : Setup) (w : World) (t x : ℕ) → Sized s w → IsThere s t x → node s t x < length w.brokers
node_there s w t x z h = let l = node_lt s t x h in let b = z.brokers in omega (arith, l, b)

wide_kept : (s : Setup) (b b' : Broker) → SameSize b b' → IsWide s b → IsWide s b'
wide_kept s b b' same h = record { replicators = same.replicators ∙ h.replicators; receivers = same.receivers ∙ h.receivers }

-- a world with one broker changed, which is as wide as before
sized_set : (s : Setup) (w w' : World) (n : ℕ) (b : Broker) → w'.brokers ≡ slice_set w.brokers n b → SameSize (broker_at w n) b
    → ((t x y : ℕ) → IsThere s t x → y < length s.clusters → HasCell w'.links.forward (node s t x) y) → Sized s w → Sized s w'
sized_set s w w' n b is same cells z = record {
  brokers = ap (λ (bs : List Broker). length bs) is ∙ (length-set w.brokers n b ∙ z.brokers);
  cells = cells;
  wide = λ t x there.
      let P : List Broker → Type 0 = λ bs. IsWide s (slice_index_or bs (node s t x) no_broker) in
      let B : ℕ → Type 0 = λ k. IsWide s (broker_at w k) in
      subst P (sym is)
      (at_set (IsWide s) w.brokers n (node s t x) b no_broker (λ e. wide_kept s (broker_at w n) b same (subst B (sym e) (z.wide t x there))) (z.wide t x there));
}

sized_does : (s : Setup) (w : World) (p : Planned) → Sized s w → Sized s (broker_does s w p)
unfolding broker_does
sized_does s w p z =
    on_if (Sized s) p.plan.idle _ _ (record { brokers = z.brokers; cells = z.cells; wide = z.wide })
    (sized_set s w _ (node s p.topic p.cluster) (done s.per_ledger (broker_at w (node s p.topic p.cluster)) p.plan) refl
    (done_size s.per_ledger (broker_at w (node s p.topic p.cluster)) p.plan)
    (λ t x y there lt.
    taken_cells p.takes (delivered (from_broker s p.topic p.cluster) _ p.plan.sent w.links) (node s t x) y
    (sent_cells s p.topic p.cluster _ p.plan.sent w.links (node s t x) y (z.cells t x y there lt))) z)

sized_halts : (s : Setup) (w : World) (k : ℕ) (p : Planned) → Sized s w → Sized s (broker_halts s w k p)
unfolding broker_halts
sized_halts s w k p z =
    sized_set s w _ (node s p.topic p.cluster) (halted s.per_ledger (broker_at w (node s p.topic p.cluster)) k p.plan) refl
    (halted_size s.per_ledger (broker_at w (node s p.topic p.cluster)) k p.plan)
    (λ t x y there lt. taken_cells p.takes w.links (node s t x) y (z.cells t x y there lt)) z

-- the same brokers and forward links
sized_same : (s : Setup) (w w' : World) → w'.brokers ≡ w.brokers → w'.links.forward ≡ w.links.forward → Sized s w → Sized s w'
sized_same s w w' brokers forward z = record {
  brokers = ap (λ (bs : List Broker). length bs) brokers ∙ z.brokers;
  cells = λ t x y there lt.
      let P : List (List Link) → Type 0 = λ m. HasCell m (node s t x) y in subst P (sym forward) (z.cells t x y there lt);
  wide = λ t x there.
      let P : List Broker → Type 0 = λ bs. IsWide s (slice_index_or bs (node s t x) no_broker) in subst P (sym brokers) (z.wide t x there);
}

pub taken_client : (x c : ℕ) (ls : Links) → (taken_from (Some (ToClient c x)) ls).forward ≡ ls.forward
taken_client x c ls = refl

sized_goes : (s : Setup) (w : World) (c : ℕ) (a : Acted) → Sized s w → Sized s (client_does s w c None a)
unfolding client_does
sized_goes s w c a z = on_if (Sized s) a.idle _ _ (sized_same s w _ refl refl z) (sized_same s w _ refl (client_forward c _ a.sent w.links) z)

sized_gets : (s : Setup) (w : World) (c x : ℕ) (a : Acted) → Sized s w → Sized s (client_does s w c (Some (ToClient c x)) a)
unfolding client_does
sized_gets s w c x a z =
    on_if (Sized s) a.idle _ _ (sized_same s w _ refl refl z)
    (sized_same s w _ refl (client_forward c _ a.sent (taken_from (Some (ToClient c x)) w.links) ∙ taken_client x c w.links) z)

-- a table whose links are all discarded has its form
pub discarded_has : (m : List (List Link)) (i j : ℕ) → HasCell m i j → HasCell (all_discarded m) i j
discarded_has m i j h = record {
  row = let e = length-map m (λ (ls : List Link). map discarded ls) in omega (arith, e, h.row);
  column =
      let row = get_or-map (λ (ls : List Link). map discarded ls) m i [] [] h.row in
      let e = ap (λ (ls : List Link). length ls) row ∙ length-map (slice_index_or m i []) discarded in
      omega (arith, e, h.column);
}

-- each broker of a list changed
pub stopped_at : (bs : List Broker) (f : Broker → Broker) (n : ℕ) → n < length bs → slice_index_or (map f bs) n no_broker ≡ f (slice_index_or bs n no_broker)
stopped_at bs f n lt = get_or-map f bs n no_broker no_broker lt

sized_stops : (s : Setup) (w : World) → Sized s w → Sized s (stops s w)
unfolding stops
sized_stops s w z = record {
  brokers = length-map w.brokers _ ∙ z.brokers;
  cells = λ t x y there lt. discarded_has w.links.forward (node s t x) y (z.cells t x y there lt);
  wide = λ t x there.
      let g : Broker → Broker = λ b. done s.per_ledger b restart in
      subst (IsWide s) (sym (stopped_at w.brokers g (node s t x) (node_there s w t x z there)))
      (wide_kept s (topic_at s w t x) (g (topic_at s w t x)) (done_size s.per_ledger (topic_at s w t x) restart) (z.wide t x there));
}

sized_opening : (s : Setup) → Sized s (opening_world s)
sized_opening s = record {
  brokers = length-replicate (length s.topics * length s.clusters) _;
  cells = λ t x y there lt.
      let n = length s.clusters in
      let lt' = node_lt s t x there in
      record {
        row = let e = length-replicate (length s.topics * n) (replicate n no_link) in omega (arith, e, lt');
        column =
            let row = get_or-replicate (length s.topics * n) (node s t x) (replicate n no_link) [] lt' in
            let e = ap (λ (ls : List Link). length ls) row ∙ length-replicate n no_link in
            omega (arith, e, lt);
      };
  wide = λ t x there.
      let n = length s.clusters in
      subst (IsWide s) (sym (get_or-replicate (length s.topics * n) (node s t x) (new_broker n (length s.clients)) no_broker (node_lt s t x there)))
      (record { replicators = length-replicate n new_replicator; receivers = length-replicate n None });
}

pub sized_kept : (s : Setup) → IsKept s (Sized s)
sized_kept s = record {
  opening = sized_opening s;
  idle = λ w n z. sized_same s w _ refl refl z;
  round = λ w n z. sized_same s w _ refl refl z;
  does = λ w p shape z. sized_does s w p z;
  halts = λ w k p shape z. sized_halts s w k p z;
  goes = sized_goes s;
  gets = sized_gets s;
  stop = sized_stops s;
}
