-- One event of the world: what is told of it, read by who kept the world before, gives the world after it.
use Rattle.std.proofs.Common.{◌≡◌, ℕ, zero, suc, ◌+◌, ◌*◌, ◌%◌, ◌<◌, ◌≤◌, Bool, true, false, List, [], ◌∷◌, length, refl, sym, ap, subst, ◌∙◌, inl, inr, ◌⊎◌, arith}
use Rattle.std.specs.Prelude.{Option, Some, None, if◌then◌else◌, slice_index, slice_index_or, slice_set}
use Rattle.std.proofs.lemmas.Bool.{cases_lt}
use Rattle.std.proofs.lemmas.List.{get_or-set_same, set_past}
use Rattle.std.proofs.lemmas.Option.{none-some, same_Some}
use Rattle.std.proofs.Math.Nat.{mod-eq_of_lt, mul-add-mod_self_right}
use Rattle.world_laws.proofs.Types.{Event}
use Rattle.world_laws.proofs.Types.event
use Rattle.geo_base.specs.Broker.{Broker, no_broker}
use Rattle.geo_base.specs.Client.{Acted, Client, new_client}
use Rattle.geo_base.specs.Happening.{broker_does, broker_halts, client_does, does_planned, halts_planned, happens, next_stamp}
use Rattle.geo_base.specs.FrameSizes.{sent_bytes}
use Rattle.geo_base.specs.Link.{next_packet}
use Rattle.geo_base.specs.Nodes.{BrokerNode, ClientNode, Node, node_of}
use Rattle.geo_base.specs.Plan.{done, halted}
use Rattle.geo_base.specs.Planned.{Planned, has_client, in_range, planned}
use Rattle.geo_base.specs.Setup.{Setup, declared_at}
use Rattle.geo_base.specs.World.{LinkName, ToClient, World, broker_at, client_at, delivered, from_broker, from_client, link_at, node, packet_at, taken_from, topic_at}
use Rattle.world_laws.proofs.Replicating.Effects.{Each}
use Rattle.world_laws.proofs.Replicating.PairRoles.{shape_within}
use Rattle.world_laws.proofs.Walks.EventWalk.{HasShape, planned_shape}
use Rattle.world_laws.proofs.Walks.Shapes.{Shape}
use Rattle.world_laws.proofs.Walks.Walk.{on_if, on_test}
use Rattle.step_laws.specs.Steps.{broker_changes, changed_at, client_changes}
use Rattle.step_laws.specs.StepsFold.{KeptBroker, KeptClient, broker_reads_all, client_reads_all, kept_broker, kept_brokers, kept_client, kept_clients, kept_of, no_broker_kept, no_client_kept, reads_changed}
use Rattle.step_laws.proofs.Kept.{broker_place, broker_set, brokers_length, client_place, client_set, clients_length, reads_broker, reads_client}
use Rattle.step_laws.proofs.Naming.{plans_name_once}
use Rattle.step_laws.proofs.Nodes.{GoesOn, GotMore, Sound, acted_got, broker_folds, client_folds, done_goes, done_sound, halted_goes, halted_sound}

-- what a run keeps, from where it begins
pub record Begun (s : Setup) (w : World) : Type 0 where
  pub brokers : length w.brokers ≡ length s.topics * length s.clusters
  pub clients : length w.clients ≡ length s.clients
  pub each : Each (Sound (length s.clusters)) w.brokers

pub each_at : {X : Type 0} (P : X → Type 0) (xs : List X) (n : ℕ) (d : X) → Each P xs → n < length xs → P (slice_index_or xs n d)
each_at P [] n d h lt = absurd (omega (arith, lt))
each_at P (x ∷ xs) zero d h lt = h.0
each_at P (x ∷ xs) (suc n) d h lt = each_at P xs n d h.1 (omega (arith, lt))

pub each_set : {X : Type 0} (P : X → Type 0) (xs : List X) (n : ℕ) (y : X) → Each P xs → (n < length xs → P y) → Each P (slice_set xs n y)
each_set P [] n y h new = tt
each_set P (x ∷ xs) zero y h new = (new (omega arith), h.1)
each_set P (x ∷ xs) (suc n) y h new = (h.0, each_set P xs n y h.1 (λ lt. new (omega (arith, lt))))

-- ---- one broker, one client

pub number_of : (s : Setup) (t x : ℕ) → x < length s.clusters → (0 + node s t x) % length s.clusters ≡ x
number_of s t x lt =
    let none : 0 + node s t x ≡ node s t x = omega arith in
    ap (λ (n : ℕ). n % length s.clusters) none ∙ mul-add-mod_self_right t (length s.clusters) x ∙ mod-eq_of_lt lt

-- v is w but for the broker of topic t at x, which is a there
pub broker_told : (s : Setup) (w v : World) (t x : ℕ) (a : Broker) → Begun s w → x < length s.clusters → v.brokers ≡ slice_set w.brokers (node s t x) a → v.clients ≡ w.clients
    → (Sound (length s.clusters) (topic_at s w t x) → Sound (length s.clusters) a) → (Sound (length s.clusters) (topic_at s w t x) → GoesOn (topic_at s w t x) a)
    → reads_changed s (kept_of s w) (changed_at s w v (BrokerNode t x)) ≡ kept_of s v
broker_told s w v t x a h lt set same sound on = by (cases_lt (node s t x) (length w.brokers))
  where
    n : ℕ
    n = node s t x

    b : Broker
    b = topic_at s w t x

    read : List KeptBroker
    read = slice_set (kept_brokers s 0 w.brokers) n (broker_reads_all (slice_index_or (kept_brokers s 0 w.brokers) n no_broker_kept) (broker_changes s.clusters x b (topic_at s v t x)))

    so : read ≡ kept_brokers s 0 v.brokers → reads_changed s (kept_of s w) (changed_at s w v (BrokerNode t x)) ≡ kept_of s v
    so e =
        reads_broker s (kept_of s w) t x (broker_changes s.clusters x b (topic_at s v t x))
        ∙ ap (λ (bs : List KeptBroker). record { brokers = bs; clients = kept_clients s 0 w.clients }) e
        ∙ ap (λ (ks : List Client). record { brokers = kept_brokers s 0 v.brokers; clients = kept_clients s 0 ks }) (sym same)

    by : (n < length w.brokers) ⊎ (length w.brokers ≤ n) → reads_changed s (kept_of s w) (changed_at s w v (BrokerNode t x)) ≡ kept_of s v
    by (inl there) =
        let now : topic_at s v t x ≡ a = ap (λ (bs : List Broker). slice_index_or bs n no_broker) set ∙ get_or-set_same w.brokers n a no_broker there in
        let old : slice_index_or (kept_brokers s 0 w.brokers) n no_broker_kept ≡ kept_broker s x b =
        broker_place s 0 n w.brokers there ∙ ap (λ (m : ℕ). kept_broker s m b) (number_of s t x lt) in
        let was : Sound (length s.clusters) b = each_at (Sound (length s.clusters)) w.brokers n no_broker h.each there in
        so (
        ap (λ (k : KeptBroker). slice_set (kept_brokers s 0 w.brokers) n (broker_reads_all k (broker_changes s.clusters x b (topic_at s v t x)))) old
        ∙ ap (λ (c : Broker). slice_set (kept_brokers s 0 w.brokers) n (broker_reads_all (kept_broker s x b) (broker_changes s.clusters x b c))) now
        ∙ ap (slice_set (kept_brokers s 0 w.brokers) n) (broker_folds s x b a was.apart (sound was).apart (on was))
        ∙ ap (λ (m : ℕ). slice_set (kept_brokers s 0 w.brokers) n (kept_broker s m a)) (sym (number_of s t x lt))
        ∙ broker_set s 0 n w.brokers a
        ∙ ap (kept_brokers s 0) (sym set)
        )
    by (inr past) =
        so (set_past (kept_brokers s 0 w.brokers) n _ (subst (λ (m : ℕ). m ≤ n) (sym (brokers_length s 0 w.brokers)) past) ∙ ap (kept_brokers s 0) (sym (set ∙ set_past w.brokers n a past)))

pub client_told : (s : Setup) (w v : World) (c : ℕ) (m : Client) → v.clients ≡ slice_set w.clients c m → v.brokers ≡ w.brokers
    → GotMore (client_at s w c) m → reads_changed s (kept_of s w) (changed_at s w v (ClientNode c)) ≡ kept_of s v
client_told s w v c m set same on = by (cases_lt c (length w.clients))
  where
    none : Client
    none = new_client (declared_at s c)

    k : Client
    k = client_at s w c

    read : List KeptClient
    read = slice_set (kept_clients s 0 w.clients) c (client_reads_all (slice_index_or (kept_clients s 0 w.clients) c no_client_kept) (client_changes s c k (client_at s v c)))

    so : read ≡ kept_clients s 0 v.clients → reads_changed s (kept_of s w) (changed_at s w v (ClientNode c)) ≡ kept_of s v
    so e =
        reads_client s (kept_of s w) c (client_changes s c k (client_at s v c))
        ∙ ap (λ (ks : List KeptClient). record { brokers = kept_brokers s 0 w.brokers; clients = ks }) e
        ∙ ap (λ (bs : List Broker). record { brokers = kept_brokers s 0 bs; clients = kept_clients s 0 v.clients }) (sym same)

    by : (c < length w.clients) ⊎ (length w.clients ≤ c) → reads_changed s (kept_of s w) (changed_at s w v (ClientNode c)) ≡ kept_of s v
    by (inl there) =
        let now : client_at s v c ≡ m = ap (λ (ks : List Client). slice_index_or ks c none) set ∙ get_or-set_same w.clients c m none there in
        let zero_more : 0 + c ≡ c = omega arith in
        let old : slice_index_or (kept_clients s 0 w.clients) c no_client_kept ≡ kept_client s (declared_at s c) k =
        client_place s 0 c w.clients none there ∙ ap (λ (i : ℕ). kept_client s (declared_at s i) k) zero_more in
        so (
        ap (λ (j : KeptClient). slice_set (kept_clients s 0 w.clients) c (client_reads_all j (client_changes s c k (client_at s v c)))) old
        ∙ ap (λ (j : Client). slice_set (kept_clients s 0 w.clients) c (client_reads_all (kept_client s (declared_at s c) k) (client_changes s c k j))) now
        ∙ ap (slice_set (kept_clients s 0 w.clients) c) (client_folds s c k m on)
        ∙ ap (λ (i : ℕ). slice_set (kept_clients s 0 w.clients) c (kept_client s (declared_at s i) m)) (sym zero_more)
        ∙ client_set s 0 c w.clients m
        ∙ ap (kept_clients s 0) (sym set)
        )
    by (inr past) =
        so (set_past (kept_clients s 0 w.clients) c _ (subst (λ (i : ℕ). i ≤ c) (sym (clients_length s 0 w.clients)) past) ∙ ap (kept_clients s 0) (sym (set ∙ set_past w.clients c m past)))

-- ---- an event

-- v comes of w by an event at a node: it was idle, and a report shows the same; or it counts, and what is told of the node makes up for it
pub data Tells (s : Setup) (w v : World) (n : Node) : Type 0 where
  Idles : v.events ≡ w.events → kept_of s v ≡ kept_of s w → Tells s w v n
  Acts : v.events ≡ w.events + 1 → reads_changed s (kept_of s w) (changed_at s w v n) ≡ kept_of s v → Tells s w v n

picked : (t : Bool) (q p : Planned) → (if t then Some q else None) ≡ Some p → q ≡ p
picked true q p h = same_Some q p h
picked false q p h = absurd (none-some p h)

none_picked : (t : Bool) (p : Planned) → (if t then None else None) ≡ Some p → ⊥
none_picked true p h = none-some p h
none_picked false p h = none-some p h

abbrev at_node : Planned → Node
at_node p = BrokerNode p.topic p.cluster

-- a plan is done at the event's node
pub planned_node : (s : Setup) (w : World) (e : Event) (p : Planned) → planned s w e ≡ Some p → node_of s e ≡ at_node p
unfolding planned
planned_node s w (event.Serve x c) p h = ap at_node (picked (in_range s (event.Serve x c)) _ p h)
planned_node s w (event.Drop x c) p h = ap at_node (picked (in_range s (event.Drop x c)) _ p h)
planned_node s w (event.Reset t x y) p h = ap at_node (picked (in_range s (event.Reset t x y)) _ p h)
planned_node s w (event.Read t x y) p h = ap at_node (picked (in_range s (event.Read t x y)) _ p h)
planned_node s w (event.Take t x y f) p h = ap at_node (picked (in_range s (event.Take t x y f)) _ p h)
planned_node s w (event.Receipt t x y f) p h = ap at_node (picked (in_range s (event.Receipt t x y f)) _ p h)
planned_node s w (event.Snap t x) p h = ap at_node (picked (in_range s (event.Snap t x)) _ p h)
planned_node s w (event.Offer t x n) p h = ap at_node (picked (in_range s (event.Offer t x n)) _ p h)
planned_node s w (event.Seek t x n to) p h = ap at_node (picked (in_range s (event.Seek t x n to)) _ p h)
planned_node s w (event.Restart t x) p h = ap at_node (picked (in_range s (event.Restart t x)) _ p h)
planned_node s w (event.Go c) p h = absurd (none_picked (in_range s (event.Go c)) p h)
planned_node s w (event.Get c) p h = absurd (none_picked (in_range s (event.Get c)) p h)
planned_node s w (event.Reconnect c) p h = absurd (none_picked (in_range s (event.Reconnect c)) p h)

-- the worlds after events that are not idle, as they stand in `broker_does`, `client_does` and `broker_halts`
abbrev done_world : Setup → World → Planned → World
done_world s w p =
    let n = node s p.topic p.cluster in
    let stamp = next_stamp (slice_index w.broker_clocks n) (packet_at w.links p.takes) in
    record {
      brokers = slice_set w.brokers n (done s.per_ledger (broker_at w n) p.plan);
      clients = w.clients;
      links = taken_from p.takes (delivered (from_broker s p.topic p.cluster) stamp p.plan.sent w.links);
      broker_clocks = slice_set w.broker_clocks n stamp;
      client_clocks = w.client_clocks;
      events = w.events + 1;
      idle = w.idle;
      rounds = w.rounds;
      frame_bytes = w.frame_bytes + sent_bytes s.clusters p.plan.sent;
    }

abbrev acted_world : Setup → World → ℕ → Option LinkName → Acted → World
acted_world s w c takes a =
    let stamp = next_stamp (slice_index w.client_clocks c) (packet_at w.links takes) in
    record {
      brokers = w.brokers;
      clients = slice_set w.clients c a.client;
      links = delivered (from_client c) stamp a.sent (taken_from takes w.links);
      broker_clocks = w.broker_clocks;
      client_clocks = slice_set w.client_clocks c stamp;
      events = w.events + 1;
      idle = w.idle;
      rounds = w.rounds;
      frame_bytes = w.frame_bytes + sent_bytes s.clusters a.sent;
    }

abbrev halted_world : Setup → World → ℕ → Planned → World
halted_world s w k p =
    let n = node s p.topic p.cluster in
    record w { brokers = slice_set w.brokers n (halted s.per_ledger (broker_at w n) k p.plan); links = taken_from p.takes w.links; events = w.events + 1 }

plan_told : (s : Setup) (w : World) (p : Planned) → Shape s w p → Begun s w → Tells s w (broker_does s w p) (at_node p)
unfolding broker_does
plan_told s w p shape h =
    let n : ℕ = node s p.topic p.cluster in let b : Broker = broker_at w n in let a : Broker = done s.per_ledger b p.plan in
    on_test (λ (v : World). Tells s w v (at_node p)) p.plan.idle _ _ (λ idle. Tells.Idles refl refl) (λ acts. Tells.Acts refl (
    broker_told s w (done_world s w p) p.topic p.cluster a h (shape_within s w p shape) refl refl
    (λ was. done_sound (length s.clusters) s.per_ledger b p.plan was) (λ was. done_goes (length s.clusters) s.per_ledger b p.plan (plans_name_once s w p shape) was)
    ))

planned_told : (s : Setup) (w : World) (n : Node) (o : Option Planned) → ((p : Planned) → o ≡ Some p → n ≡ at_node p) → HasShape s w o → Begun s w → Tells s w (does_planned s w o) n
planned_told s w n None at shape h = Tells.Idles refl refl
planned_told s w n (Some p) at shape h = subst (Tells s w (broker_does s w p)) (sym (at p refl)) (plan_told s w p shape h)

acted_told : (s : Setup) (w : World) (c : ℕ) (takes : Option LinkName) (a : Acted) → GotMore (client_at s w c) a.client → Tells s w (client_does s w c takes a) (ClientNode c)
unfolding client_does
acted_told s w c takes a more =
    on_test (λ (v : World). Tells s w v (ClientNode c)) a.idle _ _ (λ idle. Tells.Idles refl refl) (λ acts. Tells.Acts refl (client_told s w (acted_world s w c takes a) c a.client refl refl more))

-- whatever event it is
pub event_told : (s : Setup) (w : World) (e : Event) → Begun s w → Tells s w (happens s w e) (node_of s e)
unfolding happens
event_told s w (event.Go c) h =
    on_if (λ (v : World). Tells s w v (ClientNode c)) (has_client s c) _ _ (acted_told s w c None _ (acted_got s (client_at s w c) (event.Go c) None)) (Tells.Idles refl refl)
event_told s w (event.Reconnect c) h =
    on_if (λ (v : World). Tells s w v (ClientNode c)) (has_client s c) _ _ (acted_told s w c None _ (acted_got s (client_at s w c) (event.Reconnect c) None)) (Tells.Idles refl refl)
event_told s w (event.Get c) h =
    let link = ToClient c (client_at s w c).cluster in
    on_if (λ (v : World). Tells s w v (ClientNode c)) (has_client s c) _ _
    (acted_told s w c (Some link) _ (acted_got s (client_at s w c) (event.Get c) (next_packet (link_at w.links link)))) (Tells.Idles refl refl)
event_told s w e h = planned_told s w (node_of s e) (planned s w e) (planned_node s w e) (planned_shape s w e) h

halt_told : (s : Setup) (w : World) (k : ℕ) (n : Node) (o : Option Planned) → ((p : Planned) → o ≡ Some p → n ≡ at_node p) → HasShape s w o → Begun s w → Tells s w (halts_planned s w k o) n
unfolding broker_halts
halt_told s w k n None at shape h = Tells.Idles refl refl
halt_told s w k n (Some p) at shape h =
    let m : ℕ = node s p.topic p.cluster in let b : Broker = broker_at w m in
    subst (Tells s w (broker_halts s w k p)) (sym (at p refl)) (Tells.Acts refl (
    broker_told s w (halted_world s w k p) p.topic p.cluster (halted s.per_ledger b k p.plan) h (shape_within s w p shape) refl refl
    (λ was. halted_sound (length s.clusters) s.per_ledger b k p.plan was) (λ was. halted_goes (length s.clusters) s.per_ledger b k p.plan (plans_name_once s w p shape) was)
    ))

-- a stop in its midst
pub halted_told : (s : Setup) (w : World) (k : ℕ) (e : Event) → Begun s w → Tells s w (halts_planned s w k (planned s w e)) (node_of s e)
halted_told s w k e h = halt_told s w k (node_of s e) (planned s w e) (planned_node s w e) (planned_shape s w e) h
