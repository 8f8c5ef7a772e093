-- No number that rises with events is above the count of the events that were done.
use Rattle.std.proofs.Common.{◌≡◌, ℕ, zero, suc, ◌+◌, ◌*◌, ◌≤◌, List, [], ◌∷◌, length, map, replicate, subst, ◌∙◌, arith}
use Rattle.std.specs.Prelude.{Option, Some, None, slice_index, slice_index_or}
use Rattle.std.proofs.lemmas.Option.{none-some}
use Rattle.world_laws.proofs.Types.{Event}
use Rattle.world_laws.proofs.Types.event
use Rattle.geo_base.specs.Broker.{Broker, new_broker, no_broker}
use Rattle.geo_base.specs.Client.{Acted, Client, new_client, unconnected}
use Rattle.geo_base.specs.Happening.{broker_does, broker_halts, client_does, does_planned, halts_planned, happens, next_stamp, stops}
use Rattle.geo_base.specs.Link.{Link, discarded, no_link}
use Rattle.geo_base.specs.Plan.{done, halted}
use Rattle.geo_base.specs.Planned.{Planned, has_client, planned}
use Rattle.geo_base.specs.Seeking.{restart}
use Rattle.geo_base.specs.Replicator.{new_replicator}
use Rattle.geo_base.specs.Setup.{Setup, declared_at}
use Rattle.geo_base.specs.Subscription.{Subscription}
use Rattle.geo_base.specs.World.{Back, Forward, LinkName, ToBroker, ToClient, World, broker_at, client_at, node, opening_world, packet_at}
use Rattle.world_laws.specs.Within.{ClientWithin, LawNumbers, NumbersWithin, SeeksWithin, ReplicatorWithin, StampsWithin}
use Rattle.world_laws.proofs.Counters.Bounds.{AllStamps, client_more, clocks_set, delivered_stamps, get_within, go_within, next_within, opening_within, packet_within, reconnect_within, stamps_more, taken_stamps}
use Rattle.world_laws.proofs.Replicating.Effects.{Each}
use Rattle.world_laws.proofs.Walks.EventWalk.{HasShape, planned_shape}
use Rattle.world_laws.proofs.Induction.Frames.{at_copies, at_map, at_set}
use Rattle.world_laws.proofs.Induction.Runs.{IsKeptByEvents, IsKeptOn, between_by_events}
use Rattle.world_laws.proofs.Walks.Shapes.{Shape}
use Rattle.world_laws.proofs.Counters.Slow.{Below, SeeksAt, below_more, restart_slow, shape_slow, slow_done, slow_halted}
use Rattle.world_laws.proofs.Walks.Walk.{on_if}

pub record Numbers (s : Setup) (n : ℕ) (w : World) : Type 0 where
  pub brokers : (z : ℕ) → Below n (broker_at w z)
  pub clients : (c : ℕ) → ClientWithin n (client_at s w c)
  pub broker_clocks : (z : ℕ) → slice_index w.broker_clocks z ≤ n
  pub client_clocks : (c : ℕ) → slice_index w.client_clocks c ≤ n
  pub stamps : AllStamps n w.links

-- by the count of a world's own events, and what there was at the start
abbrev pub Counted : ℕ → Setup → World → Type 0
Counted m s w = (n : ℕ) × (n ≡ m + w.events) × Numbers s n w

idles_counted : (m : ℕ) (s : Setup) (w : World) (i : ℕ) → Counted m s w → Counted m s (record w { idle = i })
idles_counted m s w i (n, is, h) =
    (n, is, record { brokers = h.brokers; clients = h.clients; broker_clocks = h.broker_clocks; client_clocks = h.client_clocks; stamps = h.stamps })

does_counted : (m : ℕ) (s : Setup) (w : World) (p : Planned) → Shape s w p → Counted m s w → Counted m s (broker_does s w p)
unfolding broker_does
does_counted m s w p shape (n, is, h) =
    let place : ℕ = node s p.topic p.cluster in
    let stamp = next_stamp (slice_index w.broker_clocks place) (packet_at w.links p.takes) in
    let fits : stamp ≤ n + 1 = next_within n _ (packet_at w.links p.takes) (h.broker_clocks place) (packet_within n w.links p.takes h.stamps) in
    on_if (Counted m s) p.plan.idle _ _ (idles_counted m s w (w.idle + 1) (n, is, h)) (
      n + 1,
      omega (arith, is),
      record {
        brokers = λ z. at_set (Below (n + 1)) w.brokers place z (done s.per_ledger (broker_at w place) p.plan) no_broker
            (λ _. slow_done s.per_ledger n (broker_at w place) p.plan (shape_slow s w p shape) (h.brokers place)) (below_more n _ (h.brokers z));
        clients = λ c. client_more n _ (h.clients c);
        broker_clocks = λ z. clocks_set (n + 1) w.broker_clocks place z stamp fits (omega (arith, h.broker_clocks z));
        client_clocks = λ c. omega (arith, h.client_clocks c);
        stamps = taken_stamps (n + 1) p.takes _ (delivered_stamps (n + 1) stamp _ p.plan.sent w.links fits (stamps_more n w.links h.stamps));
      },
    )

halts_counted : (m : ℕ) (s : Setup) (w : World) (k : ℕ) (p : Planned) → Shape s w p → Counted m s w → Counted m s (broker_halts s w k p)
unfolding broker_halts
halts_counted m s w k p shape (n, is, h) =
    let place : ℕ = node s p.topic p.cluster in (
      n + 1,
      omega (arith, is),
      record {
        brokers = λ z. at_set (Below (n + 1)) w.brokers place z (halted s.per_ledger (broker_at w place) k p.plan) no_broker
            (λ _. slow_halted s.per_ledger n (broker_at w place) k p.plan (shape_slow s w p shape) (h.brokers place)) (below_more n _ (h.brokers z));
        clients = λ c. client_more n _ (h.clients c);
        broker_clocks = λ z. omega (arith, h.broker_clocks z);
        client_clocks = λ c. omega (arith, h.client_clocks c);
        stamps = taken_stamps (n + 1) p.takes w.links (stamps_more n w.links h.stamps);
      },
    )

planned_counted : (m : ℕ) (s : Setup) (w : World) (o : Option Planned) → HasShape s w o → Counted m s w → Counted m s (does_planned s w o)
planned_counted m s w None shape h = idles_counted m s w (w.idle + 1) h
planned_counted m s w (Some p) shape h = does_counted m s w p shape h

halts_planned_counted : (m : ℕ) (s : Setup) (w : World) (k : ℕ) (o : Option Planned) → HasShape s w o → Counted m s w → Counted m s (halts_planned s w k o)
halts_planned_counted m s w k None shape h = idles_counted m s w (w.idle + 1) h
halts_planned_counted m s w k (Some p) shape h = halts_counted m s w k p shape h

client_counted : (m : ℕ) (s : Setup) (w : World) (c : ℕ) (k : Option LinkName) (a : Acted) → ((n : ℕ) → ClientWithin n (client_at s w c) → ClientWithin (n + 1) a.client)
    → Counted m s w → Counted m s (client_does s w c k a)
unfolding client_does
client_counted m s w c k a raised (n, is, h) =
    let stamp = next_stamp (slice_index w.client_clocks c) (packet_at w.links k) in
    let fits : stamp ≤ n + 1 = next_within n _ (packet_at w.links k) (h.client_clocks c) (packet_within n w.links k h.stamps) in
    on_if (Counted m s) a.idle _ _ (idles_counted m s w (w.idle + 1) (n, is, h)) (
      n + 1,
      omega (arith, is),
      record {
        brokers = λ z. below_more n _ (h.brokers z);
        clients = λ d. at_set (ClientWithin (n + 1)) w.clients c d a.client (new_client (declared_at s d)) (λ _. raised n (h.clients c)) (client_more n _ (h.clients d));
        broker_clocks = λ z. omega (arith, h.broker_clocks z);
        client_clocks = λ d. clocks_set (n + 1) w.client_clocks c d stamp fits (omega (arith, h.client_clocks d));
        stamps = delivered_stamps (n + 1) stamp _ a.sent _ fits (taken_stamps (n + 1) k w.links (stamps_more n w.links h.stamps));
      },
    )

event_counted : (m : ℕ) (s : Setup) (w : World) (e : Event) → Counted m s w → Counted m s (happens s w e)
unfolding happens
event_counted m s w (event.Go c) h =
    on_if (Counted m s) (has_client s c) _ _ (client_counted m s w c _ _ (λ n k. go_within n s _ _ k) h) (idles_counted m s w (w.idle + 1) h)
event_counted m s w (event.Reconnect c) h =
    on_if (Counted m s) (has_client s c) _ _ (client_counted m s w c _ _ (λ n k. reconnect_within n s _ _ k) h) (idles_counted m s w (w.idle + 1) h)
event_counted m s w (event.Get c) h =
    on_if (Counted m s) (has_client s c) _ _ (client_counted m s w c _ _ (λ n k. get_within n _ _ _ k) h) (idles_counted m s w (w.idle + 1) h)
event_counted m s w e h = planned_counted m s w (planned s w e) (planned_shape s w e) h

-- a stop
discarded_stamps : (n : ℕ) (m : List (List Link)) (i j : ℕ) → StampsWithin n (slice_index_or (slice_index_or m i []) j no_link)
    → StampsWithin n (slice_index_or (slice_index_or (map (λ (ls : List Link). map discarded ls) m) i []) j no_link)
discarded_stamps n m i j h =
    let Q : Link → Type 0 = StampsWithin n in let none : Q no_link = λ i p at. absurd (none-some p at) in
    at_map (λ (r : List Link). Q (slice_index_or r j no_link)) (λ (ls : List Link). map discarded ls) (λ r q. at_map Q discarded (λ l p. p) r j no_link none q) m i [] none h

stopped_stamps : (s : Setup) (n : ℕ) (w : World) → AllStamps n w.links → AllStamps n (stops s w).links
unfolding stops
stopped_stamps s n w all (Forward i y) = discarded_stamps n w.links.forward i y (all (Forward i y))
stopped_stamps s n w all (Back i y) = discarded_stamps n w.links.back i y (all (Back i y))
stopped_stamps s n w all (ToBroker c x) = discarded_stamps n w.links.to_broker c x (all (ToBroker c x))
stopped_stamps s n w all (ToClient c x) = discarded_stamps n w.links.to_client c x (all (ToClient c x))

unconnected_within : (n : ℕ) (k : Client) → ClientWithin n k → ClientWithin (n + 1) (unconnected k)
unconnected_within n k h = record {
  connection = omega (arith, h.connection);
  receipts = omega (arith, h.receipts);
  duplicates = omega (arith, h.duplicates);
  errors = omega (arith, h.errors);
}

stopped_client : (s : Setup) (n : ℕ) (ks : List Client) (c : ℕ) (d : Client) → ClientWithin n d → ClientWithin n (slice_index_or ks c d)
    → ClientWithin (n + 1) (slice_index_or (map unconnected ks) c d)
stopped_client s n [] c d new h = client_more n d h
stopped_client s n (k ∷ ks) zero d new h = unconnected_within n k h
stopped_client s n (k ∷ ks) (suc c) d new h = stopped_client s n ks c d new h

stopped_broker : (s : Setup) (n : ℕ) (bs : List Broker) (z : ℕ) → Below n (slice_index_or bs z no_broker)
    → Below (n + 1) (slice_index_or (map (λ (b : Broker). done s.per_ledger b restart) bs) z no_broker)
stopped_broker s n [] z h = below_more n no_broker h
stopped_broker s n (b ∷ bs) zero h = slow_done s.per_ledger n b restart (restart_slow b) h
stopped_broker s n (b ∷ bs) (suc z) h = stopped_broker s n bs z h

new_within : (n : ℕ) (s : Setup) (c : ℕ) → ClientWithin n (new_client (declared_at s c))
new_within n s c = record { connection = omega arith; receipts = omega arith; duplicates = omega arith; errors = omega arith }

stop_counted : (m : ℕ) (s : Setup) (w : World) → Counted m s w → Counted m s (stops s w)
unfolding stops
stop_counted m s w (n, is, h) = (
  n + 1,
  omega (arith, is),
  record {
    brokers = λ z. stopped_broker s n w.brokers z (h.brokers z);
    clients = λ c. stopped_client s n w.clients c (new_client (declared_at s c)) (new_within n s c) (h.clients c);
    broker_clocks = λ z. omega (arith, h.broker_clocks z);
    client_clocks = λ c. omega (arith, h.client_clocks c);
    stamps = stamps_more n _ (stopped_stamps s n w h.stamps);
  },
)

new_below : (clusters clients : ℕ) → Below 0 (new_broker clusters clients)
new_below clusters clients = record { replicators = (opening_replicators clusters); seeks = tt }
  where
    opening_replicators : (n y : ℕ) → ReplicatorWithin 0 (slice_index_or (replicate n new_replicator) y new_replicator)
    opening_replicators n y =
        let new : ReplicatorWithin 0 new_replicator = record { session = omega arith; next = omega arith } in
        at_copies (ReplicatorWithin 0) n y new_replicator new_replicator new new

opening_counted : (s : Setup) → Counted 0 s (opening_world s)
opening_counted s = let h = opening_within s in (
  0,
  omega arith,
  record {
    brokers = λ z. at_copies (Below 0) (length s.topics * length s.clusters) z (new_broker (length s.clusters) (length s.clients)) no_broker
        (new_below (length s.clusters) (length s.clients)) (record { replicators = (new_below 0 0).replicators; seeks = tt });
    clients = h.clients;
    broker_clocks = h.broker_clocks;
    client_clocks = h.client_clocks;
    stamps = h.stamps;
  },
)

pub counted_on : (m : ℕ) (s : Setup) → IsKeptOn s (Counted m s)
counted_on m s = record {
  idle = λ w i h. idles_counted m s w i h;
  round = λ w i h. (h.0, h.1, record { brokers = h.2.brokers; clients = h.2.clients; broker_clocks = h.2.broker_clocks; client_clocks = h.2.client_clocks; stamps = h.2.stamps });
  event = event_counted m s;
  halts = λ w k e h. halts_planned_counted m s w k (planned s w e) (planned_shape s w e) h;
  stop = stop_counted m s;
}

counted_kept : (s : Setup) → IsKeptByEvents s (Counted 0 s)
counted_kept s = let k = counted_on 0 s in record { opening = opening_counted s; idle = k.idle; round = k.round; event = k.event; halts = k.halts; stop = k.stop }

each_seek : (n : ℕ) (vs : List Subscription) → Each (SeeksAt n) vs → SeeksWithin n vs
each_seek n [] h = tt
each_seek n (v ∷ vs) h = (h.0, each_seek n vs h.1)

pub told : (m n : ℕ) (s : Setup) (w : World) → m + w.events ≡ n → Counted m s w → NumbersWithin s n w
told m n s w same (k, is, h) = subst (λ (i : ℕ). NumbersWithin s i w) (is ∙ same) (record {
  brokers = λ z. record { replicators = (h.brokers z).replicators; seeks = each_seek k (broker_at w z).subs (h.brokers z).seeks };
  clients = h.clients;
  broker_clocks = h.broker_clocks;
  client_clocks = h.client_clocks;
  stamps = h.stamps;
})

pub numbers_between : LawNumbers
numbers_between s = between_by_events s (Counted 0 s) (λ w. NumbersWithin s w.events w) (counted_kept s) (λ w h. told 0 w.events s w (omega arith) h)
