-- What is kept of a run after a stop is a start again.
use Rattle.std.proofs.Common.{◌≡◌, ℕ, zero, suc, ◌*◌, ◌/◌, ◌%◌, ◌<◌, ◌≤◌, List, [], ◌∷◌, ◌++◌, length, refl, sym, subst, arith}
use Rattle.std.specs.Prelude.{Option, None, slice_index_or}
use Rattle.std.specs.List.{AllByRecursion}
use Rattle.std.proofs.lemmas.Nat.{div-add-mod', div_below, mod_below}
use Rattle.world_laws.proofs.Types.{Session}
use Rattle.world_laws.proofs.Types.change
use Rattle.geo_base.specs.Broker.{Broker, changed, no_broker}
use Rattle.geo_base.specs.Client.{Client, new_client, unconnected}
use Rattle.geo_base.specs.Happening.{stops}
use Rattle.geo_base.specs.Plan.{done}
use Rattle.geo_base.specs.Scripted.{IsScripted}
use Rattle.geo_base.specs.Seeking.{restart}
use Rattle.geo_base.specs.Replicator.{Replicator, new_replicator, replicator_restarted}
use Rattle.geo_base.specs.Setup.{Setup, declared_at}
use Rattle.geo_base.specs.Subscription.{Subscription, cleared}
use Rattle.geo_base.specs.World.{World, broker_at, client_at, node, topic_at}
use Rattle.geo_base.specs.Worlds.{IsWorldOf}
use Rattle.world_laws.specs.Reached.{AfterStop, MayBeKept, ReachedFrom}
use Rattle.world_laws.specs.Starts.{AreStored, IsStart, IsStartBroker, IsStartClient, IsStartSub, most_at_start, resumed_world}
use Rattle.world_laws.specs.Within.{ClientWithin, ReplicatorWithin}
use Rattle.world_laws.proofs.Replicating.Effects.{Each}
use Rattle.world_laws.proofs.Counters.Places.{opening_places}
use Rattle.world_laws.proofs.Induction.Reaching.{carried, carried_there, ground, indexes, reached_has}
use Rattle.world_laws.proofs.Replicating.Sizes.{IsThere}
use Rattle.world_laws.proofs.KeptRuns.Starting.{made_or}
use Rattle.world_laws.proofs.KeptRuns.TurnRuns.{Turning, start_turning, stored_of, turning_on}
use Rattle.world_laws.proofs.FrameContents.Widths.{Named}
use Rattle.geo_base.proofs.Lists.{map_again}

-- ---- lists

all_at : {X : Type 0} (P : X → Type 0) (d : ℕ → X) (xs : List X) → ((i : ℕ) → P (slice_index_or xs i (d i))) → AllByRecursion P xs
all_at P d [] f = tt
all_at P d (x ∷ xs) f = (f zero, all_at P (λ i. d (suc i)) xs (λ i. f (suc i)))

subs_start : (vs : List Subscription) → Each Named vs → AllByRecursion (λ (v : Subscription). v.seeks ≤ most_at_start) vs → AllByRecursion IsStartSub vs
subs_start [] names seeks = tt
subs_start (v ∷ vs) names seeks = (record { name = names.0; seeks = seeks.0 }, subs_start vs names.1 seeks.1)

-- ---- a broker by its number

pub record IsPlace (s : Setup) (z : ℕ) : Type 0 where
  pub there : IsThere s (z / length s.clusters) (z % length s.clusters)
  pub is : node s (z / length s.clusters) (z % length s.clusters) ≡ z

pub place_of : (s : Setup) (z : ℕ) → z < length s.topics * length s.clusters → IsPlace s z
place_of s z lt =
    let some : 0 < length s.clusters = some_clusters (length s.clusters) lt in
    record { there = (div_below z (length s.clusters) (length s.topics) some lt, mod_below z (length s.clusters) some); is = div-add-mod' z (length s.clusters) }
  where
    some_clusters : (n : ℕ) → z < length s.topics * n → 0 < n
    some_clusters zero lt = absurd (omega (arith, lt))
    some_clusters (suc n) lt = omega arith

-- ---- what a stop leaves of a broker and of a client

forget_twice : (b : Broker) → changed (changed b change.Forget) change.Forget ≡ changed b change.Forget
forget_twice b =
    rw (
      map_again replicator_restarted (λ v. refl) b.replicators,
      map_again (λ (r : Option ℕ). None) (λ r. refl) b.receivers,
      map_again cleared (λ v. refl) b.subs,
      map_again (λ (v : Option Session). None) (λ v. refl) b.sessions,
    ) refl

rested : (per : ℕ) (b : Broker) → changed (done per b restart) change.Forget ≡ done per b restart
unfolding restart
rested per b = forget_twice (record b { ledgers = b.ledgers ++ 0 ∷ [] })

stopped_rested : (s : Setup) (w : World) (z : ℕ) → changed (broker_at (stops s w) z) change.Forget ≡ broker_at (stops s w) z
unfolding stops
stopped_rested s w z =
    made_or (λ (b : Broker). changed b change.Forget ≡ b) (λ (b : Broker). done s.per_ledger b restart) no_broker (rested s.per_ledger) refl w.brokers z

stopped_client : (s : Setup) (w : World) (c : ℕ) → unconnected (client_at s (stops s w) c) ≡ client_at s (stops s w) c
unfolding stops
stopped_client s w c = made_or (λ (k : Client). unconnected k ≡ k) unconnected (new_client (declared_at s c)) (λ k. refl) refl w.clients c

-- ---- the start

client_start : (k : Client) → ClientWithin most_at_start k → unconnected k ≡ k → IsStartClient k
client_start k h apart = record { connection = h.connection; receipts = h.receipts; duplicates = h.duplicates; errors = h.errors; apart = apart }

-- the entries of a topic there
entries_stored : (s : Setup) → IsScripted s → (v w : World) (t x : ℕ) → IsStart s v → ReachedFrom s v w → IsThere s t x → AreStored (length s.clusters) x [] (topic_at s w t x).entries
entries_stored s scripted v w t x start r there =
    let turn = reached_has s (Turning s) (turning_on s scripted) v w (start_turning s v start) r in
    stored_of (length s.clusters) x [] (topic_at s w t x).entries (turn.1 t x there) (λ e i at. (carried s scripted v w start r).origins t x i e there.1 at)

broker_start : (s : Setup) → IsScripted s → (v w : World) (t x : ℕ) → IsStart s v → ReachedFrom s v w → IsThere s t x → length (topic_at s w t x).entries ≤ most_at_start
    → ((y : ℕ) → ReplicatorWithin most_at_start (slice_index_or (topic_at s w t x).replicators y new_replicator)) → AllByRecursion (λ (u : Subscription). u.seeks ≤ most_at_start) (topic_at s w t x).subs
    → changed (topic_at s w t x) change.Forget ≡ topic_at s w t x → IsStartBroker (length s.clusters) x (topic_at s w t x)
broker_start s scripted v w t x start r there few sessions seeks rest = record {
  few = few;
  entries = entries_stored s scripted v w t x start r there;
  replicators = all_at (λ (u : Replicator). u.session ≤ most_at_start) (λ i. new_replicator) (topic_at s w t x).replicators (λ y. (sessions y).session);
  subs = subs_start (topic_at s w t x).subs ((carried_there s scripted v w start r).0.1 t x there).names seeks;
  at_rest = rest;
}

start_places : (s : Setup) (w : World) → IsWorldOf s w → IsWorldOf s (resumed_world s w)
start_places s w h =
    let o = opening_places s in record { brokers = h.brokers; clients = h.clients; broker_clocks = o.broker_clocks; client_clocks = o.client_clocks; each = h.each }

pub kept_start : (s : Setup) → IsScripted s → (v w : World) → IsStart s v → ReachedFrom s v w → MayBeKept s (stops s w) → IsStart s (resumed_world s (stops s w))
kept_start s scripted v w start r may = record {
  places = start_places s w' places;
  brokers = λ z within.
      let p = place_of s z (subst (λ (m : ℕ). z < m) places.brokers within) in let n = length s.clusters in
      subst (λ (i : ℕ). IsStartBroker n (z % n) (broker_at w' i)) p.is (there z within p);
  clients = all_at IsStartClient (λ c. new_client (declared_at s c)) w'.clients (λ c. client_start (client_at s w' c) (may.numbers.clients c) (stopped_client s w c));
  indexes = indexes s v w' start r';
  counts = record { events = may.counts.events; rounds = may.counts.rounds; sent = may.counts.sent };
  unused = refl;
}
  where
    w' : World
    w' = stops s w

    r' : ReachedFrom s v w'
    r' = AfterStop w r

    places : IsWorldOf s w'
    places = (ground s scripted v w' start r').places

    there : (z : ℕ) → z < length w'.brokers → (p : IsPlace s z) → IsStartBroker (length s.clusters) (z % length s.clusters) (topic_at s w' (z / length s.clusters) (z % length s.clusters))
    there z within p =
        let t = z / length s.clusters in let x = z % length s.clusters in let i = node s t x in
        let within' : i < length w'.brokers = subst (λ (m : ℕ). m < length w'.brokers) (sym p.is) within in
        broker_start s scripted v w' t x start r' p.there (may.few i within') (may.numbers.brokers i).replicators (may.numbers.brokers i).seeks (stopped_rested s w i)
