-- The world that goes on from a state that was loaded is one that a run may start from.
use Rattle.std.proofs.Common.{◌≡◌, ℕ, zero, suc, ◌+◌, ◌*◌, ◌%◌, ◌<◌, ◌≤◌, List, [], ◌∷◌, ◌++◌, length, map, inl, inr, refl, sym, ap, subst, ◌∙◌, arith}
use Rattle.std.specs.Prelude.{Option, Some, None, replicate, slice_get, slice_index_or}
use Rattle.std.specs.List.{AllByRecursion}
use Rattle.std.proofs.Math.Nat.{mod-lt}
use Rattle.std.proofs.lemmas.Bool.{false≢true}
use Rattle.std.proofs.lemmas.List.{get_or-map, length-map, length-replicate, length_push}
use Rattle.std.proofs.lemmas.Option.{none-some, same_Some}
use Rattle.geo_base.specs.declared.change.Change.TheVariants as change
use Rattle.geo_base.specs.declared.session.Session.{Session}
use Rattle.geo_base.specs.Broker.{Broker, changed, no_broker}
use Rattle.geo_base.specs.Client.{Client}
use Rattle.geo_base.specs.Scripted.{IsScripted}
use Rattle.geo_base.specs.Replicator.{Replicator, new_replicator, replicator_restarted}
use Rattle.geo_base.specs.Setup.{Setup}
use Rattle.geo_base.specs.Subscription.{Subscription, cleared}
use Rattle.geo_base.specs.World.{node, topic_at}
use Rattle.geo_base.specs.Worlds.{BrokerPlaces}
use Rattle.state_file.specs.Known.{IsClientBehind, IsKnownBehind, IsKnownState}
use Rattle.state_file.specs.State.{SavedState}
use Rattle.state_items.specs.Fitting.{AllFit}
use Rattle.state_items.proofs.Again.{cursor_below}
use Rattle.state_nodes.specs.Fitting.{IsPlace, IsReplicator, IsSub}
use Rattle.state_nodes.specs.Known.{IsKnownNode}
use Rattle.frame_values.specs.Told.{IsToldEntry}
use Rattle.kept_laws.proofs.Reaching.{start_reached}
use Rattle.kept_laws.specs.Reached.{Reached}
use Rattle.world_laws.specs.Frames.{AllEntries}
use Rattle.world_laws.specs.Indexes.{AreBelow, HasIndexes, KeepsIndexes}
use Rattle.world_laws.specs.Starts.{IsStart, IsStartBroker, IsStartClient, IsStartSub, most_at_start}
use Rattle.kept_laws.specs.Saved.{revived, world_from}
use Rattle.world.proofs.ReadEntries.{all_stored, all_told, fit_each}
use Rattle.geo_base.proofs.Lists.{map_of_copies}

-- ---- lists

fit_all : {X : Type 0} (Fits : List X → X → Type 0) (P : X → Type 0) → ((before : List X) (x : X) → Fits before x → P x) → (xs before : List X) → AllFit Fits before xs → (d : X) → P d → (k : ℕ)
    → P (slice_index_or xs k d)
fit_all Fits P f [] before h d none k = none
fit_all Fits P f (x ∷ xs) before h d none zero = f before x h.0
fit_all Fits P f (x ∷ xs) before h d none (suc k) = fit_all Fits P f xs (before ++ x ∷ []) h.1 d none k

each_at : {X : Type 0} (P : X → Type 0) (xs : List X) (k : ℕ) (d : X) → AllByRecursion P xs → k < length xs → P (slice_index_or xs k d)
each_at P [] k d h lt = absurd (omega (arith, lt))
each_at P (x ∷ xs) zero d h lt = h.0
each_at P (x ∷ xs) (suc k) d h lt = each_at P xs k d h.1 (omega (arith, lt))

each_got : {X : Type 0} (P : X → Type 0) (xs : List X) (k : ℕ) (x : X) → AllByRecursion P xs → slice_get xs k ≡ Some x → P x
each_got P [] k x h at = absurd (none-some x at)
each_got P (y ∷ ys) zero x h at = subst P (same_Some y x at) h.0
each_got P (y ∷ ys) (suc k) x h at = each_got P ys k x h.1 at

-- what changes none of a list leaves it
same_map : {X : Type 0} (f : X → X) (xs : List X) → AllByRecursion (λ (x : X). f x ≡ x) xs → map f xs ≡ xs
same_map f [] h = refl
same_map f (x ∷ xs) h = ap (λ (y : _). y ∷ map f xs) h.0 ∙ ap (λ (ys : List _). x ∷ ys) (same_map f xs h.1)

-- ---- a broker

record IsAtRest (n : ℕ) (v : Replicator) : Type 0 where
  pub session : v.session ≤ most_at_start
  pub keeps : KeepsIndexes n v
  pub restarted : replicator_restarted v ≡ v

new_at_rest : (n : ℕ) → IsAtRest n new_replicator
new_at_rest n = record { session = omega arith; keeps = record { acked = λ i h. absurd (false≢true h); pending = tt }; restarted = refl }

none_pending : (n : ℕ) (v : Replicator) → replicator_restarted v ≡ v → v.pending ≡ []
none_pending n v h = sym (ap (λ (u : Replicator). u.pending) h)

replicator_at_rest : (n : ℕ) (v : Replicator) → IsReplicator n v → IsAtRest n v
replicator_at_rest n v h = record {
  session = h.session;
  keeps = record { acked = cursor_below n v.cursor h.acked; pending = rw (none_pending n v h.restarted) tt };
  restarted = h.restarted;
}

place_at_rest : (n own : ℕ) (before : List Replicator) (v : Replicator) → IsPlace n own before v → IsAtRest n v
place_at_rest n own before v (inl unused) = subst (IsAtRest n) (sym unused.1) (new_at_rest n)
place_at_rest n own before v (inr other) = replicator_at_rest n v other.1

sub_starts : (n : ℕ) (before : List Subscription) (v : Subscription) → IsSub n before v → IsStartSub v
sub_starts n before v h = record { name = h.name; seeks = h.seeks }

sub_below : (n : ℕ) (before : List Subscription) (v : Subscription) → IsSub n before v → AreBelow n v.cursor
sub_below n before v h = cursor_below n v.cursor h.acked

at_rest : (s : Setup) (per own : ℕ) (b : Broker) → IsKnownNode per s.clusters own b → changed (revived s b) change.Forget ≡ revived s b
at_rest s per own b h =
    let n = length b.entries in
    let replicators : map replicator_restarted b.replicators ≡ b.replicators =
    same_map replicator_restarted b.replicators (fit_each (IsPlace n own) (λ (v : Replicator). replicator_restarted v ≡ v) (λ before v p. (place_at_rest n own before v p).restarted) b.replicators [] h.replicators) in
    let subs : map cleared b.subs ≡ b.subs = same_map cleared b.subs (fit_each (IsSub n) (λ (v : Subscription). cleared v ≡ v) (λ before v p. p.at_rest) b.subs [] h.subs.each) in
    let builder : b.builder ≡ None = sym (ap (λ (c : Broker). c.builder) h.durable) in
    rw (replicators, subs, builder, map_of_copies (λ (r : Option ℕ). None) (length s.clusters) None refl, map_of_copies (λ (r : Option Session). None) (length s.clients) None refl) refl

broker_starts : (s : Setup) (per own : ℕ) (b : Broker) → own < length s.clusters → length b.entries ≤ most_at_start → IsKnownNode per s.clusters own b → IsStartBroker (length s.clusters) own (revived s b)
broker_starts s per own b there few h =
    let n = length b.entries in
    record {
      few = few;
      entries = all_stored s.clusters own b.entries [] there h.entries;
      replicators = fit_each (IsPlace n own) (λ (v : Replicator). v.session ≤ most_at_start) (λ before v p. (place_at_rest n own before v p).session) b.replicators [] h.replicators;
      subs = fit_each (IsSub n) IsStartSub (sub_starts n) b.subs [] h.subs.each;
      at_rest = at_rest s per own b h;
    }

broker_has : (s : Setup) (per own : ℕ) (b : Broker) → IsKnownNode per s.clusters own b → HasIndexes (revived s b)
broker_has s per own b h =
    let n = length b.entries in
    record {
      ledgers = omega (arith, h.together);
      subs = fit_each (IsSub n) (λ (v : Subscription). AreBelow n v.cursor) (sub_below n) b.subs [] h.subs.each;
      replicators = λ y. fit_all (IsPlace n own) (KeepsIndexes n) (λ before v p. (place_at_rest n own before v p).keeps) b.replicators [] h.replicators new_replicator (new_at_rest n).keeps y;
    }

none_has : HasIndexes no_broker
none_has = record { ledgers = omega arith; subs = tt; replicators = λ y. (new_at_rest 0).keeps }

-- ---- all brokers

known_at : (s : Setup) (bs before : List Broker) (k : ℕ) → AllFit (IsKnownBehind s) before bs → k < length bs
    → IsKnownNode s.per_ledger s.clusters ((length before + k) % length s.clusters) (slice_index_or bs k no_broker)
known_at s [] before k h lt = absurd (omega (arith, lt))
known_at s (b ∷ bs) before zero h lt =
    let here : length before ≡ length before + 0 = omega arith in
    subst (λ (m : ℕ). IsKnownNode s.per_ledger s.clusters (m % length s.clusters) b) here h.0
known_at s (b ∷ bs) before (suc k) h lt =
    let next : length (before ++ b ∷ []) + k ≡ length before + suc k = omega (arith, length_push before b) in
    subst (λ (m : ℕ). IsKnownNode s.per_ledger s.clusters (m % length s.clusters) (slice_index_or bs k no_broker)) next (known_at s bs (before ++ b ∷ []) k h.1 (omega (arith, lt)))

-- each broker is that of a number
known_node : (s : Setup) (bs : List Broker) (k : ℕ) → AllFit (IsKnownBehind s) [] bs → k < length bs → IsKnownNode s.per_ledger s.clusters (k % length s.clusters) (slice_index_or bs k no_broker)
known_node s bs k h lt =
    let same : 0 + k ≡ k = omega arith in
    subst (λ (m : ℕ). IsKnownNode s.per_ledger s.clusters (m % length s.clusters) (slice_index_or bs k no_broker)) same (known_at s bs [] k h lt)

revived_at : (s : Setup) (bs : List Broker) (k : ℕ) → k < length bs → slice_index_or (map (revived s) bs) k no_broker ≡ revived s (slice_index_or bs k no_broker)
revived_at s bs k lt = get_or-map (revived s) bs k no_broker no_broker lt

all_have : (s : Setup) (bs before : List Broker) (k : ℕ) → AllFit (IsKnownBehind s) before bs → HasIndexes (slice_index_or (map (revived s) bs) k no_broker)
all_have s [] before k h = none_has
all_have s (b ∷ bs) before zero h = broker_has s s.per_ledger (length before % length s.clusters) b h.0
all_have s (b ∷ bs) before (suc k) h = all_have s bs (before ++ b ∷ []) k h.1

-- the entries of all of them are told by their texts
all_texts : (s : Setup) (bs before : List Broker) (k : ℕ) → AllFit (IsKnownBehind s) before bs
    → AllByRecursion (IsToldEntry s.clusters None) (slice_index_or (map (revived s) bs) k no_broker).entries
all_texts s [] before k h = tt
all_texts s (b ∷ bs) before zero h = all_told s.clusters (length before % length s.clusters) b.entries h.0.entries
all_texts s (b ∷ bs) before (suc k) h = all_texts s bs (before ++ b ∷ []) k h.1

-- ---- the world

client_starts : (s : Setup) (before : List Client) (k : Client) → IsClientBehind s before k → IsStartClient k
client_starts s before k h = record { connection = h.connection; receipts = h.receipts; duplicates = h.duplicates; errors = h.errors; apart = h.stopped }

broker_places : (s : Setup) (per own : ℕ) (b : Broker) → IsKnownNode per s.clusters own b → BrokerPlaces s (revived s b)
broker_places s per own b h = record { replicators = h.all_replicators; receivers = length-replicate (length s.clusters) None; sessions = length-replicate (length s.clients) None }

-- no topic has more entries than a start may have
abbrev pub AreFew : List Broker → Type 0
AreFew bs = AllByRecursion (λ (b : Broker). length b.entries ≤ most_at_start) bs

pub state_starts : (v : SavedState) → IsScripted v.scenario.setup → IsKnownState v → AreFew v.brokers → IsStart v.scenario.setup (world_from v)
state_starts v scripted h few =
    let s = v.scenario.setup in
    let size = length-map v.brokers (revived s) in
    let within : (z : ℕ) → z < length (map (revived s) v.brokers) → z < length v.brokers = λ z lt. omega (arith, size, lt) in
    record {
      places = record {
        brokers = size ∙ h.all_nodes;
        clients = h.all_clients;
        broker_clocks = length-replicate (length s.topics * length s.clusters) 0;
        client_clocks = length-replicate (length s.clients) 0;
        each = λ z lt.
            let k = within z lt in
            subst (BrokerPlaces s) (sym (revived_at s v.brokers z k)) (broker_places s s.per_ledger (z % length s.clusters) (slice_index_or v.brokers z no_broker) (known_node s v.brokers z h.brokers k));
      };
      brokers = λ z lt.
          let k = within z lt in
          let own = z % length s.clusters in
          let there : own < length s.clusters = mod-lt z (omega (arith, scripted.clusters.0)) in
          subst (IsStartBroker (length s.clusters) own) (sym (revived_at s v.brokers z k))
          (broker_starts s s.per_ledger own (slice_index_or v.brokers z no_broker) there (each_at (λ (b : Broker). length b.entries ≤ most_at_start) v.brokers z no_broker few k) (known_node s v.brokers z h.brokers k));
      clients = fit_each (IsClientBehind s) IsStartClient (client_starts s) v.clients [] h.clients;
      indexes = λ z. all_have s v.brokers [] z h.brokers;
      counts = record { events = h.counts.run; rounds = h.counts.rounds; sent = h.counts.sent };
      unused = refl;
    }

state_told : (v : SavedState) → IsKnownState v → AllEntries v.scenario.setup (IsToldEntry v.scenario.setup.clusters None) (world_from v)
state_told v h t x i e there at =
    let s = v.scenario.setup in
    each_got (IsToldEntry s.clusters None) (topic_at s (world_from v) t x).entries i e (all_texts s v.brokers [] (node s t x) h.brokers) at

pub state_reached : (v : SavedState) → IsScripted v.scenario.setup → IsKnownState v → AreFew v.brokers → Reached v.scenario.setup (world_from v)
state_reached v scripted h few = start_reached v.scenario.setup (world_from v) (state_starts v scripted h few) (state_told v h)
