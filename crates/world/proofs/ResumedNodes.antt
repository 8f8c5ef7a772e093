-- The brokers of a world that goes on from a state, and the world.
use Rattle.std.proofs.Common.{◌≡◌, ℕ, suc, ◌+◌, ◌*◌, ◌/◌, ◌%◌, ◌<◌, ◌≤◌, List, [], ◌∷◌, length, map, refl, sym, ap, subst, ◌∙◌, arith}
use Rattle.std.specs.Prelude.{replicate, slice_index_or}
use Rattle.std.proofs.lemmas.Nat.{div-mul-add, mod-mul-add}
use Rattle.geo_base.specs.Broker.{Broker, no_broker}
use Rattle.geo_base.specs.Scripted.{IsScripted}
use Rattle.geo_base.specs.Setup.{Setup}
use Rattle.geo_base.specs.World.{node}
use Rattle.state_file.specs.Known.{IsKnownState}
use Rattle.state_file.specs.State.{SavedState}
use Rattle.broker.specs.Events.{IsNodeOf}
use Rattle.broker.specs.Node.{BrokerView}
use Rattle.links.specs.Queues.{empty_links}
use Rattle.kept_laws.proofs.Reaching.{starts}
use Rattle.kept_laws.specs.Kept.{Kept}
use Rattle.kept_laws.specs.Reached.{Reached}
use Rattle.kept_laws.specs.Standing.{Stands}
use Rattle.world_laws.proofs.Replicating.Sizes.{node_lt}
use Rattle.world_laws.specs.Starts.{most_at_start}
use Rattle.world.specs.Saving.{AreRevived, IsResumed}
use Rattle.kept_laws.specs.Saved.{revived, world_from}
use Rattle.world.specs.World.{AreNodes, IsAt, WorldView, brokers_of, kept_of, node_at}
use Rattle.world.proofs.Resumed.{AreFew, state_reached, state_starts}

-- ---- one after another

brokers_are : (s : Setup) (bs : List Broker) (vs : List BrokerView) → length vs ≡ length bs → ((k : ℕ) → k < length bs → (node_at vs k).broker ≡ revived s (slice_index_or bs k no_broker))
    → brokers_of vs ≡ map (revived s) bs
brokers_are s [] [] size each = refl
brokers_are s [] (v ∷ vs) size each = absurd (omega (arith, size))
brokers_are s (b ∷ bs) [] size each = absurd (omega (arith, size))
brokers_are s (b ∷ bs) (v ∷ vs) size each =
    ap (λ (c : Broker). c ∷ brokers_of vs) (each 0 (omega arith))
    ∙ ap (λ (cs : List Broker). revived s b ∷ cs) (brokers_are s bs vs (omega (arith, size)) (λ k lt. each (suc k) (omega (arith, lt))))

few_are : (bs : List Broker) → ((k : ℕ) → k < length bs → length (slice_index_or bs k no_broker).entries ≤ most_at_start) → AreFew bs
few_are [] each = tt
few_are (b ∷ bs) each = (each 0 (omega arith), few_are bs (λ k lt. each (suc k) (omega (arith, lt))))

pub revived_brokers : (s : Setup) (bs : List Broker) (vs : List BrokerView) → AreRevived s bs vs → brokers_of vs ≡ map (revived s) bs
revived_brokers s bs vs h = brokers_are s bs vs h.count (λ k lt. (h.each k lt).broker)

revived_few : (s : Setup) (bs : List Broker) (vs : List BrokerView) → AreRevived s bs vs → AreFew bs
revived_few s bs vs h = few_are bs (λ k lt. (h.each k lt).few)

revived_nodes : (s : Setup) (bs : List Broker) (vs : List BrokerView) → length bs ≡ length s.topics * length s.clusters → AreRevived s bs vs → AreNodes s vs
revived_nodes s bs vs size h = record {
  count = h.count ∙ size;
  each = λ t x topic cluster.
      let n : ℕ = node s t x in let c : ℕ = length s.clusters in
      let under = node_lt s t x (topic, cluster) in
      let at = (h.each n (omega (arith, under, size))).node in
      let row : n / c ≡ t = div-mul-add t c x cluster in
      let column : n % c ≡ x = mod-mul-add t c x cluster in
      subst (λ (k : ℕ). IsNodeOf s t k (node_at vs n)) column (subst (λ (k : ℕ). IsNodeOf s k (n % c) (node_at vs n)) row at);
}

-- ---- the world

pub resumed : (v : SavedState) (b : WorldView) → let s = v.scenario.setup in
    AreRevived s v.brokers b.brokers → b.clients ≡ v.clients → b.links ≡ empty_links (length s.topics) (length s.clusters) (length s.clients)
    → b.broker_clocks ≡ replicate (length s.topics * length s.clusters) 0 → b.client_clocks ≡ replicate (length s.clients) 0
    → b.events ≡ v.counts.events → b.idle ≡ v.counts.idle → b.rounds ≡ v.counts.rounds → b.frame_bytes ≡ v.counts.frame_bytes → IsResumed v b
resumed v b brokers clients links broker_clocks client_clocks events idle rounds frame_bytes =
    let bs = revived_brokers v.scenario.setup v.brokers b.brokers brokers in
    record { brokers = brokers; kept = cc }

pub resumed_reached : (v : SavedState) (vs : List BrokerView) → IsScripted v.scenario.setup → IsKnownState v → AreRevived v.scenario.setup v.brokers vs → Reached v.scenario.setup (world_from v)
resumed_reached v vs scripted h brokers = state_reached v scripted h (revived_few v.scenario.setup v.brokers vs brokers)

pub resumed_stands : (v : SavedState) (b : WorldView) → IsScripted v.scenario.setup → IsKnownState v → IsResumed v b → Stands v.scenario.setup (kept_of b) (world_from v)
resumed_stands v b scripted h r =
    let s = v.scenario.setup in
    let w = world_from v in
    subst (λ (k : Kept). Stands s k w) (sym r.kept) (starts s w (state_starts v scripted h (revived_few s v.brokers b.brokers r.brokers)))

pub resumed_at : (v : SavedState) (b : WorldView) → IsScripted v.scenario.setup → IsKnownState v → IsResumed v b → IsAt v.scenario.setup b
resumed_at v b scripted h r =
    let counts : b.events + b.idle ≡ v.counts.events + v.counts.idle = ap (λ (k : Kept). k.events + k.idle) r.kept in
    let bytes : b.frame_bytes ≡ v.counts.frame_bytes = ap (λ (k : Kept). k.frame_bytes) r.kept in
    record {
      setup = scripted;
      brokers = revived_nodes v.scenario.setup v.brokers b.brokers h.all_nodes r.brokers;
      world = world_from v;
      reached = resumed_reached v b.brokers scripted h r.brokers;
      stands = resumed_stands v b scripted h r;
      within = record { few = omega (arith, counts, h.counts.run); short = omega (arith, bytes, h.counts.sent) };
    }
