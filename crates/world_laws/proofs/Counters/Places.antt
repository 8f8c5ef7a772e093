-- No event changes how many places a broker has for clusters and clients, nor how many brokers and clients a world has.
use Rattle.std.proofs.Common.{ℕ, zero, suc, ◌+◌, ◌*◌, ◌<◌, Bool, replicate, List, [], ◌∷◌, ◌++◌, length, map, ◌∙◌, subst, sym, arith, length-set}
use Rattle.std.proofs.lemmas.List.{length-map, length-replicate}
use Rattle.std.specs.Prelude.{Option, Some, None, is_some, slice_index_or, slice_set, take}
use Rattle.world_laws.proofs.Types.{Change, Event, Session, SubKind, Write}
use Rattle.world_laws.proofs.Types.change
use Rattle.world_laws.proofs.Types.event
use Rattle.world_laws.proofs.Types.write
use Rattle.geo_base.specs.Broker.{Broker, changed, new_broker, no_broker, sub_named, written}
use Rattle.geo_base.specs.Client.{Acted, new_client, unconnected}
use Rattle.geo_base.specs.Happening.{broker_does, broker_halts, client_does, does_planned, halts_planned, happens, stops}
use Rattle.geo_base.specs.Plan.{Plan, all_changed, all_written, done, halted}
use Rattle.geo_base.specs.Planned.{Planned, has_client, planned}
use Rattle.geo_base.specs.Seeking.{restart}
use Rattle.geo_base.specs.Replicator.{Replicator, new_replicator, replicator_restarted}
use Rattle.geo_base.specs.Setup.{Setup}
use Rattle.geo_base.specs.World.{LinkName, World, broker_at, node, opening_world}
use Rattle.geo_base.specs.Worlds.{BrokerPlaces, IsWorldOf}
use Rattle.world_laws.proofs.Induction.Frames.{at_set}
use Rattle.world_laws.proofs.Induction.Runs.{IsKeptByEvents}
use Rattle.world_laws.proofs.Walks.Walk.{on_if}

same_replicators : (s : Setup) (b : Broker) (y : ℕ) (v : Replicator) → BrokerPlaces s b → BrokerPlaces s (record b { replicators = slice_set b.replicators y v })
same_replicators s b y v p = record { replicators = length-set b.replicators y v ∙ p.replicators; receivers = p.receivers; sessions = p.sessions }

created : (s : Setup) (per : ℕ) (b : Broker) (n : List ℕ) (kind : SubKind) (replicated latest : Bool) → BrokerPlaces s b → BrokerPlaces s (written per b (write.Create n kind replicated latest))
created s per b n kind replicated latest p =
    on_if (BrokerPlaces s) (is_some (sub_named b.subs n)) _ _ p (record { replicators = p.replicators; receivers = p.receivers; sessions = p.sessions })

kept_write : (s : Setup) (per : ℕ) (b : Broker) (w : Write) → BrokerPlaces s b → BrokerPlaces s (written per b w)
kept_write s per b (write.Create n kind replicated latest) p = created s per b n kind replicated latest p
kept_write s per b (write.ReplicatorAck y i) p = same_replicators s b y _ p
kept_write s per b (write.SessionNumber y n) p = same_replicators s b y _ p
kept_write s per b w p = record { replicators = p.replicators; receivers = p.receivers; sessions = p.sessions }

kept_change : (s : Setup) (b : Broker) (c : Change) → BrokerPlaces s b → BrokerPlaces s (changed b c)
kept_change s b (change.Receiver x r) p = record { replicators = p.replicators; receivers = length-set b.receivers x r ∙ p.receivers; sessions = p.sessions }
kept_change s b (change.Client c v) p = record { replicators = p.replicators; receivers = p.receivers; sessions = length-set b.sessions c v ∙ p.sessions }
kept_change s b (change.Opening y) p = same_replicators s b y _ p
kept_change s b (change.Opened y) p = same_replicators s b y _ p
kept_change s b (change.Pend y i) p = same_replicators s b y _ p
kept_change s b (change.ReadTo y i) p = same_replicators s b y _ p
kept_change s b (change.Unpend y n) p = same_replicators s b y _ p
kept_change s b change.Forget p = record {
  replicators = length-map b.replicators replicator_restarted ∙ p.replicators;
  receivers = length-map b.receivers (λ (r : Option ℕ). None) ∙ p.receivers;
  sessions = length-map b.sessions (λ (v : Option Session). None) ∙ p.sessions;
}
kept_change s b c p = record { replicators = p.replicators; receivers = p.receivers; sessions = p.sessions }

kept_writes : (s : Setup) (per : ℕ) (b : Broker) (ws : List Write) → BrokerPlaces s b → BrokerPlaces s (all_written per b ws)
kept_writes s per b [] p = p
kept_writes s per b (w ∷ ws) p = kept_writes s per (written per b w) ws (kept_write s per b w p)

kept_changes : (s : Setup) (b : Broker) (cs : List Change) → BrokerPlaces s b → BrokerPlaces s (all_changed b cs)
kept_changes s b [] p = p
kept_changes s b (c ∷ cs) p = kept_changes s (changed b c) cs (kept_change s b c p)

pub kept_done : (s : Setup) (per : ℕ) (b : Broker) (q : Plan) → BrokerPlaces s b → BrokerPlaces s (done per b q)
kept_done s per b q p = kept_changes s (all_written per b q.writes) q.changes (kept_writes s per b q.writes p)

kept_halted : (s : Setup) (per : ℕ) (b : Broker) (k : ℕ) (q : Plan) → BrokerPlaces s b → BrokerPlaces s (halted per b k q)
kept_halted s per b k q p =
    let ws = take k q.writes ++ write.Ledger ∷ [] in kept_change s (all_written per b ws) change.Forget (kept_writes s per b ws p)

idles_places : (s : Setup) (w : World) (n : ℕ) → IsWorldOf s w → IsWorldOf s (record w { idle = n })
idles_places s w n p = record { brokers = p.brokers; clients = p.clients; broker_clocks = p.broker_clocks; client_clocks = p.client_clocks; each = p.each }

does_places : (s : Setup) (w : World) (q : Planned) → IsWorldOf s w → IsWorldOf s (broker_does s w q)
unfolding broker_does
does_places s w q p =
    let n : ℕ = node s q.topic q.cluster in
    on_if (IsWorldOf s) q.plan.idle _ _ (idles_places s w (w.idle + 1) p) (record {
      brokers = length-set w.brokers n _ ∙ p.brokers;
      clients = p.clients;
      broker_clocks = length-set w.broker_clocks n _ ∙ p.broker_clocks;
      client_clocks = p.client_clocks;
      each = λ z within.
          let z_within : z < length w.brokers = subst (λ (m : ℕ). z < m) (length-set w.brokers n _) within in
          at_set (BrokerPlaces s) w.brokers n z _ no_broker
          (λ is. kept_done s s.per_ledger (broker_at w n) q.plan (p.each n (subst (λ (m : ℕ). m < length w.brokers) (sym is) z_within))) (p.each z z_within);
    })

client_places : (s : Setup) (w : World) (c : ℕ) (k : Option LinkName) (a : Acted) → IsWorldOf s w → IsWorldOf s (client_does s w c k a)
unfolding client_does
client_places s w c k a p =
    on_if (IsWorldOf s) a.idle _ _ (idles_places s w (w.idle + 1) p) (record {
      brokers = p.brokers;
      clients = length-set w.clients c a.client ∙ p.clients;
      broker_clocks = p.broker_clocks;
      client_clocks = length-set w.client_clocks c _ ∙ p.client_clocks;
      each = p.each;
    })

planned_places : (s : Setup) (w : World) (o : Option Planned) → IsWorldOf s w → IsWorldOf s (does_planned s w o)
planned_places s w None p = idles_places s w (w.idle + 1) p
planned_places s w (Some q) p = does_places s w q p

pub event_places : (s : Setup) (w : World) (e : Event) → IsWorldOf s w → IsWorldOf s (happens s w e)
unfolding happens
event_places s w (event.Go c) p = on_if (IsWorldOf s) (has_client s c) _ _ (client_places s w c _ _ p) (idles_places s w (w.idle + 1) p)
event_places s w (event.Reconnect c) p = on_if (IsWorldOf s) (has_client s c) _ _ (client_places s w c _ _ p) (idles_places s w (w.idle + 1) p)
event_places s w (event.Get c) p = on_if (IsWorldOf s) (has_client s c) _ _ (client_places s w c _ _ p) (idles_places s w (w.idle + 1) p)
event_places s w e p = planned_places s w (planned s w e) p

halts_places : (s : Setup) (w : World) (k : ℕ) (q : Planned) → IsWorldOf s w → IsWorldOf s (broker_halts s w k q)
unfolding broker_halts
halts_places s w k q p =
    let n : ℕ = node s q.topic q.cluster in
    record {
      brokers = length-set w.brokers n _ ∙ p.brokers;
      clients = p.clients;
      broker_clocks = p.broker_clocks;
      client_clocks = p.client_clocks;
      each = λ z within.
          let z_within : z < length w.brokers = subst (λ (m : ℕ). z < m) (length-set w.brokers n _) within in
          at_set (BrokerPlaces s) w.brokers n z _ no_broker
          (λ is. kept_halted s s.per_ledger (broker_at w n) k q.plan (p.each n (subst (λ (m : ℕ). m < length w.brokers) (sym is) z_within))) (p.each z z_within);
    }

halted_places : (s : Setup) (w : World) (k : ℕ) (o : Option Planned) → IsWorldOf s w → IsWorldOf s (halts_planned s w k o)
halted_places s w k None p = idles_places s w (w.idle + 1) p
halted_places s w k (Some q) p = halts_places s w k q p

stopped_places : (s : Setup) (bs : List Broker) (z : ℕ) → z < length bs → BrokerPlaces s (slice_index_or bs z no_broker)
    → BrokerPlaces s (slice_index_or (map (λ (b : Broker). done s.per_ledger b restart) bs) z no_broker)
stopped_places s [] z within p = absurd (omega arith)
stopped_places s (b ∷ bs) zero within p = kept_done s s.per_ledger b restart p
stopped_places s (b ∷ bs) (suc z) within p = stopped_places s bs z (omega arith) p

stop_places : (s : Setup) (w : World) → IsWorldOf s w → IsWorldOf s (stops s w)
unfolding stops
stop_places s w p =
    let same = length-map w.brokers (λ (b : Broker). done s.per_ledger b restart) in
    record {
      brokers = same ∙ p.brokers;
      clients = length-map w.clients unconnected ∙ p.clients;
      broker_clocks = p.broker_clocks;
      client_clocks = p.client_clocks;
      each = λ z within.
          let z_within : z < length w.brokers = subst (λ (m : ℕ). z < m) same within in stopped_places s w.brokers z z_within (p.each z z_within);
    }

replicate_at : {X : Type 0} (P : X → Type 0) (n z : ℕ) (x d : X) → P x → z < length (replicate n x) → P (slice_index_or (replicate n x) z d)
replicate_at P zero z x d p h = absurd (omega arith)
replicate_at P (suc n) zero x d p h = p
replicate_at P (suc n) (suc z) x d p h = replicate_at P n z x d p (omega arith)

pub opening_places : (s : Setup) → IsWorldOf s (opening_world s)
opening_places s = record {
  brokers = length-replicate (length s.topics * length s.clusters) (new_broker (length s.clusters) (length s.clients));
  clients = length-map s.clients new_client;
  broker_clocks = length-replicate (length s.topics * length s.clusters) 0;
  client_clocks = length-replicate (length s.clients) 0;
  each = λ z within. replicate_at (BrokerPlaces s) (length s.topics * length s.clusters) z (new_broker (length s.clusters) (length s.clients)) no_broker
      (record { replicators = length-replicate (length s.clusters) new_replicator; receivers = length-replicate (length s.clusters) None; sessions = length-replicate (length s.clients) None }) within;
}

pub places_kept : (s : Setup) → IsKeptByEvents s (IsWorldOf s)
places_kept s = record {
  opening = opening_places s;
  idle = λ w n p. idles_places s w n p;
  round = λ w n p. record { brokers = p.brokers; clients = p.clients; broker_clocks = p.broker_clocks; client_clocks = p.client_clocks; each = p.each };
  event = event_places s;
  halts = λ w k e p. halted_places s w k (planned s w e) p;
  stop = stop_places s;
}
