-- What the tables know of each topic they know after an event.
use Rattle.std.proofs.Common.{◌≡◌, ℕ, ◌+◌, ◌*◌, List, ◌++◌, inl, inr, length, sym, ap, subst, ◌∙◌, arith}
use Rattle.std.proofs.lemmas.Bool.{cases_eq}
use Rattle.std.proofs.lemmas.List.{length-append, take-append-le}
use Rattle.std.specs.Prelude.{Result, Ok, Err, OnOk, slice_index_or}
use Rattle.geo_base.specs.declared.entry.Entry.{Entry}
use Rattle.geo_base.specs.declared.event.Event.{Event}
use Rattle.geo_base.specs.Broker.{Broker, Site, no_broker}
use Rattle.geo_base.specs.Happening.{halts_planned, happens, stops}
use Rattle.geo_base.specs.Planned.{planned}
use Rattle.geo_base.specs.Setup.{Setup}
use Rattle.geo_base.specs.World.{World}
use Rattle.broker.specs.Node.{BrokerView}
use Rattle.broker_state.specs.Plan.{PlanView}
use Rattle.trace_runs.specs.SnapshotTables.{Snapshots, Tells, TellsBeginning, table_at}
use Rattle.trace_runs.specs.Snapshots.{HaveSeen, Knows, number_of}
use Rattle.world.specs.declared.fault.RunFault.{RunFault}
use Rattle.world.specs.Foreseen.{IsForeseen}
use Rattle.world.specs.Steps.{Leads}
use Rattle.world.specs.World.{SameWorld, WorldView, kept_of}
use Rattle.kept_laws.specs.Events.{node_of, topic_of}
use Rattle.kept_laws.specs.Kept.{Kept}
use Rattle.kept_laws.specs.Standing.{Stands}
use Rattle.trace_runs.specs.Tracing.{AreTables}
use Rattle.trace_runs.proofs.Growing.{AllLonger, Longer, halts_longer, happens_longer, stops_longer}

abbrev Answer : Type 0
Answer = Result (Unit {0}) RunFault

-- ---- one topic

longer_tells : (n : ℕ) (t : Snapshots) (es more : List Entry) → TellsBeginning n t es → TellsBeginning n t (es ++ more)
longer_tells n t es more h = record {
  within = let le = h.within in let sum = length-append es more in omega (arith, le, sum);
  tells = subst (λ (fs : List Entry). Tells n t.rows fs) (sym (take-append-le t.seen es more h.within)) h.tells;
}

still_tells : (n : ℕ) (t : Snapshots) (b b' : Broker) → Longer b b' → TellsBeginning n t b.entries → TellsBeginning n t b'.entries
still_tells n t b b' longer h = subst (λ (es : List Entry). TellsBeginning n t es) (sym longer.is) (longer_tells n t b.entries longer.more h)

-- ---- all topics

pub same_known : (s : Setup) (ts : List Snapshots) (old mid : WorldView) → SameWorld old mid → AreTables s ts (kept_of old).brokers → AreTables s ts (kept_of mid).brokers
same_known s ts old mid same h = subst (λ (c : Kept). AreTables s ts c.brokers) (sym same.kept) h

-- after an event that leads the machine from w to v
pub known_on : (s : Setup) (ts : List Snapshots) (old new : WorldView) (w v : World) → Stands s (kept_of old) w → Stands s (kept_of new) v → AllLonger w.brokers v.brokers → AreTables s ts (kept_of old).brokers
    → AreTables s ts (kept_of new).brokers
known_on s ts old new w v before behind longer h = record {
  at = λ k.
      let n = length s.clusters in let t = table_at ts k in
      let here = subst (λ (bs : List Broker). TellsBeginning n t (slice_index_or bs k no_broker).entries) before.brokers (h.at k) in
      subst (λ (bs : List Broker). TellsBeginning n t (slice_index_or bs k no_broker).entries) (sym behind.brokers)
      (still_tells n t (slice_index_or w.brokers k no_broker) (slice_index_or v.brokers k no_broker) (longer k) here);
}

led : (s : Setup) (ts : List Snapshots) (old new : WorldView) (w v : World) (a : Answer) → Stands s (kept_of old) w → AllLonger w.brokers v.brokers → AreTables s ts (kept_of old).brokers → Leads s old new v a
    → OnOk a (AreTables s ts (kept_of new).brokers)
led s ts old new w v (Ok u) stands longer h leads = known_on s ts old new w v stands leads.done.0 longer h
led s ts old new w v (Err f) stands longer h leads = tt

pub event_known : (s : Setup) (ts : List Snapshots) (old new : WorldView) (w : World) (e : Event) (a : Answer) → Stands s (kept_of old) w → AreTables s ts (kept_of old).brokers → Leads s old new (happens s w e) a
    → OnOk a (AreTables s ts (kept_of new).brokers)
event_known s ts old new w e a stands h leads = led s ts old new w (happens s w e) a stands (happens_longer s w e) h leads

pub halt_known : (s : Setup) (ts : List Snapshots) (old new : WorldView) (w : World) (k : ℕ) (e : Event) (a : Answer) → Stands s (kept_of old) w → AreTables s ts (kept_of old).brokers
    → Leads s old new (halts_planned s w k (planned s w e)) a → OnOk a (AreTables s ts (kept_of new).brokers)
halt_known s ts old new w k e a stands h leads = led s ts old new w (halts_planned s w k (planned s w e)) a stands (halts_longer s w k (planned s w e)) h leads

pub stop_known : (s : Setup) (ts : List Snapshots) (old new : WorldView) (w : World) (a : Answer) → Stands s (kept_of old) w → AreTables s ts (kept_of old).brokers → Leads s old new (stops s w) a
    → OnOk a (AreTables s ts (kept_of new).brokers)
stop_known s ts old new w a stands h leads = led s ts old new w (stops s w) a stands (stops_longer s w) h leads

-- nor is one by an event that is counted as idle
pub idled_known : (s : Setup) (ts : List Snapshots) (mid new : WorldView) (r : Answer) → OnOk r (new ≡ record mid { idle = mid.idle + 1 }) → AreTables s ts (kept_of mid).brokers
    → OnOk r (AreTables s ts (kept_of new).brokers)
idled_known s ts mid new (Ok u) is h = rw is h
idled_known s ts mid new (Err f) is h = tt

-- ---- the topic of a broker that is foreseen

number_is : (s : Setup) (w : World) (e : Event) (v : BrokerView) (p : PlanView) → IsForeseen s w e v p → number_of v ≡ node_of s e
number_is s w e v p f =
    ap (λ (t : ℕ). t * length v.site.clusters + v.site.own) f.node.topic ∙ ap (λ (h : Site). topic_of s e * length h.clusters + h.own) f.node.site

-- its entries, by its number
entries_at : (s : Setup) (b : WorldView) (w : World) (e : Event) (v : BrokerView) (p : PlanView) → Stands s (kept_of b) w → IsForeseen s w e v p
    → v.broker ≡ slice_index_or (kept_of b).brokers (number_of v) no_broker
entries_at s b w e v p stands f =
    f.broker
    ∙ (ap (λ (k : ℕ). slice_index_or w.brokers k no_broker) (sym (number_is s w e v p f)) ∙ ap (λ (bs : List Broker). slice_index_or bs (number_of v) no_broker) (sym stands.brokers))

clusters_are : (s : Setup) (w : World) (e : Event) (v : BrokerView) (p : PlanView) → IsForeseen s w e v p → length v.site.clusters ≡ length s.clusters
clusters_are s w e v p f = ap (λ (h : Site). length h.clusters) f.node.site

pub knows_there : (s : Setup) (ts : List Snapshots) (b : WorldView) (w : World) (e : Event) (v : BrokerView) (p : PlanView) → Stands s (kept_of b) w → IsForeseen s w e v p → AreTables s ts (kept_of b).brokers
    → Knows v ts
knows_there s ts b w e v p stands f h =
    let t = table_at ts (number_of v) in
    subst (λ (n : ℕ). TellsBeginning n t v.broker.entries) (sym (clusters_are s w e v p f))
    (subst (λ (c : Broker). TellsBeginning (length s.clusters) t c.entries) (sym (entries_at s b w e v p stands f)) (h.at (number_of v)))

-- more of it was seen
pub seen_there : (s : Setup) (old new : List Snapshots) (b : WorldView) (w : World) (e : Event) (v : BrokerView) (p : PlanView) → Stands s (kept_of b) w → IsForeseen s w e v p → AreTables s old (kept_of b).brokers
    → HaveSeen v old new → AreTables s new (kept_of b).brokers
seen_there s old new b w e v p stands f h seen = record { at = at }
  where
    n : ℕ
    n = length s.clusters

    here : TellsBeginning n (table_at new (number_of v)) (slice_index_or (kept_of b).brokers (number_of v) no_broker).entries
    here =
        subst (λ (c : Broker). TellsBeginning n (table_at new (number_of v)) c.entries) (entries_at s b w e v p stands f)
        (subst (λ (m : ℕ). TellsBeginning m (table_at new (number_of v)) v.broker.entries) (clusters_are s w e v p f) seen.known)

    at : (k : ℕ) → TellsBeginning n (table_at new k) (slice_index_or (kept_of b).brokers k no_broker).entries
    at k = elim (cases_eq k (number_of v)) [
      | inl is ↦ subst (λ (j : ℕ). TellsBeginning n (table_at new j) (slice_index_or (kept_of b).brokers j no_broker).entries) (sym is) here
      | inr other ↦ subst (λ (t : Snapshots). TellsBeginning n t (slice_index_or (kept_of b).brokers k no_broker).entries) (sym (seen.others k other)) (h.at k)
    ]
