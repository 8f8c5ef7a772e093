-- A reader of steps who keeps the last line of each thing has the report.
use Rattle.std.specs.Prelude.{◌≡◌, ℕ, ◌+◌, ◌*◌, ◌%◌, ◌<◌, ◌==◌, Bool, not, if◌then◌else◌, List, [], ◌∷◌, ◌++◌, length, map, filter, sum, slice_set, slice_index_or}
use Rattle.std.specs.List.{list_any}
use Rattle.std.specs.Str.{bytes_eq}
use Rattle.geo_base.specs.declared.event.Step.{Step}
use Rattle.geo_base.specs.Broker.{Broker, replicator_at}
use Rattle.geo_base.specs.Client.{Client}
use Rattle.geo_base.specs.Nodes.{BrokerNode, ClientNode, Node}
use Rattle.geo_base.specs.Report.{client_line, entry_lines, got_line, replicator_line, sub_line, topic_lines, words}
use Rattle.geo_base.specs.Run.{Limits, Ran, run_from}
use Rattle.geo_base.specs.Scripted.{AreDistinct}
use Rattle.geo_base.specs.Setup.{Declared, Setup, declared_at}
use Rattle.geo_base.specs.Subscription.{Subscription}
use Rattle.geo_base.specs.World.{World, broker_at, node}
use Rattle.step_laws.specs.Steps.{ReportChange, Changed, ClientNow, Did, NewEntry, NewGot, ReplicatorNow, Settled, SubGone, SubNow, ToldEvent, ToldStep, WasIdle, told_from}
use Rattle.std.specs.Prelude.{codes}

-- ---- what a reader keeps: of a broker the lines of its entries, of each replicator by its cluster's number, of each subscription by its
-- ---- name in order of creation; of a client its line, and the lines of what it got

pub record KeptSub : Type 0 where
  pub name : List ℕ
  pub line : List ℕ

pub record KeptBroker : Type 0 where
  pub entries : List (List ℕ)
  pub replicators : List (List ℕ)
  pub subs : List KeptSub

pub record KeptClient : Type 0 where
  pub line : List ℕ
  pub got : List (List ℕ)

-- by the nodes' and the clients' numbers
pub record Kept : Type 0 where
  pub brokers : List KeptBroker
  pub clients : List KeptClient

abbrev pub no_broker_kept : KeptBroker
no_broker_kept = record { entries = []; replicators = []; subs = [] }

abbrev pub no_client_kept : KeptClient
no_client_kept = record { line = []; got = [] }

-- ---- reading: one change, what changed at a node, a step, all steps

abbrev pub is_named : List ℕ → KeptSub → Bool
is_named n v = bytes_eq v.name n

abbrev pub with_sub : List ℕ → List ℕ → List KeptSub → List KeptSub
with_sub n line vs =
    if list_any (is_named n) vs then map (λ (v : KeptSub). if is_named n v then record { name = n; line = line } else v) vs
    else vs ++ record { name = n; line = line } ∷ []

abbrev pub broker_reads : KeptBroker → ReportChange → KeptBroker
broker_reads k (NewEntry line) = record k { entries = k.entries ++ line ∷ [] }
broker_reads k (ReplicatorNow y line) = record k { replicators = slice_set k.replicators y line }
broker_reads k (SubGone n) = record k { subs = filter (λ v. not (is_named n v)) k.subs }
broker_reads k (SubNow n line) = record k { subs = with_sub n line k.subs }
broker_reads k c = k

abbrev pub client_reads : KeptClient → ReportChange → KeptClient
client_reads k (ClientNow line) = record k { line = line }
client_reads k (NewGot line) = record k { got = k.got ++ line ∷ [] }
client_reads k c = k

abbrev pub broker_reads_all : KeptBroker → List ReportChange → KeptBroker
broker_reads_all k [] = k
broker_reads_all k (c ∷ cs) = broker_reads_all (broker_reads k c) cs

abbrev pub client_reads_all : KeptClient → List ReportChange → KeptClient
client_reads_all k [] = k
client_reads_all k (c ∷ cs) = client_reads_all (client_reads k c) cs

abbrev pub reads_at : Setup → Kept → List ReportChange → Node → Kept
reads_at s k cs (BrokerNode t x) =
    record k { brokers = slice_set k.brokers (node s t x) (broker_reads_all (slice_index_or k.brokers (node s t x) no_broker_kept) cs) }
reads_at s k cs (ClientNode c) = record k { clients = slice_set k.clients c (client_reads_all (slice_index_or k.clients c no_client_kept) cs) }

abbrev pub reads_changed : Setup → Kept → List Changed → Kept
reads_changed s k [] = k
reads_changed s k (d ∷ ds) = reads_changed s (reads_at s k d.changes d.node) ds

abbrev pub reads_events : Setup → Kept → List ToldEvent → Kept
reads_events s k [] = k
reads_events s k (d ∷ ds) = reads_events s (reads_changed s k d.at) ds

abbrev pub reads_step : Setup → Kept → ToldStep → Kept
reads_step s k WasIdle = k
reads_step s k (Did at) = reads_changed s k at
reads_step s k (Settled events head) = reads_events s k events

abbrev pub reads_steps : Setup → Kept → List ToldStep → Kept
reads_steps s k [] = k
reads_steps s k (d ∷ ds) = reads_steps s (reads_step s k d) ds

-- ---- what a reader of a world's report keeps

-- of a broker at cluster own, whose place for itself stays empty
abbrev pub kept_replicators : ℕ → ℕ → List (List ℕ) → Broker → List (List ℕ)
kept_replicators own y [] b = []
kept_replicators own y (n ∷ ns) b = (if own == y then [] else replicator_line n (replicator_at b y)) ∷ kept_replicators own (y + 1) ns b

abbrev pub kept_sub : Broker → Subscription → KeptSub
kept_sub b v = record { name = v.name; line = sub_line b v }

abbrev pub kept_broker : Setup → ℕ → Broker → KeptBroker
kept_broker s x b = record {
  entries = entry_lines s.clusters b.ledgers 0 b.entries;
  replicators = kept_replicators x 0 s.clusters b;
  subs = map (kept_sub b) b.subs;
}

abbrev pub kept_client : Setup → Declared → Client → KeptClient
kept_client s d k = record { line = client_line s d k; got = map (got_line s.clusters) k.got }

-- of each, from number i on
abbrev pub kept_brokers : Setup → ℕ → List Broker → List KeptBroker
kept_brokers s i [] = []
kept_brokers s i (b ∷ bs) = kept_broker s (i % length s.clusters) b ∷ kept_brokers s (i + 1) bs

abbrev pub kept_clients : Setup → ℕ → List Client → List KeptClient
kept_clients s c [] = []
kept_clients s c (k ∷ ks) = kept_client s (declared_at s c) k ∷ kept_clients s (c + 1) ks

abbrev pub kept_of : Setup → World → Kept
kept_of s w = record { brokers = kept_brokers s 0 w.brokers; clients = kept_clients s 0 w.clients }

-- ---- the lines of a report, from what is kept

abbrev pub lines_but : ℕ → ℕ → List (List ℕ) → List (List ℕ)
lines_but own y [] = []
lines_but own y (l ∷ ls) = if own == y then lines_but own (y + 1) ls else l ∷ lines_but own (y + 1) ls

abbrev pub broker_lines_kept : ℕ → KeptBroker → List (List ℕ)
broker_lines_kept x k = k.entries ++ (lines_but x 0 k.replicators ++ map (λ (v : KeptSub). v.line) k.subs)

abbrev pub cluster_lines_kept : Setup → Kept → ℕ → List ℕ → ℕ → List (List ℕ) → List (List ℕ)
cluster_lines_kept s k t topic x [] = []
cluster_lines_kept s k t topic x (n ∷ ns) =
    words (codes "topic" ∷ topic ∷ codes "at" ∷ n ∷ [])
    ∷ broker_lines_kept x (slice_index_or k.brokers (node s t x) no_broker_kept) ++ cluster_lines_kept s k t topic (x + 1) ns

abbrev pub client_lines_kept : ℕ → List Declared → List KeptClient → List (List ℕ)
client_lines_kept t [] ks = []
client_lines_kept t (d ∷ ds) [] = []
client_lines_kept t (d ∷ ds) (k ∷ ks) = (if d.topic == t then k.line ∷ k.got else []) ++ client_lines_kept t ds ks

abbrev pub topic_lines_kept : Setup → Kept → ℕ → List (List ℕ) → List (List ℕ)
topic_lines_kept s k t [] = []
topic_lines_kept s k t (n ∷ ns) = cluster_lines_kept s k t n 0 s.clusters ++ (client_lines_kept t s.clients k.clients ++ topic_lines_kept s k (t + 1) ns)

-- ---- the law

-- where a run may begin: there is a broker for each node with a replicator for each cluster, its ledgers, of which there is one, hold its
-- entries, its subscriptions have names of their own; and a client for each that is declared
pub record IsBeginning (s : Setup) (w : World) : Type 0 where
  pub brokers : length w.brokers ≡ length s.topics * length s.clusters
  pub clients : length w.clients ≡ length s.clients
  pub replicators : (i : ℕ) → i < length w.brokers → length (broker_at w i).replicators ≡ length s.clusters
  pub some : (i : ℕ) → i < length w.brokers → 0 < length (broker_at w i).ledgers
  pub ledgers : (i : ℕ) → i < length w.brokers → sum (broker_at w i).ledgers ≡ length (broker_at w i).entries
  pub subs : (i : ℕ) → i < length w.brokers → AreDistinct (map (λ (v : Subscription). v.name) (broker_at w i).subs)

-- Who has read the report of where a run begins, and then its steps, has the report of where it ends: each line below the counts,
-- in order; the counts are the last line of the steps.
pub record LawStepsFold : Type 0 where
  -- the reader keeps what a reader of the last report keeps, under whatever limits,
  pub kept : (l : Limits) (s : Setup) (r : Ran) (es : List Step) → IsBeginning s r.world
      → reads_steps s (kept_of s r.world) (told_from l s r es) ≡ kept_of s (run_from l s r es).world
  -- that is all of a report,
  pub whole : (s : Setup) (w : World) → IsBeginning s w → topic_lines_kept s (kept_of s w) 0 s.topics ≡ topic_lines s w 0 s.topics
  -- and where a run may begin it may go on
  pub still : (l : Limits) (s : Setup) (r : Ran) (es : List Step) → IsBeginning s r.world → IsBeginning s (run_from l s r es).world
