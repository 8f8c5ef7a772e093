-- What a report shows of a node, noted before an event.
use Rattle.std.specs.Prelude.{◌≡◌, ℕ, ◌<◌, ◌==◌, ◌&&◌, Bool, false, List, [], ◌∷◌, ◌++◌, length, map, if◌then◌else◌, Option, Some, None, is_some, slice_index_or}
use Rattle.std.specs.Str.{bytes_eq}
use Rattle.geo_base.specs.Broker.{Broker, backlog, replicator_at, sub_named}
use Rattle.geo_base.specs.Client.{Client}
use Rattle.geo_base.specs.Cursor.{mark}
use Rattle.geo_base.specs.Report.{client_line, replicator_line, sub_line}
use Rattle.geo_base.specs.Replicator.{Replicator}
use Rattle.geo_base.specs.Setup.{Declared, Setup}
use Rattle.geo_base.specs.Subscribing.{same_kind}
use Rattle.geo_base.specs.Subscription.{Subscription}
use Rattle.report_lines.specs.declared.lines.SubShown.{SubShown}
use Rattle.step_laws.specs.Steps.{ClientNow, ReportChange, ReplicatorNow, SubGone, SubNow, new_got, same_bool, same_replicator}
use Rattle.step_lines.specs.declared.noted.NotedBroker.{NotedBroker}
use Rattle.step_lines.specs.declared.noted.NotedClient.{NotedClient}
use Rattle.step_lines.specs.declared.noted.NotedSub.{NotedSub}
use Rattle.step_lines.specs.declared.replicators.NotedReplicator.{NotedReplicator}

abbrev pub noted_of : Replicator → NotedReplicator
noted_of s = record { session = s.session; state = s.state; mark = mark s.cursor }

-- the replicators of so many clusters are noted as they were at a broker
pub record AreReplicators (n : ℕ) (b : Broker) (ks : List NotedReplicator) : Type 0 where
  pub many : length ks ≡ n
  pub each : (y : ℕ) (d : NotedReplicator) → y < n → slice_index_or ks y d ≡ noted_of (replicator_at b y)

-- what is told of the replicator to cluster y, whose name is n
abbrev pub replicator_told : ℕ → ℕ → List ℕ → Broker → Broker → List ReportChange
replicator_told own y n b a = if own == y then [] else if same_replicator (replicator_at b y) (replicator_at a y) then [] else ReplicatorNow y (replicator_line n (replicator_at a y)) ∷ []

-- ---- subscriptions

abbrev pub shown_sub : Broker → Subscription → SubShown
shown_sub b v = record { kind = v.kind; is_replicated = v.replicated; mark = mark v.cursor; backlog = backlog b v; seeks = v.seeks }

abbrev pub noted_sub : Broker → Subscription → NotedSub
noted_sub b v = record { name = v.name; shown = shown_sub b v }

abbrev pub same_shown : SubShown → SubShown → Bool
same_shown v u = same_kind v.kind u.kind && same_bool v.is_replicated u.is_replicated && (v.mark == u.mark) && (v.backlog == u.backlog) && (v.seeks == u.seeks)

-- what was noted of the subscription of a name
abbrev pub shown_named : List NotedSub → List ℕ → Option SubShown
shown_named [] n = None
shown_named (k ∷ ks) n = if bytes_eq k.name n then Some k.shown else shown_named ks n

-- what is told of a subscription of a name that was noted, where the broker is a now: that it is gone
abbrev pub gone_named : Broker → List ℕ → List ReportChange
gone_named a n = if is_some (sub_named a.subs n) then [] else SubGone n ∷ []

abbrev pub gone_told : Broker → List NotedSub → List ReportChange
gone_told a [] = []
gone_told a (k ∷ ks) = gone_named a k.name ++ gone_told a ks

-- whether one that is there now was noted, and is the same
abbrev pub same_before : Option SubShown → SubShown → Bool
same_before None u = false
same_before (Some v) u = same_shown v u

-- and what is told of it
abbrev pub sub_told : Broker → Option SubShown → Subscription → List ReportChange
sub_told a o u = if same_before o (shown_sub a u) then [] else SubNow u.name (sub_line a u) ∷ []

abbrev pub subs_told : Broker → List NotedSub → List Subscription → List ReportChange
subs_told a ks [] = []
subs_told a ks (u ∷ us) = sub_told a (shown_named ks u.name) u ++ subs_told a ks us

-- ---- a broker of n clusters

pub record IsNoted (n : ℕ) (b : Broker) (k : NotedBroker) : Type 0 where
  pub entries : k.entries ≡ length b.entries
  pub replicators : AreReplicators n b k.replicators.items
  pub subs : k.subs.items ≡ map (noted_sub b) b.subs

-- ---- a client

abbrev pub noted_client : Client → NotedClient
noted_client k = record { cluster = k.cluster; done = k.done; receipts = k.receipts; duplicates = k.duplicates; errors = k.errors; got = length k.got }

abbrev pub same_noted : NotedClient → NotedClient → Bool
same_noted k m =
    ((k.cluster == m.cluster) && (k.done == m.done) && (k.receipts == m.receipts) && (k.duplicates == m.duplicates) && (k.errors == m.errors))
    && (k.got == m.got)

-- what is told of a client that is declared so, was k and is m
abbrev pub client_told : Setup → Declared → Client → Client → List ReportChange
client_told s d k m = if same_noted (noted_client k) (noted_client m) then [] else ClientNow (client_line s d m) ∷ new_got s.clusters k m
