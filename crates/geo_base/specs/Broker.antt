-- A broker, which owns one topic at one cluster: its state, and what one durable write and one change in memory do to it.
use Rattle.std.specs.Prelude.{ℕ, not, if◌then◌else◌, List, [], ◌∷◌, ◌++◌, length, map, filter, find, replicate, Option, None, slice_set, slice_index_or, is_some}
use Rattle.std.specs.Str.{bytes_eq}
use Rattle.geo_base.specs.Types.{SnapshotBuilder, Change, Entry, Session, Write}
use Rattle.geo_base.specs.Types.change
use Rattle.geo_base.specs.Types.replicator_state
use Rattle.geo_base.specs.Types.write
use Rattle.geo_base.specs.Cache.{cached}
use Rattle.geo_base.specs.Cursor.{backlog_from, below, with_index}
use Rattle.geo_base.specs.Dispatcher.{given, skipped_index}
use Rattle.geo_base.specs.Entry.{is_data}
use Rattle.geo_base.specs.Replicator.{Replicator, new_replicator, replicator_reset, replicator_restarted, replicator_sent, without_number}
use Rattle.geo_base.specs.Subscription.{Subscription, after_acks, attached, cleared, detached, new_subscription, permitted, sought, with_acks}
use Rattle.geo_base.specs.Topic.{grown}

-- what a broker knows of the setup: its cluster's number, all clusters' names, its topic's name, what a ledger takes
pub record Site : Type 0 where
  pub own : ℕ
  pub clusters : List (List ℕ)
  pub topic : List ℕ
  pub per_ledger : ℕ

-- entries, ledgers and the durable parts of replicators and subscriptions are durable, all else is in memory. Replicators and
-- receivers have a place for each cluster, the own one unused; sessions one for each client; subs are in order of creation
pub record Broker : Type 0 where
  pub entries : List Entry
  pub ledgers : List ℕ
  pub replicators : List Replicator
  pub receivers : List (Option ℕ)
  pub subs : List Subscription
  pub sessions : List (Option Session)
  pub builder : Option SnapshotBuilder

-- an empty topic has ledger 0
abbrev pub new_broker : ℕ → ℕ → Broker
new_broker clusters clients = record {
  entries = [];
  ledgers = 0 ∷ [];
  replicators = replicate clusters new_replicator;
  receivers = replicate clusters None;
  subs = [];
  sessions = replicate clients None;
  builder = None;
}

-- what stands past the end of a list of brokers
abbrev pub no_broker : Broker
no_broker = record { entries = []; ledgers = []; replicators = []; receivers = []; subs = []; sessions = []; builder = None }

abbrev pub cluster_name : Site → ℕ → List ℕ
cluster_name h x = slice_index_or h.clusters x []

abbrev pub replicator_at : Broker → ℕ → Replicator
replicator_at b y = slice_index_or b.replicators y new_replicator

abbrev pub receiver_at : Broker → ℕ → Option ℕ
receiver_at b x = slice_index_or b.receivers x None

abbrev pub session_at : Broker → ℕ → Option Session
session_at b c = slice_index_or b.sessions c None

abbrev pub sub_named : List Subscription → List ℕ → Option Subscription
sub_named subs n = find (λ (s : Subscription). bytes_eq s.name n) subs

abbrev pub backlog : Broker → Subscription → ℕ
backlog b s = backlog_from s.cursor 0 (map (λ (e : Entry). is_data e.content) b.entries)

abbrev pub at_sub : Broker → List ℕ → (Subscription → Subscription) → Broker
at_sub b n f = record b { subs = map (λ (s : Subscription). if bytes_eq s.name n then f s else s) b.subs }

abbrev pub at_replicator : Broker → ℕ → (Replicator → Replicator) → Broker
at_replicator b y f = record b { replicators = slice_set b.replicators y (f (replicator_at b y)) }

-- one durable write, in a topic whose ledgers take per entries. A creation at Latest acknowledges all present entries, one
-- at Earliest none (initialPosition of CommandSubscribe)
abbrev pub written : ℕ → Broker → Write → Broker
written per b (write.Append e) = record b { entries = b.entries ++ e ∷ []; ledgers = grown per b.ledgers }
written per b (write.Create n kind replicated latest) =
    if is_some (sub_named b.subs n) then b
    else record b { subs = b.subs ++ new_subscription n kind replicated (if latest then below (length b.entries) else []) ∷ [] }
written per b (write.Alter n kind replicated) = at_sub b n (λ s. record s { kind = kind; replicated = replicated })
written per b (write.Delete n) = record b { subs = filter (λ (s : Subscription). not (bytes_eq s.name n)) b.subs }
written per b (write.Acks n is) = at_sub b n (with_acks is)
written per b (write.Seek n i) = at_sub b n (sought i)
written per b (write.ReplicatorAck y i) = at_replicator b y (λ s. record s { cursor = with_index s.cursor i })
written per b (write.SessionNumber y session) = at_replicator b y (λ s. record s { session = session })
written per b write.Ledger = record b { ledgers = b.ledgers ++ 0 ∷ [] }

-- one change in memory; Forget is what a restart does
abbrev pub changed : Broker → Change → Broker
changed b (change.Receiver x session) = record b { receivers = slice_set b.receivers x session }
changed b (change.Client c session) = record b { sessions = slice_set b.sessions c session }
changed b (change.Attach n k) = at_sub b n (attached k)
changed b (change.Detach c) = record b { subs = map (detached c) b.subs }
changed b (change.Permit n c permits) = at_sub b n (permitted c permits)
changed b (change.Skipped n i) = at_sub b n (skipped_index i)
changed b (change.Given n i at) = at_sub b n (given i at)
changed b (change.Cache n snapshot) = at_sub b n (λ s. record s { cache = cached s.cache snapshot })
changed b (change.Acked n) = at_sub b n after_acks
changed b (change.Cleared n) = at_sub b n cleared
changed b (change.Opening y) = at_replicator b y replicator_reset
changed b (change.Opened y) = at_replicator b y (λ s. record s { state = replicator_state.Open })
changed b (change.Pend y i) = at_replicator b y (replicator_sent i)
changed b (change.ReadTo y i) = at_replicator b y (λ s. record s { read_index = i })
changed b (change.Unpend y number) = at_replicator b y (λ s. record s { pending = without_number s.pending number })
changed b (change.Building o) = record b { builder = o }
changed b change.Forget = record {
  entries = b.entries;
  ledgers = b.ledgers;
  replicators = map replicator_restarted b.replicators;
  receivers = map (λ r. None) b.receivers;
  subs = map cleared b.subs;
  sessions = map (λ s. None) b.sessions;
  builder = None;
}
