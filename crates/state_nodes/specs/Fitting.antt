-- Parts of a state that are read again as they were written.
use Rattle.std.specs.Prelude.{◌≡◌, ◌≢◌, ℕ, ◌+◌, ◌<◌, ◌≤◌, ◌^◌, true, ◌⊎◌, List, [], length, None}
use Rattle.std.specs.List.{sum}
use Rattle.state_items.specs.EntryTexts.{HasTexts, metadata_text}
use Rattle.state_items.specs.Told.{IsTold}
use Rattle.geo_base.specs.declared.entry.Entry.{Entry}
use Rattle.geo_base.specs.Broker.{Broker, sub_named}
use Rattle.geo_base.specs.Name.{is_name}
use Rattle.geo_base.specs.Run.{most_events, most_sent_bytes}
use Rattle.geo_base.specs.Sizes.{entry_size, most_entry_size}
use Rattle.geo_base.specs.Replicator.{Replicator, new_replicator, replicator_restarted}
use Rattle.geo_base.specs.Subscribing.{most_subs}
use Rattle.geo_base.specs.Subscription.{Subscription, cleared}
use Rattle.state_items.specs.Fitting.{AllFit, IsCursor}
use Rattle.state_items.specs.Limits.{most_count}
use Rattle.state_nodes.specs.declared.counts.Counts.{Counts}
use Rattle.state_nodes.specs.Entries.{is_next}
use Rattle.state_nodes.specs.Nodes.{broker_with}
use Rattle.frame_values.specs.Texts.{payload_text}

pub record AreCounts (c : Counts) : Type 0 where
  pub events : c.events ≤ most_count
  pub idle : c.idle ≤ most_count
  pub run : c.events + c.idle ≤ most_events
  pub rounds : c.rounds ≤ most_count
  pub sent : c.frame_bytes ≤ most_sent_bytes

-- a subscription after others, with nothing in memory
pub record IsSub (n : ℕ) (before : List Subscription) (s : Subscription) : Type 0 where
  pub name : is_name s.name ≡ true
  pub new : sub_named before s.name ≡ None
  pub acked : IsCursor n s.cursor
  pub seeks : s.seeks ≤ most_count
  pub at_rest : cleared s ≡ s

pub record AreSubs (n : ℕ) (ss : List Subscription) : Type 0 where
  pub few : length ss ≤ most_subs
  pub each : AllFit (IsSub n) [] ss

-- a replicator with nothing in memory
pub record IsReplicator (n : ℕ) (s : Replicator) : Type 0 where
  pub session : s.session ≤ most_count
  pub acked : IsCursor n s.cursor
  pub restarted : replicator_restarted s ≡ s

-- after others; the place of the own cluster is unused
abbrev pub IsPlace : ℕ → ℕ → List Replicator → Replicator → Type 0
IsPlace n own before s = ((length before ≡ own) × (s ≡ new_replicator)) ⊎ ((length before ≢ own) × IsReplicator n s)

abbrev pub AreReplicators : ℕ → ℕ → List Replicator → Type 0
AreReplicators n own ss = AllFit (IsPlace n own) [] ss

-- an entry of the cluster own after others
pub record IsNextEntry (names : List (List ℕ)) (own : ℕ) (before : List Entry) (e : Entry) : Type 0 where
  pub texts : HasTexts names own e
  pub told : IsTold names own e
  pub metadata : length (metadata_text names own e) < 2 ^ 32
  pub payload : length (payload_text names e.content e.payload) < 2 ^ 32
  pub next : is_next own before e.ident ≡ true
  pub small : entry_size names e ≤ most_entry_size

-- the durable part of the broker of the cluster own, whose ledgers take per entries
pub record IsDurable (per : ℕ) (names : List (List ℕ)) (own : ℕ) (b : Broker) : Type 0 where
  pub per_ledger : per < 2 ^ 64
  pub few : length b.entries < 2 ^ 64
  pub opened : 0 < length b.ledgers
  pub ledgers_few : length b.ledgers < 2 ^ 64
  pub ledgers : AllFit (λ before l. l ≤ per) [] b.ledgers
  pub together : sum b.ledgers ≡ length b.entries
  pub entries : AllFit (IsNextEntry names own) [] b.entries
  pub subs : AreSubs (length b.entries) b.subs
  pub all_replicators : length b.replicators ≡ length names
  pub replicators : AreReplicators (length b.entries) own b.replicators
  pub durable : broker_with b.ledgers b.entries b.subs b.replicators ≡ b
