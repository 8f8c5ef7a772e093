-- The worlds that a run may start from: the opening world, and what a file keeps of a run's world after a stop of everything.
-- Stored entries need not be plain there: a file may hold any entry that can be read (own).
use Rattle.std.specs.Prelude.{◌≡◌, ℕ, ◌+◌, ◌%◌, ◌<◌, ◌≤◌, true, List, [], ◌∷◌, ◌++◌, length}
use Rattle.std.specs.List.{AllByRecursion}
use Rattle.geo_base.specs.declared.change.Change.TheVariants as change
use Rattle.geo_base.specs.declared.entry.Entry.{Entry}
use Rattle.geo_base.specs.Broker.{Broker, changed}
use Rattle.geo_base.specs.Client.{Client, unconnected}
use Rattle.geo_base.specs.Entry.{is_own_marker}
use Rattle.geo_base.specs.Name.{is_name}
use Rattle.geo_base.specs.Run.{most_events, most_sent_bytes}
use Rattle.geo_base.specs.Replicator.{Replicator}
use Rattle.geo_base.specs.Setup.{Setup}
use Rattle.geo_base.specs.Subscription.{Subscription}
use Rattle.geo_base.specs.Topic.{accepts, next_marker}
use Rattle.geo_base.specs.World.{World, broker_at, opening_world}
use Rattle.geo_base.specs.Worlds.{IsWorldOf}
use Rattle.world_laws.specs.Indexes.{AllHaveIndexes}

-- the greatest count at a start: of a session, of a connection, of a topic's entries (own: the numbers of a run stay far below
-- 2 ^ 63, so that none comes to its end in a run that starts there)
abbrev pub most_at_start : ℕ
most_at_start = 4294967296

-- an entry after those before it in a topic of cluster own: one of these clusters stored it first, no entry before it stands in
-- its way, and an own marker has the number after those of all before
pub record IsNextStored (clusters own : ℕ) (before : List Entry) (e : Entry) : Type 0 where
  pub origin : e.ident.origin < clusters
  pub new : accepts before e.ident ≡ true
  pub marker : is_own_marker own e ≡ true → e.ident.seq ≡ next_marker own before

-- each entry after those before it
abbrev pub AreStored : ℕ → ℕ → List Entry → List Entry → Type 0
AreStored clusters own before [] = Unit {0}
AreStored clusters own before (e ∷ es) = IsNextStored clusters own before e × AreStored clusters own (before ++ e ∷ []) es

pub record IsStartSub (v : Subscription) : Type 0 where
  pub name : is_name v.name ≡ true
  pub seeks : v.seeks ≤ most_at_start

-- a broker of cluster own, of which a restart forgets nothing: it has nothing in memory
pub record IsStartBroker (clusters own : ℕ) (b : Broker) : Type 0 where
  pub few : length b.entries ≤ most_at_start
  pub entries : AreStored clusters own [] b.entries
  pub replicators : AllByRecursion (λ (v : Replicator). v.session ≤ most_at_start) b.replicators
  pub subs : AllByRecursion IsStartSub b.subs
  pub at_rest : changed b change.Forget ≡ b

-- a client that is not connected, and so holds nothing
pub record IsStartClient (k : Client) : Type 0 where
  pub connection : k.connection ≤ most_at_start
  pub receipts : k.receipts ≤ most_at_start
  pub duplicates : k.duplicates ≤ most_at_start
  pub errors : k.errors ≤ most_at_start
  pub apart : unconnected k ≡ k

-- what a run left is within its limits
pub record AreStartCounts (w : World) : Type 0 where
  pub events : w.events + w.idle ≤ most_events
  pub rounds : w.rounds ≤ most_at_start
  pub sent : w.frame_bytes ≤ most_sent_bytes

-- the world in which a run goes on from brokers, clients and counts: no link was ever used there, and no node has a stamp
abbrev pub resumed_world : Setup → World → World
resumed_world s w = record (opening_world s) {
  brokers = w.brokers;
  clients = w.clients;
  events = w.events;
  idle = w.idle;
  rounds = w.rounds;
  frame_bytes = w.frame_bytes;
}

-- a start: nothing is known of it but brokers, by topic and then by cluster, clients and counts; there are as many brokers and clients
-- as the setup says, with a place for each of those that they know
pub record IsStart (s : Setup) (w : World) : Type 0 where
  pub places : IsWorldOf s w
  pub brokers : (z : ℕ) → z < length w.brokers → IsStartBroker (length s.clusters) (z % length s.clusters) (broker_at w z)
  pub clients : AllByRecursion IsStartClient w.clients
  pub indexes : AllHaveIndexes w
  pub counts : AreStartCounts w
  pub unused : resumed_world s w ≡ w
