-- What is known of the durable part of a broker that was read.
use Rattle.std.specs.Prelude.{◌≡◌, ℕ, ◌<◌, ◌≤◌, true, List, [], length, Some}
use Rattle.std.specs.List.{sum}
use Rattle.state_items.specs.Origins.{origin_of}
use Rattle.state_items.specs.Stored.{IsStored}
use Rattle.geo_base.specs.declared.entry.Entry.{Entry}
use Rattle.geo_base.specs.Broker.{Broker}
use Rattle.geo_base.specs.Sizes.{entry_size, most_entry_size}
use Rattle.message_meta.specs.Metadata.{IsMetaText, Metadata}
use Rattle.state_items.specs.Fitting.{AllFit}
use Rattle.state_nodes.specs.Entries.{is_next}
use Rattle.state_nodes.specs.Fitting.{AreReplicators, AreSubs}
use Rattle.state_nodes.specs.Nodes.{broker_with}

-- an entry of the cluster own after others: it is that of some metadata's text and a payload, and passed all tests of one
pub record IsKnownEntry (names : List (List ℕ)) (own : ℕ) (before : List Entry) (e : Entry) : Type 0 where
  pub meta : Metadata
  pub text : List ℕ
  pub payload : List ℕ
  pub says : IsMetaText text meta
  pub stored : IsStored names meta e.ident.origin payload e
  pub origin : origin_of names own meta.replicated_from ≡ Some e.ident.origin
  pub next : is_next own before e.ident ≡ true
  pub small : entry_size names e ≤ most_entry_size

-- the durable part of the broker of the cluster own, whose ledgers take per entries
pub record IsKnownNode (per : ℕ) (names : List (List ℕ)) (own : ℕ) (b : Broker) : Type 0 where
  pub opened : 0 < length b.ledgers
  pub ledgers : AllFit (λ before l. l ≤ per) [] b.ledgers
  pub together : sum b.ledgers ≡ length b.entries
  pub entries : AllFit (IsKnownEntry names own) [] b.entries
  pub subs : AreSubs (length b.entries) b.subs
  pub all_replicators : length b.replicators ≡ length names
  pub replicators : AreReplicators (length b.entries) own b.replicators
  pub durable : broker_with b.ledgers b.entries b.subs b.replicators ≡ b
