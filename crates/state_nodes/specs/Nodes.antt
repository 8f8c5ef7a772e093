-- The durable part of a broker.
use Rattle.std.specs.Prelude.{◌≡◌, ℕ, List, [], ◌++◌, length, None, Ok}
use Rattle.geo_base.specs.declared.entry.Entry.{Entry}
use Rattle.geo_base.specs.Broker.{Broker}
use Rattle.geo_base.specs.Replicator.{Replicator}
use Rattle.geo_base.specs.Subscription.{Subscription}
use Rattle.state_items.specs.EntryTexts.{entry_text}
use Rattle.state_items.specs.Reading.{◌>>=◌, Read}
use Rattle.state_items.specs.Telling.{Then}
use Rattle.state_items.specs.Texts.{list}
use Rattle.state_nodes.specs.declared.brokers.NodeParts.{NodeParts}
use Rattle.state_nodes.specs.Entries.{AreEntries}
use Rattle.state_nodes.specs.Ledgers.{entry_count, ledgers_at, ledgers_text}
use Rattle.state_nodes.specs.Replicators.{replicators_at, replicators_text}
use Rattle.state_nodes.specs.Subs.{subs_at, subs_text}

-- a broker that knows of no other one and of no client
abbrev pub broker_with : List ℕ → List Entry → List Subscription → List Replicator → Broker
broker_with ledgers entries subs replicators = record {
  entries = entries;
  ledgers = ledgers;
  replicators = replicators;
  receivers = [];
  subs = subs;
  sessions = [];
  builder = None;
}

abbrev pub node_text : List (List ℕ) → ℕ → Broker → List ℕ
node_text names own b =
    ledgers_text b.ledgers
    ++ (list (entry_text names own) b.entries ++ (subs_text (length b.entries) b.subs ++ replicators_text (length b.entries) own b.replicators))

-- ---- reading

-- the lengths of a broker's ledgers, and how many entries they have
unfoldable pub counted_ledgers_at : ℕ → List ℕ → Read (List ℕ × ℕ)
counted_ledgers_at per bytes = do
  lengths ← ledgers_at per bytes
  count ← entry_count lengths.0 lengths.1
  Ok ((lengths.0, count.0), count.1)

-- subscriptions and replicators, after n entries
unfoldable pub shares_at : ℕ → ℕ → ℕ → ℕ → List ℕ → Read (List Subscription × List Replicator)
shares_at version own clusters n bytes = do
  subs ← subs_at version n bytes
  replicators ← replicators_at n own clusters subs.1
  Ok ((subs.0, replicators.0), replicators.1)

unfoldable pub behind_entries : ℕ → ℕ → ℕ → List ℕ → List Entry → List ℕ → Read Broker
behind_entries version own clusters ledgers entries bytes = do
  shares ← shares_at version own clusters (length entries) bytes
  Ok (broker_with ledgers entries shares.0.0 shares.0.1, shares.1)

-- a broker of the cluster own, whose ledgers take per entries
abbrev pub IsNode : ℕ → ℕ → List (List ℕ) → ℕ → List ℕ → Read Broker → Type 0
IsNode version per names own bytes answer =
    Then (λ r. r ≡ counted_ledgers_at per bytes)
    (λ ls r. Then (AreEntries names own ls.0.1 ls.1) (λ es q. q ≡ behind_entries version own (length names) ls.0.0 es.0 es.1) r)
    answer

-- the parts of a broker
abbrev pub broker_of : NodeParts → Broker
broker_of p = broker_with p.ledgers.items p.entries.items p.subs p.replicators
