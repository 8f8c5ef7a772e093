-- What survives a stop of a broker, as a broker of the machine with nothing in memory.
use Rattle.std.specs.Prelude.{[], map, None}
use Rattle.geo_base.specs.Broker.{Broker}
use Rattle.geo_base.specs.Replicator.{replicator_restarted}
use Rattle.geo_base.specs.Subscription.{cleared}
use Rattle.durable_parts.specs.declared.durable.Durable.{Durable}

-- what is durable of a broker, as a broker that knows of no other one and of no client
abbrev pub durable_part : Broker → Broker
durable_part b = record {
  entries = b.entries;
  ledgers = b.ledgers;
  replicators = map replicator_restarted b.replicators;
  receivers = [];
  subs = map cleared b.subs;
  sessions = [];
  builder = None;
}

-- what survived, as such a broker
abbrev pub broker_of : Durable → Broker
broker_of d = record {
  entries = d.store.entries;
  ledgers = d.store.ledgers;
  replicators = d.replicators;
  receivers = [];
  subs = d.subs;
  sessions = [];
  builder = None;
}
