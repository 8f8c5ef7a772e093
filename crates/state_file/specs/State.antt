-- The state of a run's world after a stop.
use Rattle.std.specs.Prelude.{List, map}
use Rattle.client.specs.declared.client.state.ClientState.{ClientState}
use Rattle.client.specs.State.{stopped}
use Rattle.geo_base.specs.Broker.{Broker}
use Rattle.geo_base.specs.Client.{Client}
use Rattle.geo_base.specs.World.{World}
use Rattle.durable_parts.specs.Durable.{durable_part}
use Rattle.script_text.specs.Canonical.{declared_alone}
use Rattle.script_text.specs.Script.{Script}
use Rattle.state_file.specs.declared.saved.Saved.{Saved}
use Rattle.state_nodes.specs.declared.counts.Counts.{Counts}
use Rattle.state_nodes.specs.Nodes.{broker_of}

-- what the script declares, what the run counted, the brokers by topic and then by cluster, each with nothing in memory, and the
-- clients, which are not connected and hold nothing
pub record SavedState : Type 0 where
  pub scenario : Script
  pub counts : Counts
  pub brokers : List Broker
  pub clients : List Client

abbrev pub state_of : Saved → SavedState
state_of s = record {
  scenario = s.scenario;
  counts = s.counts;
  brokers = map broker_of s.brokers.items;
  clients = map stopped s.clients.items;
}

-- the state of what stands before the clients, and of these
abbrev pub with_clients : Script → Counts → List Broker → List ClientState → SavedState
with_clients script counts brokers ks = record { scenario = script; counts = counts; brokers = brokers; clients = map stopped ks }

-- of a script's world that is stopped: what the script declares, what the run counted, what is durable of the brokers, and the clients
abbrev pub state_in : Script → World → SavedState
state_in s w = record {
  scenario = declared_alone s.setup s.chance;
  counts = record { events = w.events; idle = w.idle; rounds = w.rounds; frame_bytes = w.frame_bytes };
  brokers = map durable_part w.brokers;
  clients = w.clients;
}
