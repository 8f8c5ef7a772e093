-- What is shown of the program's world: all but its links.
use Rattle.std.specs.Prelude.{[]}
use Rattle.geo_base.specs.World.{Links, World}
use Rattle.world.specs.World.{WorldView, brokers_of}

abbrev pub no_links : Links
no_links = record { forward = []; back = []; to_broker = []; to_client = [] }

-- as a world of the machine, from which reports are made
abbrev pub shown_world : WorldView → World
shown_world b = record {
  brokers = brokers_of b.brokers;
  clients = b.clients;
  links = no_links;
  broker_clocks = b.broker_clocks;
  client_clocks = b.client_clocks;
  events = b.events;
  idle = b.idle;
  rounds = b.rounds;
  frame_bytes = b.frame_bytes;
}
