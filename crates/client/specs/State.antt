-- The parts of a client as they are read and as they are put together again.
use Rattle.std.specs.Prelude.{false, []}
use Rattle.geo_base.specs.Client.{Client}
use Rattle.client.specs.declared.client.state.ClientState.{ClientState}
use Rattle.client.specs.declared.client.state.ClientView.{ClientView}

-- the client that is viewed
abbrev pub viewed : ClientView → Client
viewed v = record {
  cluster = v.cluster;
  connection = v.connection;
  connected = v.is_connected;
  done = v.done;
  produce = v.produce;
  sub = v.sub;
  flow = v.flow;
  unanswered = v.unanswered.now;
  held = v.held.now;
  receipts = v.receipts;
  duplicates = v.duplicates;
  errors = v.errors;
  got = v.got.now;
}

-- what a stop leaves of a client: it is not connected and holds nothing
abbrev pub stopped : ClientState → Client
stopped s = record {
  cluster = s.cluster;
  connection = s.connection;
  connected = false;
  done = s.done;
  produce = s.produce;
  sub = s.sub;
  flow = s.flow;
  unanswered = s.unanswered.items;
  held = [];
  receipts = s.receipts;
  duplicates = s.duplicates;
  errors = s.errors;
  got = s.got.items;
}
