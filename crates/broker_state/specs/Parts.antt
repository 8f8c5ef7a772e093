-- A broker's parts beside its site, and the state that they make.
use Rattle.std.specs.Prelude.{None, length}
use Rattle.geo_base.specs.Broker.{Site}
use Rattle.broker_subs.specs.SubView.{subs_of}
use Rattle.broker_subs.specs.Table.{rooms_of}
use Rattle.broker_state.specs.State.{StateHolds, StateView}
use Rattle.broker_state.specs.declared.parts.Parts.{Parts}

-- the state of the site's broker, in which no snapshot is being made
abbrev pub state_view : Site → Parts → StateView
state_view h p = record {
  site = h;
  broker = record {
    entries = p.store.entries;
    ledgers = p.store.ledgers;
    replicators = p.tables.replicators.replicators;
    receivers = p.memory.receivers.items;
    subs = subs_of p.tables.subs.subs;
    sessions = p.memory.sessions.items;
    builder = None;
  };
  room = record {
    entries = p.store.spare;
    streams = p.memory.dedup.room;
    places = p.tables.subs.room;
    subs = rooms_of p.tables.subs.subs;
    replicators = p.tables.replicators.room;
  };
}

-- they are those of a broker of the site, and what is in memory is what the topic tells
abbrev pub AreParts : Site → Parts → Type 0
AreParts h p = StateHolds h p.store.per_ledger p.memory.next_marker p.tables.replicators.own (length p.tables.replicators.replicators) (length p.memory.receivers.items) p.memory.dedup.rows p.store.entries
