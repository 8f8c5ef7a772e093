use Rattle.std.proofs.Common.{◌≡◌, ◌+◌, ◌≤◌, map}
use Rattle.std.specs.VecDeque.{deque_len}
use Rattle.geo_base.specs.Plan.{all_written}
use Rattle.broker_subs.specs.Table.{names_of, room_at}
use Rattle.broker_state.specs.Fits.{AllWritesFit, SameShape, WritesNamed, all_names_after}
use Rattle.broker_state.specs.Plan.{name_of}
use Rattle.broker_state.specs.Room.{WritesHaveRoom, all_room_left, replicators_of, total}
use Rattle.broker_state.specs.Writes.{machine_write}
use Rattle.broker_state.proofs.state.BrokerState.write_all.Given as goal

-- doing what is left is doing all from the start
abbrev pub invariant-loop-write : goal.invariant-loop-write
invariant-loop-write l =
    let n = name_of l.fn.self.broker.subs l.sub_index l.fn.writes.items in
    let es = l.fn.self.broker.entries in
    record {
      named : WritesNamed n l.sub_index (names_of l.self.broker.subs) l.writes.items;
      fits : AllWritesFit l.fn.self.site.per_ledger n es l.sub_index l.self.broker l.writes.items;
      room : WritesHaveRoom l.self.room l.sub_index l.writes.items;
      rest : all_written l.fn.self.site.per_ledger l.self.broker (map (machine_write n es) l.writes.items) ≡ all_written l.fn.self.site.per_ledger l.fn.self.broker (map (machine_write n es) l.fn.writes.items);
      names : all_names_after l.sub_index (names_of l.self.broker.subs) l.writes.items ≡ all_names_after l.sub_index (names_of l.fn.self.broker.subs) l.fn.writes.items;
      given : all_room_left (room_at l.fn.self.room.subs l.sub_index).room l.fn.writes.items ≤ all_room_left (room_at l.self.room.subs l.sub_index).room l.writes.items;
      replicators : l.fn.self.room.replicators + total replicators_of l.writes.items ≤ l.self.room.replicators + total replicators_of l.fn.writes.items;
      site : l.self.site ≡ l.fn.self.site;
      shape : SameShape l.fn.self.broker l.self.broker;
    }

abbrev pub decreases-loop-write : goal.decreases-loop-write
decreases-loop-write l = deque_len l.writes
