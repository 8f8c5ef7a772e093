use Rattle.std.proofs.Common.{◌≡◌, map}
use Rattle.std.specs.VecDeque.{deque_len}
use Rattle.geo_base.specs.Plan.{all_changed}
use Rattle.broker_subs.specs.Table.{names_of, sub_at}
use Rattle.broker_state.specs.Fits.{AllChangesFit, ChangesNamed, SameShape}
use Rattle.broker_state.specs.Room.{ChangesHaveRoom}
use Rattle.broker_state.specs.Writes.{machine_change}
use Rattle.broker_state.proofs.state.BrokerState.change_all.Given as goal

-- doing what is left is doing all from the start
abbrev pub invariant-loop-change : goal.invariant-loop-change
invariant-loop-change l =
    let n = (sub_at l.fn.self.broker.subs l.sub_index).name in
    record {
      named : ChangesNamed n l.sub_index (names_of l.self.broker.subs) l.changes.items;
      fits : AllChangesFit n l.sub_index l.self.broker l.changes.items;
      room : ChangesHaveRoom l.self.room l.sub_index l.changes.items;
      rest : all_changed l.self.broker (map (machine_change n) l.changes.items) ≡ all_changed l.fn.self.broker (map (machine_change n) l.fn.changes.items);
      site : l.self.site ≡ l.fn.self.site;
      shape : SameShape l.fn.self.broker l.self.broker;
    }

abbrev pub decreases-loop-change : goal.decreases-loop-change
decreases-loop-change l = deque_len l.changes
