-- A run with its lines: what an observer sees of it that tells a trace, and what it knows.
use Rattle.std.specs.Prelude.{ℕ, ◌+◌, List, [], ◌∷◌, ◌++◌, length, map, slice_index_or, take, ⊤}
use Rattle.geo_base.specs.declared.event.Event.{Event}
use Rattle.geo_base.specs.declared.event.Event.TheVariants as event
use Rattle.geo_base.specs.Broker.{Broker, no_broker}
use Rattle.geo_base.specs.Report.{with_line_feeds}
use Rattle.geo_base.specs.Setup.{Setup}
use Rattle.geo_base.specs.TraceItems.{Begins, Item}
use Rattle.geo_base.specs.TraceText.{item_line}
use Rattle.geo_base.specs.Traced.{cause_of, event_items, halt_items}
use Rattle.broker.specs.Node.{BrokerView}
use Rattle.broker_state.specs.Plan.{PlanView, plan_in}
use Rattle.trace_runs.specs.Acts.{acts_before}
use Rattle.trace_runs.specs.SnapshotTables.{Snapshots, TellsBeginning, table_at}
use Rattle.trace_runs.specs.Writes.{lines_of}
use Rattle.world.specs.Observing.{Sight}

-- the table of each broker, by its number, tells a beginning of its topic
pub record AreTables (s : Setup) (ts : List Snapshots) (bs : List Broker) : Type 0 where
  pub at : (k : ℕ) → TellsBeginning (length s.clusters) (table_at ts k) (slice_index_or bs k no_broker).entries

-- lines of a trace, each with its line feed
abbrev pub item_lines : Setup → List Item → List ℕ
item_lines s is = with_line_feeds (map (item_line s) is)

-- each thing that a run does adds its lines to the text before
abbrev pub told_lines : Sight (List ℕ)
told_lines = record {
  event = λ s w e t. t ++ item_lines s (event_items s w e);
  halt = λ s w k e t. t ++ item_lines s (halt_items s w k e);
  stop = λ s w t. t ++ item_lines s (Begins (w.events + 1) ∷ []);
  settles = λ s w t. t;
  settling = λ s w e t. t ++ item_lines s (event_items s w e);
  settled = λ s w t. t;
}

-- the text before, and then what is told of the first k writes that are prepared for an event at a broker, after so many events
abbrev pub text_of : Setup → List ℕ → ℕ → BrokerView → Event → PlanView → ℕ → List ℕ
text_of s old events v e p k =
    (old ++ (item_line s (Begins (events + 1)) ++ 10 ∷ [])) ++ lines_of v.site (acts_before v.site (cause_of v.broker e) v.broker (take k (plan_in v.broker p).writes))

abbrev pub IsClients : Event → Type 0
IsClients (event.Go c) = ⊤
IsClients (event.Get c) = ⊤
IsClients (event.Reconnect c) = ⊤
IsClients e = ⊥
