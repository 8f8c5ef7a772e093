-- The merge of a list of logs.
use Rattle.std.specs.Prelude.{ℕ, List, map, slice_index_or}
use Rattle.geo_base.specs.Broker.{no_broker}
use Rattle.geo_base.specs.NodeState.{BrokerState, NodeState}
use Rattle.geo_base.specs.Nodes.{node_number}
use Rattle.script_text.specs.Script.{Script}
use Rattle.merge_history.specs.declared.merge.Merged.{Merged}
use Rattle.merge_history.specs.Logs.{LogView}
use Rattle.merge_history.specs.Merges.{IsMerged}
use Rattle.node_log.specs.Logs.{NodeLogView}

-- a log as the merge sees it: its configuration, its node's number, and its history
abbrev pub view_of : {E : Type 0} → NodeLogView E → LogView
view_of b = record { scenario = b.scenario; node = node_number b.scenario.setup b.node; history = b.history }

abbrev pub views_of : {E : Type 0} → List (NodeLogView E) → List LogView
views_of bs = map view_of bs

-- the state in the log at place n; past the end of the list any state serves
abbrev pub state_in : {E : Type 0} → List (NodeLogView E) → ℕ → NodeState
state_in bs n = slice_index_or (map (λ b. b.state) bs) n (BrokerState no_broker)

-- what their merge says under a configuration
abbrev pub IsMergeOf : {E : Type 0} → Script → List (NodeLogView E) → Merged → Type 0
IsMergeOf c bs m = IsMerged c (views_of bs) (state_in bs) m
