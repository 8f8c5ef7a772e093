-- The merge of the histories of all nodes: all their events as one list, ordered by stamp and, among equal stamps, by node.
use Rattle.std.specs.Prelude.{◌≡◌, ℕ, ◌+◌, nat_lt, ◌==◌, Bool, true, ◌&&◌, ◌||◌, if◌then◌else◌, List, [], ◌∷◌, ◌++◌, map, slice_index_or}
use Rattle.geo_base.specs.Types.{Step}
use Rattle.geo_base.specs.Types.step
use Rattle.geo_base.specs.History.{RecordedEvent}

-- the histories stand in the order of the nodes' numbers
abbrev pub history_of : List (List RecordedEvent) → ℕ → List RecordedEvent
history_of hs n = slice_index_or hs n []

-- a recorded event with the number of its node
pub record Merged : Type 0 where
  pub node : ℕ
  pub recorded : RecordedEvent

-- by stamp first: an event's stamp is greater than that of the packet that it took, and so than that of the event that sent
-- it. Events of equal stamps are of different nodes and exchange nothing, so any order of them would do; it is by node (own)
abbrev pub comes_before : Merged → Merged → Bool
comes_before a b = nat_lt a.recorded.stamp b.recorded.stamp || ((a.recorded.stamp == b.recorded.stamp) && nat_lt a.node b.node)

-- by insertion, each entry before the first that it comes before
abbrev pub inserted : Merged → List Merged → List Merged
inserted a [] = a ∷ []
inserted a (b ∷ bs) = if comes_before a b then a ∷ b ∷ bs else b ∷ inserted a bs

abbrev pub ordered : List Merged → List Merged
ordered [] = []
ordered (a ∷ as') = inserted a (ordered as')

abbrev pub of_history : ℕ → List RecordedEvent → List Merged
of_history n ds = map (λ (d : RecordedEvent). record { node = n; recorded = d }) ds

-- of all nodes from number n on
abbrev pub all_from : ℕ → List (List RecordedEvent) → List Merged
all_from n [] = []
all_from n (h ∷ hs) = of_history n h ++ all_from (n + 1) hs

abbrev pub merge_of : List (List RecordedEvent) → List Merged
merge_of hs = ordered (all_from 0 hs)

-- the schedule of a merge: its events, one step each
abbrev pub steps_of : List Merged → List Step
steps_of ms = map (λ (m : Merged). step.Plain m.recorded.event) ms

-- the entries of one node, in their order
abbrev pub of_node : ℕ → List Merged → List RecordedEvent
of_node n [] = []
of_node n (m ∷ ms) = if m.node == n then m.recorded ∷ of_node n ms else of_node n ms

abbrev pub BeforeAll : Merged → List Merged → Type 0
BeforeAll a [] = Unit {0}
BeforeAll a (b ∷ bs) = (comes_before a b ≡ true) × BeforeAll a bs

-- each comes before all after it
abbrev pub IsOrdered : List Merged → Type 0
IsOrdered [] = Unit {0}
IsOrdered (a ∷ as') = BeforeAll a as' × IsOrdered as'

-- a list is a merge of histories: of each node it has its history and nothing else, and it is ordered
pub record IsMerge (hs : List (List RecordedEvent)) (ms : List Merged) : Type 0 where
  pub each : (n : ℕ) → of_node n ms ≡ history_of hs n
  pub order : IsOrdered ms
