-- Where histories do not agree: a packet that a node took and that is not the one that was sent at its place on its link.
use Rattle.std.specs.Prelude.{◌≡◌, ℕ, ◌<◌, List, ◌∷◌, ◌++◌, length, Option, Some, slice_get}
use Rattle.geo_base.specs.Types.{Packet, Peer}
use Rattle.geo_base.specs.Agreement.{recorded_sent}
use Rattle.geo_base.specs.History.{RecordedEvent, replayed, taken_in}
use Rattle.geo_base.specs.Merge.{Merged, of_node}
use Rattle.geo_base.specs.Nodes.{link_from, node_of}
use Rattle.geo_base.specs.NodeState.{NodeState, opening_state, takes_from}
use Rattle.geo_base.specs.Setup.{Setup}
use Rattle.geo_base.specs.World.{LinkName}

-- what the node of an entry did before it, and its state then
abbrev pub done_before : List Merged → Merged → List RecordedEvent
done_before earlier m = of_node m.node earlier

abbrev pub state_before : Setup → List Merged → Merged → NodeState
state_before s earlier m = replayed s (opening_state s m.node) (done_before earlier m)

-- an entry of a merged list that takes a packet from a peer
pub record Taking (s : Setup) (ms : List Merged) : Type 0 where
  pub earlier : List Merged
  pub entry : Merged
  pub later : List Merged
  pub whole : ms ≡ earlier ++ entry ∷ later
  pub peer : Peer
  pub packet : Packet
  pub comes : takes_from (state_before s earlier entry) entry.recorded.event ≡ Some peer
  pub taken : entry.recorded.taken ≡ Some packet

-- its link, its place among those that were taken from that link, and what was sent at that place
abbrev pub link_taken : (s : Setup) (ms : List Merged) → Taking s ms → LinkName
link_taken s ms t = link_from s (node_of s t.entry.recorded.event) t.peer

abbrev pub place_taken : (s : Setup) (ms : List Merged) → Taking s ms → ℕ
place_taken s ms t = length (taken_in s (link_taken s ms t) (opening_state s t.entry.node) (done_before t.earlier t.entry))

abbrev pub sent_there : (s : Setup) (hs : List (List RecordedEvent)) (ms : List Merged) → Taking s ms → Option Packet
sent_there s hs ms t = slice_get (recorded_sent s hs (link_taken s ms t)) (place_taken s ms t)

abbrev pub IsSent : (s : Setup) (hs : List (List RecordedEvent)) (ms : List Merged) → Taking s ms → Type 0
IsSent s hs ms t = sent_there s hs ms t ≡ Some t.packet

-- the first in the order of the steps. A relation, since packets as values have no test of equality
pub record IsFirstDifference (s : Setup) (hs : List (List RecordedEvent)) (ms : List Merged) (t : Taking s ms) : Type 0 where
  pub differs : IsSent s hs ms t → ⊥
  pub first : (u : Taking s ms) → length u.earlier < length t.earlier → IsSent s hs ms u
