-- The run over the merge of the histories of all nodes, and a world that is as they recorded it.
use Rattle.std.specs.Prelude.{◌≡◌, ℕ, true, List, length}
use Rattle.geo_base.specs.History.{RecordedEvent, last_stamp, replayed, sent_in, taken_in}
use Rattle.geo_base.specs.Merge.{merge_of, steps_of}
use Rattle.geo_base.specs.NodeState.{clock_at, opening_state, state_at}
use Rattle.geo_base.specs.Nodes.{has_link, sender_of, taker_of}
use Rattle.geo_base.specs.Run.{run}
use Rattle.geo_base.specs.Setup.{Setup}
use Rattle.geo_base.specs.World.{LinkName, World, link_at}

-- the world at the end of the run over all that was recorded
abbrev pub merged_world : Setup → List (List RecordedEvent) → World
merged_world s hs = run s (steps_of (merge_of hs))

-- a world is as recorded in the histories h, by node: each node has the state and the last stamp to which its history
-- replays, and each link has just the packets that its sender's history sent on it, of which so many were taken as its
-- taker's history took
pub record IsAsRecorded (s : Setup) (h : ℕ → List RecordedEvent) (w : World) : Type 0 where
  pub states : (n : ℕ) → state_at s w n ≡ replayed s (opening_state s n) (h n)
  pub clocks : (n : ℕ) → clock_at s w n ≡ last_stamp 0 (h n)
  pub links : (k : LinkName) → has_link s k ≡ true → link_at w.links k ≡ record {
    sent = sent_in s k (h (sender_of s k));
    taken = length (taken_in s k (opening_state s (taker_of s k)) (h (taker_of s k)));
  }
