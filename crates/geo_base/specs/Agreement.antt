-- Histories of all nodes that agree: what each took from a link was sent on it, in the order of sending.
use Rattle.std.specs.Prelude.{◌≡◌, ℕ, true, List, [], ◌∷◌, ◌++◌, length, Some}
use Rattle.geo_base.specs.Types.{Event, Frame, Packet}
use Rattle.geo_base.specs.Types.frame
use Rattle.geo_base.specs.Entry.{with_origin}
use Rattle.geo_base.specs.History.{RecordedEvent, Replays, sent_in, taken_in}
use Rattle.geo_base.specs.Merge.{history_of}
use Rattle.geo_base.specs.Nodes.{has_link, node_count, sender_of, taker_of}
use Rattle.geo_base.specs.NodeState.{NodeState, acts, opening_state}
use Rattle.geo_base.specs.Setup.{Setup}
use Rattle.geo_base.specs.World.{LinkName}

abbrev pub IsBeginning : List Packet → List Packet → Type 0
IsBeginning ps qs = (rest : List Packet) × (qs ≡ ps ++ rest)

-- a frame without the origin of its entry. The bytes of an entry do not say it: they have replicated_from, or else the
-- cluster that the frame came from stored the entry first (Api, MessageMetadata)
abbrev pub without_origin : Frame → Frame
without_origin (frame.Send id seq source e) = frame.Send id seq source (with_origin 0 e)
without_origin (frame.Message id position source e) = frame.Message id position source (with_origin 0 e)
without_origin f = f

-- two packets that no event at any state tells apart. Equal packets are alike; so are two of which the bytes are equal,
-- though their values differ in what bytes do not say
pub record IsAlike (s : Setup) (p q : Packet) : Type 0 where
  pub stamp : p.stamp ≡ q.stamp
  pub acts : (st : NodeState) (e : Event) → acts s st e (Some p) ≡ acts s st e (Some q)

-- one by one
abbrev pub AreAlike : Setup → List Packet → List Packet → Type 0
AreAlike s [] [] = Unit {0}
AreAlike s (p ∷ ps) (q ∷ qs) = IsAlike s p q × AreAlike s ps qs
AreAlike s ps qs = ⊥

-- the first are alike, one by one, to a beginning of the second
pub record BeginsAlike (s : Setup) (ps qs : List Packet) : Type 0 where
  pub front : List Packet
  pub rest : List Packet
  pub whole : qs ≡ front ++ rest
  pub alike : AreAlike s ps front

-- what the history of a link's sender says was sent on it, and what that of its taker says was taken from it
abbrev pub recorded_sent : Setup → List (List RecordedEvent) → LinkName → List Packet
recorded_sent s hs k = sent_in s k (history_of hs (sender_of s k))

abbrev pub recorded_taken : Setup → List (List RecordedEvent) → LinkName → List Packet
recorded_taken s hs k = taken_in s k (opening_state s (taker_of s k)) (history_of hs (taker_of s k))

-- histories of all nodes: each replays from its node's opening state, and on every link what was taken is, but for what no
-- event sees, a beginning of what was sent
pub record AreHistories (s : Setup) (hs : List (List RecordedEvent)) : Type 0 where
  pub nodes : length hs ≡ node_count s
  pub replay : (n : ℕ) → Replays s n (opening_state s n) 0 (history_of hs n)
  pub agree : (k : LinkName) → has_link s k ≡ true → BeginsAlike s (recorded_taken s hs k) (recorded_sent s hs k)

-- the same where the very packets that were sent were taken
pub record AreExactHistories (s : Setup) (hs : List (List RecordedEvent)) : Type 0 where
  pub nodes : length hs ≡ node_count s
  pub replay : (n : ℕ) → Replays s n (opening_state s n) 0 (history_of hs n)
  pub agree : (k : LinkName) → has_link s k ≡ true → IsBeginning (recorded_taken s hs k) (recorded_sent s hs k)
