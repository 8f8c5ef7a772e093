-- How many steps find memory, and how many a prepared event takes.
use Rattle.std.specs.Prelude.{ℕ, ◌+◌, ◌-◌, ◌≤◌, ◌<◌, List, [], ◌∷◌, ⊤}
use Rattle.broker_subs.specs.Steps as sub
use Rattle.broker_subs.specs.Table.{SubRoom, room_at}
use Rattle.broker_state.specs.Plan.{PlanView}
use Rattle.broker_state.specs.declared.change.StateChange.{StateChange}
use Rattle.broker_state.specs.declared.change.StateChange.TheVariants as state_change
use Rattle.broker_state.specs.declared.write.StateWrite.{StateWrite}
use Rattle.broker_state.specs.declared.write.StateWrite.TheVariants as state_write

-- so many more entries or ledgers find memory, streams in the table of duplicates, and subscriptions; at each subscription its own
-- room, and at each replicator so many more indexes that are acknowledged or sent
pub record Room : Type 0 where
  pub entries : ℕ
  pub streams : ℕ
  pub places : ℕ
  pub subs : List SubRoom
  pub replicators : ℕ

-- what each of some steps takes, together
abbrev pub total : {X : Type 0} → (X → ℕ) → List X → ℕ
total f [] = 0
total f (x ∷ xs) = f x + total f xs

abbrev pub entries_of : StateWrite → ℕ
entries_of (state_write.Append e stream) = 1
entries_of (state_write.Create s latest) = 0
entries_of state_write.Delete = 0
entries_of (state_write.Sub w) = 0
entries_of (state_write.ReplicatorAck y i) = 0
entries_of (state_write.SessionNumber y session) = 0
entries_of state_write.Ledger = 1

abbrev pub streams_of : StateWrite → ℕ
streams_of (state_write.Append e stream) = 1
streams_of (state_write.Create s latest) = 0
streams_of state_write.Delete = 0
streams_of (state_write.Sub w) = 0
streams_of (state_write.ReplicatorAck y i) = 0
streams_of (state_write.SessionNumber y session) = 0
streams_of state_write.Ledger = 0

abbrev pub places_of : StateWrite → ℕ
places_of (state_write.Append e stream) = 0
places_of (state_write.Create s latest) = 1
places_of state_write.Delete = 0
places_of (state_write.Sub w) = 0
places_of (state_write.ReplicatorAck y i) = 0
places_of (state_write.SessionNumber y session) = 0
places_of state_write.Ledger = 0

abbrev pub replicators_of : StateWrite → ℕ
replicators_of (state_write.Append e stream) = 0
replicators_of (state_write.Create s latest) = 0
replicators_of state_write.Delete = 0
replicators_of (state_write.Sub w) = 0
replicators_of (state_write.ReplicatorAck y i) = 1
replicators_of (state_write.SessionNumber y session) = 0
replicators_of state_write.Ledger = 0

-- for how many acknowledged indexes a write needs room at the event's subscription, of which so many find room, and for how many
-- there is room after it: one that is created brings its own
abbrev pub AcksFit : ℕ → StateWrite → Type 0
AcksFit acks (state_write.Append e stream) = ⊤
AcksFit acks (state_write.Create s latest) = 0 < s.acks
AcksFit acks state_write.Delete = ⊤
AcksFit acks (state_write.Sub w) = sub.acks_needed w ≤ acks
AcksFit acks (state_write.ReplicatorAck y i) = ⊤
AcksFit acks (state_write.SessionNumber y session) = ⊤
AcksFit acks state_write.Ledger = ⊤

abbrev pub acks_left : ℕ → StateWrite → ℕ
acks_left acks (state_write.Append e stream) = acks
acks_left acks (state_write.Create s latest) = s.acks - 1
acks_left acks state_write.Delete = 0
acks_left acks (state_write.Sub w) = sub.acks_after acks w
acks_left acks (state_write.ReplicatorAck y i) = acks
acks_left acks (state_write.SessionNumber y session) = acks
acks_left acks state_write.Ledger = acks

abbrev pub AllAcksFit : ℕ → List StateWrite → Type 0
AllAcksFit acks [] = ⊤
AllAcksFit acks (w ∷ ws) = AcksFit acks w × AllAcksFit (acks_left acks w) ws

-- how many consumers that join and indexes that are given find room there after a write
abbrev pub room_left : ℕ → StateWrite → ℕ
room_left room (state_write.Append e stream) = room
room_left room (state_write.Create s latest) = s.room
room_left room state_write.Delete = 0
room_left room (state_write.Sub w) = room
room_left room (state_write.ReplicatorAck y i) = room
room_left room (state_write.SessionNumber y session) = room
room_left room state_write.Ledger = room

abbrev pub all_room_left : ℕ → List StateWrite → ℕ
all_room_left room [] = room
all_room_left room (w ∷ ws) = all_room_left (room_left room w) ws

-- and how many of them a change is
abbrev pub change_room : StateChange → ℕ
change_room (state_change.Receiver x session) = 0
change_room (state_change.Client c session) = 0
change_room (state_change.Detach c) = 0
change_room (state_change.Sub c) = sub.room_needed c
change_room (state_change.Opening y) = 0
change_room (state_change.Opened y) = 0
change_room (state_change.Pend y i) = 0
change_room (state_change.ReadTo y i) = 0
change_room (state_change.Unpend y number) = 0
change_room (state_change.Building o) = 0
change_room state_change.Forget = 0

abbrev pub change_replicators : StateChange → ℕ
change_replicators (state_change.Receiver x session) = 0
change_replicators (state_change.Client c session) = 0
change_replicators (state_change.Detach c) = 0
change_replicators (state_change.Sub c) = 0
change_replicators (state_change.Opening y) = 0
change_replicators (state_change.Opened y) = 0
change_replicators (state_change.Pend y i) = 1
change_replicators (state_change.ReadTo y i) = 0
change_replicators (state_change.Unpend y number) = 0
change_replicators (state_change.Building o) = 0
change_replicators state_change.Forget = 0

-- writes of an event about the subscription at a place find the room that they need
pub record WritesHaveRoom (room : Room) (k : ℕ) (ws : List StateWrite) : Type 0 where
  pub entries : total entries_of ws ≤ room.entries
  pub streams : total streams_of ws ≤ room.streams
  pub places : total places_of ws ≤ room.places
  pub acks : AllAcksFit (room_at room.subs k).acks ws
  pub replicators : total replicators_of ws ≤ room.replicators

pub record ChangesHaveRoom (room : Room) (k : ℕ) (cs : List StateChange) : Type 0 where
  pub given : total change_room cs ≤ (room_at room.subs k).room
  pub replicators : total change_replicators cs ≤ room.replicators

-- a prepared event finds the room that it needs
pub record HasRoom (room : Room) (p : PlanView) : Type 0 where
  pub writes : WritesHaveRoom room p.sub p.writes
  pub given : total change_room p.changes ≤ all_room_left (room_at room.subs p.sub).room p.writes
  pub replicators : total replicators_of p.writes + total change_replicators p.changes ≤ room.replicators

-- the room that a write leaves
pub record WriteLeaves (k : ℕ) (w : StateWrite) (old new : Room) : Type 0 where
  pub entries : old.entries ≤ new.entries + entries_of w
  pub streams : old.streams ≤ new.streams + streams_of w
  pub places : old.places ≤ new.places + places_of w
  pub acks : acks_left (room_at old.subs k).acks w ≤ (room_at new.subs k).acks
  pub room : room_left (room_at old.subs k).room w ≤ (room_at new.subs k).room
  pub replicators : old.replicators ≤ new.replicators + replicators_of w

pub record ChangeLeaves (k : ℕ) (c : StateChange) (old new : Room) : Type 0 where
  pub room : (room_at old.subs k).room ≤ (room_at new.subs k).room + change_room c
  pub replicators : old.replicators ≤ new.replicators + change_replicators c
