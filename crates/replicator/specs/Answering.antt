-- What the back link's answers do to a replicator: only those of the current session count.
use Rattle.std.specs.Prelude.{ℕ, ◌+◌, ◌<◌, ◌^◌, ◌==◌, ◌&&◌, Bool, true, false, if◌then◌else◌, [], Option, Some, None, ⊤}
use Rattle.geo_base.specs.declared.frame.Frame.{Frame}
use Rattle.geo_base.specs.declared.frame.Frame.TheVariants as frame
use Rattle.geo_base.specs.declared.replicator.ReplicatorState.{ReplicatorState}
use Rattle.geo_base.specs.declared.replicator.ReplicatorState.TheVariants as replicator_state
use Rattle.geo_base.specs.Replicator.{Replicator, pending_index, without_number}
use Rattle.replicator.specs.Sending.{Sending, replicator_with}
use Rattle.replicator.specs.declared.answering.Heard.{Heard}
use Rattle.replicator.specs.declared.answering.Heard.TheVariants as hears

abbrev pub is_opening : ReplicatorState → Bool
is_opening replicator_state.Opening = true
is_opening replicator_state.Open = false
is_opening replicator_state.Closed = false

-- the state after a success of the current session
abbrev pub opened : ReplicatorState → ReplicatorState
opened replicator_state.Opening = replicator_state.Open
opened replicator_state.Open = replicator_state.Open
opened replicator_state.Closed = replicator_state.Closed

abbrev pub after_success : ℕ → Replicator → Replicator
after_success session s = if session == s.session then record s { state = opened s.state } else s

-- the index whose receipt is that of a number of a session
abbrev pub awaited : ℕ → ℕ → Replicator → Option ℕ
awaited session number s = if session == s.session then pending_index s.pending number else None

abbrev pub after_receipt : ℕ → ℕ → Replicator → Replicator
after_receipt session number s = if session == s.session then record s { pending = without_number s.pending number } else s

-- what a packet of the back link means, by its session and its frame
abbrev pub heard_receipt : ℕ → Option ℕ → Heard
heard_receipt number None = hears.Nothing
heard_receipt number (Some i) = hears.Receipt number i

abbrev pub heard : ℕ → Frame → Sending → Heard
heard session (frame.ProducerSuccess request name) s = if (session == s.session) && is_opening s.state then hears.Opened else hears.Nothing
heard session (frame.SendReceipt id number position) s = heard_receipt number (awaited session number (replicator_with [] s))
heard session command s = hears.Nothing

-- a cursor can hold the index
abbrev pub HeardFits : Heard → Type 0
HeardFits hears.Nothing = ⊤
HeardFits hears.Opened = ⊤
HeardFits (hears.Receipt number i) = i + 1 < 2 ^ 64
