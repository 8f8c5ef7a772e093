-- Where the recorded events of all nodes stand: by stamp, node, and place in the node's history.
use Rattle.std.specs.Prelude.{◌≡◌, ℕ, ◌+◌, ◌<◌, ◌≤◌, Bool, false, List, [], ◌∷◌, ◌++◌, length, None, slice_index_or}
use Rattle.std.specs.Ordering.{is_lt, nat_cmp, ordering_then}
use Rattle.geo_base.specs.declared.event.Event.{Event}
use Rattle.geo_base.specs.declared.event.Event.TheVariants as event
use Rattle.geo_base.specs.declared.event.Step.{Step}
use Rattle.geo_base.specs.declared.event.Step.TheVariants as step
use Rattle.geo_base.specs.History.{RecordedEvent}
use Rattle.geo_base.specs.Merge.{Merged, history_of}
use Rattle.merge_history.specs.declared.turn.Turn.{Turn}
use Rattle.merge_history.specs.Kept.{Kept}

-- those of a history from place i on, by the stamps of its events
abbrev pub turns_from : {X : Type 0} → (X → ℕ) → ℕ → ℕ → List X → List Turn
turns_from stamp n i [] = []
turns_from stamp n i (x ∷ xs) = record { stamp = stamp x; node = n; place = i } ∷ turns_from stamp n (i + 1) xs

-- those of all histories, from that of node n on
abbrev pub all_turns : {X : Type 0} → (X → ℕ) → ℕ → List (List X) → List Turn
all_turns stamp n [] = []
all_turns stamp n (h ∷ hs) = turns_from stamp n 0 h ++ all_turns stamp (n + 1) hs

-- u comes before t
abbrev pub comes_first : Turn → Turn → Bool
comes_first u t = is_lt (ordering_then (nat_cmp u.stamp t.stamp) (ordering_then (nat_cmp u.node t.node) (nat_cmp u.place t.place)))

-- no turn comes before its neighbour in front
abbrev pub AreSorted : List Turn → Type 0
AreSorted ts = (k : ℕ) (d : Turn) → 0 ≤ k → k + 1 < length ts → comes_first (slice_index_or ts (k + 1) d) (slice_index_or ts k d) ≡ false

-- ---- the recorded event at a turn; past the end of a history there is none
abbrev pub no_event : RecordedEvent
no_event = record { event = event.Go 0; taken = None; sent = []; stamp = 0 }

abbrev pub entry_at : List (List RecordedEvent) → Turn → Merged
entry_at hs t = record { node = t.node; recorded = slice_index_or (history_of hs t.node) t.place no_event }

abbrev pub stamp_of : RecordedEvent → ℕ
stamp_of d = d.stamp

-- of what is kept
abbrev pub no_kept : Kept
no_kept = record { event = event.Go 0; taken = None; sent = []; stamp = 0 }

abbrev pub kept_at : List (List Kept) → Turn → Kept
kept_at kept t = slice_index_or (slice_index_or kept t.node []) t.place no_kept

abbrev pub event_at : List (List Kept) → Turn → Event
event_at kept t = (kept_at kept t).event

abbrev pub step_at : List (List Kept) → Turn → Step
step_at kept t = step.Plain (event_at kept t)

-- a turn is one of an event that is kept
abbrev pub IsIn : List (List Kept) → Turn → Type 0
IsIn kept t = (t.node < length kept) × (t.place < length (slice_index_or kept t.node []))

-- stamps rise in a history
abbrev pub AreAbove : ℕ → List RecordedEvent → Type 0
AreAbove low [] = Unit {0}
AreAbove low (d ∷ ds) = (low < d.stamp) × AreAbove low ds

abbrev pub Rise : List RecordedEvent → Type 0
Rise [] = Unit {0}
Rise (d ∷ ds) = AreAbove d.stamp ds × Rise ds

-- ---- histories of bytes and of values with the same events and stamps
abbrev pub AlikeEvents : List Kept → List RecordedEvent → Type 0
AlikeEvents [] [] = Unit {0}
AlikeEvents (x ∷ xs) (d ∷ ds) = ((x.event ≡ d.event) × (x.stamp ≡ d.stamp)) × AlikeEvents xs ds
AlikeEvents xs ds = ⊥

abbrev pub AlikeAll : List (List Kept) → List (List RecordedEvent) → Type 0
AlikeAll [] [] = Unit {0}
AlikeAll (xs ∷ kept) (ds ∷ hs) = AlikeEvents xs ds × AlikeAll kept hs
AlikeAll kept hs = ⊥
