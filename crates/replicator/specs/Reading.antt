-- What the replicator of a cluster to another does with the entry that it reads next.
use Rattle.std.specs.Prelude.{◌≡◌, ℕ, ◌+◌, ◌-◌, ◌≤◌, ◌<◌, ◌^◌, ◌==◌, ◌&&◌, if◌then◌else◌, List, length, Option, Some, None, slice_get, ⊤}
use Rattle.geo_base.specs.declared.entry.Content.{Content}
use Rattle.geo_base.specs.declared.entry.Content.TheVariants as content
use Rattle.geo_base.specs.declared.entry.Entry.{Entry}
use Rattle.geo_base.specs.Entry.{goes_to}
use Rattle.geo_base.specs.Replicator.{Replicator, index_to_read, replicator_sent}
use Rattle.replicator.specs.declared.reading.ReadOut.{ReadOut}
use Rattle.replicator.specs.declared.reading.ReadOut.TheVariants as reads

-- of an entry that the other cluster stored first, a marker is acted on, and all else is skipped
abbrev pub read_out_other : ℕ → Content → ReadOut
read_out_other i content.Data = reads.Skip i
read_out_other i (content.Marked m) = reads.Mark i
read_out_other i (content.Unread k) = reads.Skip i

-- what the own cluster stored first and is to go there is sent under the next number; a replicated entry is never sent again
abbrev pub read_out_entry : ℕ → ℕ → ℕ → ℕ → Option Entry → ReadOut
read_out_entry own y next i None = reads.Idle
read_out_entry own y next i (Some e) =
    if (e.ident.origin == own) && goes_to y e.to then reads.Send i next
    else if e.ident.origin == y then read_out_other i e.content
    else reads.Skip i

abbrev pub read_out_at : ℕ → ℕ → ℕ → List Entry → Option ℕ → ReadOut
read_out_at own y next es None = reads.Idle
read_out_at own y next es (Some i) = read_out_entry own y next i (slice_get es i)

-- the entry at the least index that the cursor lacks, from where reading goes on, while the session is open
abbrev pub read_out : ℕ → ℕ → Replicator → List Entry → ReadOut
read_out own y s es = read_out_at own y s.next es (index_to_read s.state s (length es))

-- reading goes on after the entry; what is sent awaits a receipt
abbrev pub after_read : ReadOut → Replicator → Replicator
after_read reads.Idle s = s
after_read (reads.Skip i) s = record s { read_index = i + 1 }
after_read (reads.Mark i) s = record s { read_index = i + 1 }
after_read (reads.Send i number) s = replicator_sent i s

-- only what is sent takes room
abbrev pub room_after : ReadOut → ℕ → ℕ
room_after reads.Idle room = room
room_after (reads.Skip i) room = room
room_after (reads.Mark i) room = room
room_after (reads.Send i number) room = room - 1

-- an index that is read stands in a topic of so many entries, no more entries were sent than read, and the index after it is
-- a 64-bit number
pub record IndexFits (next len i : ℕ) : Type 0 where
  pub within : i < len
  pub sent : next ≤ i
  pub fits : i + 1 < 2 ^ 64

-- a marker that y stored first
abbrev pub IsMarked : Content → Type 0
IsMarked content.Data = ⊥
IsMarked (content.Marked m) = ⊤
IsMarked (content.Unread k) = ⊥

abbrev pub IsMarkerOf : ℕ → Option Entry → Type 0
IsMarkerOf y None = ⊥
IsMarkerOf y (Some e) = (e.ident.origin ≡ y) × IsMarked e.content

-- what is read fits, and what is acted on is a marker of y, what is sent goes under the next number
abbrev pub ReadFits : ℕ → ℕ → List Entry → ReadOut → Type 0
ReadFits y next es reads.Idle = ⊤
ReadFits y next es (reads.Skip i) = IndexFits next (length es) i
ReadFits y next es (reads.Mark i) = IndexFits next (length es) i × IsMarkerOf y (slice_get es i)
ReadFits y next es (reads.Send i number) = IndexFits next (length es) i × (number ≡ next)
