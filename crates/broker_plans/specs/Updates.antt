-- The writes that an update takes.
use Rattle.std.specs.Prelude.{ℕ, if◌then◌else◌, Bool, List, [], ◌∷◌, Option, Some, None, ⊤}
use Rattle.topic_store.specs.Table.{stream_of}
use Rattle.geo_base.specs.declared.entry.Entry.{Entry}
use Rattle.geo_base.specs.declared.snapshot.CachedSnapshot.{CachedSnapshot}
use Rattle.geo_base.specs.declared.snapshot.Cut.{Cut}
use Rattle.geo_base.specs.Broker.{Broker, Site}
use Rattle.geo_base.specs.Cache.{last_passed}
use Rattle.geo_base.specs.Cursor.{mark}
use Rattle.geo_base.specs.Storing.{update_marker}
use Rattle.broker_subs.specs.Steps.{sub_written}
use Rattle.broker_subs.specs.Table.{sub_at}
use Rattle.broker_subs.specs.declared.writing.SubWrite.{SubWrite}
use Rattle.broker_state.specs.declared.write.StateWrite.{StateWrite}
use Rattle.broker_state.specs.declared.write.StateWrite.TheVariants as state_write

-- an entry is stored
abbrev pub appending : Entry → StateWrite
appending e = state_write.Append e (stream_of e.ident)

abbrev pub update_write : Site → Broker → List ℕ → Option Cut → Option StateWrite
update_write h b n None = None
update_write h b n (Some cut) = Some (appending (update_marker h b n cut))

-- the update of a subscription whose mark-delete has come so far, with these snapshots
abbrev pub update_at : Site → Broker → List ℕ → Bool → ℕ → List CachedSnapshot → Option StateWrite
update_at h b n replicated mark cache = update_write h b n (if replicated then last_passed mark cache else None)

-- a write that stores an entry
abbrev pub IsAppend : StateWrite → Type 0
IsAppend (state_write.Append e stream) = ⊤
IsAppend w = ⊥

abbrev pub with_update : Option StateWrite → List StateWrite
with_update None = []
with_update (Some w) = w ∷ []

-- the update that follows a write of the subscription at place k, which has these snapshots then
abbrev pub update_after : Site → Broker → ℕ → SubWrite → List CachedSnapshot → Option StateWrite
update_after h b k w cache = update_at h b (sub_at b.subs k).name (sub_at b.subs k).replicated (mark (sub_written b.entries w (sub_at b.subs k)).cursor) cache

-- a write of its cursor with what follows it
abbrev pub cursor_writes : SubWrite → Option StateWrite → List StateWrite
cursor_writes w o = state_write.Sub w ∷ with_update o
