-- The lines of a broker's writes, and what is needed to make them.
use Rattle.std.specs.Prelude.{ℕ, ◌<◌, ◌+◌, List, [], ◌∷◌, ◌++◌, length, ⊤}
use Rattle.std.specs.List.{All}
use Rattle.geo_base.specs.declared.entry.Entry.{Entry}
use Rattle.geo_base.specs.declared.event.Event.{Event}
use Rattle.geo_base.specs.declared.event.Event.TheVariants as event
use Rattle.geo_base.specs.Broker.{Site, cluster_name}
use Rattle.geo_base.specs.Cursor.{below}
use Rattle.geo_base.specs.TraceItems.{Act}
use Rattle.geo_base.specs.Updating.{updated_indexes}
use Rattle.broker_subs.specs.declared.writing.SubWrite.{SubWrite}
use Rattle.broker_subs.specs.declared.writing.SubWrite.TheVariants as sub_write
use Rattle.broker_state.specs.declared.write.StateWrite.{StateWrite}
use Rattle.broker_state.specs.declared.write.StateWrite.TheVariants as state_write
use Rattle.trace_runs.specs.Naming.{Naming, act_line}

-- the topic and the cluster of a broker, by their names
abbrev pub naming : Site → Naming
naming h = record { clusters = h.clusters; topic = h.topic; cluster = cluster_name h h.own }

-- lines, each with its line feed
abbrev pub lines_of : Site → List Act → List ℕ
lines_of h [] = []
lines_of h (a ∷ more) = act_line (naming h) a ++ lines_of h more

-- the other cluster of a read is one
abbrev pub ReadsWithin : Site → Event → Type 0
ReadsWithin h (event.Read t x y) = y < length h.clusters
ReadsWithin h e = ⊤

-- the indexes that a cursor gains are those of entries
abbrev pub SubIsWithin : List Entry → SubWrite → Type 0
SubIsWithin es (sub_write.Acks is) = All (λ i. i < length es) is
SubIsWithin es (sub_write.AckTo i) = i < length es
SubIsWithin es (sub_write.UpdateTo i from runs) = i < length es
SubIsWithin es w = ⊤

-- the indexes that a write acknowledges
abbrev pub indexes_acked : List Entry → SubWrite → List ℕ
indexes_acked es (sub_write.Acks is) = is
indexes_acked es (sub_write.AckTo i) = below (i + 1)
indexes_acked es (sub_write.UpdateTo i from runs) = updated_indexes from 0 (i + 1) es
indexes_acked es w = []

abbrev pub IsWithin : List Entry → StateWrite → Type 0
IsWithin es (state_write.Sub w) = SubIsWithin es w
IsWithin es w = ⊤
