-- An entry in a line of a trace, as a report writes it (own). The words tell all of an entry that a run of a script makes: its
-- metadata has the names of its list, and nothing else but a message's key.
use Rattle.std.specs.Prelude.{Bool, if◌then◌else◌, List, [], ◌∷◌, Option, Some, None, codes}
use Rattle.std.specs.List.{join_with_byte, list_all}
use Rattle.std.specs.Str.{bytes_eq}
use Rattle.geo_base.specs.declared.entry.Content.{Content}
use Rattle.geo_base.specs.declared.entry.Content.TheVariants as content
use Rattle.geo_base.specs.declared.entry.Entry.{Entry}
use Rattle.geo_base.specs.declared.entry.Ident.{Ident}
use Rattle.geo_base.specs.declared.entry.Targets.{Targets}
use Rattle.geo_base.specs.declared.marker.ClusterPosition.{ClusterPosition}
use Rattle.geo_base.specs.declared.marker.Marker.TheVariants as marker
use Rattle.geo_base.specs.declared.position.Position.{Position}
use Rattle.geo_base.specs.Client.{target_names}
use Rattle.script_rows.specs.NameWords.{Word, given}
use Rattle.script_rows.specs.Words.{◌>>=◌}
use Rattle.trace_lines.specs.Words.{is_printable}
use Rattle.trace_lines.specs.declared.line.ToldPositions.{ToldPositions}
use Rattle.trace_lines.specs.declared.line.What.{What}
use Rattle.trace_lines.specs.Words.{cluster_position_of, key_of, place_of, position_of, sub_of, text_of}

abbrev pub marked : Content → Option Position → What
marked c by = record { content = c; key = None; payload = []; by = by }

-- what is left of a line is the text of a message, spaces included
abbrev pub data_of : List Word → Option What
data_of (k ∷ w ∷ ws) = do
  key ← key_of k
  payload ← given (list_all is_printable (join_with_byte 32 (w ∷ ws))) (join_with_byte 32 (w ∷ ws))
  Some (record { content = content.Data; key = key; payload = payload; by = None })
data_of ws = None

abbrev pub request_of : List Word → List Word → Option What
request_of clusters (i ∷ c ∷ []) = do
  id ← text_of i
  source ← place_of clusters c
  Some (marked (content.Marked (marker.Request id source)) None)
request_of clusters ws = None

abbrev pub response_of : List Word → List Word → Option What
response_of clusters (i ∷ a ∷ []) = do
  id ← text_of i
  answer ← cluster_position_of clusters a
  Some (marked (content.Marked (marker.Response id answer)) None)
response_of clusters ws = None

-- positions of clusters, to the end of the line
abbrev pub cluster_positions_of : List Word → List Word → Option (List ClusterPosition)
cluster_positions_of clusters [] = Some []
cluster_positions_of clusters (w ∷ ws) = do
  r ← cluster_position_of clusters w
  rs ← cluster_positions_of clusters ws
  Some (r ∷ rs)

abbrev pub snapshot_of : List Word → List Word → Option What
snapshot_of clusters (i ∷ l ∷ ws) = do
  id ← text_of i
  local ← position_of l
  remote ← cluster_positions_of clusters ws
  Some (marked (content.Marked (marker.Snapshot id local remote)) None)
snapshot_of clusters ws = None

abbrev pub update_of : List Word → List Word → Option What
update_of clusters (n ∷ ws) = do
  sub ← sub_of n
  remote ← cluster_positions_of clusters ws
  Some (marked (content.Marked (marker.Update sub remote)) None)
update_of clusters ws = None

abbrev pub unread_of : List Word → Option What
unread_of [] = Some (marked (content.Unread 0) None)
unread_of ws = None

abbrev pub by_of : List Word → Option Position
by_of (p ∷ []) = position_of p
by_of ws = None

abbrev pub told_positions_of : List Word → List Word → Option ToldPositions
told_positions_of clusters [] = None
told_positions_of clusters (w ∷ ws) =
    if bytes_eq w (codes "by") then (do
      p ← by_of ws
      Some (record { remote = []; by = p }))
    else (do
      r ← cluster_position_of clusters w
      t ← told_positions_of clusters ws
      Some (record { remote = r ∷ t.remote; by = t.by }))

-- an update of the own cluster
abbrev pub own_update_of : List Word → List Word → Option What
own_update_of clusters (n ∷ ws) = do
  sub ← sub_of n
  t ← told_positions_of clusters ws
  Some (marked (content.Marked (marker.Update sub t.remote)) (Some t.by))
own_update_of clusters ws = None

-- k is the first word; own is whether the entry is of the cluster where it stands
abbrev pub kind_of : List Word → Bool → Word → List Word → Option What
kind_of clusters own k ws =
    if bytes_eq k (codes "data") then data_of ws
    else if bytes_eq k (codes "update") then (if own then own_update_of clusters ws else update_of clusters ws)
    else if bytes_eq k (codes "snapshot") then snapshot_of clusters ws
    else if bytes_eq k (codes "request") then request_of clusters ws
    else if bytes_eq k (codes "response") then response_of clusters ws
    else if bytes_eq k (codes "unread") then unread_of ws
    else None

abbrev pub what_of : List Word → Bool → List Word → Option What
what_of clusters own [] = None
what_of clusters own (k ∷ ws) = kind_of clusters own k ws

abbrev pub entry_with : List Word → Ident → Targets → What → Entry
entry_with clusters ident to w = record {
  ident = ident;
  content = w.content;
  to = to;
  meta = record { publish_time = 0; key = w.key; names = target_names 0 to clusters; rest = [] };
  payload = w.payload;
}
