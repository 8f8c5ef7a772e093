-- What a line of a trace says, where it has a form (own).
use Rattle.std.specs.Prelude.{ℕ, ◌==◌, if◌then◌else◌, List, [], ◌∷◌, Option, Some, None, codes}
use Rattle.std.specs.Str.{bytes_eq}
use Rattle.cursor_acks.specs.Ranges.{indexes_of}
use Rattle.geo_base.specs.declared.entry.Entry.{Entry}
use Rattle.geo_base.specs.declared.entry.Ident.{Ident}
use Rattle.geo_base.specs.declared.planned.Cause.{Cause}
use Rattle.geo_base.specs.declared.planned.Cause.TheVariants as cause
use Rattle.geo_base.specs.declared.position.Position.{Position}
use Rattle.trace_lines.specs.Names.{DeclaredNames}
use Rattle.geo_base.specs.TraceItems.{Act, Acks, Appends, Begins, Creates, Deletes, Item, Seeks, Writes}
use Rattle.script_rows.specs.NameWords.{Word}
use Rattle.script_rows.specs.Words.{◌>>=◌, words_of}
use Rattle.trace_lines.specs.Entries.{entry_with, what_of}
use Rattle.trace_lines.specs.Ranges.{ranges_of}
use Rattle.trace_lines.specs.Words.{declared, number, position_of, start_of, sub_of, targets_of, text_of}

-- an entry that is named, with the list and what is after it; x is the cluster where it stands
abbrev pub append_with : List Word → ℕ → Position → Ident → Word → List Word → Option Act
append_with clusters x position ident l ws = do
  to ← targets_of clusters l
  what ← what_of clusters (ident.origin == x) ws
  Some (Appends position (entry_with clusters ident to what) what.by)

abbrev pub append_of : List Word → ℕ → List Word → Option Act
append_of clusters x (p ∷ o ∷ n ∷ q ∷ l ∷ ws) = do
  position ← position_of p
  origin ← declared clusters o
  producer ← text_of n
  seq ← number q
  append_with clusters x position (record { origin = origin; producer = producer; seq = seq }) l ws
append_of clusters x ws = None

-- an entry with its position, as a report shows it: of a cluster that is none of those where it stands
abbrev pub appended : Option Act → Option (Position × Entry)
appended (Some (Appends p e by)) = Some (p, e)
appended (Some (Creates n latest)) = None
appended (Some (Deletes n)) = None
appended (Some (Acks n is c)) = None
appended (Some (Seeks n i)) = None
appended None = None

abbrev pub no_cluster : ℕ
no_cluster = 4294967295

abbrev pub entry_of : List Word → List Word → Option (Position × Entry)
entry_of clusters ws = appended (append_of clusters no_cluster ws)

abbrev pub create_of : List Word → Option Act
create_of (n ∷ w ∷ []) = do
  sub ← sub_of n
  latest ← start_of w
  Some (Creates sub latest)
create_of ws = None

abbrev pub delete_of : List Word → Option Act
delete_of (n ∷ []) = do
  sub ← sub_of n
  Some (Deletes sub)
delete_of ws = None

abbrev pub cause_of : List Word → Option Cause
cause_of (k ∷ []) =
    if bytes_eq k (codes "client") then Some cause.Client
    else if bytes_eq k (codes "marker") then Some cause.Marker
    else None
cause_of (k ∷ w ∷ []) = if bytes_eq k (codes "update") then (do
  p ← position_of w
  Some (cause.Update p)) else None
cause_of ws = None

abbrev pub ack_of : List Word → Option Act
ack_of (n ∷ r ∷ ws) = do
  sub ← sub_of n
  ranges ← ranges_of r
  why ← cause_of ws
  Some (Acks sub (indexes_of ranges) why)
ack_of ws = None

abbrev pub seek_of : List Word → Option Act
seek_of (n ∷ i ∷ []) = do
  sub ← sub_of n
  index ← number i
  Some (Seeks sub index)
seek_of ws = None

abbrev pub act_of : List Word → ℕ → Word → List Word → Option Act
act_of clusters x k ws =
    if bytes_eq k (codes "append") then append_of clusters x ws
    else if bytes_eq k (codes "ack") then ack_of ws
    else if bytes_eq k (codes "create") then create_of ws
    else if bytes_eq k (codes "delete") then delete_of ws
    else if bytes_eq k (codes "seek") then seek_of ws
    else None

abbrev pub write_of : DeclaredNames → Word → List Word → Option Item
write_of s k (t ∷ c ∷ ws) = do
  topic ← declared s.topics t
  cluster ← declared s.clusters c
  act ← act_of s.clusters cluster k ws
  Some (Writes topic cluster act)
write_of s k ws = None

abbrev pub event_of : List Word → Option Item
event_of (n ∷ []) = do
  i ← number n
  Some (Begins i)
event_of ws = None

abbrev pub item_of : DeclaredNames → List Word → Option Item
item_of s [] = None
item_of s (k ∷ ws) = if bytes_eq k (codes "event") then event_of ws else write_of s k ws

unfoldable pub item_read : DeclaredNames → List ℕ → Option Item
item_read s line = item_of s (words_of line)
