-- The highest sequence id of each stream, and which topic a table of them tells.
use Rattle.std.specs.Prelude.{◌≡◌, ◌↔◌, ℕ, nat_lt, ◌==◌, Bool, true, ◌&&◌, if◌then◌else◌, List, Option, Some, None}
use Rattle.std.specs.Map.{lookup}
use Rattle.std.specs.Str.{bytes_eq}
use Rattle.indexmap.specs.IndexMap.{insert_entry}
use Rattle.geo_base.specs.Topic.{accepts}
use Rattle.geo_base.specs.declared.entry.Entry.{Entry}
use Rattle.geo_base.specs.declared.entry.Ident.{Ident}
use Rattle.topic_store.specs.declared.stream.Stream.{Stream}
use Rattle.topic_store.specs.declared.table.Verdict.{Verdict}
use Rattle.topic_store.specs.declared.table.Verdict.TheVariants as judged

-- a stream and its highest sequence id
abbrev pub Row : Type 0
Row = Stream × ℕ

-- the rows, each stream once, and how many more streams find memory
pub record Table : Type 0 where
  pub rows : List Row
  pub room : ℕ

abbrev pub stream_of : Ident → Stream
stream_of i = record { origin = i.origin; producer = i.producer }

abbrev pub is_stream : Stream → Stream → Bool
is_stream s t = (s.origin == t.origin) && bytes_eq s.producer t.producer

-- the highest sequence id of a stream; None where the stream is not in the table
abbrev pub highest : List Row → Stream → Option ℕ
highest rows s = lookup (is_stream s) rows

abbrev pub judge : Option ℕ → ℕ → Verdict
judge None n = judged.New
judge (Some h) n = if nat_lt h n then judged.New else judged.Seen h

abbrev pub verdict : List Row → Stream → ℕ → Verdict
verdict rows s n = judge (highest rows s) n

-- a sequence id is now the highest of its stream, which goes last where it is new
abbrev pub noted : List Row → Stream → ℕ → List Row
noted rows s n = insert_entry is_stream rows s n

-- a table tells a topic: it calls new exactly what the topic accepts
pub record Tells (rows : List Row) (es : List Entry) : Type 0 where
  pub at : (i : Ident) → (verdict rows (stream_of i) i.seq ≡ judged.New) ↔ (accepts es i ≡ true)
