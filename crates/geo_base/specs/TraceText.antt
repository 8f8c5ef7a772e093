-- The text of a trace, line by line (own). A reader of such lines is the audit's own.
use Rattle.std.specs.Prelude.{ℕ, ◌+◌, ◌==◌, Bool, true, false, if◌then◌else◌, List, [], ◌∷◌, ◌++◌, map, Option, Some, None, slice_index_or, codes, decimal}
use Rattle.std.specs.List.{join_with_byte}
use Rattle.geo_base.specs.Types.{Cause, Entry, Position}
use Rattle.geo_base.specs.Types.cause
use Rattle.geo_base.specs.Report.{shown_content, shown_ident, shown_position, shown_targets, words}
use Rattle.geo_base.specs.Setup.{Setup}
use Rattle.geo_base.specs.TraceItems.{Act, Acks, Appends, Begins, Creates, Deletes, Item, Seeks, Writes}

-- indexes in a row; ascending indexes are ranges with a gap between each two
pub record IndexRange : Type 0 where
  pub first : ℕ
  pub last : ℕ

abbrev pub joined : ℕ → List IndexRange → List IndexRange
joined i [] = record { first = i; last = i } ∷ []
joined i (r ∷ rs) = if i + 1 == r.first then record { first = i; last = r.last } ∷ rs else record { first = i; last = i } ∷ r ∷ rs

abbrev pub ranges_of : List ℕ → List IndexRange
ranges_of [] = []
ranges_of (i ∷ is) = joined i (ranges_of is)

abbrev pub shown_range : IndexRange → List ℕ
shown_range r = decimal r.first ++ (45 ∷ decimal r.last)

-- each as FIRST-LAST, with a comma between each two, and - where there is none
abbrev pub shown_ranges : List IndexRange → List ℕ
shown_ranges [] = codes "-"
shown_ranges (r ∷ rs) = join_with_byte 44 (map shown_range (r ∷ rs))

-- an acknowledgement is a client's, a marker's or an update's
abbrev pub shown_cause : Cause → List (List ℕ)
shown_cause cause.Client = codes "client" ∷ []
shown_cause cause.Marker = codes "marker" ∷ []
shown_cause (cause.Update p) = codes "update" ∷ shown_position p ∷ []
shown_cause c = []

-- the snapshot that an own update tells
abbrev pub shown_by : Option Position → List (List ℕ)
shown_by None = []
shown_by (Some p) = codes "by" ∷ shown_position p ∷ []

abbrev pub shown_start : Bool → List ℕ
shown_start true = codes "latest"
shown_start false = codes "earliest"

-- the words of an entry, as in a report's line
abbrev pub entry_words : Setup → Position → Entry → List (List ℕ)
entry_words s p e = shown_position p ∷ shown_ident s.clusters e.ident ++ shown_targets s.clusters e.to ∷ shown_content s.clusters e e.content

-- t and x are the names of the topic and of the cluster
abbrev pub act_words : Setup → List ℕ → List ℕ → Act → List (List ℕ)
act_words s t x (Appends p e by) = codes "append" ∷ t ∷ x ∷ entry_words s p e ++ shown_by by
act_words s t x (Creates n latest) = codes "create" ∷ t ∷ x ∷ n ∷ shown_start latest ∷ []
act_words s t x (Deletes n) = codes "delete" ∷ t ∷ x ∷ n ∷ []
act_words s t x (Acks n is c) = codes "ack" ∷ t ∷ x ∷ n ∷ shown_ranges (ranges_of is) ∷ shown_cause c
act_words s t x (Seeks n i) = codes "seek" ∷ t ∷ x ∷ n ∷ decimal i ∷ []

unfoldable pub item_line : Setup → Item → List ℕ
item_line s (Begins n) = words (codes "event" ∷ decimal n ∷ [])
item_line s (Writes t x a) = words (act_words s (slice_index_or s.topics t []) (slice_index_or s.clusters x []) a)

-- the lines of a trace after its declarations
abbrev pub trace_lines : Setup → List Item → List (List ℕ)
trace_lines s is = codes "trace" ∷ map (item_line s) is
