-- The observation that lines say, or the first line that is refused (own).
use Rattle.std.specs.Prelude.{ℕ, ◌+◌, ◌*◌, nat_lt, ◌==◌, Bool, true, false, not, ◌&&◌, ◌||◌, if◌then◌else◌, List, [], ◌∷◌, ◌++◌, length, replicate, Option, Some, None, Result, Ok, Err, slice_index_or, slice_set}
use Rattle.std.specs.List.{list_any, range_with_len}
use Rattle.std.specs.Str.{bytes_eq}
use Rattle.audit.specs.AuditOf.{names_of}
use Rattle.audit.specs.Sub.{may_gain}
use Rattle.cursor_acks.specs.declared.range.IndexRange.{IndexRange}
use Rattle.cursor_acks.specs.Ranges.{indexes_of}
use Rattle.geo_base.specs.Cursor.{with_indexes}
use Rattle.geo_base.specs.Mirror.{Mirror}
use Rattle.geo_base.specs.Setup.{Setup}
use Rattle.observation.specs.declared.said.Said.{Said}
use Rattle.observation.specs.declared.said.Said.TheVariants as said
use Rattle.observation.specs.Observed.{Observation, Seen, is_above_all, seen_at}
use Rattle.observe.specs.Reads.{empty_seen, has_cursor, unread, with_cursor, with_entry, with_received, with_seen}
use Rattle.script_rows.specs.NameWords.{Word, cut_by}
use Rattle.script_text.specs.Script.{Fault}
use Rattle.observed_text.specs.declared.line.Line.{Line}
use Rattle.observed_text.specs.declared.line.Line.TheVariants as line
use Rattle.observed_text.specs.declared.line.Logged.TheVariants as logged
use Rattle.observed_text.specs.declared.line.Read.{Read}
use Rattle.observed_text.specs.declared.line.Read.TheVariants as read
use Rattle.observed_text.specs.Lines.{line_said}
use Rattle.observed_text.specs.Starts.{head_of}

-- ---- what the lines up to one say

-- The observation; by topic the subscriptions that they name, each once; and by topic, cluster and other cluster whether they tell the
-- cursor of that replicator
pub record SoFar : Type 0 where
  pub seen : Observation
  pub subs : List (List Word)
  pub told : List Bool

abbrev pub nothing_told : Setup → Bool → SoFar
nothing_told s quiet = record {
  seen = record { topics = replicate (length s.topics * length s.clusters) (empty_seen (length s.clusters)); said = []; quiet = quiet };
  subs = replicate (length s.topics) [];
  told = replicate (length s.topics * (length s.clusters * length s.clusters)) false;
}

abbrev pub subs_of : SoFar → ℕ → List Word
subs_of r t = slice_index_or r.subs t []

abbrev pub told_place : Setup → ℕ → ℕ → ℕ → ℕ
told_place s t x y = (t * length s.clusters + x) * length s.clusters + y

abbrev pub is_told : Setup → SoFar → ℕ → ℕ → ℕ → Bool
is_told s r t x y = slice_index_or r.told (told_place s t x y) false

abbrev pub is_any_told : Setup → SoFar → ℕ → ℕ → Bool
is_any_told s r t x = list_any (is_told s r t x) (range_with_len 0 (length s.clusters))

-- ---- the lowest rule that a line breaks

-- as many subscriptions as a topic of the machine takes (own)
abbrev pub most_subs : ℕ
most_subs = 32

abbrev pub is_named : List Word → Word → Bool
is_named names n = list_any (bytes_eq n) names

-- a topic may have a subscription of this name: it has it, or has room for one more
abbrev pub may_name : List Word → Word → Bool
may_name names n = is_named names n || nat_lt (length names) most_subs

abbrev pub name_refused : SoFar → ℕ → Word → Option ℕ
name_refused r t n = if may_name (subs_of r t) n then None else Some 7

abbrev pub is_empty : {A : Type 0} → List A → Bool
is_empty [] = true
is_empty (a ∷ more) = false

-- nothing was read of a topic at a cluster
abbrev pub is_untouched : Setup → SoFar → ℕ → ℕ → Seen → Bool
is_untouched s r t x v = v.is_read && (is_empty v.topic.entries && (is_empty v.topic.subs && not (is_any_told s r t x)))

-- each index of some ranges is that of an entry
abbrev pub are_of : Mirror → List IndexRange → Bool
are_of m ranges = may_gain [] (length m.entries) ranges

-- of a topic at a cluster which was read
abbrev pub seen_refused : Setup → SoFar → (t x : ℕ) → Mirror → Read → Option ℕ
seen_refused s r t x m (read.Entry p e) = if is_above_all p m.positions then None else Some 4
seen_refused s r t x m (read.Cursor n ranges) =
    if has_cursor m.subs n then Some 5 else if are_of m ranges then name_refused r t n else Some 6
seen_refused s r t x m (read.Brought y ranges) =
    if (y == x) || is_told s r t x y then Some 5 else if are_of m ranges then None else Some 6
seen_refused s r t x m (read.Below n i) = if nat_lt (length m.entries) i then Some 6 else name_refused r t n
seen_refused s r t x m (read.Unsure n) = None
seen_refused s r t x m read.Unread = None
seen_refused s r t x m read.Trimmed = None

abbrev pub read_refused : Setup → SoFar → (t x : ℕ) → Seen → Read → Option ℕ
read_refused s r t x v read.Trimmed = Some 2
read_refused s r t x v (read.Unsure n) = name_refused r t n
read_refused s r t x v read.Unread = if is_untouched s r t x v then None else Some 3
read_refused s r t x v a = if v.is_read then seen_refused s r t x v.topic a else Some 3

abbrev pub line_refused : Setup → SoFar → Line → Option ℕ
line_refused s r (line.Reads t x a) = read_refused s r t x (seen_at s r.seen t x) a
line_refused s r (line.Logs t (logged.Done n g)) = name_refused r t n
line_refused s r (line.Logs t (logged.Receipt g p)) = None

-- the first rule where it has no form
abbrev pub refused : Setup → SoFar → Option Line → Option ℕ
refused s r None = Some 1
refused s r (Some l) = line_refused s r l

-- ---- what is told with a line that breaks none

abbrev pub with_name : List Word → Word → List Word
with_name names n = if is_named names n then names else names ++ n ∷ []

abbrev pub named : SoFar → ℕ → Word → List (List Word)
named r t n = slice_set r.subs t (with_name (subs_of r t) n)

abbrev pub with_said : Observation → Said → Observation
with_said o l = record { topics = o.topics; said = o.said ++ l ∷ []; quiet = o.quiet }

-- a line of the logs that names a subscription
abbrev pub saying : SoFar → ℕ → Word → Said → SoFar
saying r t n l = record { seen = with_said r.seen l; subs = named r t n; told = r.told }

abbrev pub cursor_of : List IndexRange → List ℕ
cursor_of ranges = with_indexes [] (indexes_of ranges)

abbrev pub read_taken : Setup → SoFar → (t x : ℕ) → Seen → Read → SoFar
read_taken s r t x v (read.Entry p e) = record { seen = with_seen s r.seen t x (with_entry v p e); subs = r.subs; told = r.told }
read_taken s r t x v (read.Cursor n ranges) =
    record { seen = with_seen s r.seen t x (with_cursor v n (cursor_of ranges)); subs = named r t n; told = r.told }
read_taken s r t x v (read.Brought y ranges) = record {
  seen = with_seen s r.seen t x (with_received v y (cursor_of ranges));
  subs = r.subs;
  told = slice_set r.told (told_place s t x y) true;
}
read_taken s r t x v (read.Below n i) = saying r t n (said.Below t x n i)
read_taken s r t x v (read.Unsure n) = saying r t n (said.Unsure t x n)
read_taken s r t x v read.Unread = record { seen = with_seen s r.seen t x (unread v); subs = r.subs; told = r.told }
read_taken s r t x v read.Trimmed = r

abbrev pub line_taken : Setup → SoFar → Line → SoFar
line_taken s r (line.Reads t x a) = read_taken s r t x (seen_at s r.seen t x) a
line_taken s r (line.Logs t (logged.Done n g)) = saying r t n (said.Done t n g)
line_taken s r (line.Logs t (logged.Receipt g p)) = record { seen = with_said r.seen (said.Receipt t g p); subs = r.subs; told = r.told }

abbrev pub taken : Setup → SoFar → Option Line → SoFar
taken s r None = r
taken s r (Some l) = line_taken s r l

-- ---- all lines

abbrev pub unless_refused : ℕ → Option ℕ → Result Observation Fault → Result Observation Fault
unless_refused n None rest = rest
unless_refused n (Some rule) rest = Err (record { line = n; rule = rule })

-- A line ends with a line feed. What stands after the last one is a line only where there is a byte, and breaks the first rule; n is the
-- number of the first of these lines
abbrev pub lines_observed : Setup → SoFar → ℕ → List Word → Result Observation Fault
lines_observed s r n [] = Ok r.seen
lines_observed s r n (l ∷ []) = if length l == 0 then Ok r.seen else Err (record { line = n; rule = 1 })
lines_observed s r n (l ∷ m ∷ ls) =
    unless_refused n (refused s r (line_said (names_of s) l)) (lines_observed s (taken s r (line_said (names_of s) l)) (n + 1) (m ∷ ls))

-- the first line is the head
abbrev pub headed : Setup → ℕ → Option Bool → List Word → Result Observation Fault
headed s n None ls = Err (record { line = n; rule = 1 })
headed s n (Some quiet) ls = lines_observed s (nothing_told s quiet) (n + 1) ls

abbrev pub all_observed : Setup → ℕ → List Word → Result Observation Fault
all_observed s n (h ∷ l ∷ ls) = headed s n (head_of h) (l ∷ ls)
all_observed s n ls = Err (record { line = n; rule = 1 })

-- the observation that bytes say; or the first line that breaks a rule, and the lowest rule that it breaks. n is the number of the head
unfoldable pub read_observation : Setup → ℕ → List ℕ → Result Observation Fault
read_observation s n bytes = all_observed s n (cut_by 10 bytes)
