-- How many entries there are: at most one a line.
use Rattle.std.proofs.Common.{◌≡◌, ℕ, zero, suc, ◌+◌, ◌*◌, ◌≤◌, Bool, List, [], ◌∷◌, ◌++◌, length, replicate, refl, arith}
use Rattle.std.specs.Prelude.{slice_index_or, slice_set}
use Rattle.std.proofs.lemmas.List.{length-append}
use Rattle.geo_base.specs.Setup.{Setup}
use Rattle.observation.specs.Observed.{Seen, nothing_seen, seen_at}
use Rattle.observe.specs.Reads.{empty_seen, unread, with_cursor, with_entry, with_received}
use Rattle.observe.specs.Topics.{entries_in}
use Rattle.observed_text.specs.declared.line.Line.{Line}
use Rattle.observed_text.specs.declared.line.Line.TheVariants as line
use Rattle.observed_text.specs.declared.line.Logged.TheVariants as logged
use Rattle.observed_text.specs.declared.line.Read.{Read}
use Rattle.observed_text.specs.declared.line.Read.TheVariants as read
use Rattle.observed_text.specs.Observing.{SoFar, cursor_of, line_taken, nothing_told, read_taken}

none_yet : (n clusters : ℕ) → entries_in (replicate n (empty_seen clusters)) ≡ 0
none_yet zero clusters = refl
none_yet (suc n) clusters = let more = none_yet n clusters in omega (arith, more)

pub opening_count : (s : Setup) (quiet : Bool) → entries_in (nothing_told s quiet).seen.topics ≡ 0
opening_count s quiet = none_yet (length s.topics * length s.clusters) (length s.clusters)

-- one of some topics changes, and has one entry more at most
set_count : (vs : List Seen) (k : ℕ) (v : Seen) → length v.topic.entries ≤ length (slice_index_or vs k nothing_seen).topic.entries + 1
    → entries_in (slice_set vs k v) ≤ entries_in vs + 1
set_count [] k v h = omega arith
set_count (w ∷ vs) zero v h = omega (arith, h)
set_count (w ∷ vs) (suc k) v h = let more = set_count vs k v h in omega (arith, more)

one_more : {A : Type 0} (es : List A) (e : A) → length (es ++ e ∷ []) ≤ length es + 1
one_more es e = let l = length-append es (e ∷ []) in omega (arith, l)

as_many : {A : Type 0} (es : List A) → length es ≤ length es + 1
as_many es = omega arith

read_count : (s : Setup) (r : SoFar) (t x : ℕ) (a : Read) → entries_in (read_taken s r t x (seen_at s r.seen t x) a).seen.topics ≤ entries_in r.seen.topics + 1
read_count s r t x (read.Entry p e) =
    set_count r.seen.topics (t * length s.clusters + x) (with_entry (seen_at s r.seen t x) p e) (one_more (seen_at s r.seen t x).topic.entries e)
read_count s r t x (read.Cursor n ranges) =
    set_count r.seen.topics (t * length s.clusters + x) (with_cursor (seen_at s r.seen t x) n (cursor_of ranges)) (as_many (seen_at s r.seen t x).topic.entries)
read_count s r t x (read.Brought y ranges) =
    set_count r.seen.topics (t * length s.clusters + x) (with_received (seen_at s r.seen t x) y (cursor_of ranges)) (as_many (seen_at s r.seen t x).topic.entries)
read_count s r t x (read.Below n i) = omega arith
read_count s r t x (read.Unsure n) = omega arith
read_count s r t x read.Unread =
    set_count r.seen.topics (t * length s.clusters + x) (unread (seen_at s r.seen t x)) (as_many (seen_at s r.seen t x).topic.entries)
read_count s r t x read.Trimmed = omega arith

pub taken_count : (s : Setup) (r : SoFar) (l : Line) → entries_in (line_taken s r l).seen.topics ≤ entries_in r.seen.topics + 1
taken_count s r (line.Reads t x a) = read_count s r t x a
taken_count s r (line.Logs t (logged.Done n g)) = omega arith
taken_count s r (line.Logs t (logged.Receipt g p)) = omega arith
