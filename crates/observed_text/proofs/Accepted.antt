-- What holds where a line breaks no rule.
use Rattle.std.proofs.Common.{◌≡◌, ℕ, ◌==◌, Bool, true, false, List, refl, sym}
use Rattle.std.specs.Prelude.{Option, Some, None, if◌then◌else◌, ◌||◌}
use Rattle.std.proofs.lemmas.Option.{none-some}
use Rattle.cursor_acks.specs.declared.range.IndexRange.{IndexRange}
use Rattle.geo_base.specs.declared.entry.Entry.{Entry}
use Rattle.geo_base.specs.declared.position.Position.{Position}
use Rattle.geo_base.specs.Setup.{Setup}
use Rattle.observation.specs.Observed.{Seen, is_above_all}
use Rattle.observe.specs.Reads.{has_cursor}
use Rattle.observed_text.specs.declared.line.Read.TheVariants as read
use Rattle.observed_text.specs.Observing.{SoFar, are_of, is_told, name_refused, read_refused}

second : (b : Bool) (x : Option ℕ) (rule : ℕ) → (if b then x else Some rule) ≡ None → (b ≡ true) × (x ≡ None)
second true x rule h = (refl, h)
second false x rule h = absurd (none-some rule (sym h))

first : (b : Bool) (x : Option ℕ) (rule : ℕ) → (if b then Some rule else x) ≡ None → x ≡ None
first true x rule h = absurd (none-some rule (sym h))
first false x rule h = h

pub entry_above : (s : Setup) (r : SoFar) (t x : ℕ) (v : Seen) (p : Position) (e : Entry) → read_refused s r t x v (read.Entry p e) ≡ None
    → is_above_all p v.topic.positions ≡ true
entry_above s r t x v p e h = (second (is_above_all p v.topic.positions) None 4 (second v.is_read _ 3 h).1).0

pub cursor_indexes : (s : Setup) (r : SoFar) (t x : ℕ) (v : Seen) (n : List ℕ) (ranges : List IndexRange) → read_refused s r t x v (read.Cursor n ranges) ≡ None
    → are_of v.topic ranges ≡ true
cursor_indexes s r t x v n ranges h =
    (second (are_of v.topic ranges) (name_refused r t n) 6 (first (has_cursor v.topic.subs n) _ 5 (second v.is_read _ 3 h).1)).0

pub brought_indexes : (s : Setup) (r : SoFar) (t x : ℕ) (v : Seen) (y : ℕ) (ranges : List IndexRange) → read_refused s r t x v (read.Brought y ranges) ≡ None
    → are_of v.topic ranges ≡ true
brought_indexes s r t x v y ranges h =
    (second (are_of v.topic ranges) None 6 (first ((y == x) || is_told s r t x y) _ 5 (second v.is_read _ 3 h).1)).0
