-- The audit of the bytes of a trace: how many events it tells, or the first line that breaks a rule (own).
use Rattle.std.specs.Prelude.{◌≡◌, ℕ, nat_lt, ◌==◌, Bool, true, if◌then◌else◌, List, [], ◌∷◌, ◌++◌, length, map, Option, Some, None, codes, Result, Ok, Err}
use Rattle.std.specs.List.{AllByRecursion}
use Rattle.std.specs.Str.{bytes_eq}
use Rattle.geo_base.specs.Audit.{Refusal, audited, judged}
use Rattle.geo_base.specs.Mirror.{Mirrors, opening_mirrors, told}
use Rattle.geo_base.specs.Setup.{Setup}
use Rattle.geo_base.specs.TraceItems.{Begins, Item, Writes}
use Rattle.script_rows.specs.NameWords.{cut_by}
use Rattle.trace_lines.specs.Names.{DeclaredNames}
use Rattle.trace_lines.specs.Lines.{item_read}
use Rattle.audit.specs.Numbers.{IsItemOf}
use Rattle.audit.specs.Strict.{audited_by, refused_by}
use Rattle.audit.specs.declared.strictness.Strictness.{Strictness}
use Rattle.audit.specs.declared.strictness.Strictness.TheVariants as strictness

-- the names that a trace may name
abbrev pub names_of : Setup → DeclaredNames
names_of s = record { clusters = s.clusters; topics = s.topics }

-- a write stands after an event
abbrev pub may_come : ℕ → Item → Bool
may_come events (Begins n) = true
may_come events (Writes t x a) = nat_lt 0 events

-- the lowest rule that a line breaks, the first one where it has no reading
abbrev pub item_refused : Strictness → Setup → Mirrors → Option Item → Option ℕ
item_refused k s a None = Some 1
item_refused k s a (Some i) = if may_come a.events i then refused_by k s a i else Some 1

abbrev pub told_if : Setup → Mirrors → Option Item → Mirrors
told_if s a None = a
told_if s a (Some i) = told s a i

-- A line ends with a line feed. What stands after the last one is a line only where there is a byte, and breaks the first rule
abbrev pub lines_audited : Strictness → Setup → Mirrors → List (List ℕ) → Result ℕ Refusal
lines_audited k s a [] = Ok a.events
lines_audited k s a (l ∷ []) = if length l == 0 then Ok a.events else Err (record { event = a.events; rule = 1 })
lines_audited k s a (l ∷ m ∷ ls) =
    judged a.events (item_refused k s a (item_read (names_of s) l)) (lines_audited k s (told_if s a (item_read (names_of s) l)) (m ∷ ls))

-- the first line is `trace`
abbrev pub headed : Strictness → Setup → List (List ℕ) → Result ℕ Refusal
headed k s (h ∷ l ∷ ls) = if bytes_eq h (codes "trace") then lines_audited k s (opening_mirrors s) (l ∷ ls) else Err (record { event = 0; rule = 1 })
headed k s ls = Err (record { event = 0; rule = 1 })

-- the number of events; or the number of the last event that was accepted, and the lowest rule that the line after breaks
unfoldable pub audit_by : Strictness → Setup → List ℕ → Result ℕ Refusal
audit_by k s bytes = headed k s (cut_by 10 bytes)

-- by the rules of `Audit` alone
abbrev pub audit_of : Setup → List ℕ → Result ℕ Refusal
audit_of s bytes = audit_by strictness.Plain s bytes

-- What an accepted trace says. Between its line feeds stand `trace` and then one line for each of some items, and nothing stands
-- after the last line feed. Their numbers are those of the setup, no item breaks a rule, and so many events have begun. However
-- strictly it was judged, no item breaks a rule of `Audit`
pub record IsAccepted (k : Strictness) (s : Setup) (bytes : List ℕ) (events : ℕ) : Type 0 where
  pub lines : List (List ℕ)
  pub items : List Item
  pub mirrors : Mirrors
  pub cut : cut_by 10 bytes ≡ codes "trace" ∷ (lines ++ [] ∷ [])
  pub read : map (item_read (names_of s)) lines ≡ map Some items
  pub known : AllByRecursion (IsItemOf s) items
  pub accepted : audited s items ≡ Ok mirrors
  pub strictly : audited_by k s items ≡ Ok mirrors
  pub told : mirrors.events ≡ events
