-- What `audit` answers to a trace that it accepts (own).
use Rattle.std.specs.Prelude.{◌≡◌, ℕ, List, [], ◌∷◌, ◌++◌, map, Some, codes, decimal}
use Rattle.audit.specs.AuditOf.{names_of}
use Rattle.geo_base.specs.Audit.{settled_from}
use Rattle.geo_base.specs.Mirror.{opening_mirrors}
use Rattle.geo_base.specs.Setup.{Setup}
use Rattle.geo_base.specs.TraceItems.{Item}
use Rattle.trace_laws.specs.Audited.{IsSafe, all_told}
use Rattle.trace_lines.specs.Lines.{item_read}
use Rattle.script_rows.specs.NameWords.{cut_by}

-- what an accepted trace is answered with: how many events it tells
abbrev pub audit_line : ℕ → List ℕ
audit_line events = codes "audit ok events " ++ (decimal events ++ 10 ∷ [])

-- The bytes are the line `trace` and lines of which each has a reading, and after each of these what the lines so far make of the
-- topics and the subscriptions is safe: whatever a subscription has acknowledged is settled by these lines, and messages stand once,
-- per producer in order
pub record IsAuditedSafe (s : Setup) (bytes : List ℕ) : Type 0 where
  pub lines : List (List ℕ)
  pub items : List Item
  pub cut : cut_by 10 bytes ≡ codes "trace" ∷ (lines ++ [] ∷ [])
  pub read : map (item_read (names_of s)) lines ≡ map Some items
  pub safe : (before after : List Item) → before ++ after ≡ items
      → IsSafe s (all_told s (opening_mirrors s) before) (λ t n. settled_from s (opening_mirrors s) before t n)
