-- What is promised of `audit whole` (own).
use Rattle.std.specs.Prelude.{◌≡◌, ℕ, List, [], ◌∷◌, ◌++◌, map, Option, Some, codes, IsOkAnd, Ok}
use Rattle.audit.specs.AuditOf.{audit_by, names_of}
use Rattle.audit.specs.declared.strictness.Strictness.TheVariants as strictness
use Rattle.geo_base.specs.Audit.{settled_from}
use Rattle.geo_base.specs.Mirror.{opening_mirrors}
use Rattle.geo_base.specs.Run.{all_limits, run_under}
use Rattle.geo_base.specs.Setup.{Setup}
use Rattle.geo_base.specs.TraceItems.{Item}
use Rattle.script_generator.specs.Starts.{declarations_in, trace_in}
use Rattle.script_rows.specs.NameWords.{cut_by}
use Rattle.script_text.specs.Rules.{script_of}
use Rattle.script_text.specs.Scenario.{IsScenario}
use Rattle.script_text.specs.Script.{Script}
use Rattle.trace_laws.specs.Audited.{IsSafe, all_told}
use Rattle.trace_laws.specs.Gapless.{IsGapless}
use Rattle.trace_lines.specs.Lines.{item_read}
use Rattle.geo_top.specs.declared.top.command.Command.{Command}
use Rattle.geo_top.specs.declared.top.status.Status.{Status}
use Rattle.geo_top.specs.declared.top.status.Status.TheVariants as status
use Rattle.geo_top.specs.Audits.{audit_line}
use Rattle.geo_top.specs.Commands.{whole_command}
use Rattle.geo_top.specs.Outputs.{answer_to_auditing}
use Rattle.geo_top.specs.Traced.{traced_of}

-- As `IsAuditedSafe`, and after each line no cluster has a gap: what it has of another one is, entry by entry, a beginning of what that
-- has for it
pub record IsAuditedWhole (s : Setup) (bytes : List ℕ) : Type 0 where
  pub lines : List (List ℕ)
  pub items : List Item
  pub cut : cut_by 10 bytes ≡ codes "trace" ∷ (lines ++ [] ∷ [])
  pub read : map (item_read (names_of s)) lines ≡ map Some items
  pub safe : (before after : List Item) → before ++ after ≡ items
      → IsSafe s (all_told s (opening_mirrors s) before) (λ t n. settled_from s (opening_mirrors s) before t n)
  pub gapless : (before after : List Item) → before ++ after ≡ items → IsGapless s (all_told s (opening_mirrors s) before)

pub record IsJudgedWhole (c : Option Command) (input output : List ℕ) (s : Status) : Type 0 where
  -- With Ok, `audit whole` tells how many events the trace tells that stands after the declarations: no line of it breaks a rule of
  -- `audit`, and each entry of another cluster is the next one of those that this cluster has for it;
  pub judged : s ≡ status.Ok → c ≡ Some whole_command
      → IsOkAnd (script_of (declarations_in input)) (λ n. (events : ℕ) × (audit_by strictness.Whole n.setup (trace_in input) ≡ Ok events) × (output ≡ audit_line events))
  -- so after each line all is safe, as for `audit`, and no cluster has a gap;
  pub gapless : s ≡ status.Ok → c ≡ Some whole_command → IsOkAnd (script_of (declarations_in input)) (λ n. IsAuditedWhole n.setup (trace_in input))
  -- and what `trace` writes of any accepted script it accepts, and counts the events of that run.
  pub accepted : (n : Script) → IsScenario n
      → answer_to_auditing strictness.Whole (traced_of n) ≡ record { status = status.Ok; bytes = audit_line (run_under all_limits n.setup n.steps).world.events }
