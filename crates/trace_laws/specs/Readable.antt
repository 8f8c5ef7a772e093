-- What the trace of a run is for its reader.
use Rattle.std.specs.Prelude.{◌≡◌, List, [], ◌∷◌, ◌++◌, Some, Ok}
use Rattle.std.specs.List.{AllByRecursion}
use Rattle.geo_base.specs.declared.event.Step.{Step}
use Rattle.geo_base.specs.Report.{with_line_feeds}
use Rattle.geo_base.specs.Run.{all_limits, run_under}
use Rattle.geo_base.specs.Setup.{Setup}
use Rattle.geo_base.specs.TraceItems.{Item}
use Rattle.geo_base.specs.TraceText.{item_line, trace_lines}
use Rattle.geo_base.specs.Traced.{traced}
use Rattle.script_rows.specs.NameWords.{cut_by}
use Rattle.script_text.specs.Scenario.{IsScenario}
use Rattle.script_text.specs.Script.{Script}
use Rattle.trace_lines.specs.Lines.{item_read}
use Rattle.audit.specs.AuditOf.{audit_by, audit_of, names_of}
use Rattle.audit.specs.declared.strictness.Strictness.TheVariants as strictness

-- Each line says the item that it was written from. The bytes are cut into the lines again, with nothing after the last one, and the
-- audit accepts them, also where it judges gaps: it counts the events of the run
pub record IsReadBack (s : Setup) (es : List Step) (items : List Item) : Type 0 where
  pub lines : AllByRecursion (λ (i : Item). item_read (names_of s) (item_line s i) ≡ Some i) items
  pub cut : cut_by 10 (with_line_feeds (trace_lines s items)) ≡ trace_lines s items ++ [] ∷ []
  pub accepted : audit_of s (with_line_feeds (trace_lines s items)) ≡ Ok (run_under all_limits s es).world.events
  pub wholly : audit_by strictness.Whole s (with_line_feeds (trace_lines s items)) ≡ Ok (run_under all_limits s es).world.events

-- of every accepted script and every list of steps within the limits
abbrev pub LawTraceRead : Type 0
LawTraceRead = (n : Script) → IsScenario n → (es : List Step) → IsReadBack n.setup es (traced all_limits n.setup es)
