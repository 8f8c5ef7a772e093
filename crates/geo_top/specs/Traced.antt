-- The trace of a script's run, as `trace` writes it.
use Rattle.std.specs.Prelude.{ℕ, List, ◌++◌}
use Rattle.geo_base.specs.Report.{with_line_feeds}
use Rattle.geo_base.specs.Run.{all_limits}
use Rattle.geo_base.specs.TraceText.{trace_lines}
use Rattle.geo_base.specs.Traced.{traced}
use Rattle.script_text.specs.Canonical.{declarations_text}
use Rattle.script_text.specs.Script.{Script}

-- what the script declares, as a state file has it, and after the line `trace` the lines of what its run under the limits tells
abbrev pub traced_of : Script → List ℕ
traced_of n = declarations_text n.setup n.chance ++ with_line_feeds (trace_lines n.setup (traced all_limits n.setup n.steps))
