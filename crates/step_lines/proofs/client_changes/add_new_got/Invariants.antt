use Rattle.std.proofs.Common.{◌≡◌, ◌++◌, drop, map}
use Rattle.geo_base.specs.Report.{got_line}
use Rattle.step_lines.specs.declared.heads.Indent.TheVariants as indent
use Rattle.step_lines.specs.Changes.{stood_lines}
use Rattle.step_lines.proofs.client_changes.add_new_got.Given as goal

-- the lines so far and the rest make the whole
abbrev pub invariant-loop-place : goal.invariant-loop-place
invariant-loop-place l =
    l.lines ++ stood_lines indent.Step (map (got_line l.clusters) (drop l.place l.got))
    ≡ l.initial.lines ++ stood_lines indent.Step (map (got_line l.clusters) (drop l.first l.got))
