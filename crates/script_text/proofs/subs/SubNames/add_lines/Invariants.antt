use Rattle.std.proofs.Common.{◌≡◌, drop, fold}
use Rattle.geo_base.specs.Setup.{with_line}
use Rattle.script_text.proofs.subs.SubNames.add_lines.Given as goal

abbrev pub invariant-loop-line : goal.invariant-loop-line
invariant-loop-line l = fold with_line l.self (drop l.line-index l.lines) ≡ fold with_line l.fn.self l.lines
