use Rattle.std.proofs.Common.{◌≡◌, ◌++◌, take}
use Rattle.geo_base.specs.Report.{printed}
use Rattle.report_lines.proofs.words.add_printed.Given as goal

abbrev pub invariant-loop-byte : goal.invariant-loop-byte
invariant-loop-byte l = l.lines ≡ l.initial.lines ++ printed (take l.byte-index l.bytes)
