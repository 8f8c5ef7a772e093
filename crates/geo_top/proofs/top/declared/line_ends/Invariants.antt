use Rattle.std.proofs.Common.{◌≡◌, ◌≤◌, drop}
use Rattle.std.specs.Prelude.{fold}
use Rattle.geo_top.specs.Losing.{with_end}
use Rattle.geo_top.proofs.top.declared.line_ends.Given as goal

-- counting on from here over the bytes that are left gives the count of all
abbrev pub invariant-loop-byte : goal.invariant-loop-byte
invariant-loop-byte l = record {
  rest : fold with_end l.ended (drop l.byte-index l.bytes) ≡ fold with_end 0 l.bytes;
  few : l.ended ≤ l.byte-index;
}
