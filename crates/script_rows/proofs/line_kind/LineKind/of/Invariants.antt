use Rattle.std.proofs.Common.{◌≡◌, drop, find}
use Rattle.std.specs.Str.{bytes_eq}
use Rattle.script_rows.specs.Rows.{line_kinds, line_word}
use Rattle.script_rows.proofs.line_kind.LineKind.of.Given as goal

abbrev pub invariant-loop-kind : goal.invariant-loop-kind
invariant-loop-kind l =
    find (λ k. bytes_eq l.word (line_word k)) (drop l.kind-index line_kinds) ≡ find (λ k. bytes_eq l.word (line_word k)) line_kinds
