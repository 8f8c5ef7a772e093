use Rattle.std.proofs.Common.{◌≡◌, drop, find}
use Rattle.std.specs.Str.{bytes_eq}
use Rattle.script_rows.specs.Rows.{act_kinds, act_word}
use Rattle.script_rows.proofs.act_kind.ActKind.of.Given as goal

abbrev pub invariant-loop-kind : goal.invariant-loop-kind
invariant-loop-kind l =
    find (λ k. bytes_eq l.word (act_word k)) (drop l.kind-index act_kinds) ≡ find (λ k. bytes_eq l.word (act_word k)) act_kinds
