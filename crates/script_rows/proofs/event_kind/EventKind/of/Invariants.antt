use Rattle.std.proofs.Common.{◌≡◌, drop, find}
use Rattle.std.specs.Str.{bytes_eq}
use Rattle.script_rows.specs.Rows.{event_kinds, event_word}
use Rattle.script_rows.proofs.event_kind.EventKind.of.Given as goal

abbrev pub invariant-loop-kind : goal.invariant-loop-kind
invariant-loop-kind l =
    find (λ k. bytes_eq l.word (event_word k)) (drop l.kind-index event_kinds) ≡ find (λ k. bytes_eq l.word (event_word k)) event_kinds
