use Rattle.std.proofs.Common.{◌≡◌, ◌≤◌, ◌⊎◌}
use Rattle.observe.specs.Dealt.{AddedTo}
use Rattle.observe.proofs.dealt.Dealt.add_messages.Given as goal

abbrev pub invariant-loop-at : goal.invariant-loop-at
invariant-loop-at l = record {
  added : AddedTo l.entries l.from l.initial.self l.self l.at;
  start : l.from ≤ l.at;
  end : (l.at ≤ l.end) ⊎ (l.at ≡ l.from);
}
