use Rattle.std.proofs.Common.{◌≡◌, ◌≤◌, drop}
use Rattle.script_rows.specs.Numbers.{number_from}
use Rattle.script_rows.proofs.number.value_of.Given as goal

abbrev pub invariant-loop-digit : goal.invariant-loop-digit
invariant-loop-digit l = record {
  so_far : number_from l.most l.value (drop l.digit-index l.digits) ≡ number_from l.most 0 l.digits;
  small : l.value ≤ l.most;
}
