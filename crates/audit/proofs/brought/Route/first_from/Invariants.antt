use Rattle.std.proofs.Common.{◌≡◌, ◌-◌, ◌≤◌, length, take}
use Rattle.geo_base.specs.Laws.{outbound}
use Rattle.audit.proofs.brought.Route.first_from.Given as goal

abbrev pub invariant-entries : goal.invariant-entries
invariant-entries l = record {
  from : l.from ≤ l.index;
  within : l.index ≤ length l.there;
  none : length (outbound l.self.origin l.self.own (take l.index l.there)) ≡ length (outbound l.self.origin l.self.own (take l.from l.there));
}

abbrev pub decreases-entries : goal.decreases-entries
decreases-entries l = length l.there - l.index
