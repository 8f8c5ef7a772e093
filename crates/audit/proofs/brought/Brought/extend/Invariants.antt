use Rattle.std.proofs.Common.{◌≡◌, ◌-◌, length}
use Rattle.audit.specs.Brought.{AreBrought}
use Rattle.audit.proofs.brought.Brought.extend.Given as goal

abbrev pub invariant-entries : goal.invariant-entries
invariant-entries l = record {
  brought : AreBrought l.here l.there l.self;
  route : l.self.route ≡ l.initial.self.route;
}

abbrev pub decreases-entries : goal.decreases-entries
decreases-entries l = length l.here - l.self.seen
