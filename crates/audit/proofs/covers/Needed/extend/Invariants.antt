use Rattle.std.proofs.Common.{◌≡◌, ◌-◌, length}
use Rattle.audit.specs.Covers.{AreNeeded}
use Rattle.audit.proofs.covers.Needed.extend.Given as goal

abbrev pub invariant-entries : goal.invariant-entries
invariant-entries l = record {
  needed : AreNeeded l.here.entries l.there l.self;
  own : l.self.own ≡ l.initial.self.own;
  there : l.self.there ≡ l.initial.self.there;
}

abbrev pub decreases-entries : goal.decreases-entries
decreases-entries l = l.to - length l.self.needed
