use Rattle.std.proofs.Common.{◌≡◌, ◌-◌, length}
use Rattle.audit.specs.Runs.{AreRunsOf}
use Rattle.audit.proofs.runs.Runs.extend.Given as goal

abbrev pub invariant-entries : goal.invariant-entries
invariant-entries l = record {
  runs : AreRunsOf l.entries l.self;
  what : l.self.what ≡ l.initial.self.what;
}

abbrev pub decreases-entries : goal.decreases-entries
decreases-entries l = length l.entries - length l.self.starts
