use Rattle.std.proofs.Common.{◌≡◌, ◌++◌, drop, length}
use Rattle.std.specs.Prelude.{take}
use Rattle.broker_state.specs.Plan.{plan_in}
use Rattle.geo_base.specs.Traced.{cause_of}
use Rattle.trace_runs.specs.Acts.{acts_before}
use Rattle.trace_runs.specs.Snapshots.{HaveSeen}
use Rattle.trace_runs.specs.Writes.{lines_of}
use Rattle.trace_runs.proofs.Steps.{with_left}
use Rattle.trace_runs.proofs.writes.add_writes.Given as goal

-- the lines so far and those that are left make the whole
abbrev pub invariant-loop-number : goal.invariant-loop-number
invariant-loop-number l =
    let h = l.node.site in let b = l.node.broker in let c = cause_of b l.event in let ws = take l.count (plan_in b l.plan).writes in
    record {
      told : with_left h c b l.telling.text (drop l.number ws) ≡ l.initial.telling.text ++ lines_of h (acts_before h c b ws);
      begins : take (length l.initial.telling.text) l.telling.text ≡ l.initial.telling.text;
      seen : HaveSeen l.node l.initial.telling.snapshots l.telling.snapshots;
    }
