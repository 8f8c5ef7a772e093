use Rattle.std.proofs.Common.{◌≡◌, ◌<◌, ◌-◌, drop, length}
use Rattle.log_parts.specs.Sending.{behind_run}
use Rattle.log_parts.proofs.sending.run_end.Given as goal

-- all that was passed goes to the peer
abbrev pub invariant-loop-end : goal.invariant-loop-end
invariant-loop-end l = record {
  later : l.at < l.end;
  run : behind_run l.to (drop l.end l.parcels) ≡ behind_run l.to (drop l.at l.parcels);
}

abbrev pub decreases-loop-end : goal.decreases-loop-end
decreases-loop-end l = length l.parcels - l.end
