use Rattle.std.proofs.Common.{◌≡◌, ℕ, ◌+◌, ◌≤◌, drop, length}
use Rattle.geo_base.specs.Updating.{positions_for}
use Rattle.audit.proofs.named.count_for.Given as goal

pub record Counted (count more whole index : ℕ) : Type 0 where
  pub whole_is : count + more ≡ whole
  pub few : count ≤ index

abbrev pub invariant-loop-position : goal.invariant-loop-position
invariant-loop-position l =
    Counted l.count (length (positions_for l.cluster (drop l.position-index l.remote))) (length (positions_for l.cluster l.remote)) l.position-index
