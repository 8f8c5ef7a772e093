use Rattle.std.proofs.Common.{◌≡◌, ◌++◌, drop}
use Rattle.geo_base.specs.Updating.{positions_for}
use Rattle.broker_tasks.specs.Updating.{listed}
use Rattle.broker_tasks.proofs.updating.only_index.Given as goal

-- what was found, and what those that are left name
abbrev pub invariant-loop-named : goal.invariant-loop-named
invariant-loop-named l = positions_for l.state.site.own l.remote ≡ listed l.only ++ positions_for l.state.site.own (drop l.named-index l.remote)
