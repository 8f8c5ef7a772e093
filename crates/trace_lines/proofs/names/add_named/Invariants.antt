use Rattle.std.proofs.Common.{◌≡◌, ◌++◌, drop}
use Rattle.geo_base.specs.declared.entry.Targets.TheVariants as targets
use Rattle.geo_base.specs.Client.{target_names}
use Rattle.trace_lines.proofs.names.add_named.Given as goal

-- the names so far and those of the rest make the whole
abbrev pub invariant-loop-number : goal.invariant-loop-number
invariant-loop-number l =
    l.names ++ target_names l.number (targets.Only l.bits) (drop l.number l.clusters) ≡ l.fn.names ++ target_names 0 (targets.Only l.bits) l.clusters
