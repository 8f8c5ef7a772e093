use Rattle.std.proofs.Common.{◌≡◌, take}
use Rattle.geo_base.specs.Setup.{sub_names}
use Rattle.node_starts.proofs.brokers.sub_names.Given as goal

-- the names so far; none is past the last
abbrev pub invariant-loop-sub : goal.invariant-loop-sub
invariant-loop-sub l = l.names.items ≡ take l.sub (sub_names l.scenario.setup l.topic)
