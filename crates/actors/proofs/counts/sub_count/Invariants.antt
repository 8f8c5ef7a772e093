use Rattle.std.proofs.Common.{◌≡◌, length}
use Rattle.std.specs.Prelude.{min}
use Rattle.geo_base.specs.Setup.{sub_names}
use Rattle.actors.proofs.counts.sub_count.Given as goal

-- those so far
abbrev pub invariant-loop-sub : goal.invariant-loop-sub
invariant-loop-sub l = l.count ≡ min l.sub (length (sub_names l.scenario.setup l.topic))
