use Rattle.std.proofs.Common.{◌≡◌, drop}
use Rattle.geo_base.specs.Broker.{sub_named}
use Rattle.world_measures.proofs.subs.place_named.Given as goal

abbrev pub invariant-loop-place : goal.invariant-loop-place
invariant-loop-place l = sub_named l.broker.broker.subs l.name ≡ sub_named (drop l.place l.broker.broker.subs) l.name
