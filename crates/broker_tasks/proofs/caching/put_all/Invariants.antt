use Rattle.std.proofs.Common.{◌≡◌, drop}
use Rattle.geo_base.specs.Cache.{with_places}
use Rattle.broker_tasks.proofs.caching.put_all.Given as goal

-- putting what is left is putting all from the start
abbrev pub invariant-loop-one : goal.invariant-loop-one
invariant-loop-one l = with_places l.own l.places (drop l.one-index l.named) ≡ with_places l.own l.initial.places l.named
