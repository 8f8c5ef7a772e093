use Rattle.std.proofs.Common.{drop}
use Rattle.geo_base.specs.Run.{Ran}
use Rattle.world.specs.Observing.{IsSettling}
use Rattle.world.specs.Steps.{IsLater}
use Rattle.world.specs.World.{IsAt, kept_of}
use Rattle.world.proofs.world.World.settle_each.Given as goal

-- what is left brings the machine to where all were to bring it, and is all that is left to see
abbrev pub invariant-loop-event : goal.invariant-loop-event
invariant-loop-event g l = record {
  sees : (r : Ran) (all : g.O.Observer.Seen) → IsSettling g.O.Observer.sight l.scenario.setup l.initial.self (g.O.Observer.seen l.initial.observer) l.events r all
      → IsSettling g.O.Observer.sight l.scenario.setup l.self (g.O.Observer.seen l.observer) (drop l.event-index l.events) r all;
  at : IsAt l.scenario.setup l.self;
  knows : g.O.Observer.knows l.observer l.scenario.setup (kept_of l.self).brokers;
  later : IsLater l.initial.self l.self;
}
