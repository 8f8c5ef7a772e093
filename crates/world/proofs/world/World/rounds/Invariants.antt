use Rattle.std.proofs.Common.{◌-◌, ◌≤◌}
use Rattle.geo_base.specs.Run.{Ran, most_events}
use Rattle.world.specs.Observing.{IsRounding}
use Rattle.world.specs.World.{IsAt, kept_of}
use Rattle.world.proofs.world.World.rounds.Given as goal

-- the rounds that are left bring the machine to where all were to bring it, and are all that is left to see
abbrev pub invariant-loop : goal.invariant-loop
invariant-loop g l = record {
  sees : (r : Ran) (all : g.O.Observer.Seen) → IsRounding g.O.Observer.sight l.scenario.setup l.initial.self (g.O.Observer.seen l.initial.observer) r all
      → IsRounding g.O.Observer.sight l.scenario.setup l.self (g.O.Observer.seen l.observer) r all;
  at : IsAt l.scenario.setup l.self;
  knows : g.O.Observer.knows l.observer l.scenario.setup (kept_of l.self).brokers;
  rounds : l.initial.self.rounds ≤ l.self.rounds;
}

-- each of them does an event
abbrev pub decreases-loop : goal.decreases-loop
decreases-loop g l = most_events - l.self.events
