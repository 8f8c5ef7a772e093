use Rattle.std.proofs.Common.{drop}
use Rattle.world.specs.World.{kept_of}
use Rattle.world.proofs.Observing.{GoesOn}
use Rattle.world.proofs.world.World.run_with.Given as goal

-- what is left from here comes to what all comes to, and is all that is left to see
abbrev pub invariant-loop-broker_ref : goal.invariant-loop-broker_ref
invariant-loop-broker_ref g l = record {
  goes : GoesOn g.O.Observer.sight l.scenario.setup l.fn.self l.self (g.O.Observer.seen l.fn.observer) (g.O.Observer.seen l.observer) l.fn.steps (drop l.broker_ref l.steps);
  knows : g.O.Observer.knows l.observer l.scenario.setup (kept_of l.self).brokers;
}
