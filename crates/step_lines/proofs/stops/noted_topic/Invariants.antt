use Rattle.step_lines.specs.Stops.{AreNoted}
use Rattle.step_lines.proofs.stops.noted_topic.Given as goal

-- the brokers so far
abbrev pub invariant-loop-cluster : goal.invariant-loop-cluster
invariant-loop-cluster l = AreNoted l.scenario.setup l.world.brokers l.topic l.cluster l.brokers.items
