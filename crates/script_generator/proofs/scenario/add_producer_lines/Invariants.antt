use Rattle.std.proofs.Common.{◌≡◌, ◌∷◌}
use Rattle.geo_base.specs.declared.client.Line.TheVariants as line
use Rattle.script_generator.specs.Scenario.{publishes}
use Rattle.script_generator.proofs.scenario.add_producer_lines.Given as goal

abbrev pub invariant-loop-seq : goal.invariant-loop-seq
invariant-loop-seq l = l.lines ≡ line.Produce ∷ publishes l.seq
