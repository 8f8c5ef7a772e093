use Rattle.std.proofs.Common.{◌≡◌, ◌++◌}
use Rattle.std.specs.Prelude.{replicate}
use Rattle.geo_base.specs.declared.client.Line.TheVariants as line
use Rattle.script_generator.proofs.scenario.add_acks.Given as goal

abbrev pub invariant-loop-count : goal.invariant-loop-count
invariant-loop-count l = l.lines ≡ l.initial.lines ++ replicate l.count line.AckAll
