use Rattle.std.proofs.Common.{◌≡◌, map}
use Rattle.std.specs.List.{range_with_len}
use Rattle.geo_base.specs.Setup.{sub_names}
use Rattle.script_text.proofs.declarations.Declarations.add_sub_tables.Given as goal

abbrev pub invariant-loop-topic : goal.invariant-loop-topic
invariant-loop-topic l = l.tables.items ≡ map (sub_names l.self.setup) (range_with_len 0 l.topic)
