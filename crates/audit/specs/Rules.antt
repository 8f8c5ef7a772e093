-- The numbers of the rules of an audit.
use Rattle.std.specs.Prelude.{ℕ}
use Rattle.audit.specs.declared.rule.Rule.{Rule}
use Rattle.audit.specs.declared.rule.Rule.TheVariants as rule

abbrev pub rule_number : Rule → ℕ
rule_number rule.Form = 1
rule_number rule.Position = 2
rule_number rule.Duplicate = 3
rule_number rule.Origin = 4
rule_number rule.Snapshot = 5
rule_number rule.Update = 6
rule_number rule.Subscription = 7
rule_number rule.Acknowledged = 8
rule_number rule.Marker = 9
rule_number rule.Named = 10
rule_number rule.Seek = 11
rule_number rule.Gap = 12
