-- The numbers of the rules.
use Rattle.std.specs.Prelude.{ℕ}
use Rattle.state_items.specs.declared.rule.Rule.{Rule}
use Rattle.state_items.specs.declared.rule.Rule.TheVariants as rule

abbrev pub number_of : Rule → ℕ
number_of rule.Whole = 1
number_of rule.Magic = 2
number_of rule.Declarations = 3
number_of rule.Entry = 4
number_of rule.Identity = 5
number_of rule.Ledgers = 6
number_of rule.Ranges = 7
number_of rule.Subscription = 8
number_of rule.Count = 9
number_of rule.Client = 10
number_of rule.End = 11
