-- A line read in one walk: what each word says, or the lowest rule that one of them breaks.
use Rattle.std.specs.Prelude.{nat_le, Bool, true, false, if◌then◌else◌, List, find, Option, Some, None, Result, Ok, Err}
use Rattle.geo_base.specs.declared.event.Step.{Step}
use Rattle.script_rows.specs.NameWords.{Word}
use Rattle.script_rows.specs.declared.column.Column.{Column}
use Rattle.script_rows.specs.declared.column.Column.TheVariants as column
use Rattle.script_rows.specs.declared.fault.Rule.{Rule}
use Rattle.script_rows.specs.declared.fault.Rule.TheVariants as rule
use Rattle.script_rows.specs.declared.heading.Heading.{Heading}
use Rattle.script_rows.specs.declared.heading.Heading.TheVariants as heading
use Rattle.script_rows.specs.declared.value.Value.{Value}
use Rattle.script_rows.specs.Columns.{cell_breaks, value_of}
use Rattle.script_rows.specs.Judging.{rule_number, values_of, word_rules}
use Rattle.script_rows.specs.Known.{schedules}
use Rattle.script_rows.specs.Names.{Names, Seen, nothing_seen}
use Rattle.script_rows.specs.Rows.{columns_of}
use Rattle.script_rows.specs.Values.{step_of}

-- what a word says, unless a rule is broken
abbrev pub said : Option Rule → Option Value → Result Value Rule
said (Some r) v = Err r
said None (Some v) = Ok v
said None None = Err rule.Form

-- what a word says in a column, or the lowest rule that it breaks there
abbrev pub cell_read : Names → Seen → Column → Word → Result Value Rule
cell_read n s c w = said (find (cell_breaks n s c w) word_rules) (value_of n s c w)

-- a name stands in a column
abbrev pub is_named : Column → Bool
is_named column.Targets = false
is_named column.Key = false
is_named column.Text = false
is_named (column.Count least most) = false
is_named column.Lost = false
is_named column.Twice = false
is_named column.Seq = false
is_named column.PositionOrEnd = false
is_named (column.Menu m) = false
is_named c = true

-- the lower of two rules, where there are any
abbrev pub lower : Option Rule → Option Rule → Option Rule
lower None b = b
lower (Some x) None = Some x
lower (Some x) (Some y) = if nat_le (rule_number x) (rule_number y) then Some x else Some y

-- what the words of a line say; `None` where they have no row's form
abbrev pub values_in : Names → Heading → Option (List Value)
values_in n (heading.Headed k ws) = values_of n nothing_seen (columns_of k) ws
values_in n h = None

-- the step that a line of these values schedules; `None` where it schedules none
abbrev pub step_said : Heading → List Value → Option Step
step_said (heading.Headed k ws) vs = if schedules k then Some (step_of k vs) else None
step_said h vs = None
