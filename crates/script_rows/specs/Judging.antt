-- Which rules a line breaks.
use Rattle.std.specs.Prelude.{ℕ, nat_lt, Bool, true, false, ◌||◌, if◌then◌else◌, List, [], ◌∷◌, Option, Some, None, codes}
use Rattle.std.specs.Str.{bytes_eq}
use Rattle.script_rows.specs.NameWords.{Word}
use Rattle.script_rows.specs.declared.act_kind.ActKind.{ActKind}
use Rattle.script_rows.specs.declared.act_kind.ActKind.TheVariants as act
use Rattle.script_rows.specs.declared.column.Column.{Column}
use Rattle.script_rows.specs.declared.event_kind.EventKind.{EventKind}
use Rattle.script_rows.specs.declared.fault.Rule.{Rule}
use Rattle.script_rows.specs.declared.fault.Rule.TheVariants as rule
use Rattle.script_rows.specs.declared.heading.Heading.{Heading}
use Rattle.script_rows.specs.declared.heading.Heading.TheVariants as heading
use Rattle.script_rows.specs.declared.kind.Kind.{Kind}
use Rattle.script_rows.specs.declared.kind.Kind.TheVariants as kind
use Rattle.script_rows.specs.declared.line_kind.LineKind.{LineKind}
use Rattle.script_rows.specs.declared.line_kind.LineKind.TheVariants as line
use Rattle.script_rows.specs.declared.progress.Progress.{Progress}
use Rattle.script_rows.specs.declared.value.Value.{Value}
use Rattle.script_rows.specs.Columns.{cell_breaks, seen_after, value_of}
use Rattle.script_rows.specs.Names.{Names, Seen, nothing_seen}
use Rattle.script_rows.specs.Rows.{act_built, act_of_word, columns_of, event_built, event_of_word, halt_built, line_built, line_of_word, may_halt, rank, stage_of}
use Rattle.script_rows.specs.Words.{◌>>=◌, gathered}

-- ---- the heading of a line: its kind, and the words of its columns
-- a text is the last of its line's words
abbrev pub act_cells : ActKind → List Word → List Word
act_cells act.Pub ws = gathered 4 ws
act_cells k ws = ws

abbrev pub do_headed : Word → List Word → Option ActKind → Heading
do_headed c ws None = heading.Unknown
do_headed c ws (Some k) = if act_built k then heading.Headed (kind.Do k) (c ∷ act_cells k ws) else heading.Unknown

-- `C` and a line of that client
abbrev pub do_heading : List Word → Heading
do_heading (c ∷ w ∷ ws) = do_headed c ws (act_of_word w)
do_heading ws = heading.Formless

-- a kind of event that waits is unknown also here
abbrev pub halt_headed : Word → List Word → Option EventKind → Heading
halt_headed c ws None = heading.Formless
halt_headed c ws (Some k) =
    if event_built k then (if may_halt k then heading.Headed (kind.Halt k) (c ∷ ws) else heading.Formless)
    else heading.Unknown

-- `K` and an event
abbrev pub halt_heading : List Word → Heading
halt_heading (c ∷ w ∷ ws) = halt_headed c ws (event_of_word w)
halt_heading ws = heading.Formless

abbrev pub event_headed : List Word → Option EventKind → Heading
event_headed ws None = heading.Unknown
event_headed ws (Some k) = if event_built k then heading.Headed (kind.Event k) ws else heading.Unknown

abbrev pub other_headed : Word → List Word → Option LineKind → Heading
other_headed w ws None = event_headed ws (event_of_word w)
other_headed w ws (Some k) = if line_built k then heading.Headed (kind.Other k) ws else heading.Unknown

abbrev pub heading_of : List Word → Heading
heading_of [] = heading.Unknown
heading_of (w ∷ ws) =
    if bytes_eq w (codes "do") then do_heading ws
    else if bytes_eq w (codes "halt") then (if halt_built then halt_heading ws else heading.Unknown)
    else other_headed w ws (line_of_word w)

-- ---- the rules
-- the rules that the words of a line may break, the lowest first
abbrev pub word_rules : List Rule
word_rules = rule.Word ∷ rule.Form ∷ rule.LongName ∷ rule.Order ∷ rule.Twice ∷ rule.Clusters ∷ rule.NameTwice ∷ rule.Lone
    ∷ rule.Topics ∷ rule.Clients ∷ rule.Subscriptions ∷ rule.LongText ∷ rule.Undeclared ∷ rule.Mixed
    ∷ rule.StrangeSubscription ∷ rule.Loop ∷ rule.TargetTwice ∷ []

abbrev pub rule_number : Rule → ℕ
rule_number rule.Bytes = 1
rule_number rule.Head = 2
rule_number rule.Word = 3
rule_number rule.Form = 4
rule_number rule.LongName = 5
rule_number rule.Order = 6
rule_number rule.Twice = 7
rule_number rule.Clusters = 8
rule_number rule.NameTwice = 9
rule_number rule.Lone = 10
rule_number rule.Topics = 11
rule_number rule.Clients = 12
rule_number rule.Subscriptions = 13
rule_number rule.LongText = 14
rule_number rule.Undeclared = 15
rule_number rule.Mixed = 16
rule_number rule.StrangeSubscription = 17
rule_number rule.Loop = 18
rule_number rule.TargetTwice = 19

abbrev pub is_word : Rule → Bool
is_word rule.Word = true
is_word r = false

abbrev pub is_form : Rule → Bool
is_form rule.Form = true
is_form r = false

-- a line of a kind that comes once came
abbrev pub came : Progress → Kind → Bool
came p (kind.Other line.Geo) = p.begun
came p (kind.Other line.Ledger) = p.has_ledger
came p (kind.Other line.Chance) = p.has_chance
came p k = false

-- the rules on the order of lines
abbrev pub kind_breaks : Progress → Kind → Rule → Bool
-- its kind comes before the previous line's kind
kind_breaks p k rule.Order = nat_lt (rank (stage_of k)) (rank p.last)
-- `geo`, `ledger` or `chance` comes a second time
kind_breaks p k rule.Twice = came p k
kind_breaks p k r = false

-- whether words in columns break a rule: as many words as columns are of the form
abbrev pub cells_break : Names → Rule → Seen → List Column → List Word → Bool
cells_break n r s [] [] = false
cells_break n r s [] (w ∷ ws) = is_form r
cells_break n r s (c ∷ cs) [] = is_form r
cells_break n r s (c ∷ cs) (w ∷ ws) = cell_breaks n s c w r || cells_break n r (seen_after n s c w) cs ws

-- whether a line breaks a rule
abbrev pub heading_breaks : Progress → Names → Heading → Rule → Bool
-- its first word, or the word after `do C`, is in no row that is read
heading_breaks p n heading.Unknown r = is_word r
-- its words have no row's form
heading_breaks p n heading.Formless r = is_form r
heading_breaks p n (heading.Headed k ws) r = kind_breaks p k r || cells_break n r nothing_seen (columns_of k) ws

-- what words say in columns; `None` where they have not the form
abbrev pub values_of : Names → Seen → List Column → List Word → Option (List Value)
values_of n s [] [] = Some []
values_of n s [] (w ∷ ws) = None
values_of n s (c ∷ cs) [] = None
values_of n s (c ∷ cs) (w ∷ ws) = do
  v ← value_of n s c w
  vs ← values_of n (seen_after n s c w) cs ws
  Some (v ∷ vs)
