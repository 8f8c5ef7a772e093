-- The rules of a script, and what a whole script says.
use Rattle.std.specs.Prelude.{ℕ, ◌+◌, ◌==◌, Bool, false, not, ◌&&◌, if◌then◌else◌, List, [], ◌∷◌, length, find, Option, Some, None, Result, Ok, Err, codes}
use Rattle.std.specs.List.{list_all}
use Rattle.std.specs.Str.{bytes_eq}
use Rattle.script_rows.specs.declared.fault.Rule.{Rule}
use Rattle.script_rows.specs.declared.fault.Rule.TheVariants as rule
use Rattle.script_rows.specs.declared.heading.Heading.{Heading}
use Rattle.script_rows.specs.declared.progress.Progress.{Progress}
use Rattle.script_rows.specs.Judging.{heading_breaks, heading_of, rule_number, word_rules}
use Rattle.script_rows.specs.Names.{Names}
use Rattle.script_rows.specs.Words.{words_of}
use Rattle.script_text.specs.Adding.{added}
use Rattle.script_text.specs.Lines.{TextLine, is_printable, is_skipped, lines_of}
use Rattle.script_text.specs.Naming.{names_of}
use Rattle.script_text.specs.Script.{Declarations, Fault, Script, SoFar, no_line}

-- all rules, the lowest first
abbrev pub rules : List Rule
rules = rule.Bytes ∷ rule.Head ∷ word_rules

-- the kind of a line, and its words
abbrev pub said_by : TextLine → Heading
said_by l = heading_of (words_of l.bytes)

-- whether a line that is not skipped breaks a rule
abbrev pub breaks : Progress → Names → TextLine → Rule → Bool
-- each byte is printable, and a line feed ends the line
breaks p n l rule.Bytes = not (list_all is_printable l.bytes && l.ended)
-- the first line is `geo 1`
breaks p n l rule.Head = not p.begun && not (bytes_eq l.bytes (codes "geo 1"))
-- the rules on its words
breaks p n l r = heading_breaks p n (said_by l) r

-- the lowest rule that a line breaks
unfoldable pub lowest : Progress → Names → TextLine → Option Rule
lowest p n l = find (breaks p n l) rules

-- whether the line after the last one breaks a rule, since something is missing: the line `geo 1`, or a topic
abbrev pub breaks_at_end : Declarations → Rule → Bool
breaks_at_end d rule.Head = not d.progress.begun
breaks_at_end d rule.Lone = length d.setup.topics == 0
breaks_at_end d r = false

-- a value, unless a rule is broken
abbrev pub unless_broken : {A : Type 0} → Option Rule → A → Result A Rule
unless_broken None a = Ok a
unless_broken (Some r) a = Err r

-- what is said with line number `at`, or the lowest rule that it breaks
abbrev pub judged : ℕ → SoFar → TextLine → Result SoFar Rule
judged at s l =
    if is_skipped l.bytes then Ok s
    else unless_broken (lowest s.declared.progress (names_of s.declared.setup) l) (added at s (said_by l))

abbrev pub script_with : SoFar → Script
script_with s = record {
  setup = s.declared.setup;
  chance = s.declared.chance;
  steps = s.steps.list;
  first_event = s.steps.first;
}

-- the script that the lines make, or the lowest rule that the line after the last one breaks
abbrev pub completed : SoFar → Result Script Rule
completed s = unless_broken (find (breaks_at_end s.declared) rules) (script_with s)

-- a rule is broken at a line, or else what follows
abbrev pub at_line : {A B : Type 0} → ℕ → Result A Rule → (A → Result B Fault) → Result B Fault
at_line n (Ok a) f = f a
at_line n (Err r) f = Err (record { line = n; rule = rule_number r })

-- what the lines from number n on say
abbrev pub script_from : ℕ → SoFar → List TextLine → Result Script Fault
script_from n s [] = at_line n (completed s) Ok
script_from n s (l ∷ ls) = at_line n (judged n s l) (λ s'. script_from (n + 1) s' ls)

-- what a script says, or its first offending line with the lowest rule that it breaks
abbrev pub script_of : List ℕ → Result Script Fault
script_of bytes = script_from 1 no_line (lines_of bytes)
