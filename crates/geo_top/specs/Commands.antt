-- The commands of the program, by its words: `run`, `save`, `resume`, `audit`, `audit whole`, `trace`, `steps`, `steps from`,
-- `steps big NUMBER`, `big NUMBER`, `compact HORIZON`, `tiered KEEP`, `lost CLUSTER`, alone or with `numbers` or `from` after it, and
-- `observe`.
-- Any other words are none (own).
use Rattle.std.specs.Prelude.{◌≡◌, ℕ, Bool, true, false, ◌&&◌, if◌then◌else◌, List, [], ◌∷◌, Option, Some, None, codes}
use Rattle.std.specs.Str.{bytes_eq}
use Rattle.script_rows.specs.Numbers.{number_of}
use Rattle.audit.specs.declared.strictness.Strictness.{Strictness}
use Rattle.audit.specs.declared.strictness.Strictness.TheVariants as strictness
use Rattle.geo_top.specs.declared.top.command.Command.{Command}
use Rattle.geo_top.specs.declared.top.command.Command.TheVariants as command
use Rattle.geo_top.specs.declared.top.command.GoingOn.{GoingOn}
use Rattle.geo_top.specs.declared.top.command.GoingOn.TheVariants as going_on
use Rattle.geo_top.specs.declared.top.command.Reading.{Reading}
use Rattle.geo_top.specs.declared.top.command.Reading.TheVariants as reading
use Rattle.geo_top.specs.declared.top.command.Shown.{Shown}
use Rattle.geo_top.specs.declared.top.command.Shown.TheVariants as shown

-- the number that a generated run is made of: 32 bits, decimal, without a sign and without a leading zero
abbrev pub most_number : ℕ
most_number = 4294967295

abbrev pub big_of : Option ℕ → Option Command
big_of None = None
big_of (Some number) = Some (command.Big number)

-- a command that shows something of the run of a script
abbrev pub command_showing : Shown → Command
command_showing v = command.Reads (reading.Script v)

abbrev pub run_command : Command
run_command = command_showing shown.Report

abbrev pub trace_command : Command
trace_command = command_showing shown.Trace

abbrev pub save_command : Command
save_command = command.Reads reading.Save

-- a command that shows something of the run that goes on from a state
abbrev pub command_resuming : GoingOn → Command
command_resuming v = command.Reads (reading.Resume v)

abbrev pub resume_command : Command
resume_command = command_resuming going_on.Report

abbrev pub steps_on_command : Command
steps_on_command = command_resuming going_on.Steps

-- a command that judges a trace, by how strictly
abbrev pub auditing_command : Strictness → Command
auditing_command k = command.Reads (reading.Audit k)

abbrev pub audit_command : Command
audit_command = auditing_command strictness.Plain

abbrev pub whole_command : Command
whole_command = auditing_command strictness.Whole

-- the word after `audit`
abbrev pub audit_of_word : List ℕ → Option Command
audit_of_word w = if bytes_eq w (codes "whole") then Some whole_command else None

abbrev pub steps_command : Command
steps_command = command.Reads reading.Steps

abbrev pub observe_command : Command
observe_command = command.Reads reading.Observe

-- the horizon of a compacted view: no run stores more entries than it has events
abbrev pub most_horizon : ℕ
most_horizon = 2000000

abbrev pub compact_command : ℕ → Command
compact_command horizon = command_showing (shown.Compacted horizon)

abbrev pub compact_of : Option ℕ → Option Command
compact_of None = None
compact_of (Some horizon) = Some (compact_command horizon)

-- how many of a topic's closed ledgers may be let stay: half as many as a run has events (own)
abbrev pub most_keep : ℕ
most_keep = 1000000

abbrev pub tiered_command : ℕ → Command
tiered_command keep = command_showing (shown.Tiered keep)

abbrev pub tier_of : Option ℕ → Option Command
tier_of None = None
tier_of (Some keep) = Some (tiered_command keep)

-- a word that stands alone
abbrev pub alone_of : List ℕ → Option Command
alone_of w =
    if bytes_eq w (codes "run") then Some run_command
    else if bytes_eq w (codes "save") then Some save_command
    else if bytes_eq w (codes "resume") then Some resume_command
    else if bytes_eq w (codes "audit") then Some audit_command
    else if bytes_eq w (codes "trace") then Some trace_command
    else if bytes_eq w (codes "steps") then Some steps_command
    else if bytes_eq w (codes "observe") then Some observe_command
    else None

-- what is lost if a cluster goes, with the messages' names or without; and of a run that goes on from a state
abbrev pub lost_command : List ℕ → Bool → Command
lost_command name names = command.Reads (reading.Lost name names)

abbrev pub lost_on_command : List ℕ → Command
lost_on_command name = command.Reads (reading.LostOn name)

-- the word after `lost CLUSTER`
abbrev pub lost_with : List ℕ → List ℕ → Option Command
lost_with name w =
    if bytes_eq w (codes "numbers") then Some (lost_command name false)
    else if bytes_eq w (codes "from") then Some (lost_on_command name)
    else None

-- `steps` with a word
abbrev pub steps_with : List ℕ → Option Command
steps_with n = if bytes_eq n (codes "from") then Some steps_on_command else None

-- a word with another
abbrev pub numbered_of : List ℕ → List ℕ → Option Command
numbered_of w n =
    if bytes_eq w (codes "big") then big_of (number_of most_number n)
    else if bytes_eq w (codes "compact") then compact_of (number_of most_horizon n)
    else if bytes_eq w (codes "tiered") then tier_of (number_of most_keep n)
    else if bytes_eq w (codes "steps") then steps_with n
    else if bytes_eq w (codes "audit") then audit_of_word n
    else if bytes_eq w (codes "lost") then Some (lost_command n true)
    else None

-- the steps of a generated run
abbrev pub big_steps_of : Option ℕ → Option Command
big_steps_of None = None
big_steps_of (Some number) = Some (command.BigSteps number)

-- `steps big` with a number
abbrev pub stepped_of : List ℕ → List ℕ → List ℕ → Option Command
stepped_of w v n = if bytes_eq w (codes "steps") && bytes_eq v (codes "big") then big_steps_of (number_of most_number n) else None

-- three words
abbrev pub three_of : List ℕ → List ℕ → List ℕ → Option Command
three_of w v n = if bytes_eq w (codes "lost") then lost_with v n else stepped_of w v n

abbrev pub command_of : List (List ℕ) → Option Command
command_of [] = None
command_of (w ∷ []) = alone_of w
command_of (w ∷ n ∷ []) = numbered_of w n
command_of (w ∷ v ∷ n ∷ []) = three_of w v n
command_of (w ∷ v ∷ n ∷ u ∷ ws) = None

-- words that have an input
abbrev pub has_input : Option Command → Bool
has_input None = false
has_input (Some (command.Reads r)) = true
has_input (Some (command.Big number)) = false
has_input (Some (command.BigSteps number)) = false

-- the command reads its input
abbrev pub Reads : Option Command → Type 0
Reads c = (r : Reading) × (c ≡ Some (command.Reads r))
