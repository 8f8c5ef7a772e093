-- What is promised of the command that runs nodes on threads, over the bytes of its input and those of its output. It has many answers
-- to an input, since the threads may run in any order.
use Rattle.std.specs.Prelude.{◌≡◌, ◌⊎◌, ℕ, ◌<◌, ⊤, nat_lt, if◌then◌else◌, List, [], ◌∷◌, ◌++◌, length, take, Option, Some, None, Result, Ok, Err, IsOkAnd}
use Rattle.geo_base.specs.declared.event.Step.{Step}
use Rattle.geo_io.specs.Faults.{Rose, Stood}
use Rattle.script_text.specs.Naming.{names_of}
use Rattle.script_text.specs.Rules.{script_of}
use Rattle.script_text.specs.Schedule.{schedule_text}
use Rattle.script_text.specs.Script.{Fault, Script}
use Rattle.geo_top.specs.declared.top.answer.Answer.{Answer}
use Rattle.geo_top.specs.declared.top.command.Shown.TheVariants as shown
use Rattle.geo_top.specs.declared.top.status.Status.{Status}
use Rattle.geo_top.specs.declared.top.status.Status.TheVariants as status
use Rattle.geo_top.specs.Answered.{FaultCounts, IsPartOf, IsRead, WritesLine}
use Rattle.geo_top.specs.Commands.{run_command}
use Rattle.geo_top.specs.Founded.{IsSent}
use Rattle.geo_top.specs.Outputs.{answer_to}
use Rattle.run_report.specs.Reports.{report_of}
use Rattle.geo_top.specs.Statuses.{IsDue, IsMade, refusal_line}
use Rattle.live_output.specs.LiveRuns.{TellsRun}
use Rattle.live_output.specs.Playing.{with_steps}

-- ---- what is due
-- A schedule is what the threads make: a script that has one of its own breaks rule 20 at the line of its first step (own), where no
-- line of it breaks another rule.
abbrev pub unless_scheduled : Option ℕ → Status
unless_scheduled None = status.Ok
unless_scheduled (Some line) = status.BadScript line 20

abbrev pub status_to : Result Script Fault → Status
status_to (Ok n) = unless_scheduled n.first_event
status_to (Err f) = status.BadScript f.line f.rule

-- 67,108,864 bytes at most are read (limit 1)
abbrev pub live_status : List ℕ → Status
live_status input = if nat_lt 67108864 (length input) then status.TooLarge 1 else status_to (script_of input)

-- after the input the lines of these steps make a script to which `run` answers the report of the run over them. The answer is that over
-- the lines of a text, however long it is
abbrev pub ReplaysAs : List ℕ → Script → List Step → Type 0
ReplaysAs input n es =
    answer_to shown.Report (script_of (input ++ schedule_text (names_of n.setup) es)) ≡ record { status = status.Ok; bytes = report_of (with_steps n es) }

-- Of a script without a schedule of its own, and one schedule: report and schedule of the run over it, which replays where a line feed
-- ends the input's last line.
pub record RanLive (input output : List ℕ) (n : Script) : Type 0 where
  pub unscheduled : n.first_event ≡ None
  pub tells : TellsRun n output
  pub replayed : (text : List ℕ) → input ≡ text ++ 10 ∷ [] → ReplaysAs input n tells.schedule

abbrev pub TellsRunOf : List ℕ → List ℕ → Type 0
TellsRunOf input output = IsOkAnd (script_of input) (RanLive input output)

-- the bytes of an answer, by how the program is to end
abbrev pub IsTextOf : Status → List ℕ → List ℕ → Type 0
IsTextOf status.Ok input bytes = TellsRunOf input bytes
IsTextOf s input bytes = bytes ≡ refusal_line s

pub record IsLiveAnswer (input : List ℕ) (a : Answer) : Type 0 where
  pub status : a.status ≡ live_status input
  pub bytes : IsTextOf (live_status input) input a.bytes

-- ---- what is promised
-- the line that a script is refused for breaks a rule, or is its first step
abbrev pub IsRefusedLine : List ℕ → Fault → Type 0
IsRefusedLine input f = (script_of input ≡ Err f) ⊎ ((f.rule ≡ 20) × IsOkAnd (script_of input) (λ n. n.first_event ≡ Some f.line))

-- Each refusal comes only for its cause; some never come. A fault of the source or the sink is never told as want of memory.
abbrev pub HasLiveCause : List ℕ → FaultCounts → Status → Type 0
HasLiveCause input f status.Ok = ⊤
HasLiveCause input f status.Usage = ⊥
HasLiveCause input f (status.BadScript line rule) = IsRefusedLine input (record { line = line; rule = rule })
HasLiveCause input f status.ReadFault = Rose f.source f.source_now
HasLiveCause input f status.WriteFault = Rose f.sink f.sink_now
HasLiveCause input f (status.TooLarge limit) = (limit ≡ 1) × (67108864 < length input)
HasLiveCause input f status.OutOfMemory = Stood f.source f.source_now × Stood f.sink f.sink_now
HasLiveCause input f (status.BadState offset rule) = ⊥
HasLiveCause input f (status.StateVersion number) = ⊥
HasLiveCause input f (status.AuditRefused event rule) = ⊥
HasLiveCause input f (status.BadObservation line rule) = ⊥
HasLiveCause input f status.Found = ⊥

-- where the sink failed: a beginning of an answer, where the source did not fail, and else of the line that tells so
abbrev pub WentOutPartly : List ℕ → List ℕ → FaultCounts → Type 0
WentOutPartly input output f =
    ((a : Answer) × IsLiveAnswer input a × Stood f.source f.source_now × IsPartOf a.bytes output)
    ⊎ (Rose f.source f.source_now × IsPartOf (refusal_line status.ReadFault) output)

pub record IsLiveAnswered (input output : List ℕ) (f : FaultCounts) (s : Status) : Type 0 where
  -- With Ok it is, of one schedule, the report of the written machine's run over it, the line `schedule`, and this schedule, which reads
  -- back. The run passes no limit, and all that is claimed of the run of a script holds of it. Its last step settles, unless settling
  -- there would pass a limit. After the script that was read this schedule makes a script to which `run` answers the very report.
  pub live : s ≡ status.Ok → TellsRunOf input output
  -- Each refusal comes only for its cause; and no answer but that of a read fault is made where the source failed.
  pub cause : HasLiveCause input f s
  pub read_well : IsMade s → Stood f.source f.source_now
  -- What is due comes, unless the source, the sink or memory fails.
  pub due : IsDue (live_status input) s
  -- What goes out besides: the line of a refusal, nothing for want of memory, and where the sink failed a beginning.
  pub line : WritesLine s output
  pub part : s ≡ status.WriteFault → WentOutPartly input output f

-- it reads its source as `run` does
abbrev pub IsLiveRead : (List ℕ → Type 0) → Option (List ℕ) → ℕ → ℕ → Status → List ℕ → Type 0
IsLiveRead given left before now s input = IsRead (Some run_command) given left before now s input

-- ---- an answer that is ready to be written, whatever becomes of the sink
pub record IsLiveReady (input : List ℕ) (before now : ℕ) (a : Answer) : Type 0 where
  pub sent : IsSent a.status
  pub answered : (k l : ℕ) → IsLiveAnswered input a.bytes (record { source = before; source_now = now; sink = k; sink_now = l }) a.status
  pub part : (k l n : ℕ) → WentOutPartly input (take n a.bytes) (record { source = before; source_now = now; sink = k; sink_now = l })
