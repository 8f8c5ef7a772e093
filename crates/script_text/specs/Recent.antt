-- Lines that were read before, and what they schedule.
use Rattle.std.specs.Prelude.{◌≡◌, ℕ, ◌⊎◌, true, List, [], Option, None, Some, Result, Ok, Err, slice_set, ⊤}
use Rattle.geo_base.specs.declared.event.Step.{Step}
use Rattle.script_rows.specs.declared.fault.Rule.{Rule}
use Rattle.script_rows.specs.declared.progress.Progress.{Progress}
use Rattle.script_rows.specs.declared.progress.Stage.TheVariants as stage
use Rattle.script_rows.specs.Names.{Names}
use Rattle.script_text.specs.Adding.{with_step}
use Rattle.script_text.specs.Lines.{TextLine}
use Rattle.script_text.specs.Schedule.{scheduled}
use Rattle.script_text.specs.Script.{Steps}

pub record Kept : Type 0 where
  pub line : List ℕ
  pub step : Option Step

abbrev pub nothing_kept : Kept
nothing_kept = record { line = []; step = None }

abbrev pub IsNothing : Kept → Type 0
IsNothing k = k ≡ nothing_kept

abbrev pub ended_line : List ℕ → TextLine
ended_line bytes = record { bytes = bytes; ended = true }

-- wherever the line stands, and whatever steps stand before it, this is what it does to them
abbrev pub Schedules : Progress → Names → TextLine → Result (Option Step) Rule → Type 0
Schedules p n l (Ok o) = (at : ℕ) (steps : Steps) → scheduled at p n steps l ≡ Ok (with_step at steps o)
Schedules p n l (Err r) = (at : ℕ) (steps : Steps) → scheduled at p n steps l ≡ Err r

-- a line that was noted schedules its step
abbrev pub IsKept : Progress → Names → Option Step → List ℕ → Type 0
IsKept p n None line = ⊤
IsKept p n (Some e) line = Schedules p n (ended_line line) (Ok (Some e))

abbrev pub Means : Progress → Names → Kept → Type 0
Means p n k = IsKept p n k.step k.line

-- where events have begun
abbrev pub among_events : Progress → Progress
among_events p = record p { last = stage.Event }

-- so many lines, of which one was noted at some place, or none
abbrev pub IsNoted : List Kept → List Kept → Kept → Type 0
IsNoted before after k = (after ≡ before) ⊎ ((place : ℕ) × (after ≡ slice_set before place k))
