-- What the lines of a script declare.
use Rattle.std.specs.Prelude.{ℕ, false, List, [], Option, None}
use Rattle.geo_base.specs.declared.event.Step.{Step}
use Rattle.geo_base.specs.Setup.{Declared, Setup}
use Rattle.script_rows.specs.declared.progress.Progress.{Progress}
use Rattle.script_rows.specs.declared.progress.Stage.TheVariants as stage
use Rattle.script_text.specs.declared.chance.Chance.{Chance}

-- a whole script: what it declares, the chances of a run on threads where it says them, its schedule, and the line of the
-- first event, where there is one
pub record Script : Type 0 where
  pub setup : Setup
  pub chance : Option Chance
  pub steps : List Step
  pub first_event : Option ℕ

abbrev pub setup_with : ℕ → List (List ℕ) → List (List ℕ) → List Declared → Setup
setup_with per_ledger clusters topics clients =
    record { per_ledger = per_ledger; clusters = clusters; topics = topics; clients = clients }

-- a script that no text said: its steps have no lines
abbrev pub unsaid : ℕ → List (List ℕ) → List (List ℕ) → List Declared → List Step → Script
unsaid per_ledger clusters topics clients steps = record {
  setup = setup_with per_ledger clusters topics clients;
  chance = None;
  steps = steps;
  first_event = None;
}

-- the first line that breaks a rule, and the lowest rule that it breaks
pub record Fault : Type 0 where
  pub line : ℕ
  pub rule : ℕ

-- what the lines up to one declare: which kinds of line came, and what they say
pub record Declarations : Type 0 where
  pub progress : Progress
  pub chance : Option Chance
  pub setup : Setup

-- before the first line; a ledger takes 50,000 entries, Pulsar's default
abbrev pub nothing_declared : Declarations
nothing_declared = record {
  progress = record { begun = false; last = stage.Geo; has_ledger = false; has_chance = false };
  chance = None;
  setup = setup_with 50000 [] [] [];
}

-- the steps of the lines up to one, and the line of the first of them
pub record Steps : Type 0 where
  pub first : Option ℕ
  pub list : List Step

abbrev pub no_steps : Steps
no_steps = record { first = None; list = [] }

-- the lines up to one
pub record SoFar : Type 0 where
  pub declared : Declarations
  pub steps : Steps

abbrev pub no_line : SoFar
no_line = record { declared = nothing_declared; steps = no_steps }
