-- What a line that breaks no rule adds to what the lines before it say.
use Rattle.std.specs.Prelude.{ℕ, true, if◌then◌else◌, List, [], ◌∷◌, ◌++◌, slice_set, Option, Some, None}
use Rattle.geo_base.specs.declared.client.Line.{Line}
use Rattle.geo_base.specs.declared.event.Step.{Step}
use Rattle.geo_base.specs.Setup.{Declared, Setup, declared_at}
use Rattle.script_rows.specs.NameWords.{Word}
use Rattle.script_rows.specs.declared.heading.Heading.{Heading}
use Rattle.script_rows.specs.declared.heading.Heading.TheVariants as heading
use Rattle.script_rows.specs.declared.kind.Kind.{Kind}
use Rattle.script_rows.specs.declared.kind.Kind.TheVariants as kind
use Rattle.script_rows.specs.declared.line_kind.LineKind.TheVariants as line
use Rattle.script_rows.specs.declared.progress.Progress.{Progress}
use Rattle.script_rows.specs.declared.progress.Stage.TheVariants as stage
use Rattle.script_rows.specs.declared.value.Value.{Value}
use Rattle.script_rows.specs.Judging.{values_of}
use Rattle.script_rows.specs.Known.{schedules, step_in}
use Rattle.script_rows.specs.Names.{nothing_seen}
use Rattle.script_rows.specs.Rows.{columns_of, stage_of}
use Rattle.script_rows.specs.Values.{item_at, line_of, name_at, rest}
use Rattle.script_text.specs.declared.chance.Chance.{Chance}
use Rattle.script_text.specs.Naming.{names_of}
use Rattle.script_text.specs.Script.{Declarations, SoFar, Steps}

-- ---- what declares something
abbrev pub with_ledger : Setup → ℕ → Setup
with_ledger s entries = record s { per_ledger = entries }

abbrev pub with_cluster : Setup → Word → Setup
with_cluster s name = record s { clusters = s.clusters ++ name ∷ [] }

abbrev pub with_topic : Setup → Word → Setup
with_topic s name = record s { topics = s.topics ++ name ∷ [] }

-- a client of a topic, first at a cluster, without lines
abbrev pub new_client : Word → ℕ → ℕ → Declared
new_client name topic cluster = record { name = name; topic = topic; cluster = cluster; lines = [] }

abbrev pub with_client : Setup → Declared → Setup
with_client s d = record s { clients = s.clients ++ d ∷ [] }

-- one more line of a client
abbrev pub one_more : Declared → Line → Declared
one_more d l = record d { lines = d.lines ++ l ∷ [] }

abbrev pub with_line : Setup → ℕ → Line → Setup
with_line s c l = record s { clients = slice_set s.clients c (one_more (declared_at s c) l) }

-- NUMBER LOST TWICE RESTART
abbrev pub chance_of : List Value → Chance
chance_of vs = record { number = item_at vs 0; lost = item_at vs 1; twice = item_at vs 2; restart = item_at vs 3 }

-- what is declared with the values of one more line
abbrev pub setup_after : Setup → Kind → List Value → Setup
setup_after s (kind.Other line.Ledger) vs = with_ledger s (item_at vs 0)
setup_after s (kind.Other line.Cluster) vs = with_cluster s (name_at vs 0)
setup_after s (kind.Other line.Topic) vs = with_topic s (name_at vs 0)
setup_after s (kind.Other line.Client) vs = with_client s (new_client (name_at vs 0) (item_at vs 1) (item_at vs 2))
setup_after s (kind.Do k) vs = with_line s (item_at vs 0) (line_of k (rest vs))
setup_after s k vs = s

abbrev pub chance_after : Option Chance → Kind → List Value → Option Chance
chance_after c (kind.Other line.Chance) vs = Some (chance_of vs)
chance_after c k vs = c

-- which kinds of line came
abbrev pub progress_after : Progress → Kind → Progress
progress_after p (kind.Other line.Geo) = record p { begun = true; last = stage.Geo }
progress_after p (kind.Other line.Ledger) = record p { has_ledger = true; last = stage.Setting }
progress_after p (kind.Other line.Chance) = record p { has_chance = true; last = stage.Setting }
progress_after p k = record p { last = stage_of k }

abbrev pub with_values : Declarations → Kind → List Value → Declarations
with_values d k vs = record {
  progress = progress_after d.progress k;
  chance = chance_after d.chance k vs;
  setup = setup_after d.setup k vs;
}

-- a line without values says nothing, and breaks a rule
abbrev pub with_values_in : Declarations → Kind → Option (List Value) → Declarations
with_values_in d k None = d
with_values_in d k (Some vs) = with_values d k vs

-- ---- what schedules a step
abbrev pub first_of : Option ℕ → ℕ → Option ℕ
first_of None at = Some at
first_of (Some first) at = Some first

-- the step of line number `at`
abbrev pub with_step : ℕ → Steps → Option Step → Steps
with_step at s None = s
with_step at s (Some e) = record { first = first_of s.first at; list = s.list ++ e ∷ [] }

-- ---- any line
abbrev pub added_of : ℕ → SoFar → Kind → List Word → SoFar
added_of at s k ws =
    if schedules k then record {
      declared = record s.declared { progress = progress_after s.declared.progress k };
      steps = with_step at s.steps (step_in (names_of s.declared.setup) (heading.Headed k ws));
    }
    else record s {
      declared = with_values_in s.declared k (values_of (names_of s.declared.setup) nothing_seen (columns_of k) ws);
    }

-- what is said with line number `at`
abbrev pub added : ℕ → SoFar → Heading → SoFar
added at s (heading.Headed k ws) = added_of at s k ws
added at s h = s
