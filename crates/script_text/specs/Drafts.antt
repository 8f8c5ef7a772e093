-- What the code does with a line, against what the line means.
use Rattle.std.specs.Prelude.{◌≡◌, ℕ, ◌<◌, ◌≤◌, true, false, Bool, not, ◌&&◌, if◌then◌else◌, List, [], ◌∷◌, length, map, Option, Some, None, Result, Ok, Err, ⊤, ◌⊎◌}
use Rattle.std.specs.List.{list_all}
use Rattle.geo_base.specs.declared.client.Line.{Line}
use Rattle.geo_base.specs.declared.client.Line.TheVariants as line
use Rattle.geo_base.specs.Name.{is_name}
use Rattle.geo_base.specs.Scripted.{AreDistinct, clients_of, is_declared}
use Rattle.geo_base.specs.Setup.{Declared, Setup, declared_at, sub_names}
use Rattle.script_rows.specs.NameBytes.{is_among}
use Rattle.script_rows.specs.NameWords.{Word}
use Rattle.script_rows.specs.declared.act_kind.ActKind.{ActKind}
use Rattle.script_rows.specs.declared.fault.LineFault.{LineFault}
use Rattle.script_rows.specs.declared.fault.LineFault.TheVariants as fault
use Rattle.script_rows.specs.declared.fault.Rule.{Rule}
use Rattle.script_rows.specs.declared.heading.Heading.{Heading}
use Rattle.script_rows.specs.declared.heading.Heading.TheVariants as heading
use Rattle.script_rows.specs.declared.kind.Kind.{Kind}
use Rattle.script_rows.specs.declared.kind.Kind.TheVariants as kind
use Rattle.script_rows.specs.declared.line_kind.LineKind.TheVariants as line_kind
use Rattle.script_rows.specs.declared.progress.Progress.{Progress}
use Rattle.script_rows.specs.declared.progress.Stage.TheVariants as stage
use Rattle.script_rows.specs.declared.value.Value.{Value}
use Rattle.script_rows.specs.Judging.{values_of}
use Rattle.script_rows.specs.Known.{schedules}
use Rattle.script_rows.specs.Names.{Names, nothing_seen, with_client, with_cluster, with_role, with_sub, with_topic}
use Rattle.script_rows.specs.Rows.{columns_of, role_of}
use Rattle.script_rows.specs.Values.{item_at, line_of, name_at, rest}
use Rattle.script_rows.specs.Written.{AreNames}
use Rattle.script_text.specs.Adding as add
use Rattle.script_text.specs.Adding.{new_client, with_values}
use Rattle.script_text.specs.Lines.{TextLine, is_skipped}
use Rattle.script_text.specs.Rules.{lowest, said_by, unless_broken}
use Rattle.script_text.specs.declared.chance.Chance.{Chance}
use Rattle.script_text.specs.declared.fault.ScriptFault.{ScriptFault}
use Rattle.script_text.specs.declared.fault.ScriptFault.TheVariants as script_fault
use Rattle.script_text.specs.Script.{Declarations, Fault, SoFar, no_steps, nothing_declared, setup_with}

-- what the reader keeps of the lines so far: what they declare, and the same names in tables, of which the subscriptions
-- stand in the order of their lines
pub record Draft : Type 0 where
  pub names : Names
  pub declared : Declarations

abbrev pub draft_with : Names → Progress → Option Chance → ℕ → List Word → List Word → List Declared → Draft
draft_with names progress chance per_ledger clusters topics clients = record {
  names = names;
  declared = record { progress = progress; chance = chance; setup = setup_with per_ledger clusters topics clients };
}

-- before the first line
abbrev pub no_draft : Draft
no_draft =
    record { names = record { clusters = []; topics = []; clients = []; members = []; subs = [] }; declared = nothing_declared }

-- a line schedules a step
abbrev pub heads_step : Heading → Bool
heads_step (heading.Headed k ws) = schedules k
heads_step h = false

abbrev pub says_step : TextLine → Bool
says_step l = not (is_skipped l.bytes) && heads_step (said_by l)

-- the lines that are left begin with one that schedules a step, if there is one
abbrev pub StartsWithStep : List TextLine → Type 0
StartsWithStep [] = ⊤
StartsWithStep (l ∷ ls) = says_step l ≡ true

-- events have begun, or begin with the next line
abbrev pub IsLate : Progress → List TextLine → Type 0
IsLate p ls = (p.last ≡ stage.Event) ⊎ StartsWithStep ls

abbrev pub moved_on : Declarations → Progress → Declarations
moved_on d p = record d { progress = p }

abbrev pub so_far : Declarations → SoFar
so_far d = record { declared = d; steps = no_steps }

-- ---- one more line
abbrev pub noted_line : Names → ℕ → Line → Names
noted_line n t (line.Sub sub k earliest replicated) = with_sub n t sub
noted_line n t l = n

abbrev pub names_after : Draft → Kind → List Value → Names
names_after d (kind.Other line_kind.Cluster) vs = with_cluster d.names (name_at vs 0)
names_after d (kind.Other line_kind.Topic) vs = with_topic d.names (name_at vs 0)
names_after d (kind.Other line_kind.Client) vs = with_client d.names (name_at vs 0) (item_at vs 1)
names_after d (kind.Do k) vs =
    noted_line (with_role d.names (item_at vs 0) (role_of k)) (declared_at d.declared.setup (item_at vs 0)).topic (line_of k (rest vs))
names_after d k vs = d.names

abbrev pub drafted : Draft → Kind → List Value → Draft
drafted d k vs = record { names = names_after d k vs; declared = with_values d.declared k vs }

-- the same for each kind of row that has a name, before the kind is noted
abbrev pub drafted_cluster : Draft → Word → Draft
drafted_cluster d w = record {
  names = with_cluster d.names w;
  declared = record d.declared { setup = add.with_cluster d.declared.setup w };
}

abbrev pub drafted_topic : Draft → Word → Draft
drafted_topic d w = record {
  names = with_topic d.names w;
  declared = record d.declared { setup = add.with_topic d.declared.setup w };
}

abbrev pub drafted_client : Draft → Word → ℕ → ℕ → Draft
drafted_client d w t x = record {
  names = with_client d.names w t;
  declared = record d.declared { setup = add.with_client d.declared.setup (new_client w t x) };
}

abbrev pub drafted_act : Draft → ActKind → List Value → Draft
drafted_act d k vs = record {
  names = names_after d (kind.Do k) vs;
  declared = record d.declared { setup = add.with_line d.declared.setup (item_at vs 0) (line_of k (rest vs)) };
}

abbrev pub drafted_in : Draft → Kind → Option (List Value) → Draft
drafted_in d k None = d
drafted_in d k (Some vs) = drafted d k vs

abbrev pub drafted_with : Draft → Heading → Draft
drafted_with d (heading.Headed k ws) = drafted_in d k (values_of d.names nothing_seen (columns_of k) ws)
drafted_with d h = d

abbrev pub drafted_line : Draft → TextLine → Result Draft Rule
drafted_line d l =
    if is_skipped l.bytes then Ok d
    else unless_broken (lowest d.declared.progress d.names l) (drafted_with d (said_by l))

-- what the code has to know of a row that it takes in
abbrev pub CanAdd : Draft → Kind → List Value → Type 0
CanAdd d (kind.Other line_kind.Cluster) vs =
    (is_name (name_at vs 0) ≡ true) × (is_among d.names.clusters (name_at vs 0) ≡ false) × (length d.names.clusters < 8)
CanAdd d (kind.Other line_kind.Topic) vs =
    (is_name (name_at vs 0) ≡ true) × (is_among d.names.topics (name_at vs 0) ≡ false)
CanAdd d (kind.Other line_kind.Client) vs =
    (is_name (name_at vs 0) ≡ true) × (is_among d.names.clients (name_at vs 0) ≡ false)
CanAdd d (kind.Do k) vs =
    (item_at vs 0 < length d.declared.setup.clients) × (item_at vs 0 < length d.names.members) × ((declared_at d.declared.setup (item_at vs 0)).topic < length d.names.subs)
CanAdd d k vs = ⊤

abbrev pub CanAddIn : Draft → Kind → Option (List Value) → Type 0
CanAddIn d k None = ⊤
CanAddIn d k (Some vs) = CanAdd d k vs

abbrev pub CanAddHeading : Draft → Heading → Type 0
CanAddHeading d (heading.Headed k ws) = CanAddIn d k (values_of d.names nothing_seen (columns_of k) ws)
CanAddHeading d h = ⊤

-- a line was judged so, unless memory was wanting
abbrev pub Judges : {A : Type 0} → Result (Unit {0}) LineFault → A → Result A Rule → Type 0
Judges (Ok u) new meaning = meaning ≡ Ok new
Judges (Err (fault.Broken r)) new meaning = meaning ≡ Err r
Judges (Err fault.Memory) new meaning = ⊤

-- a whole was answered so, unless memory was wanting
abbrev pub Answers : {A : Type 0} → Result A ScriptFault → Result A Fault → Type 0
Answers (Ok a) meaning = meaning ≡ Ok a
Answers (Err (script_fault.Rule line rule)) meaning = meaning ≡ Err (record { line = line; rule = rule })
Answers (Err script_fault.Memory) meaning = ⊤

-- a whole was taken in so, unless memory was wanting
abbrev pub Takes : {A : Type 0} → Result (Unit {0}) ScriptFault → A → Result A Fault → Type 0
Takes (Ok u) new meaning = meaning ≡ Ok new
Takes (Err (script_fault.Rule line rule)) new meaning = meaning ≡ Err (record { line = line; rule = rule })
Takes (Err script_fault.Memory) new meaning = ⊤

-- what is declared was kept so, unless memory was wanting
abbrev pub Finishes : Result Declarations ScriptFault → Declarations → Type 0
Finishes (Ok new) d = new ≡ d
Finishes (Err (script_fault.Rule line rule)) d = ⊥
Finishes (Err script_fault.Memory) d = ⊤

-- a part was read, after which a whole says what the rest says from a line number on
abbrev pub Goes : {A : Type 0} → Result ℕ ScriptFault → Result A Fault → (ℕ → Result A Fault) → Type 0
Goes (Ok number) whole left = whole ≡ left number
Goes (Err (script_fault.Rule line rule)) whole left = whole ≡ Err (record { line = line; rule = rule })
Goes (Err script_fault.Memory) whole left = ⊤

-- ---- what is known of what is declared, before there is a topic
pub record IsDeclared (s : Setup) : Type 0 where
  pub ledger : (1 ≤ s.per_ledger) × (s.per_ledger ≤ 1000000)
  pub clusters : AreNames s.clusters
  pub few_clusters : length s.clusters ≤ 8
  pub topics : AreNames s.topics
  pub few_topics : length s.topics ≤ 16
  pub pair : 0 < length s.topics → 2 ≤ length s.clusters
  pub clients : list_all (is_declared s) s.clients ≡ true
  pub clients_apart : AreDistinct (map (λ (d : Declared). d.name) s.clients)
  pub of_a_topic : (t : ℕ) → (length (clients_of s t) ≤ 32) × (length (sub_names s t) ≤ 32)
