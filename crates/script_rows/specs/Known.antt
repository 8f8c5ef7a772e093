-- What is known of each step that is read, and what it is to read one.
use Rattle.std.specs.Prelude.{◌≡◌, ◌≢◌, ℕ, ◌<◌, ◌≤◌, Bool, true, false, not, ◌&&◌, if◌then◌else◌, List, length, find, Option, Some, None, option_map}
use Rattle.geo_base.specs.declared.event.Event.{Event}
use Rattle.geo_base.specs.declared.event.Event.TheVariants as event
use Rattle.geo_base.specs.declared.event.Fate.{Fate}
use Rattle.geo_base.specs.declared.event.Step.{Step}
use Rattle.geo_base.specs.declared.event.Step.TheVariants as step
use Rattle.script_rows.specs.declared.column.Menu.TheVariants as menu
use Rattle.script_rows.specs.declared.heading.Heading.{Heading}
use Rattle.script_rows.specs.declared.heading.Heading.TheVariants as heading
use Rattle.script_rows.specs.declared.kind.Kind.{Kind}
use Rattle.script_rows.specs.declared.kind.Kind.TheVariants as kind
use Rattle.script_rows.specs.declared.line_kind.LineKind.TheVariants as line
use Rattle.script_rows.specs.declared.progress.Progress.{Progress}
use Rattle.script_rows.specs.declared.value.Value.TheVariants as value
use Rattle.script_rows.specs.Judging.{heading_breaks, heading_of, values_of, word_rules}
use Rattle.script_rows.specs.Names.{Names, nothing_seen, subs_of}
use Rattle.script_rows.specs.Rows.{act_built, columns_of, event_built, halt_built, is_later, line_built, may_halt}
use Rattle.script_rows.specs.Values.{step_of}
use Rattle.script_rows.specs.Words.{words_of}
use Rattle.script_rows.specs.Written.{IsPositionOrEnd, choice_word, fate_number, kind_of}

-- the topic and the two ends of a link
pub record IsLink (n : Names) (topic source target : ℕ) : Type 0 where
  pub topic_in : topic < length n.topics
  pub source_in : source < length n.clusters
  pub target_in : target < length n.clusters
  pub apart : source ≢ target

-- a topic's broker at a cluster
abbrev pub IsNode : Names → ℕ → ℕ → Type 0
IsNode n t x = (t < length n.topics) × (x < length n.clusters)

-- a fate that is read
abbrev pub is_fate_built : Fate → Bool
is_fate_built f = not (is_later menu.Fate (choice_word menu.Fate (fate_number f)))

-- an event with its numbers in range
abbrev pub IsEvent : Names → Event → Type 0
IsEvent n (event.Go c) = c < length n.clients
IsEvent n (event.Get c) = c < length n.clients
IsEvent n (event.Reconnect c) = c < length n.clients
IsEvent n (event.Serve x c) = (x < length n.clusters) × (c < length n.clients)
IsEvent n (event.Drop x c) = (x < length n.clusters) × (c < length n.clients)
IsEvent n (event.Reset t x y) = IsLink n t x y
IsEvent n (event.Read t x y) = IsLink n t x y
IsEvent n (event.Take t x y f) = IsLink n t x y × (is_fate_built f ≡ true)
IsEvent n (event.Receipt t x y f) = IsLink n t x y × (is_fate_built f ≡ true)
IsEvent n (event.Snap t x) = IsNode n t x
IsEvent n (event.Offer t x s) = IsNode n t x × (s < length (subs_of n t))
IsEvent n (event.Seek t x s p) = (IsNode n t x × (s < length (subs_of n t))) × IsPositionOrEnd (value.PositionOrEnd p)
IsEvent n (event.Restart t x) = IsNode n t x

-- a step that is read, with its numbers in range
abbrev pub IsStep : Names → Step → Type 0
IsStep n (step.Plain e) = IsEvent n e × (event_built (kind_of e) ≡ true)
IsStep n (step.Halt k e) = (k ≤ 8) × IsEvent n e × ((halt_built && event_built (kind_of e) && may_halt (kind_of e)) ≡ true)
IsStep n step.Settle = line_built line.Settle ≡ true
IsStep n step.Stop = line_built line.Stop ≡ true

-- a kind of line that is read
abbrev pub is_kind_built : Kind → Bool
is_kind_built (kind.Other k) = line_built k
is_kind_built (kind.Do k) = act_built k
is_kind_built (kind.Event k) = event_built k
is_kind_built (kind.Halt k) = halt_built && event_built k && may_halt k

-- ---- a line that schedules a step
-- the kinds of line that do
abbrev pub schedules : Kind → Bool
schedules (kind.Event k) = true
schedules (kind.Halt k) = true
schedules (kind.Other line.Settle) = true
schedules (kind.Other line.Stop) = true
schedules k = false

abbrev pub step_in : Names → Heading → Option Step
step_in n (heading.Headed k ws) =
    if schedules k then option_map (step_of k) (values_of n nothing_seen (columns_of k) ws) else None
step_in n h = None

-- a line breaks no rule of its words, and schedules a step
abbrev pub ReadsAs : Progress → Names → List ℕ → Step → Type 0
ReadsAs p n line s =
    (find (heading_breaks p n (heading_of (words_of line))) word_rules ≡ None) × (step_in n (heading_of (words_of line)) ≡ Some s)
