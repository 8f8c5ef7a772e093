-- What is known of each script that is accepted.
use Rattle.std.specs.Prelude.{◌≡◌, ◌≢◌, ℕ, ◌+◌, ◌<◌, ◌≤◌, ◌^◌, Bool, true, ◌&&◌, length, All, IfSome}
use Rattle.std.specs.List.{list_all}
use Rattle.geo_base.specs.declared.client.Line.{Line}
use Rattle.geo_base.specs.declared.client.Line.TheVariants as line
use Rattle.geo_base.specs.declared.event.Event.{Event}
use Rattle.geo_base.specs.declared.event.Event.TheVariants as event
use Rattle.geo_base.specs.declared.event.Step.{Step}
use Rattle.geo_base.specs.declared.event.Step.TheVariants as step
use Rattle.geo_base.specs.Scripted.{IsScripted}
use Rattle.geo_base.specs.Setup.{Declared, Setup, sub_names}
use Rattle.script_rows.specs.declared.line_kind.LineKind.TheVariants as line_kind
use Rattle.script_rows.specs.declared.value.Value.TheVariants as value
use Rattle.script_rows.specs.Known.{is_fate_built}
use Rattle.script_rows.specs.Rows.{event_built, halt_built, line_built, may_halt}
use Rattle.script_rows.specs.Written.{IsPositionOrEnd, kind_of}
use Rattle.script_text.specs.declared.chance.Chance.{Chance}
use Rattle.script_text.specs.Lines.{is_printable}
use Rattle.script_text.specs.Script.{Script}

-- the topic and the two ends of a link
pub record IsLink (s : Setup) (topic source target : ℕ) : Type 0 where
  pub topic_in : topic < length s.topics
  pub source_in : source < length s.clusters
  pub target_in : target < length s.clusters
  pub apart : source ≢ target

-- a topic's broker at a cluster
abbrev pub IsNode : Setup → ℕ → ℕ → Type 0
IsNode s topic cluster = (topic < length s.topics) × (cluster < length s.clusters)

-- an event with its numbers in range
abbrev pub IsEvent : Setup → Event → Type 0
IsEvent s (event.Go client) = client < length s.clients
IsEvent s (event.Get client) = client < length s.clients
IsEvent s (event.Reconnect client) = client < length s.clients
IsEvent s (event.Serve cluster client) = (cluster < length s.clusters) × (client < length s.clients)
IsEvent s (event.Drop cluster client) = (cluster < length s.clusters) × (client < length s.clients)
IsEvent s (event.Reset topic source target) = IsLink s topic source target
IsEvent s (event.Read topic source target) = IsLink s topic source target
IsEvent s (event.Take topic source target f) = IsLink s topic source target × (is_fate_built f ≡ true)
IsEvent s (event.Receipt topic source target f) = IsLink s topic source target × (is_fate_built f ≡ true)
IsEvent s (event.Snap topic cluster) = IsNode s topic cluster
IsEvent s (event.Offer topic cluster sub) = IsNode s topic cluster × (sub < length (sub_names s topic))
IsEvent s (event.Seek topic cluster sub to) =
    (IsNode s topic cluster × (sub < length (sub_names s topic))) × IsPositionOrEnd (value.PositionOrEnd to)
IsEvent s (event.Restart topic cluster) = IsNode s topic cluster

-- a step with its numbers in range, of a kind that is read; what is halted is an event of a broker that it does by its own steps
abbrev pub IsStep : Setup → Step → Type 0
IsStep s (step.Plain e) = IsEvent s e × (event_built (kind_of e) ≡ true)
IsStep s (step.Halt count e) =
    (count ≤ 8) × IsEvent s e × ((halt_built && event_built (kind_of e) && may_halt (kind_of e)) ≡ true)
IsStep s step.Settle = line_built line_kind.Settle ≡ true
IsStep s step.Stop = line_built line_kind.Stop ≡ true

-- chances are parts of a thousand, and a packet is either lost or comes twice
pub record IsChance (c : Chance) : Type 0 where
  pub number : c.number < 2 ^ 32
  pub fates : c.lost + c.twice ≤ 1000
  pub restart : c.restart ≤ 1000

abbrev pub has_printable_text : Line → Bool
has_printable_text (line.Pub seq to key text) = list_all is_printable text
has_printable_text l = true

-- a client has fewer than 2 ^ 32 lines, and the texts that it publishes are printable
pub record IsClient (d : Declared) : Type 0 where
  pub few : length d.lines < 2 ^ 32
  pub texts : list_all has_printable_text d.lines ≡ true

pub record IsScenario (s : Script) : Type 0 where
  pub setup : IsScripted s.setup
  pub clients : All IsClient s.setup.clients
  pub chance : IfSome s.chance IsChance
  pub steps : All (IsStep s.setup) s.steps
