-- The steps of a run as an observer tells them, one after another.
use Rattle.std.specs.Prelude.{◌≡◌, ℕ, ◌+◌, ◌<◌, ◌==◌, Bool, true, false, List, [], ◌∷◌, ◌++◌, map, drop, if◌then◌else◌, codes, decimal, Ok, Err, Result, ⊤}
use Rattle.geo_base.specs.declared.event.Event.{Event}
use Rattle.geo_base.specs.declared.event.Event.TheVariants as event
use Rattle.geo_base.specs.declared.event.Step.TheVariants as step
use Rattle.geo_base.specs.Broker.{Broker}
use Rattle.geo_base.specs.Client.{Client}
use Rattle.geo_base.specs.Happening.{halts_planned, happens, stops}
use Rattle.geo_base.specs.Nodes.{BrokerNode, ClientNode, node_of}
use Rattle.geo_base.specs.Planned.{planned}
use Rattle.geo_base.specs.Report.{head_line, with_line_feeds, words}
use Rattle.geo_base.specs.Setup.{Setup}
use Rattle.geo_base.specs.World.{World}
use Rattle.script_rows.specs.Names.{Names}
use Rattle.script_rows.specs.Written.{step_line}
use Rattle.script_text.specs.Naming.{names_of}
use Rattle.script_text.specs.Said.{Said}
use Rattle.step_laws.specs.Steps.{Changed, Did, ToldEvent, ToldStep, WasIdle, broker_changes, changed_at, changed_in, client_changes, did_or_idle, event_lines, indented, step_head, step_lines, unless_none}
use Rattle.step_lines.specs.declared.heads.Indent.{Indent}
use Rattle.step_lines.specs.declared.heads.Indent.TheVariants as indent
use Rattle.world.specs.declared.fault.RunFault.{RunFault}
use Rattle.world.specs.Observing.{Sight}
use Rattle.world.specs.Settling.{settled_by}
use Rattle.kept_laws.specs.Events.{cluster_of, topic_of}

-- the text so far, how many steps it tells, and the lines that say those that are left
pub record Telling : Type 0 where
  pub text : List ℕ
  pub number : ℕ
  pub said : List Said

-- what says the next step; there is a line for each step of a run
abbrev pub first_said : List Said → Said
first_said [] = record { line = 0; bytes = [] }
first_said (a ∷ at) = a

-- and its number, after n steps
abbrev pub next_number : ℕ → List Said → ℕ
next_number n [] = n
next_number n (a ∷ at) = n + 1

-- each line's number is above that of the step before it: the lines say steps from the one of number n + 1 on
abbrev pub Rises : ℕ → List Said → Type 0
Rises n [] = ⊤
Rises n (a ∷ at) = (n < a.line) × Rises (n + 1) at

-- a step more, of which this is told
abbrev pub tells_step : Setup → Telling → ToldStep → Telling
tells_step s t k = record {
  text = t.text ++ with_line_feeds (step_lines (step_line (names_of s)) s (next_number t.number t.said) (first_said t.said) k);
  number = next_number t.number t.said;
  said = drop 1 t.said;
}

-- the head of a step
abbrev pub idle_words : Bool → List (List ℕ)
idle_words true = codes "idle" ∷ []
idle_words false = []

abbrev pub tells_head : Telling → Bool → Telling
tells_head t idle = record {
  text = t.text ++ (step_head (next_number t.number t.said) (first_said t.said) (idle_words idle) ++ 10 ∷ []);
  number = next_number t.number t.said;
  said = drop 1 t.said;
}

-- settling begins: the head of its step
abbrev pub tells_settle : Telling → Telling
tells_settle t = record {
  text = t.text ++ with_line_feeds (step_head (next_number t.number t.said) (first_said t.said) [] ∷ []);
  number = next_number t.number t.said;
  said = drop 1 t.said;
}

-- an event of it, which from w leads to v
abbrev pub settling_event : Setup → World → World → Event → List ToldEvent
settling_event s w v e = if v.events == w.events then [] else record { event = e; number = v.events; at = changed_at s w v (node_of s e) } ∷ []

abbrev pub tells_settling : Setup → World → Event → Telling → Telling
tells_settling s w e t = record t {
  text = t.text ++ with_line_feeds (map indented (event_lines (step_line (names_of s)) s (settling_event s w (settled_by s w e) e)));
}

-- and the counts after it
abbrev pub tells_settled : World → Telling → Telling
tells_settled w t = record t { text = t.text ++ with_line_feeds (indented (head_line w) ∷ []) }

-- each thing that a run does
abbrev pub told_steps : Sight Telling
told_steps = record {
  event = λ s w e t. tells_step s t (did_or_idle s w (happens s w e) e);
  halt = λ s w k e t. tells_step s t (did_or_idle s w (halts_planned s w k (planned s w e)) e);
  stop = λ s w t. tells_step s t (Did (changed_in s w (stops s w) 0 s.topics));
  settles = λ s w t. tells_settle t;
  settling = λ s w e t. tells_settling s w e t;
  settled = λ s w t. tells_settled w t;
}

-- ---- an event of a broker that was done, as a step or as one of settling

-- its head, after so many events
abbrev pub tells_event : Names → ℕ → Event → Telling → Telling
tells_event names n e t = record t { text = t.text ++ (32 ∷ 32 ∷ words (codes "event" ∷ decimal n ∷ step_line names (step.Plain e) ∷ []) ++ 10 ∷ []) }

abbrev pub tells_begin : Indent → Names → ℕ → Event → Telling → Telling
tells_begin indent.Step names n e t = tells_head t false
tells_begin indent.Event names n e t = tells_event names n e t

-- and what it changed
abbrev pub tells_changed : Indent → Setup → ℕ → Event → List Changed → Telling → Telling
tells_changed indent.Step s n e at t = tells_step s t (Did at)
tells_changed indent.Event s n e at t = record t {
  text = t.text ++ with_line_feeds (map indented (event_lines (step_line (names_of s)) s (record { event = e; number = n; at = at } ∷ [])));
}

abbrev pub tells_done : Indent → Setup → World → World → Event → Telling → Telling
tells_done i s w v e t = tells_changed i s v.events e (changed_at s w v (node_of s e)) t

-- at its broker, which was b and is a
abbrev pub tells_at : Indent → Setup → ℕ → Event → Broker → Broker → Telling → Telling
tells_at i s n e b a t =
    let x = cluster_of e in tells_changed i s n e (unless_none (BrokerNode (topic_of s e) x) (broker_changes s.clusters x b a)) t

-- ---- an event of client c, which was k and is m

abbrev pub client_step : Setup → ℕ → Bool → Client → Client → ToldStep
client_step s c idle k m = if idle then WasIdle else Did (unless_none (ClientNode c) (client_changes s c k m))

-- what is told of one by the answer whether it was enabled
abbrev pub IsActed : Indent → Setup → World → Event → Telling → Telling → Result Bool RunFault → Type 0
IsActed i s w e old new (Ok true) = (new ≡ tells_done i s w (happens s w e) e old) × (((happens s w e).events == w.events) ≡ false)
IsActed i s w e old new (Ok false) = (new ≡ old) × (((happens s w e).events == w.events) ≡ true)
IsActed i s w e old new (Err f) = ⊤

-- an event of client c
abbrev pub IsClients : ℕ → Event → Type 0
IsClients c (event.Go d) = d ≡ c
IsClients c (event.Get d) = d ≡ c
IsClients c (event.Reconnect d) = d ≡ c
IsClients c e = ⊥

-- what an observer knows of a run: its names, and that the lines' numbers rise
pub record IsTelling (s : Setup) (ns : Names) (n : ℕ) (at : List Said) : Type 0 where
  pub names : ns ≡ names_of s
  pub rises : Rises n at
