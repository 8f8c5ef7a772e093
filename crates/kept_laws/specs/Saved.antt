-- What a script's run leaves after a stop is read back.
use Rattle.std.specs.Prelude.{◌≡◌, ℕ, ◌<◌, ◌^◌, ◌⊎◌, ◌++◌, List, length, map, replicate, None, Ok}
use Rattle.geo_base.specs.declared.event.Step.{Step}
use Rattle.geo_base.specs.Broker.{Broker}
use Rattle.geo_base.specs.Happening.{stops}
use Rattle.geo_base.specs.Run.{all_limits, run_under}
use Rattle.geo_base.specs.Setup.{Setup}
use Rattle.geo_base.specs.World.{World, opening_world}
use Rattle.script_text.specs.Scenario.{IsScenario}
use Rattle.script_text.specs.Script.{Script}
use Rattle.state_file.specs.Fitting.{IsState}
use Rattle.state_file.specs.Loading.{IsLoaded}
use Rattle.state_file.specs.State.{SavedState, state_in}
use Rattle.state_file.specs.Texts.{body_text, state_text}
use Rattle.world_laws.specs.AlikeWorlds.{AreAlike}
use Rattle.world_laws.specs.Starts.{resumed_world}

-- the bytes after the first twenty of its file are fewer than 4 GiB
abbrev pub IsShortState : SavedState → Type 0
IsShortState v = length (body_text v) < 2 ^ 32

-- Where the steps of a script come to, which no limit ends: the world of the run, or one that is alike to it, as that of a run that was
-- kept on the way and went on from there, however often.
pub record ComesTo (s : Script) (es : List Step) (w : World) : Type 0 where
  pub goes_on : (run_under all_limits s.setup es).ended ≡ None
  pub world : ((run_under all_limits s.setup es).world ≡ w) ⊎ AreAlike (run_under all_limits s.setup es).world w

-- the state that is left there after a stop of everything, within the limits
pub record IsLeft (s : Script) (es : List Step) (w : World) (v : SavedState) : Type 0 where
  pub comes : ComesTo s es w
  pub within : all_limits (stops s.setup w) ≡ None
  pub is : v ≡ state_in s (stops s.setup w)

-- a broker of a setup in which no session is open
abbrev pub revived : Setup → Broker → Broker
revived s b = record b { receivers = replicate (length s.clusters) None; sessions = replicate (length s.clients) None }

-- the machine's world that goes on from a state
abbrev pub world_from : SavedState → World
world_from v =
    let s = v.scenario.setup in
    resumed_world s (record (opening_world s) {
      brokers = map (revived s) v.brokers;
      clients = v.clients;
      events = v.counts.events;
      idle = v.counts.idle;
      rounds = v.counts.rounds;
      frame_bytes = v.counts.frame_bytes;
    })

-- saved: such a state fits a file, where the file is not too long; so it is loaded as it was saved, whatever stands after it; and the
-- world that goes on from it is alike to the one that was stopped, so that no event tells them apart (`law_resumed`)
pub record LawSaved : Type 0 where
  pub fits : (s : Script) → IsScenario s → (es : List Step) (w : World) (v : SavedState) → IsLeft s es w v → IsShortState v → IsState v
  pub loaded : (s : Script) → IsScenario s → (es : List Step) (w : World) (v : SavedState) (more : List ℕ) → IsLeft s es w v → IsShortState v
      → IsLoaded (state_text v ++ more) (Ok (v, length (state_text v)))
  pub resumes : (s : Script) → IsScenario s → (es : List Step) (w : World) (v : SavedState) → IsLeft s es w v → AreAlike (stops s.setup w) (world_from v)
