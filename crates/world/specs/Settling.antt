-- What settling does, and that it ends.
use Rattle.std.specs.Prelude.{◌≡◌, ℕ, ◌+◌, ◌<◌, List, ◌++◌}
use Rattle.geo_base.specs.declared.event.Event.{Event}
use Rattle.geo_base.specs.Happening.{happens}
use Rattle.geo_base.specs.Run.{Pair, no_limits, resets_of, round_of, rounds_of}
use Rattle.geo_base.specs.Setup.{Setup}
use Rattle.geo_base.specs.World.{World}
use Rattle.script_text.specs.Scenario.{IsEvent}
use Rattle.kept_laws.specs.Events.{IsBrokers}
use Rattle.world.specs.declared.settling_events.SettlingEvents.{SettlingEvents}
use Rattle.world.specs.Runs.{at_world}

-- the machine's world after an event of settling, which is not counted where it is idle
abbrev pub settled_by : Setup → World → Event → World
settled_by s w e = record (happens s w e) { idle = w.idle }

-- what settling may do: events of brokers, with their numbers in range
abbrev pub IsSettlingEvent : Setup → Event → Type 0
IsSettlingEvent s e = IsBrokers e × IsEvent s e

-- so many rounds are more than settling takes from there
abbrev pub EndsWithin : ℕ → Setup → World → Type 0
EndsWithin n s w = (rounds_of n no_limits s (at_world w)).world.rounds < w.rounds + n

-- the events of settling of some pairs more
pub record Adds (old new : SettlingEvents) (ps : List Pair) : Type 0 where
  pub resets : new.resets ≡ old.resets ++ resets_of ps
  pub round : new.round ≡ old.round ++ round_of ps
