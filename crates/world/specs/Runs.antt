-- How a part of a run leaves the world.
use Rattle.std.specs.Prelude.{◌≡◌, ℕ, None, Some, Err, OnOk, Result}
use Rattle.geo_base.specs.Run.{Ran}
use Rattle.geo_base.specs.Setup.{Setup}
use Rattle.geo_base.specs.World.{World}
use Rattle.world.specs.declared.fault.RunFault.{RunFault}
use Rattle.world.specs.declared.fault.RunFault.TheVariants as fault
use Rattle.world.specs.World.{WorldView, kept_of}
use Rattle.kept_laws.specs.Standing.{Stands}

-- the machine's run, which has come to w and has not ended
abbrev pub at_world : World → Ran
at_world w = record { world = w; ended = None }

-- A part of a run that brings the machine's run to r: where it ends well, r has not ended and the world stands for r's; a limit that it
-- comes to is the one at which r ended, and the world stands for that of the events done before. Nothing is said of want of memory.
pub record Comes {T : Type 0} (s : Setup) (new : WorldView) (r : Ran) (result : Result T RunFault) : Type 0 where
  pub done : OnOk result (Stands s (kept_of new) r.world × (r.ended ≡ None))
  pub large : (n : ℕ) → result ≡ Err (fault.TooLarge n) → Stands s (kept_of new) r.world × (r.ended ≡ Some n)
