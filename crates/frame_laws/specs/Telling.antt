-- What runs send and store is told whole by its bytes, and can be written.
use Rattle.std.specs.Prelude.{ℕ, List, None}
use Rattle.geo_base.specs.declared.entry.Entry.{Entry}
use Rattle.geo_base.specs.Laws.{Always, IsShort}
use Rattle.geo_base.specs.Scripted.{IsScripted}
use Rattle.geo_base.specs.Setup.{Setup}
use Rattle.geo_base.specs.World.{World}
use Rattle.message_meta.specs.Known.{IsRest}
use Rattle.frame_values.specs.Coded.{IsWritable}
use Rattle.frame_values.specs.Told.{IsTold, IsToldEntry}
use Rattle.world_laws.specs.Frames.{AllEntries, AllFrames}

-- an entry whose text tells it whole, and whose bytes of fields that nobody reads can be written again
pub record IsKeptWhole (names : List (List ℕ)) (e : Entry) : Type 0 where
  pub told : IsToldEntry names None e
  pub rest : IsRest e.meta.rest

-- told: of every frame that was sent on a link, and of every entry that is stored, the text tells all but the cluster that stored
-- the entry first

abbrev pub AllTold : Setup → World → Type 0
AllTold s w = AllFrames (IsTold s.clusters) w × AllEntries s (IsKeptWhole s.clusters) w

abbrev pub LawTold : Type 0
LawTold = (s : Setup) → IsScripted s → Always s (λ w settled. AllTold s w)

-- written: every frame that was sent on a link has a text, which is within the limit on frames

abbrev pub AllWritable : Setup → World → Type 0
AllWritable s w = AllFrames (IsWritable s.clusters) w

abbrev pub LawWritten : Type 0
LawWritten = (s : Setup) → IsScripted s → Always s (λ w settled. IsShort w → AllWritable s w)
