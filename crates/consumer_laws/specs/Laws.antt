-- The statements of this crate's laws.
use Rattle.std.specs.Prelude.{◌≡◌, ℕ, false, List, ◌++◌, take}
use Rattle.std.specs.List.{list_any}
use Rattle.geo_base.specs.declared.event.Step.{Step}
use Rattle.geo_base.specs.Laws.{IsShort}
use Rattle.geo_base.specs.Moments.{Settling, world_between}
use Rattle.geo_base.specs.Run.{Limits, run}
use Rattle.geo_base.specs.Scripted.{IsScripted}
use Rattle.geo_base.specs.Setup.{Setup}
use Rattle.geo_base.specs.World.{World}
use Rattle.world_laws.specs.AlikeWorlds.{AreAlike, world_on}
use Rattle.world_laws.specs.Telling.{AlwaysTold, AlwaysToldOn, BetweenTold, BetweenToldOn}
use Rattle.consumer_laws.specs.Got.{AllEarliest, OnlyGot, seeks}
use Rattle.consumer_laws.specs.Handed.{OnlyHanded, handing}
use Rattle.consumer_laws.specs.InOrder.{FirstInOrder, GetsInOrder}

pub record LawHanded : Type 0 where
  pub handed : (s : Setup) → IsScripted s → AlwaysTold (handing s) s (λ w handed. IsShort w → OnlyHanded s w handed)
  pub in_order : (s : Setup) → IsScripted s → BetweenTold (handing s) s (λ w handed. IsShort w → GetsInOrder s w handed)
  pub first : (s : Setup) → IsScripted s → BetweenTold (handing s) s (λ w handed. IsShort w → FirstInOrder s w handed)
  pub got : (s : Setup) → IsScripted s → AllEarliest s → (l : Limits) (es : List Step) (at : Settling) → list_any seeks es ≡ false
      → IsShort (world_between l s es at) → OnlyGot s (world_between l s es at)

-- the same of a run that goes on from a world that is alike to the one to which other steps came; what these handed out counts
pub record LawStillHanded : Type 0 where
  pub handed : (s : Setup) → IsScripted s → (v : World) (before es : List Step) → AreAlike (run s before) v
      → AlwaysToldOn (handing s) s v before es (λ w handed. IsShort w → OnlyHanded s w handed)
  pub in_order : (s : Setup) → IsScripted s → (v : World) (before es : List Step) → AreAlike (run s before) v
      → BetweenToldOn (handing s) s v before es (λ w handed. IsShort w → GetsInOrder s w handed)
  pub first : (s : Setup) → IsScripted s → (v : World) (before es : List Step) → AreAlike (run s before) v
      → BetweenToldOn (handing s) s v before es (λ w handed. IsShort w → FirstInOrder s w handed)
  pub got : (s : Setup) → IsScripted s → AllEarliest s → (v : World) (before es : List Step) → AreAlike (run s before) v → (k : ℕ) (at : Settling)
      → list_any seeks (before ++ take k es) ≡ false → IsShort (world_on s v (take k es) at) → OnlyGot s (world_on s v (take k es) at)
