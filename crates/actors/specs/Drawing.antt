-- What an actor draws (own). The words are those of PCG's generator of 32-bit words, seeded by the script's number, on the stream of
-- the actor's number.
use Rattle.std.specs.Prelude.{ℕ, ◌+◌, ◌%◌, nat_lt, Bool, false, if◌then◌else◌, Option, Some, None}
use Rattle.rand_pcg.specs.Lcg.{Lcg, increment_of, started}
use Rattle.rand_pcg.specs.Pcg.{multiplier_64, pcg32}
use Rattle.geo_base.specs.declared.event.Fate.{Fate}
use Rattle.geo_base.specs.declared.event.Fate.TheVariants as fate
use Rattle.script_text.specs.declared.chance.Chance.{Chance}

-- the script's chances, and the generator; a script that says no chances never asks it
pub record Drawing : Type 0 where
  pub chance : Option Chance
  pub generator : Lcg

abbrev pub number_of : Option Chance → ℕ
number_of None = 0
number_of (Some c) = c.number

unfoldable pub seeded : ℕ → ℕ → Lcg
seeded number actor = started 64 multiplier_64 number (increment_of 64 actor)

abbrev pub drawing_of : Option Chance → ℕ → Drawing
drawing_of c actor = record { chance = c; generator = seeded (number_of c) actor }

-- a number below 1,000, and the generator after it
unfoldable pub drawn : Lcg → ℕ
drawn g = (pcg32 g).0 % 1000

unfoldable pub rest : Lcg → Lcg
rest g = (pcg32 g).1

-- of a thousand packets so many are lost, and so many come twice
abbrev pub fate_of : Chance → ℕ → Fate
fate_of c n = if nat_lt n c.lost then fate.Lost else if nat_lt n (c.lost + c.twice) then fate.Twice else fate.Good

-- what becomes of the next packet, and whether a broker restarts. Without chances each packet is acted on and no broker restarts
abbrev pub fate_from : Option Chance → Lcg → Fate
fate_from None g = fate.Good
fate_from (Some c) g = fate_of c (drawn g)

abbrev pub restart_from : Option Chance → Lcg → Bool
restart_from None g = false
restart_from (Some c) g = nat_lt (drawn g) c.restart

-- the generator after a draw
abbrev pub rest_from : Option Chance → Lcg → Lcg
rest_from None g = g
rest_from (Some c) g = rest g

abbrev pub fate_drawn : Drawing → Fate
fate_drawn d = fate_from d.chance d.generator

abbrev pub restart_drawn : Drawing → Bool
restart_drawn d = restart_from d.chance d.generator

abbrev pub after_draw : Drawing → Drawing
after_draw d = record { chance = d.chance; generator = rest_from d.chance d.generator }
