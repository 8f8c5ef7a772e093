-- Events that are drawn at random (own): the row of a weight, and an event of a row, its numbers drawn in the order in which the
-- event names them. The words are those of Pcg32.
use Rattle.std.specs.Prelude.{ℕ, ◌+◌, ◌/◌, ◌%◌, nat_lt, ◌==◌, if◌then◌else◌}
use Rattle.rand_pcg.specs.Lcg.{Lcg, increment_of, started}
use Rattle.rand_pcg.specs.Pcg.{multiplier_64, pcg32}
use Rattle.geo_base.specs.declared.event.Event.{Event}
use Rattle.geo_base.specs.declared.event.Event.TheVariants as event
use Rattle.geo_base.specs.declared.event.Fate.{Fate}
use Rattle.geo_base.specs.declared.event.Fate.TheVariants as fate
use Rattle.script_generator.specs.declared.draws.Row.{Row}
use Rattle.script_generator.specs.declared.draws.Row.TheVariants as row

-- the generator of a run's number
unfoldable pub seeded : ℕ → Lcg
seeded number = started 64 multiplier_64 number (increment_of 64 54)

-- a number below k, from the next word
unfoldable pub drawn : ℕ → Lcg → ℕ
drawn k g = (pcg32 g).0 % k

-- the generator after a draw
unfoldable pub rest : Lcg → Lcg
rest g = (pcg32 g).1

-- ten kinds of event share 64 weights
abbrev pub row_of : ℕ → Row
row_of w =
    if nat_lt w 12 then row.Go
    else if nat_lt w 24 then row.Serve
    else if nat_lt w 32 then row.Get
    else if nat_lt w 33 then row.Reset
    else if nat_lt w 41 then row.Read
    else if nat_lt w 49 then row.Take
    else if nat_lt w 55 then row.Receipt
    else if nat_lt w 56 then row.Snap
    else if nat_lt w 63 then row.Offer
    else row.Drop

-- the pairs of three clusters, each in order: a source has two targets
abbrev pub source_of : ℕ → ℕ
source_of pair = pair / 2

abbrev pub target_of : ℕ → ℕ
target_of pair = if nat_lt (pair % 2) (pair / 2) then pair % 2 else pair % 2 + 1

-- one of 16 packets is lost, and one is taken twice
abbrev pub fate_of : ℕ → Fate
fate_of n = if n == 0 then fate.Lost else if n == 1 then fate.Twice else fate.Good

-- an event, and the generator after its draws
pub record Drawn : Type 0 where
  pub event : Event
  pub after : Lcg

abbrev pub drawn_event : Row → Lcg → Drawn
drawn_event row.Go g = record { event = event.Go (drawn 4 g); after = rest g }
drawn_event row.Serve g = record { event = event.Serve (drawn 3 g) (drawn 4 (rest g)); after = rest (rest g) }
drawn_event row.Get g = record { event = event.Get (drawn 4 g); after = rest g }
drawn_event row.Reset g = record { event = event.Reset 0 (source_of (drawn 6 g)) (target_of (drawn 6 g)); after = rest g }
drawn_event row.Read g = record { event = event.Read 0 (source_of (drawn 6 g)) (target_of (drawn 6 g)); after = rest g }
drawn_event row.Take g =
    record { event = event.Take 0 (source_of (drawn 6 g)) (target_of (drawn 6 g)) (fate_of (drawn 16 (rest g))); after = rest (rest g) }
drawn_event row.Receipt g =
    record { event = event.Receipt 0 (source_of (drawn 6 g)) (target_of (drawn 6 g)) (fate_of (drawn 16 (rest g))); after = rest (rest g) }
drawn_event row.Snap g = record { event = event.Snap 0 (drawn 3 g); after = rest g }
drawn_event row.Offer g = record { event = event.Offer 0 (drawn 3 g) 0; after = rest g }
drawn_event row.Drop g = record { event = event.Drop (drawn 3 g) (drawn 4 (rest g)); after = rest (rest g) }

-- one turn: now and then a client connects again or a node restarts, else the row of a weight
unfoldable pub turn_at : ℕ → Lcg → Drawn
turn_at i g =
    if i % 1000 == 999 then record { event = event.Reconnect (i / 1000 % 4); after = g }
    else if i % 2500 == 2499 then record { event = event.Restart 0 (drawn 3 g); after = rest g }
    else drawn_event (row_of (drawn 64 g)) (rest g)
