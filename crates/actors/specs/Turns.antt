-- A turn of an actor at a log.
use Rattle.std.specs.Prelude.{◌≡◌, ℕ, ◌+◌, min, Bool, true, false, if◌then◌else◌, List, [], ◌∷◌, Option, Result, Ok, Err}
use Rattle.actors.specs.Drawing.{Drawing}
use Rattle.actors.specs.Tries.{Actor, Try, has_waited, most_waited, tries_of}
use Rattle.geo_base.specs.declared.memory.Memory.{Memory}
use Rattle.node_log.specs.Acts.{IsActed, IsHeld, SameLog}
use Rattle.node_log.specs.Logs.{NodeLogView}
use Rattle.wire_ends.specs.declared.packet.WirePacket.{WirePacket}
use Rattle.wire_ends.specs.Parcels.{Packed as Parcel}

-- Events are tried in order at a log until it does one: each before was not done, for a cause that is told; where none was done, the
-- log is as it was. Where memory is wanting in a try, that try is the last. sent_in and the others are those of an end.
pub data Walks {E : Type 0} (sent_in taken_in : E → List WirePacket) (shown : E → Option WirePacket) (free looks : E → ℕ) (fits : Parcel → Type 0)
    : List Try → Drawing → NodeLogView E → NodeLogView E → Drawing → Result Bool Memory → Type 0 where
  nothing : (d : Drawing) (b : NodeLogView E) → Walks sent_in taken_in shown free looks fits [] d b b d (Ok false)
  does : (t : Try) (ts : List Try) (d : Drawing) (b b' : NodeLogView E) → IsActed sent_in taken_in t.event b b' → Walks sent_in taken_in shown free looks fits (t ∷ ts) d b b' t.drawing (Ok true)
  wants : (t : Try) (ts : List Try) (d : Drawing) (b b' : NodeLogView E) (e : Memory) → SameLog sent_in taken_in b b' → Walks sent_in taken_in shown free looks fits (t ∷ ts) d b b' t.drawing (Err e)
  goes_on : (t : Try) (ts : List Try) (d : Drawing) (b mid b' : NodeLogView E) (d' : Drawing) (r : Result Bool Memory) → IsHeld shown free looks fits t.event b mid → SameLog sent_in taken_in b mid
      → Walks sent_in taken_in shown free looks fits ts t.drawing mid b' d' r → Walks sent_in taken_in shown free looks fits (t ∷ ts) d b b' d' r

-- for how many turns in a row an actor has waited after one, by the log after it
abbrev pub waited_after : {E : Type 0} → Actor → NodeLogView E → Result Bool Memory → ℕ
waited_after a b (Ok true) = 0
waited_after a b (Ok false) = if has_waited a.role b then min (a.waited + 1) most_waited else 0
waited_after a b (Err e) = a.waited

pub record IsTurn {E : Type 0} (sent_in taken_in : E → List WirePacket) (shown : E → Option WirePacket) (free looks : E → ℕ) (fits : Parcel → Type 0) (a : Actor) (b : NodeLogView E) (a' : Actor) (b' : NodeLogView E)
    (r : Result Bool Memory) : Type 0 where
  pub number : a'.number ≡ a.number
  pub role : a'.role ≡ a.role
  pub waited : a'.waited ≡ waited_after a b' r
  pub walk : Walks sent_in taken_in shown free looks fits (tries_of a a.role b) a.drawing b b' a'.drawing r
