-- The turns of a worker: its actors take them in rotation.
use Rattle.std.specs.Prelude.{◌≡◌, ℕ, zero, suc, ◌-◌, ◌%◌, ◌<◌, Bool, true, false, List, [], length, min, Result, Ok, Err, slice_index_or, slice_set}
use Rattle.actors.specs.Room.{IsTurnWithRoom}
use Rattle.actors.specs.Tries.{Actor}
use Rattle.geo_base.specs.declared.memory.Memory.{Memory}
use Rattle.link_rings.specs.declared.either.RingEnd.{RingEnd}
use Rattle.link_rings.specs.Ends.{free_of, looks_of, sent_by, shown_by, taken_by}
use Rattle.live_run.specs.declared.crew.Ended.{Ended}
use Rattle.live_run.specs.declared.crew.Ended.TheVariants as ended
use Rattle.live_run.specs.declared.crew.Member.{Member}
use Rattle.node_log.specs.Logs.{NodeLogView}
use Rattle.wire_ends.specs.Parcels.{IsCut, Packed}

-- a packet takes so many places in a ring at least: that of its head, and that of a part of its frame
abbrev pub packet_places : ℕ
packet_places = 2

-- An actor's turn at a log that it locked. Which log it found there, and what others make of it later, no clause can say.
pub record IsVisit (a a' : Actor) (r : Result Bool Memory) : Type 0 where
  pub found : NodeLogView RingEnd
  pub left : NodeLogView RingEnd
  pub turn : IsTurnWithRoom sent_by taken_by shown_by free_of looks_of (λ (p : Packed). IsCut p) packet_places a found a' left r

-- at so many logs in order, until it does an event or memory is wanting
pub data Visits : ℕ → Actor → Actor → Result Bool Memory → Type 0 where
  nowhere : (a : Actor) → Visits zero a a (Ok false)
  does : (n : ℕ) (a a' : Actor) → IsVisit a a' (Ok true) → Visits (suc n) a a' (Ok true)
  wants : (n : ℕ) (a a' : Actor) (e : Memory) → IsVisit a a' (Err e) → Visits (suc n) a a' (Err e)
  goes_on : (n : ℕ) (a mid a' : Actor) (r : Result Bool Memory) → IsVisit a mid (Ok false) → Visits n mid a' r → Visits (suc n) a a' r

-- how many of so many logs are those of a member's nodes
abbrev pub own_count : ℕ → Member → ℕ
own_count logs m = min m.nodes (logs - m.first)

-- a turn of the member whose turn it is; no other has one
pub record IsMembers (logs turn : ℕ) (ms ms' : List Member) (r : Result Bool Memory) : Type 0 where
  pub some : 0 < length ms
  pub old : Member
  pub new : Member
  pub whose : slice_index_or ms (turn % length ms) old ≡ old
  pub visits : Visits (own_count logs old) old.actor new.actor r
  pub rest : new ≡ record old { actor = new.actor }
  pub members : ms' ≡ slice_set ms (turn % length ms) new

-- a turn of a worker, by its number from 0; one without actors has idle turns
pub data TakesTurn (logs turn : ℕ) (ms ms' : List Member) : Result (Unit {0}) Memory → Type 0 where
  Idle : ms ≡ [] → ms' ≡ ms → TakesTurn logs turn ms ms' (Ok tt)
  Takes : (did : Bool) → IsMembers logs turn ms ms' (Ok did) → TakesTurn logs turn ms ms' (Ok tt)
  Wants : (e : Memory) → IsMembers logs turn ms ms' (Err e) → TakesTurn logs turn ms ms' (Err e)

-- the first so many turns, in none of which memory was wanting
pub data Rotates (logs : ℕ) (ms : List Member) : ℕ → List Member → Type 0 where
  starts : Rotates logs ms zero ms
  turns : (n : ℕ) (mid ms' : List Member) → Rotates logs ms n mid → TakesTurn logs n mid ms' (Ok tt) → Rotates logs ms (suc n) ms'

-- All turns; or those up to the one in which memory was wanting; or the first of them, where the turns ended for want of memory in
-- another crew.
pub data IsRun (logs turns : ℕ) (ms ms' : List Member) : Ended → Type 0 where
  All : Rotates logs ms turns ms' → IsRun logs turns ms ms' ended.Whole
  Wants : (n : ℕ) (mid : List Member) (e : Memory) → n < turns → Rotates logs ms n mid → TakesTurn logs n mid ms' (Err e) → IsRun logs turns ms ms' ended.Wanting
  Stops : (n : ℕ) → n < turns → Rotates logs ms n ms' → IsRun logs turns ms ms' ended.Stopped
