-- A run: the steps of a schedule, one after another, from the opening world. Limits stand beside it: a run without them is
-- the machine, and a run under them ends before the first event that would pass one.
use Rattle.std.specs.Prelude.{ℕ, zero, suc, ◌+◌, ◌*◌, ◌^◌, nat_lt, ◌==◌, Bool, true, false, ◌||◌, if◌then◌else◌, List, [], ◌∷◌, ◌++◌, length, map, sum, Option, Some, None, is_some}
use Rattle.std.specs.List.{list_all, range_with_len}
use Rattle.geo_base.specs.Types.{Event, Step}
use Rattle.geo_base.specs.Types.event
use Rattle.geo_base.specs.Types.fate
use Rattle.geo_base.specs.Types.step
use Rattle.geo_base.specs.Broker.{Broker}
use Rattle.geo_base.specs.Happening.{happens, halts_planned, stops}
use Rattle.geo_base.specs.Link.{Link, untaken}
use Rattle.geo_base.specs.Planned.{planned}
use Rattle.geo_base.specs.Setup.{Setup}
use Rattle.geo_base.specs.Subscription.{Subscription}
use Rattle.geo_base.specs.World.{World, opening_world}

-- the number of the limit that a world is past, if any
abbrev pub Limits : Type 0
Limits = World → Option ℕ

abbrev pub no_limits : Limits
no_limits w = None

-- the most events and idle events of a run together (own: so that every run ends, settling included)
abbrev pub most_events : ℕ
most_events = 2000000

-- limit 2
abbrev pub event_limit : Limits
event_limit w = if nat_lt most_events (w.events + w.idle) then Some 2 else None

abbrev pub or_else : Option ℕ → Option ℕ → Option ℕ
or_else None o = o
or_else (Some n) o = Some n

-- the most bytes of all frames that a run sends, 1 GiB (own: so that links fit in memory)
abbrev pub most_sent_bytes : ℕ
most_sent_bytes = 1073741824

-- limit 3; limit 2 is judged first
abbrev pub all_limits : Limits
all_limits w = or_else (event_limit w) (if nat_lt most_sent_bytes w.frame_bytes then Some 3 else None)

-- how far a run has come, and the limit at which it ended, if it did
pub record Ran : Type 0 where
  pub world : World
  pub ended : Option ℕ

abbrev pub ends_or : Ran → World → Option ℕ → Ran
ends_or r w None = record { world = w; ended = None }
ends_or r w (Some n) = record { world = r.world; ended = Some n }

-- the next event is done, unless the run has ended or would now pass a limit
abbrev pub goes_on : Limits → Ran → World → Ran
goes_on limits r w = if is_some r.ended then r else ends_or r w (limits w)

-- the ordered pairs of clusters of each topic, by topic, source, target
pub record Pair : Type 0 where
  pub topic : ℕ
  pub source : ℕ
  pub target : ℕ

abbrev pub pairs_to : ℕ → ℕ → List ℕ → List Pair
pairs_to t x [] = []
pairs_to t x (y ∷ ys) = if x == y then pairs_to t x ys else record { topic = t; source = x; target = y } ∷ pairs_to t x ys

abbrev pub pairs_from : ℕ → List ℕ → List ℕ → List Pair
pairs_from t [] ys = []
pairs_from t (x ∷ xs) ys = pairs_to t x ys ++ pairs_from t xs ys

abbrev pub pairs_of : List ℕ → List ℕ → List Pair
pairs_of [] xs = []
pairs_of (t ∷ ts) xs = pairs_from t xs xs ++ pairs_of ts xs

abbrev pub pairs : Setup → List Pair
pairs s = pairs_of (range_with_len 0 (length s.topics)) (range_with_len 0 (length s.clusters))

abbrev pub resets_of : List Pair → List Event
resets_of ps = map (λ (p : Pair). event.Reset p.topic p.source p.target) ps

-- a round: for each pair a take, a receipt and a read
abbrev pub round_of : List Pair → List Event
round_of [] = []
round_of (p ∷ ps) =
    event.Take p.topic p.source p.target fate.Good ∷ event.Receipt p.topic p.source p.target fate.Good ∷ event.Read p.topic p.source p.target ∷ round_of ps

-- an event of settling does not count where it is idle
abbrev pub settles : Limits → Setup → Ran → Event → Ran
settles limits s r e = goes_on limits r (record (happens s r.world e) { idle = r.world.idle })

abbrev pub all_settle : Limits → Setup → Ran → List Event → Ran
all_settle limits s r [] = r
all_settle limits s r (e ∷ es) = all_settle limits s (settles limits s r e) es

abbrev pub counting_round : Ran → Ran
counting_round r = record { world = record r.world { rounds = r.world.rounds + 1 }; ended = r.ended }

-- rounds until one does no event, at most so many; the last one, which did none, is not counted, nor one that ended the run
abbrev pub rounds_of : ℕ → Limits → Setup → Ran → Ran
rounds_of zero limits s r = r
rounds_of (suc more) limits s r =
    let r' = all_settle limits s r (round_of (pairs s)) in
    elim (is_some r'.ended || (r'.world.events == r.world.events)) as (λ b. Ran) [ true ↦ r' | false ↦ rounds_of more limits s (counting_round r') ]

-- quiet: each event of a round is idle
abbrev pub is_idle : Setup → World → Event → Bool
is_idle s w e = (happens s w e).events == w.events

abbrev pub is_quiet : Setup → World → Bool
is_quiet s w = list_all (is_idle s w) (round_of (pairs s))

abbrev pub untaken_of : List (List Link) → ℕ
untaken_of m = sum (map (λ (ls : List Link). sum (map untaken ls)) m)

-- what settling may still have to bring over from one broker: entries, updates of cached snapshots, a snapshot in the making
abbrev pub waiting_of : Broker → ℕ
waiting_of b = length b.entries + (sum (map (λ (s : Subscription). length s.cache) b.subs) + (if is_some b.builder then 1 else 0))

-- more rounds than settling takes (own; wide on purpose)
abbrev pub budget : Setup → World → ℕ
budget s w =
    8 * (length s.clusters ^ 3) * (sum (map waiting_of w.brokers) + (untaken_of w.links.forward + (untaken_of w.links.back + length s.topics)))

-- settle: every link is reset, then rounds until all is quiet (own)
unfoldable pub settled_world : Limits → Setup → Ran → Ran
settled_world limits s r = rounds_of (budget s r.world + 1) limits s (all_settle limits s r (resets_of (pairs s)))

-- one step of a schedule
unfoldable pub steps : Limits → Setup → Ran → Step → Ran
steps limits s r (step.Plain e) = goes_on limits r (happens s r.world e)
steps limits s r (step.Halt k e) = goes_on limits r (halts_planned s r.world k (planned s r.world e))
steps limits s r step.Settle = settled_world limits s r
steps limits s r step.Stop = goes_on limits r (stops s r.world)

abbrev pub run_from : Limits → Setup → Ran → List Step → Ran
run_from limits s r [] = r
run_from limits s r (e ∷ es) = run_from limits s (steps limits s r e) es

abbrev pub run_under : Limits → Setup → List Step → Ran
run_under limits s es = run_from limits s (record { world = opening_world s; ended = None }) es

-- the world after a run without limits. A moment of a run is the world after a beginning of its steps
abbrev pub run : Setup → List Step → World
run s es = (run_under no_limits s es).world
