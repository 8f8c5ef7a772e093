-- The worlds that a run comes to from a start, one event after another, settling included: where code stands that does the events of a
-- run one by one; and what holds in each of them.
use Rattle.std.specs.Prelude.{◌≡◌, ℕ, ◌+◌, ◌<◌, ◌≤◌, ◌⊎◌, true, List, [], ◌∷◌, ◌++◌, length, None, Option, IfSome}
use Rattle.std.specs.List.{AllByRecursion}
use Rattle.geo_base.specs.declared.entry.Entry.{Entry}
use Rattle.geo_base.specs.declared.event.Event.{Event}
use Rattle.geo_base.specs.declared.event.Event.TheVariants as event
use Rattle.geo_base.specs.declared.event.Step.{Step}
use Rattle.geo_base.specs.declared.event.Step.TheVariants as step
use Rattle.geo_base.specs.declared.packet.Out.{Out}
use Rattle.geo_base.specs.declared.packet.Packet.{Packet}
use Rattle.geo_base.specs.Client.{Client}
use Rattle.geo_base.specs.Entry.{with_origin}
use Rattle.geo_base.specs.Happening.{client_acted, halts_planned, happens, stops}
use Rattle.geo_base.specs.Laws.{BetweenEvents, IsShort, begun}
use Rattle.geo_base.specs.Moments.{Settling, settling_so_far}
use Rattle.geo_base.specs.Planned.{has_client, planned}
use Rattle.geo_base.specs.Run.{Limits, all_limits, run_from, run_under}
use Rattle.geo_base.specs.Safe.{AllOnce, IsEntry}
use Rattle.geo_base.specs.Scripted.{IsScripted}
use Rattle.geo_base.specs.Setup.{Setup}
use Rattle.geo_base.specs.World.{World, broker_at, opening_world, topic_at}
use Rattle.geo_base.specs.Worlds.{IsWorldOf}
use Rattle.world_laws.specs.Frames.{AllEntries, AllFrames, IsCarrying, IsReadable}
use Rattle.world_laws.specs.Indexes.{AllHaveIndexes}
use Rattle.world_laws.specs.Plain.{IsPlainEntry}
use Rattle.world_laws.specs.Starts.{AreStartCounts, IsStart, most_at_start, resumed_world}
use Rattle.world_laws.specs.Within.{MarkersRise, NumbersWithin}

-- from v. Settling counts no idle event, and counts its rounds
pub data ReachedFrom (s : Setup) (v : World) : World → Type 0 where
  Starting : ReachedFrom s v v
  AfterEvent : (w : World) (e : Event) → ReachedFrom s v w → ReachedFrom s v (happens s w e)
  AfterHalt : (w : World) (k : ℕ) (e : Event) → ReachedFrom s v w → ReachedFrom s v (halts_planned s w k (planned s w e))
  AfterStop : (w : World) → ReachedFrom s v w → ReachedFrom s v (stops s w)
  Idling : (w : World) (n : ℕ) → ReachedFrom s v w → ReachedFrom s v (record w { idle = n })
  AfterRound : (w : World) (n : ℕ) → ReachedFrom s v w → ReachedFrom s v (record w { rounds = n })

-- between any two events of a run from v, also of one that a limit ends, and at its end
pub record BetweenFrom (s : Setup) (v : World) (Holds : World → Type 0) : Type 0 where
  pub limited : (l : Limits) (es : List Step) → Holds (run_from l s (begun v) es).world
  pub between : (l : Limits) (es : List Step) (at : Settling) → Holds (settling_so_far l s (run_from l s (begun v) es) at).world

-- all that is sent in an event can be read
abbrev pub AreReadable : List Out → Type 0
AreReadable os = AllByRecursion (λ (o : Out). IsReadable o.frame) os

-- what code that does the next event there may count on: as many nodes, clients and places for them as the setup says; room in 64
-- bits for each number that rises; and what the next event sends, of a broker or of a client, can be read
pub record IsGround (s : Setup) (w : World) : Type 0 where
  pub places : IsWorldOf s w
  pub numbers : NumbersWithin s (most_at_start + w.events) w
  pub markers : IsShort w → MarkersRise s w
  pub sends : (e : Event) → IfSome (planned s w e) (λ p. AreReadable p.plan.sent)
  pub goes : (c : ℕ) (k : Client) (o : Option Packet) → has_client s c ≡ true → AreReadable (client_acted s k (event.Go c) o).sent
  pub reconnects : (c : ℕ) (k : Client) (o : Option Packet) → has_client s c ≡ true → AreReadable (client_acted s k (event.Reconnect c) o).sent
  pub gets : (c : ℕ) (k : Client) (o : Option Packet) → AreReadable (client_acted s k (event.Get c) o).sent

-- an entry that a world stores, whichever cluster is said to have stored it first
pub record IsOf (s : Setup) (v : World) (e : Entry) : Type 0 where
  pub topic : ℕ
  pub cluster : ℕ
  pub index : ℕ
  pub entry : Entry
  pub there : cluster < length s.clusters
  pub stands : IsEntry (topic_at s v topic cluster) index entry
  pub same : e ≡ with_origin e.ident.origin entry

-- made by a client or a broker in the run, or stored at its start
abbrev pub IsPlainOrOf : Setup → World → Entry → Type 0
IsPlainOrOf s v e = IsPlainEntry s.clusters None e ⊎ IsOf s v e

-- what holds of the entries of a run from v: each that is stored, and each in a frame, is plain or was stored at the start, and is
-- of one of the setup's clusters; no message stands twice
pub record AreCarried (s : Setup) (v w : World) : Type 0 where
  pub frames : AllFrames (IsCarrying (IsPlainOrOf s v) s.clusters) w
  pub entries : AllEntries s (IsPlainOrOf s v) w
  pub origins : AllEntries s (λ e. e.ident.origin < length s.clusters) w
  pub once : AllOnce w

-- a world whose counts, and whose topics' lengths, are such as a start may have
pub record MayBeKept (s : Setup) (w : World) : Type 0 where
  pub few : (z : ℕ) → z < length w.brokers → length (broker_at w z).entries ≤ most_at_start
  pub numbers : NumbersWithin s most_at_start w
  pub counts : AreStartCounts w

-- reached: the opening world is a start; a run comes to worlds alone that are reached from where it starts; and in each of these
-- there is what the next event needs, and what a file that keeps the run needs. What is kept of a run after a stop is a start again,
-- while its counts are such as a start may have; as they are after the steps of every script
pub record LawReached : Type 0 where
  pub opening : (s : Setup) → IsStart s (opening_world s)
  pub comes : (s : Setup) → BetweenEvents s (ReachedFrom s (opening_world s))
  pub goes_on : (s : Setup) (v : World) → BetweenFrom s v (ReachedFrom s v)
  pub ground : (s : Setup) → IsScripted s → (v w : World) → IsStart s v → ReachedFrom s v w → IsGround s w
  pub carried : (s : Setup) → IsScripted s → (v w : World) → IsStart s v → ReachedFrom s v w → AreCarried s v w
  pub indexes : (s : Setup) → (v w : World) → IsStart s v → ReachedFrom s v w → AllHaveIndexes w
  pub kept : (s : Setup) → IsScripted s → (v w : World) → IsStart s v → ReachedFrom s v w → MayBeKept s (stops s w) → IsStart s (resumed_world s (stops s w))
  pub saved : (s : Setup) → IsScripted s → (es : List Step)
      → let r = run_under all_limits s (es ++ step.Stop ∷ []) in r.ended ≡ None → IsStart s (resumed_world s r.world)
