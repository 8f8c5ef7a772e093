-- What holds at every moment of every run. Each law is a fact of a world, and where it needs it of what is settled so far; then
-- its statement, named like the public function that carries it once it is proved. docs/LAWS.md reads them aloud.
use Rattle.std.specs.Prelude.{◌≡◌, ℕ, suc, ◌+◌, ◌-◌, ◌*◌, ◌^◌, ◌<◌, ◌≤◌, ◌≢◌, nat_le, ◌==◌, Bool, true, false, not, ◌&&◌, if◌then◌else◌, List, [], ◌∷◌, ◌++◌, length, map, filter, sum, take, Option, Some, None, slice_get, slice_index_or}
use Rattle.std.specs.List.{list_all}
use Rattle.geo_base.specs.Types.{SnapshotBuilder, CachedSnapshot, ClusterPosition, Consumer, Entry, Event, Marker, Position, Step, SubKind}
use Rattle.geo_base.specs.Types.content
use Rattle.geo_base.specs.Types.event
use Rattle.geo_base.specs.Types.marker
use Rattle.geo_base.specs.Types.cluster_ref
use Rattle.geo_base.specs.Types.replicator_state
use Rattle.geo_base.specs.Types.sub_kind
use Rattle.geo_base.specs.Types.targets
use Rattle.geo_base.specs.Broker.{Broker, replicator_at, sub_named}
use Rattle.geo_base.specs.SnapshotBuilder.{second_id}
use Rattle.geo_base.specs.Cache.{cut_of}
use Rattle.geo_base.specs.Cursor.{has}
use Rattle.geo_base.specs.Cuts.{IsCut}
use Rattle.geo_base.specs.Dispatcher.{consumer_at, is_due}
use Rattle.geo_base.specs.Entry.{is_data, is_outbound, meant_for}
use Rattle.geo_base.specs.Happening.{happens, halts_planned}
use Rattle.geo_base.specs.Moments.{Moment, Settling, world_at, world_between}
use Rattle.geo_base.specs.Planned.{Planned, planned}
use Rattle.geo_base.specs.Run.{Limits, Ran, all_settle, budget, is_quiet, no_limits, pairs, resets_of, round_of, rounds_of, run, run_under, settled_world}
use Rattle.geo_base.specs.Safe.{AllOnce, IsEntry, IsSub, NothingForgotten, OnlySettled, is_out}
use Rattle.geo_base.specs.Scripted.{IsScripted}
use Rattle.geo_base.specs.Settled.{IsSettled, SettledSoFar, settled, settled_at, settled_under}
use Rattle.geo_base.specs.Setup.{Setup, sub_name, sub_names}
use Rattle.geo_base.specs.Subscription.{Subscription}
use Rattle.geo_base.specs.Topic.{index_of}
use Rattle.geo_base.specs.Updating.{positions_for}
use Rattle.geo_base.specs.World.{World, topic_at}

-- always, in the runs of a setup: at the end of each, also of one that a limit ends, between any two events, also of settling,
-- and after each single durable write
pub record Always (s : Setup) (Holds : World → SettledSoFar → Type 0) : Type 0 where
  pub run : (es : List Step) → Holds (run s es) (settled s es)
  pub limited : (l : Limits) (es : List Step) → Holds (run_under l s es).world (settled_under l s es)
  pub between : (l : Limits) (es : List Step) (at : Settling) → Holds (world_between l s es at) (settled_under l s es)
  pub moment : (l : Limits) (m : Moment) → Holds (world_at l s m) (settled_at l s m)

-- the same without the moments in the midst of an event's writes
pub record BetweenEvents (s : Setup) (Holds : World → Type 0) : Type 0 where
  pub run : (es : List Step) → Holds (run s es)
  pub limited : (l : Limits) (es : List Step) → Holds (run_under l s es).world
  pub between : (l : Limits) (es : List Step) (at : Settling) → Holds (world_between l s es at)

-- always, in one run: when its first k steps are done, and after them a part of settling, and then a beginning of the durable
-- writes of whatever event comes next
pub record AlwaysIn (s : Setup) (es : List Step) (Holds : World → SettledSoFar → Type 0) : Type 0 where
  pub between : (k : ℕ) (at : Settling) → Holds (world_between no_limits s (take k es) at) (settled s (take k es))
  pub moment : (k : ℕ) (at : Settling) (e : Event) (writes : ℕ)
      → let m : Moment = record { steps = take k es; settling = at; event = e; writes = writes } in Holds (world_at no_limits s m) (settled_at no_limits s m)

-- fewer events than ids have numbers for: beyond, an id may come again
abbrev pub IsShort : World → Type 0
IsShort w = w.events < 2 ^ 62

-- two clusters
abbrev pub ArePair : Setup → ℕ → ℕ → Type 0
ArePair s x y = (x < length s.clusters) × (y < length s.clusters) × (x ≢ y)

-- once: of two entries of one origin and producer in a topic the earlier has the smaller sequence id

abbrev pub LawOnce : Type 0
LawOnce = (s : Setup) → Always s (λ w settled. AllOnce w)

-- prefix: what y has of origin x is a beginning of what x has of origin x for y

-- the entries that cluster x stored first
abbrev pub of_origin : ℕ → List Entry → List Entry
of_origin x es = filter (λ (e : Entry). e.ident.origin == x) es

-- and those of them that go to y
abbrev pub outbound : ℕ → ℕ → List Entry → List Entry
outbound x y es = filter (is_outbound x y) es

abbrev pub IsPrefix : Setup → World → Type 0
IsPrefix s w = (t x y : ℕ) → ArePair s x y
    → (rest : List Entry) × (outbound x y (topic_at s w t x).entries ≡ of_origin x (topic_at s w t y).entries ++ rest)

abbrev pub LawPrefix : Type 0
LawPrefix = (s : Setup) → Always s (λ w settled. IsPrefix s w)

-- receipt: what x's cursor for y has acknowledged of these stands at y

abbrev pub IsReceived : Setup → World → Type 0
IsReceived s w = (t x y i : ℕ) (e : Entry) → ArePair s x y
    → has (replicator_at (topic_at s w t x) y).cursor i ≡ true → IsEntry (topic_at s w t x) i e → is_outbound x y e ≡ true
    → (k : ℕ) × IsEntry (topic_at s w t y) k e

abbrev pub LawReceipt : Type 0
LawReceipt = (s : Setup) → Always s (λ w settled. IsReceived s w)

-- position: a response of y names the entry before it, and answers a request of the cluster that it goes to

-- a marker of origin y stands at index i
pub record MarkerAt (b : Broker) (i y : ℕ) (m : Marker) : Type 0 where
  pub entry : Entry
  pub stands : IsEntry b i entry
  pub origin : entry.ident.origin ≡ y
  pub is : entry.content ≡ content.Marked m

-- the entry e at index j of y's topic, a response that names position p, is such a one
pub record IsAnswer (s : Setup) (w : World) (t y j : ℕ) (e : Entry) (id : List ℕ) (p : Position) : Type 0 where
  pub behind : 0 < j
  pub names : index_of (topic_at s w t y).ledgers p ≡ Some (j - 1)
  pub asker : ℕ
  pub within : asker < length s.clusters
  pub to : e.to ≡ targets.Only (2 ^ asker)
  pub index : ℕ
  pub request : MarkerAt (topic_at s w t asker) index asker (marker.Request id (cluster_ref.Known asker))

abbrev pub NamesPosition : Setup → World → Type 0
NamesPosition s w = (t y j : ℕ) (id : List ℕ) (answer : ClusterPosition) → y < length s.clusters
    → (r : MarkerAt (topic_at s w t y) j y (marker.Response id answer)) → IsAnswer s w t y j r.entry id answer.position

abbrev pub LawPosition : Type 0
LawPosition = (s : Setup) → Always s (λ w settled. NamesPosition s w)

-- second round: where a builder at x is in round two, and c has answered it at index j, each entry of c that stands at y at or
-- below the position that the builder keeps for y stands at c below j

abbrev pub ComesAfter : Setup → World → Type 0
ComesAfter s w = (t x c y j i l : ℕ) (u : SnapshotBuilder) (f : Entry) (answer : ClusterPosition) (p : Position) → ArePair s x y → ArePair s x c → ArePair s c y
    → (topic_at s w t x).builder ≡ Some u → u.second ≡ true
    → MarkerAt (topic_at s w t c) j c (marker.Response (second_id u.id) answer)
    → slice_index_or u.cut.remote y None ≡ Some p → index_of (topic_at s w t y).ledgers p ≡ Some l
    → IsEntry (topic_at s w t y) i f → i ≤ l → f.ident.origin ≡ c
    → (k : ℕ) × (k < j) × IsEntry (topic_at s w t c) k f

abbrev pub LawSecondRound : Type 0
LawSecondRound = (s : Setup) → IsScripted s → Always s (λ w settled. IsShort w → ComesAfter s w)

-- cut: each snapshot marker in x's topic is of origin x and is a cut of x, and so is each snapshot in a cache there

abbrev pub MarkersCut : Setup → World → Type 0
MarkersCut s w = (t x i : ℕ) (e : Entry) (id : List ℕ) (local : Position) (remote : List ClusterPosition) → x < length s.clusters
    → IsEntry (topic_at s w t x) i e → e.content ≡ content.Marked (marker.Snapshot id local remote)
    → (e.ident.origin ≡ x) × IsCut s w t x (cut_of x (length s.clusters) local remote)

-- a cached one keeps the index of its local position
abbrev pub CachesCut : Setup → World → Type 0
CachesCut s w = (t x k : ℕ) (v : Subscription) (c : CachedSnapshot) → x < length s.clusters
    → IsSub (topic_at s w t x) v → slice_get v.cache k ≡ Some c
    → (index_of (topic_at s w t x).ledgers c.cut.local ≡ Some c.index) × IsCut s w t x c.cut

abbrev pub LawCut : Type 0
LawCut = (s : Setup) → IsScripted s → Always s (λ w settled. IsShort w → MarkersCut s w × CachesCut s w)

-- update: an update of a for subscription n names, for each other cluster y, one stored position, and each message that stands at
-- y at or below it and is meant for a is settled on n

abbrev pub NamesSettled : Setup → World → SettledSoFar → Type 0
NamesSettled s w settled = (t z i a y : ℕ) (n : List ℕ) (remote : List ClusterPosition) → z < length s.clusters → y < length s.clusters → a ≢ y
    → MarkerAt (topic_at s w t z) i a (marker.Update n remote)
    → (p : Position) × (j : ℕ) × (positions_for y remote ≡ p ∷ []) × (index_of (topic_at s w t y).ledgers p ≡ Some j)
    × ((k : ℕ) (f : Entry) → k ≤ j → IsEntry (topic_at s w t y) k f → is_data f.content ≡ true → meant_for a f ≡ true → IsSettled settled t n f)

abbrev pub LawUpdate : Type 0
LawUpdate = (s : Setup) → IsScripted s → Always s (λ w settled. IsShort w → NamesSettled s w settled)

-- safe: (a) only what is settled is acknowledged, (b) each message stands once and in order, (c) nothing due is forgotten. The
-- last is of memory too, and an event changes memory only after its writes

pub record LawSafe : Type 0 where
  pub settled : (s : Setup) → IsScripted s → Always s (λ w settled. IsShort w → OnlySettled s w settled)
  pub once : (s : Setup) → Always s (λ w settled. AllOnce w)
  pub kept : (s : Setup) → BetweenEvents s NothingForgotten

-- offers: with a consumer and permits enough, twice as many offers as there are entries, and ten more, bring every message out,
-- if nothing else happens at that broker meanwhile

-- what is planned is of another broker, or of none
abbrev pub is_elsewhere : ℕ → ℕ → Option Planned → Bool
is_elsewhere t x None = true
is_elsewhere t x (Some p) = not ((p.topic == t) && (p.cluster == x))

-- so many offers of subscription n of topic t at x lead from a world to another, with events and stops elsewhere between them
pub data Offered (s : Setup) (t x n : ℕ) (end : World) : ℕ → World → Type 0 where
  Ends : Offered s t x n end 0 end
  Offers : (k : ℕ) (w : World) → Offered s t x n end k (happens s w (event.Offer t x n)) → Offered s t x n end (suc k) w
  Happens : (k : ℕ) (w : World) (e : Event) → is_elsewhere t x (planned s w e) ≡ true → Offered s t x n end k (happens s w e) → Offered s t x n end k w
  Halts : (k : ℕ) (w : World) (j : ℕ) (e : Event) → is_elsewhere t x (planned s w e) ≡ true → Offered s t x n end k (halts_planned s w j (planned s w e))
      → Offered s t x n end k w

-- the number of messages that are due, i being the index of the first entry
abbrev pub due_from : Subscription → ℕ → List Entry → ℕ
due_from v i [] = 0
due_from v i (e ∷ es) = (if is_data e.content && is_due v i then 1 else 0) + due_from v (i + 1) es

-- the consumer that is served has n permits; of Shared all together, of Key_Shared each
abbrev pub has_permits : SubKind → List Consumer → ℕ → Bool
has_permits sub_kind.Exclusive ks n = nat_le n (consumer_at ks 0).permits
has_permits sub_kind.Failover ks n = nat_le n (consumer_at ks 0).permits
has_permits sub_kind.Shared ks n = nat_le n (sum (map (λ (k : Consumer). k.permits) ks))
has_permits sub_kind.KeyShared ks n = list_all (λ (k : Consumer). nat_le n k.permits) ks

-- the subscription is here, and each message that its cursor lacks is out with a consumer that is attached
pub record IsAllOut (b : Broker) (n : List ℕ) : Type 0 where
  pub sub : Subscription
  pub here : sub_named b.subs n ≡ Some sub
  pub out : (i : ℕ) (e : Entry) → IsEntry b i e → is_data e.content ≡ true → has sub.cursor i ≡ false → is_out sub i ≡ true

abbrev pub IsServed : Setup → World → Type 0
IsServed s w = (t x n : ℕ) (v : Subscription) (end : World) → t < length s.topics → x < length s.clusters → n < length (sub_names s t)
    → sub_named (topic_at s w t x).subs (sub_name s t n) ≡ Some v → 0 < length v.consumers
    → has_permits v.kind v.consumers (due_from v 0 (topic_at s w t x).entries) ≡ true
    → Offered s t x n end (2 * length (topic_at s w t x).entries + 10) w → IsAllOut (topic_at s end t x) (sub_name s t n)

abbrev pub LawOffers : Type 0
LawOffers = (s : Setup) → BetweenEvents s (IsServed s)

-- budget: settling ends within its rounds, in a world where nothing is left to do, each round before does an event that is not
-- idle, and then all has come over

abbrev pub begun : World → Ran
begun w = record { world = w; ended = None }

-- when settling has reset every link and done k rounds, or fewer where one did nothing
abbrev pub after_rounds : ℕ → Setup → World → World
after_rounds k s w = (rounds_of k no_limits s (all_settle no_limits s (begun w) (resets_of (pairs s)))).world

abbrev pub after_round : Setup → World → World
after_round s w = (all_settle no_limits s (begun w) (round_of (pairs s))).world

abbrev pub after_settling : Setup → World → World
after_settling s w = (settled_world no_limits s (begun w)).world

pub record SettlesInTime (s : Setup) (w : World) : Type 0 where
  pub quiet : is_quiet s (after_settling s w) ≡ true
  pub rounds : (after_settling s w).rounds ≤ w.rounds + budget s w
  pub busy : (k : ℕ) → is_quiet s (after_rounds k s w) ≡ false → (after_rounds k s w).events < (after_round s (after_rounds k s w)).events

-- of a pair: the replicator is open and has acknowledged all, and y has what it is to have
pub record IsComplete (s : Setup) (w : World) (t x y : ℕ) : Type 0 where
  pub opened : (replicator_at (topic_at s w t x) y).state ≡ replicator_state.Open
  pub acknowledged : (i : ℕ) → i < length (topic_at s w t x).entries → has (replicator_at (topic_at s w t x) y).cursor i ≡ true
  pub arrived : outbound x y (topic_at s w t x).entries ≡ of_origin x (topic_at s w t y).entries

abbrev pub SettlesAll : Setup → World → Type 0
SettlesAll s w = (t x y : ℕ) → t < length s.topics → ArePair s x y → IsComplete s (after_settling s w) t x y

pub record LawBudget : Type 0 where
  pub in_time : (s : Setup) → BetweenEvents s (SettlesInTime s)
  pub complete : (s : Setup) → IsScripted s → BetweenEvents s (λ w. IsShort (after_settling s w) → SettlesAll s w)
