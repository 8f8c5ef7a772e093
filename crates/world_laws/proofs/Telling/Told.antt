-- What is told: the messages that are settled so far, as a value that the induction over runs carries. Two facts are kept
-- together over the cut: only what is told is acknowledged, and an update names only what is told.
use Rattle.std.proofs.Common.{◌≡◌, ℕ, ◌<◌, ◌≤◌, true, List, [], ◌∷◌, ◌++◌, length}
use Rattle.std.specs.Prelude.{◌≢◌, Option, Some, None, slice_get, take}
use Rattle.world_laws.proofs.Types.{ClusterPosition, Entry, Event, Position, Write}
use Rattle.world_laws.proofs.Types.content
use Rattle.world_laws.proofs.Types.marker
use Rattle.world_laws.proofs.Types.write
use Rattle.geo_base.specs.Broker.{Broker, written}
use Rattle.geo_base.specs.Client.{Acted}
use Rattle.geo_base.specs.Cursor.{has}
use Rattle.geo_base.specs.Entry.{is_data, meant_for}
use Rattle.geo_base.specs.Happening.{broker_does, broker_halts, client_does, stops}
use Rattle.geo_base.specs.Laws.{IsShort}
use Rattle.geo_base.specs.Planned.{Planned, planned}
use Rattle.geo_base.specs.Settled.{IsSettled, SettledSoFar, settled_event}
use Rattle.geo_base.specs.Setup.{Setup}
use Rattle.geo_base.specs.Subscription.{Subscription}
use Rattle.geo_base.specs.Topic.{index_of}
use Rattle.geo_base.specs.Updating.{positions_for}
use Rattle.geo_base.specs.World.{ToClient, World, opening_world, topic_at}
use Rattle.world_laws.proofs.Snapshotting.Cuts.{Cutting, HasCuts}
use Rattle.world_laws.proofs.TopicOrder.NoSelf.{NoSelf}
use Rattle.world_laws.proofs.Replicating.Prefixes.{is_of}
use Rattle.world_laws.proofs.Snapshotting.SecondRound.{Knows, knows_now}
use Rattle.world_laws.proofs.Walks.Shapes.{Shape}
use Rattle.world_laws.proofs.Replicating.Sizes.{IsThere}
use Rattle.world_laws.proofs.Dispatching.SubFrames.{AllSubs}

-- WHAT IS TOLD

abbrev pub nothing_told : SettledSoFar
nothing_told t n = []

-- with what more is told
abbrev pub told_too : SettledSoFar → SettledSoFar → SettledSoFar
told_too told more t n = told t n ++ more t n

-- all that one has another has too
abbrev pub Includes : SettledSoFar → SettledSoFar → Type 0
Includes told more = (t : ℕ) (n : List ℕ) (e : Entry) → IsSettled told t n e → IsSettled more t n e

-- an entry stands at index i, and if it is a message it is told on subscription n of topic t
abbrev pub IsTold : SettledSoFar → ℕ → List ℕ → List Entry → ℕ → Type 0
IsTold told t n es i = (e : Entry) × (slice_get es i ≡ Some e) × (is_data e.content ≡ true → IsSettled told t n e)

-- ONE TOPIC

-- each index in a subscription's cursor is told
abbrev pub OnlyTold : SettledSoFar → ℕ → List Entry → Subscription → Type 0
OnlyTold told t es v = (i : ℕ) → has v.cursor i ≡ true → IsTold told t v.name es i

-- what a write gains for a cursor is told, b being the broker before it
abbrev pub TellsWrite : SettledSoFar → ℕ → Broker → Write → Type 0
TellsWrite told t b (write.Acks n is) = (i : ℕ) → has is i ≡ true → IsTold told t n b.entries i
TellsWrite told t b (write.Seek n i) = (j : ℕ) → j < i → IsTold told t n b.entries j
TellsWrite told t b (write.Create n kind replicated latest) = (i : ℕ) → latest ≡ true → i < length b.entries → IsTold told t n b.entries i
TellsWrite told t b w = Unit {0}

-- and what each of a list of writes gains
abbrev pub Tells : SettledSoFar → ℕ → ℕ → Broker → List Write → Type 0
Tells told t per b [] = Unit {0}
Tells told t per b (w ∷ ws) = TellsWrite told t b w × Tells told t per (written per b w) ws

-- what an update of a for subscription n names of y, whose topic is b: one position, stored, and each message at or below it
-- that is meant for a is told
abbrev pub NamesTo : SettledSoFar → ℕ → ℕ → List ℕ → List ClusterPosition → ℕ → Broker → Type 0
NamesTo told t a n remote y b =
    (p : Position) × (j : ℕ) × (positions_for y remote ≡ p ∷ []) × (index_of b.ledgers p ≡ Some j)
    × ((k : ℕ) (f : Entry) → k ≤ j → slice_get b.entries k ≡ Some f → is_data f.content ≡ true → meant_for a f ≡ true → IsSettled told t n f)

-- A WORLD

abbrev pub UpdateTold : Setup → World → SettledSoFar → ℕ → ℕ → List ℕ → List ClusterPosition → Type 0
UpdateTold s w told t a n remote = (y : ℕ) → y < length s.clusters → a ≢ y → NamesTo told t a n remote y (topic_at s w t y)

-- of the own updates of a among some entries of topic t, from an index on
abbrev pub NamesTold : Setup → World → SettledSoFar → ℕ → ℕ → ℕ → List Entry → Type 0
NamesTold s w told t a from es = (i : ℕ) (e : Entry) (n : List ℕ) (remote : List ClusterPosition) → from ≤ i → slice_get es i ≡ Some e → is_of a e ≡ true
    → e.content ≡ content.Marked (marker.Update n remote) → UpdateTold s w told t a n remote

-- of topic t at x, b being its broker
pub record ToldIn (s : Setup) (w : World) (told : SettledSoFar) (t x from : ℕ) (b : Broker) : Type 0 where
  pub only : AllSubs (OnlyTold told t b.entries) b
  pub names : NamesTold s w told t x from b.entries

-- with the first index of each topic from which on its updates are meant, and of all updates
abbrev pub HasToldFrom : (ℕ → ℕ → ℕ) → Setup → World → SettledSoFar → Type 0
HasToldFrom from s w told = (t x : ℕ) → IsThere s t x → ToldIn s w told t x (from t x) (topic_at s w t x)

abbrev pub from_first : ℕ → ℕ → ℕ
from_first t x = 0

abbrev pub HasTold : Setup → World → SettledSoFar → Type 0
HasTold s w told = HasToldFrom from_first s w told

-- the fact that runs keep, told being what is settled so far
abbrev pub ToldOver : Setup → SettledSoFar → World → Type 0
ToldOver s told w = Cutting s w × (IsShort w → HasTold s w told)

-- and what it gives in a short run
pub record ToldSince (from : ℕ → ℕ → ℕ) (s : Setup) (told : SettledSoFar) (w : World) : Type 0 where
  pub knows : Knows s w
  pub no_self : NoSelf s w
  pub cuts : HasCuts s w
  pub kept : HasToldFrom from s w told

abbrev pub ToldNow : Setup → SettledSoFar → World → Type 0
ToldNow s told w = ToldSince from_first s told w

pub told_now : (s : Setup) (told : SettledSoFar) (w : World) → ToldOver s told w → IsShort w → ToldNow s told w
told_now s told w h short = record { knows = knows_now s w h.0.0 short; no_self = h.0.0.0.0.0.0.1; cuts = h.0.1 short; kept = h.1 short }

-- EVENTS

-- what some writes of a planned event gain is told
abbrev pub TellsAt : Setup → World → SettledSoFar → Planned → List Write → Type 0
TellsAt s w told p ws = IsShort w → IsThere s p.topic p.cluster → Tells told p.topic s.per_ledger (topic_at s w p.topic p.cluster) ws

abbrev pub TellsAll : Setup → World → SettledSoFar → Option Planned → Type 0
TellsAll s w told None = Unit {0}
TellsAll s w told (Some p) = TellsAt s w told p p.plan.writes

-- A fact of what is told and of worlds that every event keeps: an event first settles what it settles, so that all is told that its
-- writes gain, and then happens
pub record IsToldKept (s : Setup) (P : SettledSoFar → World → Type 0) : Type 0 where
  pub opening : P nothing_told (opening_world s)
  pub more : (told more : SettledSoFar) (w : World) → Includes told more → P told w → P more w
  pub tells : (told : SettledSoFar) (w : World) (e : Event) → P told w → TellsAll s w (told_too told (λ t n. settled_event s w t n e)) (planned s w e)
  pub idle : (told : SettledSoFar) (w : World) (n : ℕ) → P told w → P told (record w { idle = n })
  pub round : (told : SettledSoFar) (w : World) (n : ℕ) → P told w → P told (record w { rounds = n })
  pub does : (told : SettledSoFar) (w : World) (p : Planned) → Shape s w p → TellsAt s w told p p.plan.writes → P told w → P told (broker_does s w p)
  pub halts : (told : SettledSoFar) (w : World) (k : ℕ) (p : Planned) → Shape s w p → TellsAt s w told p (take k p.plan.writes) → P told w → P told (broker_halts s w k p)
  pub goes : (told : SettledSoFar) (w : World) (c : ℕ) (a : Acted) → P told w → P told (client_does s w c None a)
  pub gets : (told : SettledSoFar) (w : World) (c x : ℕ) (a : Acted) → P told w → P told (client_does s w c (Some (ToClient c x)) a)
  pub stop : (told : SettledSoFar) (w : World) → P told w → P told (stops s w)
