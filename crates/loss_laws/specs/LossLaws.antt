-- What ties the measures of a loss to the laws: what is missing at a cluster is an end of what the lost one has for it, and what comes again
-- there was passed over by no update that was acted on; and each message of the lost one that is named nowhere stands wherever it is to.
use Rattle.std.specs.Prelude.{◌≡◌, ◌≢◌, ◌⊎◌, ℕ, ◌<◌, ◌≤◌, Bool, true, false, List, ◌++◌, length, filter, Some, slice_get}
use Rattle.geo_base.specs.declared.entry.Entry.{Entry}
use Rattle.geo_base.specs.declared.event.Event.TheVariants as event
use Rattle.geo_base.specs.declared.marker.ClusterPosition.{ClusterPosition}
use Rattle.geo_base.specs.Broker.{sub_named}
use Rattle.geo_base.specs.Entry.{goes_to, is_data, meant_for}
use Rattle.geo_base.specs.Happening.{halts_planned, happens}
use Rattle.geo_base.specs.Laws.{Always, ArePair, of_origin, outbound}
use Rattle.geo_base.specs.Planned.{planned}
use Rattle.geo_base.specs.Safe.{IsEntry}
use Rattle.geo_base.specs.Setup.{Setup}
use Rattle.geo_base.specs.Subscription.{Subscription}
use Rattle.geo_base.specs.World.{World, topic_at}
use Rattle.failover_laws.specs.UpdatedTo.{HasUpdatedTo, MayUpdateTo, writes_to_update}
use Rattle.failover_laws.specs.Since.{Since}
use Rattle.loss_laws.specs.Lost.{again, alone, comes_again, differ, is_own_message, lost, missing, stands}

-- ---- missing: what x has for y is as much of it as stands at y, and a rest; and of this rest the messages are missing, in order

abbrev pub MissingIsEnd : Setup → World → Type 0
MissingIsEnd s w = (t x y : ℕ) → ArePair s x y → (rest : List Entry)
    × (outbound x y (topic_at s w t x).entries ≡ of_origin x (topic_at s w t y).entries ++ rest)
    × (missing x y (topic_at s w t x) (topic_at s w t y) ≡ filter (λ (e : Entry). is_data e.content) rest)

abbrev pub LawMissing : Type 0
LawMissing = (s : Setup) → Always s (λ w settled. MissingIsEnd s w)

-- ---- again: of what subscription v of x would be given again at y, each message that is meant for x stands there after index j

abbrev pub AgainBehind : Setup → World → ℕ → ℕ → ℕ → Subscription → ℕ → Type 0
AgainBehind s w t x y v j = (k : ℕ) (e : Entry) → slice_get (again (topic_at s w t x) v (topic_at s w t y)) k ≡ Some e → meant_for x e ≡ true
    → (i : ℕ) × (j < i) × IsEntry (topic_at s w t y) i e

-- each message that comes again stands there, lacked there and acknowledged at x. Where the subscription has passed over an index at y,
-- those meant for x stand after it; so it is after an event that acts on an update of x, which names that index, and after a stop
-- inside it after the write of the cursor, as long as the subscription is neither deleted nor sought there
pub record LawComesAgain : Type 0 where
  pub listed : (s : Setup) (w : World) (t x y k : ℕ) (v : Subscription) (e : Entry) → let b = topic_at s w t x in let c = topic_at s w t y in
      slice_get (again b v c) k ≡ Some e → (i : ℕ) × IsEntry c i e × (comes_again b v c i e ≡ true)
  pub passed : (s : Setup) (w : World) (t x y j : ℕ) (v : Subscription) → HasUpdatedTo (topic_at s w t y) v.name x j → AgainBehind s w t x y v j
  pub since : (s : Setup) (u w : World) (t x y j : ℕ) (v : Subscription) (remote : List ClusterPosition) → MayUpdateTo s u t y x v.name remote j
      → Since s t y v.name (happens s u (event.Read t y x)) w → AgainBehind s w t x y v j
  pub halted : (s : Setup) (u w : World) (t x y j k : ℕ) (v : Subscription) (remote : List ClusterPosition) → MayUpdateTo s u t y x v.name remote j
      → writes_to_update (sub_named (topic_at s u t y).subs v.name) ≤ k
      → Since s t y v.name (halts_planned s u k (planned s u (event.Read t y x))) w → AgainBehind s w t x y v j

-- ---- lost, alone, differ: if x never comes back

-- a cluster other than x
abbrev pub IsOther : Setup → ℕ → ℕ → Type 0
IsOther s x y = (y < length s.clusters) × (x ≢ y)

abbrev pub stands_at : Setup → World → ℕ → ℕ → Entry → Bool
stands_at s w t y e = stands (topic_at s w t y).entries e.ident

abbrev pub IsNamed : List Entry → Entry → Type 0
IsNamed es e = (k : ℕ) × (slice_get es k ≡ Some e)

-- What is lost is meant for another cluster and stands at no other one; what is alone is meant for no other one; what differs stands at
-- another one and not at each that it is meant for. Each further message of x stands at each other cluster that it is meant for.
pub record NamesLost (s : Setup) (w : World) : Type 0 where
  pub lost_is : (t x : ℕ) (e : Entry) → IsNamed (lost s w t x) e
      → ((y : ℕ) × IsOther s x y × (goes_to y e.to ≡ true)) × ((y : ℕ) → IsOther s x y → stands_at s w t y e ≡ false)
  pub alone_is : (t x : ℕ) (e : Entry) → IsNamed (alone s w t x) e → (y : ℕ) → IsOther s x y → goes_to y e.to ≡ false
  pub differ_is : (t x : ℕ) (e : Entry) → IsNamed (differ s w t x) e
      → ((y : ℕ) × IsOther s x y × (stands_at s w t y e ≡ true)) × ((y : ℕ) × IsOther s x y × (goes_to y e.to ≡ true) × (stands_at s w t y e ≡ false))
  pub rest : (t x i : ℕ) (e : Entry) → IsEntry (topic_at s w t x) i e → is_own_message x e ≡ true
      → IsNamed (lost s w t x) e ⊎ (IsNamed (alone s w t x) e ⊎ (IsNamed (differ s w t x) e
      ⊎ ((y : ℕ) → IsOther s x y → goes_to y e.to ≡ true → stands_at s w t y e ≡ true)))

abbrev pub LawLost : Type 0
LawLost = (s : Setup) (w : World) → NamesLost s w
