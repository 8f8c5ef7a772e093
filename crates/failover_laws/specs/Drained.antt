-- Drained: where a subscription has acknowledged every message of its topic, only what is stored later is given to its consumers (own:
-- an operator looks at a subscription's backlog before he moves its consumers, and has to know what a backlog of 0 says).
use Rattle.std.specs.Prelude.{◌≡◌, ℕ, ◌≤◌, true, List, length, Some}
use Rattle.geo_base.specs.declared.entry.Entry.{Entry}
use Rattle.geo_base.specs.declared.event.Event.{Event}
use Rattle.geo_base.specs.Broker.{Broker, backlog, sub_named}
use Rattle.geo_base.specs.Cursor.{has}
use Rattle.geo_base.specs.Entry.{is_data}
use Rattle.geo_base.specs.Planned.{planned}
use Rattle.geo_base.specs.Safe.{IsEntry}
use Rattle.geo_base.specs.Setup.{Setup}
use Rattle.geo_base.specs.Subscription.{Subscription}
use Rattle.geo_base.specs.World.{World, topic_at}
use Rattle.failover_laws.specs.Again.{gives}
use Rattle.failover_laws.specs.Since.{Since}

-- n is here, and has acknowledged every message that stands here
pub record IsDrained (b : Broker) (n : List ℕ) : Type 0 where
  pub sub : Subscription
  pub here : sub_named b.subs n ≡ Some sub
  pub all : (i : ℕ) (e : Entry) → IsEntry b i e → is_data e.content ≡ true → has sub.cursor i ≡ true

-- whatever event comes next, a message that it gives to a consumer of n at y stands there at index m or above it
abbrev pub OnlyFrom : Setup → World → ℕ → ℕ → List ℕ → ℕ → Type 0
OnlyFrom s w t y n m = (e : Event) (i : ℕ) (f : Entry) → gives s t y n i (planned s w e) ≡ true → IsEntry (topic_at s w t y) i f → is_data f.content ≡ true → m ≤ i

-- of every setup and every world, reached or not: a report that says `backlog 0` of n says that it is drained; and from where it is
-- drained on, while it is neither deleted nor sought, such messages alone are given to its consumers as were stored later
pub record LawDrained : Type 0 where
  pub report : (b : Broker) (n : List ℕ) (v : Subscription) → sub_named b.subs n ≡ Some v → backlog b v ≡ 0 → IsDrained b n
  pub given : (s : Setup) (t y : ℕ) (n : List ℕ) (v w : World) → IsDrained (topic_at s v t y) n → Since s t y n v w
      → OnlyFrom s w t y n (length (topic_at s v t y).entries)
