-- The subscriptions of a topic as their owner sees them.
use Rattle.std.specs.Prelude.{◌≡◌, ◌≢◌, ℕ, ◌+◌, ◌≤◌, if◌then◌else◌, List, [], map, false, slice_index_or}
use Rattle.std.specs.List.{AllPairs}
use Rattle.std.specs.Str.{bytes_eq}
use Rattle.geo_base.specs.declared.frame.SubKind.TheVariants as sub_kind
use Rattle.geo_base.specs.Subscription.{Subscription, new_subscription}
use Rattle.broker_subs.specs.SubView.{SubView}

-- the subscriptions in order of creation, and how many more find memory
pub record SubsView : Type 0 where
  pub subs : List SubView
  pub room : ℕ

abbrev pub no_sub_view : SubView
no_sub_view = record { sub = new_subscription [] sub_kind.Exclusive false []; room = 0; acks = 0 }

abbrev pub sub_view_at : List SubView → ℕ → SubView
sub_view_at bs k = slice_index_or bs k no_sub_view

-- the subscription at a place
abbrev pub sub_at : List Subscription → ℕ → Subscription
sub_at ss k = slice_index_or ss k (new_subscription [] sub_kind.Exclusive false [])

-- the room of a subscription
pub record SubRoom : Type 0 where
  pub room : ℕ
  pub acks : ℕ

abbrev pub room_of : SubView → SubRoom
room_of b = record { room = b.room; acks = b.acks }

abbrev pub rooms_of : List SubView → List SubRoom
rooms_of bs = map room_of bs

abbrev pub room_at : List SubRoom → ℕ → SubRoom
room_at rs k = slice_index_or rs k (record { room = 0; acks = 0 })

abbrev pub names_of : List Subscription → List (List ℕ)
names_of ss = map (λ (s : Subscription). s.name) ss

abbrev pub view_name : SubView → List ℕ
view_name b = b.sub.name

-- no two have a name
pub record SubTableHolds (room len cap : ℕ) (bs : List SubView) : Type 0 where
  pub places : len + room ≤ cap
  pub names : AllPairs (λ (m n : List ℕ). m ≢ n) (map view_name bs)

-- the subscription of a name is changed, as the machine has it
abbrev pub at_name : List ℕ → (Subscription → Subscription) → List Subscription → List Subscription
at_name n f ss = map (λ (s : Subscription). if bytes_eq s.name n then f s else s) ss

abbrev pub with_sub : (Subscription → Subscription) → SubView → SubView
with_sub f b = record b { sub = f b.sub }

-- of which nothing is acknowledged, and which has nothing in memory
abbrev pub is_new : SubView → Type 0
is_new b = b.sub ≡ new_subscription b.sub.name b.sub.kind b.sub.replicated []
