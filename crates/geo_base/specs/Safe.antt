-- What is safe: only what is settled is acknowledged, each message stands once and in order, and nothing due is forgotten.
use Rattle.std.specs.Prelude.{◌≡◌, ℕ, ◌<◌, nat_le, ◌==◌, Bool, true, false, ◌&&◌, ◌||◌, length, Some, slice_get}
use Rattle.std.specs.List.{list_any}
use Rattle.geo_base.specs.Types.{Entry, Unacked}
use Rattle.geo_base.specs.Broker.{Broker}
use Rattle.geo_base.specs.Cursor.{has}
use Rattle.geo_base.specs.Entry.{is_data, same_stream}
use Rattle.geo_base.specs.Settled.{IsSettled, SettledSoFar}
use Rattle.geo_base.specs.Setup.{Setup}
use Rattle.geo_base.specs.Subscription.{Subscription, is_attached}
use Rattle.geo_base.specs.World.{World, broker_at, topic_at}

abbrev pub IsEntry : Broker → ℕ → Entry → Type 0
IsEntry b i e = slice_get b.entries i ≡ Some e

abbrev pub IsSub : Broker → Subscription → Type 0
IsSub b v = (k : ℕ) × (slice_get b.subs k ≡ Some v)

-- (a) of subscription v of topic t at a broker: each index in its cursor is that of a marker or of a settled message
abbrev pub OnlySettledOn : SettledSoFar → ℕ → Broker → Subscription → Type 0
OnlySettledOn settled t b v = (i : ℕ) → has v.cursor i ≡ true → (e : Entry) × IsEntry b i e × (is_data e.content ≡ true → IsSettled settled t v.name e)

abbrev pub OnlySettled : Setup → World → SettledSoFar → Type 0
OnlySettled s w settled = (t x : ℕ) (v : Subscription) → x < length s.clusters → IsSub (topic_at s w t x) v → OnlySettledOn settled t (topic_at s w t x) v

-- (b) of two entries of one origin and producer the earlier has the smaller sequence id, so no identity stands twice
abbrev pub IsOnce : Broker → Type 0
IsOnce b = (i j : ℕ) (e f : Entry) → i < j → IsEntry b i e → IsEntry b j f → same_stream e.ident f.ident ≡ true → e.ident.seq < f.ident.seq

abbrev pub AllOnce : World → Type 0
AllOnce w = (n : ℕ) → IsOnce (broker_at w n)

-- (c) of a subscription: what is outside the cursor is out with a consumer that is attached, due again or still to be read, and
-- what is inside is neither out nor due again
abbrev pub is_out : Subscription → ℕ → Bool
is_out v i = list_any (λ (o : Unacked). (o.index == i) && is_attached o.client v) v.out

abbrev pub is_kept : Subscription → ℕ → Bool
is_kept v i = is_out v i || (has v.due i || nat_le v.read_index i)

pub record NothingForgottenOn (b : Broker) (v : Subscription) : Type 0 where
  pub outside : (i : ℕ) → i < length b.entries → has v.cursor i ≡ false → is_kept v i ≡ true
  pub inside : (i : ℕ) → has v.cursor i ≡ true → (list_any (λ (o : Unacked). o.index == i) v.out || has v.due i) ≡ false

abbrev pub NothingForgotten : World → Type 0
NothingForgotten w = (n : ℕ) (v : Subscription) → IsSub (broker_at w n) v → NothingForgottenOn (broker_at w n) v
