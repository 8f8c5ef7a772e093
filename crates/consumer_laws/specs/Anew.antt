-- Begun anew: a subscription that is sought, or deleted, at every cluster once a settling has brought all over. What was settled before
-- counts no more, whatever update was on its way.
use Rattle.std.specs.Prelude.{◌≡◌, ℕ, ◌<◌, ◌≤◌, true, List, [], ◌∷◌, ◌++◌, length, Option, Some, None}
use Rattle.geo_base.specs.declared.entry.Entry.{Entry}
use Rattle.geo_base.specs.declared.entry.Content.TheVariants as content
use Rattle.geo_base.specs.declared.event.Event.TheVariants as event
use Rattle.geo_base.specs.declared.event.Step.TheVariants as step
use Rattle.geo_base.specs.declared.event.Step.{Step}
use Rattle.geo_base.specs.declared.marker.ClusterPosition.{ClusterPosition}
use Rattle.geo_base.specs.declared.marker.Marker.TheVariants as marker
use Rattle.geo_base.specs.declared.position.Position.{Position}
use Rattle.geo_base.specs.Broker.{sub_named}
use Rattle.geo_base.specs.Cursor.{has}
use Rattle.geo_base.specs.Laws.{IsShort, begun}
use Rattle.geo_base.specs.Moments.{Settling}
use Rattle.geo_base.specs.Run.{no_limits, run, run_from}
use Rattle.geo_base.specs.Safe.{IsEntry, IsSub, OnlySettledOn}
use Rattle.geo_base.specs.Scripted.{IsScripted}
use Rattle.geo_base.specs.Seeking.{seek_index}
use Rattle.geo_base.specs.Settled.{SettledSoFar}
use Rattle.geo_base.specs.Setup.{Setup, sub_name, sub_names}
use Rattle.geo_base.specs.Subscription.{Subscription}
use Rattle.geo_base.specs.World.{World, topic_at}
use Rattle.world_laws.specs.AlikeWorlds.{world_on}
use Rattle.world_laws.specs.Telling.{settling, told_from}

-- the world after these steps and a settling
abbrev pub settled_behind_all : Setup → List Step → World
settled_behind_all s es = run s (es ++ step.Settle ∷ [])

-- what is settled by the steps of a run that goes on from v
abbrev pub settled_since : Setup → World → List Step → SettledSoFar
settled_since s v es = told_from (settling s) no_limits s (begun v) es

-- of subscription n of topic t, at every cluster where it is: each index in its cursor is that of a marker or of a message that is settled so
abbrev pub OnlySettledAt : Setup → World → SettledSoFar → ℕ → List ℕ → Type 0
OnlySettledAt s w settled t n =
    (x : ℕ) (v : Subscription) → x < length s.clusters → IsSub (topic_at s w t x) v → v.name ≡ n → OnlySettledOn settled t (topic_at s w t x) v

-- SEEKS

-- an operator's seeks of subscription number m of topic t at some clusters, one after the other
abbrev pub all_sought : ℕ → ℕ → (ℕ → Option Position) → List ℕ → List Step
all_sought t m to [] = []
all_sought t m to (x ∷ xs) = step.Plain (event.Seek t x m (to x)) ∷ all_sought t m to xs

-- these are the clusters, in whatever order
pub record AreClusters (s : Setup) (xs : List ℕ) : Type 0 where
  pub all : (x : ℕ) → x < length s.clusters → has xs x ≡ true
  pub only : (x : ℕ) → has xs x ≡ true → x < length s.clusters

-- each seek is to a position that is stored at its cluster, or to the end
abbrev pub AreStored : Setup → World → ℕ → (ℕ → Option Position) → Type 0
AreStored s v t to = (x : ℕ) → x < length s.clusters → (i : ℕ) × (seek_index (topic_at s v t x) (to x) ≡ Some i)

-- DELETIONS

-- subscription n of topic t is at no cluster
abbrev pub IsNowhere : Setup → World → ℕ → List ℕ → Type 0
IsNowhere s w t n = (x : ℕ) → x < length s.clusters → sub_named (topic_at s w t x).subs n ≡ None

-- no update of it was stored anywhere since the world v
abbrev pub NoUpdateSince : Setup → World → World → ℕ → List ℕ → Type 0
NoUpdateSince s v w t n = (x i : ℕ) (e : Entry) (remote : List ClusterPosition) → x < length s.clusters → length (topic_at s v t x).entries ≤ i
    → IsEntry (topic_at s w t x) i e → e.content ≡ content.Marked (marker.Update n remote) → ⊥

-- sought: after a settling, and seeks at every cluster with nothing between, only what was settled since the settling counts, which is what
-- stands below the seeks and what clients and operators settled later. deleted: where the subscription is at no cluster, and no update of it
-- was stored since a settling, only what is settled from then on counts, if it ever is there again
pub record LawAnew : Type 0 where
  pub sought : (s : Setup) → IsScripted s → (es : List Step) (t m : ℕ) (to : ℕ → Option Position) (xs : List ℕ) (fs : List Step) (at : Settling)
      → let v = settled_behind_all s es in let later = all_sought t m to xs ++ fs in let w = world_on s v later at in
      t < length s.topics → m < length (sub_names s t) → AreClusters s xs → AreStored s v t to → IsShort w
      → OnlySettledAt s w (settled_since s v later) t (sub_name s t m)
  pub deleted : (s : Setup) → IsScripted s → (es ks fs : List Step) (at : Settling) (t : ℕ) (n : List ℕ)
      → let v = settled_behind_all s es in let u = (run_from no_limits s (begun v) ks).world in let w = world_on s u fs at in
      t < length s.topics → IsNowhere s u t n → NoUpdateSince s v u t n → IsShort w → OnlySettledAt s w (settled_since s u fs) t n
