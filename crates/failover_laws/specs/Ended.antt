-- Ended: after a settling no snapshot is in the making, and one that is asked for then stands after the next (PIP-33 ends a snapshot that
-- waits too long by a time-out; here the rounds of settling bring every answer).
use Rattle.std.specs.Prelude.{◌≡◌, ℕ, ◌<◌, true, List, [], ◌∷◌, ◌++◌, length, None}
use Rattle.std.specs.List.{list_any}
use Rattle.geo_base.specs.declared.event.Event.TheVariants as event
use Rattle.geo_base.specs.declared.event.Step.TheVariants as step
use Rattle.geo_base.specs.declared.event.Step.{Step}
use Rattle.geo_base.specs.declared.marker.ClusterPosition.{ClusterPosition}
use Rattle.geo_base.specs.Laws.{BetweenEvents, IsShort, after_settling}
use Rattle.geo_base.specs.Run.{run}
use Rattle.geo_base.specs.Scripted.{IsScripted}
use Rattle.geo_base.specs.Setup.{Setup}
use Rattle.geo_base.specs.Subscription.{Subscription}
use Rattle.geo_base.specs.World.{World, topic_at}
use Rattle.failover_laws.specs.Covers.{IsAskedSince}

-- no cluster of any topic waits for answers
abbrev pub NoneIsMaking : Setup → World → Type 0
NoneIsMaking s w = (t x : ℕ) → t < length s.topics → x < length s.clusters → (topic_at s w t x).builder ≡ None

-- a snapshot is asked for, and all settles
abbrev pub asking_steps : ℕ → ℕ → List Step
asking_steps t x = step.Plain (event.Snap t x) ∷ step.Settle ∷ []

-- after any steps and a settling, at a cluster that has a replicated subscription: the snapshot that is asked for stands when all has settled
abbrev pub IsSnapped : Setup → List Step → Type 0
IsSnapped s es = (t x : ℕ) → let first = es ++ step.Settle ∷ [] in let v = run s first in let w = run s (first ++ asking_steps t x) in
    t < length s.topics → x < length s.clusters → list_any (λ (u : Subscription). u.replicated) (topic_at s v t x).subs ≡ true → IsShort w
    → (remote : List ClusterPosition) × IsAskedSince s v w t x remote

pub record LawEnded : Type 0 where
  pub none : (s : Setup) → IsScripted s → BetweenEvents s (λ w. IsShort (after_settling s w) → NoneIsMaking s (after_settling s w))
  pub stored : (s : Setup) → IsScripted s → (es : List Step) → IsSnapped s es
