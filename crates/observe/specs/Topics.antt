-- The topics of an observation, by their numbers.
use Rattle.std.specs.Prelude.{◌≡◌, ℕ, ◌<◌, ◌+◌, ◌*◌, List, [], ◌∷◌, length, Some, slice_get}
use Rattle.geo_base.specs.Setup.{Setup}
use Rattle.observation.specs.declared.said.Said.{Said}
use Rattle.observation.specs.declared.said.Said.TheVariants as said
use Rattle.observation.specs.Observed.{Observation, Seen}

-- there is one for each of the setup's at each cluster
abbrev pub AreSized : Setup → Observation → Type 0
AreSized s o = length o.topics ≡ length s.topics * length s.clusters

-- how many entries were read
abbrev pub entries_in : List Seen → ℕ
entries_in [] = 0
entries_in (v ∷ vs) = length v.topic.entries + entries_in vs

-- of which topic a line of the logs is
abbrev pub topic_of : Said → ℕ
topic_of (said.Done t m g) = t
topic_of (said.Below t x m k) = t
topic_of (said.Receipt t g p) = t
topic_of (said.Unsure t x m) = t

-- the numbers of a line of the logs are those of the setup
abbrev pub IsSaidOf : Setup → Said → Type 0
IsSaidOf s (said.Done t m g) = t < length s.topics
IsSaidOf s (said.Below t x m k) = (t < length s.topics) × (x < length s.clusters)
IsSaidOf s (said.Receipt t g p) = (t < length s.topics) × (g.origin < length s.clusters)
IsSaidOf s (said.Unsure t x m) = (t < length s.topics) × (x < length s.clusters)

-- and so are all
pub record IsOf (s : Setup) (o : Observation) : Type 0 where
  pub sized : AreSized s o
  pub said : (k : ℕ) (l : Said) → slice_get o.said k ≡ Some l → IsSaidOf s l
