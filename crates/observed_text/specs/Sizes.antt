-- The numbers of lines, and how much there is of each table.
use Rattle.std.specs.Prelude.{◌≡◌, ℕ, ◌<◌, ◌*◌, length, Some, slice_get}
use Rattle.geo_base.specs.Setup.{Setup}
use Rattle.observation.specs.declared.said.Said.{Said}
use Rattle.observation.specs.Observed.{seen_at}
use Rattle.observe.specs.Topics.{AreSized, IsSaidOf}
use Rattle.observed_text.specs.declared.line.Line.{Line}
use Rattle.observed_text.specs.declared.line.Line.TheVariants as line
use Rattle.observed_text.specs.declared.line.Logged.{Logged}
use Rattle.observed_text.specs.declared.line.Logged.TheVariants as logged
use Rattle.observed_text.specs.declared.line.Read.{Read}
use Rattle.observed_text.specs.declared.line.Read.TheVariants as read
use Rattle.observed_text.specs.Observing.{SoFar}

-- the numbers of a line are those of the setup
abbrev pub IsReadOf : Setup → Read → Type 0
IsReadOf s (read.Brought y ranges) = y < length s.clusters
IsReadOf s a = Unit {0}

abbrev pub IsLoggedOf : Setup → Logged → Type 0
IsLoggedOf s (logged.Done n g) = Unit {0}
IsLoggedOf s (logged.Receipt g p) = g.origin < length s.clusters

abbrev pub IsLineOf : Setup → Line → Type 0
IsLineOf s (line.Reads t x a) = (t < length s.topics) × (x < length s.clusters) × IsReadOf s a
IsLineOf s (line.Logs t l) = (t < length s.topics) × IsLoggedOf s l

-- there is one for each of the setup's, and the lines of the logs are of it
pub record IsSized (s : Setup) (r : SoFar) : Type 0 where
  pub topics : AreSized s r.seen
  pub received : (t x : ℕ) → t < length s.topics → x < length s.clusters → length (seen_at s r.seen t x).received ≡ length s.clusters
  pub subs : length r.subs ≡ length s.topics
  pub told : length r.told ≡ length s.topics * (length s.clusters * length s.clusters)
  pub said : (k : ℕ) (l : Said) → slice_get r.seen.said k ≡ Some l → IsSaidOf s l
