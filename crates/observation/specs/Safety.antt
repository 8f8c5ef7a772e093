-- What it means that nothing is found, and what it is for.
use Rattle.std.specs.Prelude.{◌≡◌, ℕ, ◌<◌, false, [], length, Some, slice_get}
use Rattle.geo_base.specs.declared.entry.Entry.{Entry}
use Rattle.geo_base.specs.Cursor.{has}
use Rattle.geo_base.specs.Mirror.{MirrorSub}
use Rattle.geo_base.specs.Setup.{Setup}
use Rattle.observation.specs.Findings.{findings_of}
use Rattle.observation.specs.Observed.{Observation, is_dealt_with, topic_seen}
use Rattle.observation.specs.Safe.{IsObservedSafe, Stands}

-- where nothing is found it is safe, and where it is safe nothing is found
pub record LawObservedSafe : Type 0 where
  pub safe : (s : Setup) (o : Observation) → findings_of s o ≡ [] → IsObservedSafe s o
  pub silent : (s : Setup) (o : Observation) → IsObservedSafe s o → findings_of s o ≡ []

-- a consumer that goes on from a cursor that was read misses nothing: what stands there and nobody dealt with is outside the cursor
abbrev pub LawFailedOver : Type 0
LawFailedOver = (s : Setup) (o : Observation) (t x k i : ℕ) (v : MirrorSub) (e : Entry) → IsObservedSafe s o → t < length s.topics → x < length s.clusters
    → slice_get (topic_seen s o t x).subs k ≡ Some v → Stands s o t x i e → is_dealt_with s o t v.name e ≡ false → has v.cursor i ≡ false
