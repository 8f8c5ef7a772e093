-- What a run stores can stand in a ledger's text.
use Rattle.std.specs.Prelude.{ℕ, ◌<◌, List, length}
use Rattle.geo_base.specs.declared.event.Step.{Step}
use Rattle.geo_base.specs.Run.{all_limits, run_under}
use Rattle.geo_base.specs.World.{topic_at}
use Rattle.tiered_storage.specs.Readable.{AreReadable}
use Rattle.script_text.specs.Scenario.{IsScenario}
use Rattle.script_text.specs.Script.{Script}

-- each entry of a topic at a cluster, in the world that steps of an accepted script come to within the limits of a run
abbrev pub LawReadable : Type 0
LawReadable =
    (s : Script) → IsScenario s → (es : List Step) (t x : ℕ) → t < length s.setup.topics → x < length s.setup.clusters
    → AreReadable s.setup.clusters x (topic_at s.setup (run_under all_limits s.setup es).world t x).entries
