-- The topics of a world whose closed ledgers moved to tiers, line by line (own): of each topic at each cluster how many moved, and its
-- entries, which are those of a report.
use Rattle.std.specs.Prelude.{ℕ, ◌+◌, ◌<◌, List, [], ◌∷◌, ◌++◌, length}
use Rattle.geo_base.specs.Report.{with_line_feeds}
use Rattle.geo_base.specs.Setup.{Setup}
use Rattle.geo_base.specs.World.{World, topic_at}
use Rattle.tiered_storage.specs.Readable.{AreTellable}
use Rattle.report_lines.specs.Tiers.{tier_lines}

-- of topic t, whose name is topic, at each cluster from x on; the last closed ledgers, keep of them, stay
abbrev pub tiers_at : Setup → World → ℕ → ℕ → List ℕ → ℕ → List (List ℕ) → List (List ℕ)
tiers_at s w keep t topic x [] = []
tiers_at s w keep t topic x (n ∷ ns) =
    (let b = topic_at s w t x in tier_lines s.clusters topic n s.per_ledger keep b.ledgers b.entries) ++ tiers_at s w keep t topic (x + 1) ns

-- of the topics from t on
abbrev pub tiers_of : Setup → World → ℕ → ℕ → List (List ℕ) → List (List ℕ)
tiers_of s w keep t [] = []
tiers_of s w keep t (n ∷ ns) = tiers_at s w keep t n 0 s.clusters ++ tiers_of s w keep (t + 1) ns

-- the bytes of all of them
abbrev pub tiered : ℕ → Setup → World → List ℕ
tiered keep s w = with_line_feeds (tiers_of s w keep 0 s.topics)

-- what each topic at each cluster stores is what its text says
abbrev pub AreTopicsTellable : Setup → World → Type 0
AreTopicsTellable s w = (t x : ℕ) → t < length s.topics → x < length s.clusters → AreTellable s.clusters x (topic_at s w t x).entries
