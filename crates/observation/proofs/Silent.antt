-- Nothing is found exactly where all eight facts hold.
use Rattle.std.proofs.Common.{◌≡◌, ℕ, ◌<◌, List, [], length, arith}
use Rattle.geo_base.specs.declared.entry.Content.TheVariants as content
use Rattle.geo_base.specs.Setup.{Setup}
use Rattle.observation.specs.declared.finding.Finding.{Finding}
use Rattle.observation.specs.Findings.{apart, brought, by_cluster, by_other, by_topic, by_topic_and_cluster, cuts, findings_of, lost, skipped, told, twice, unreceived}
use Rattle.observation.specs.Observed.{Observation, entries_seen}
use Rattle.observation.specs.Safe.{IsObservedSafe, OnceIn}
use Rattle.observation.specs.Safety.{LawObservedSafe}
use Rattle.observation.proofs.Empty.{both_empty, cluster_none, clusters_none, empty_both, other_none, others_none, topic_none, topics_none}
use Rattle.observation.proofs.Rules.{apart_none, brought_none, cuts_none, lost_none, none_apart, none_brought, none_cuts, none_lost, none_skipped, none_told, none_twice, none_unreceived, skipped_none, told_none, twice_none, unreceived_none}

-- the findings of each rule
abbrev all_lost : Setup → Observation → List Finding
all_lost s o = by_topic s (lost s o)

abbrev all_twice : Setup → Observation → List Finding
all_twice s o = by_topic_and_cluster s (twice s o)

abbrev all_brought : Setup → Observation → List Finding
all_brought s o = by_topic_and_cluster s (λ t x. by_other s x (brought s o t x))

abbrev all_apart : Setup → Observation → List Finding
all_apart s o = by_topic s (λ t. by_cluster s (λ y. by_cluster s (λ x. by_cluster s (apart s o t y x))))

abbrev all_unreceived : Setup → Observation → List Finding
all_unreceived s o = by_topic_and_cluster s (λ t x. by_other s x (unreceived s o t x))

abbrev all_cuts : Setup → Observation → List Finding
all_cuts s o = by_topic_and_cluster s (cuts s o)

abbrev all_told : Setup → Observation → List Finding
all_told s o = by_topic_and_cluster s (told s o)

abbrev all_skipped : Setup → Observation → List Finding
all_skipped s o = by_topic_and_cluster s (skipped s o)

record AllNone (s : Setup) (o : Observation) : Type 0 where
  none_lost : all_lost s o ≡ []
  none_twice : all_twice s o ≡ []
  none_brought : all_brought s o ≡ []
  none_apart : all_apart s o ≡ []
  none_unreceived : all_unreceived s o ≡ []
  none_cuts : all_cuts s o ≡ []
  none_told : all_told s o ≡ []
  none_skipped : all_skipped s o ≡ []

parts : (s : Setup) (o : Observation) → findings_of s o ≡ [] → AllNone s o
unfolding findings_of
parts s o h =
    let a = both_empty (all_lost s o) _ h in
    let b = both_empty (all_twice s o) _ a.1 in
    let c = both_empty (all_brought s o) _ b.1 in
    let d = both_empty (all_apart s o) _ c.1 in
    let e = both_empty (all_unreceived s o) _ d.1 in
    let f = both_empty (all_cuts s o) _ e.1 in
    let g = both_empty (all_told s o) (all_skipped s o) f.1 in
    record {
      none_lost = a.0;
      none_twice = b.0;
      none_brought = c.0;
      none_apart = d.0;
      none_unreceived = e.0;
      none_cuts = f.0;
      none_told = g.0;
      none_skipped = g.1;
    }

-- at a topic and a cluster
at_both : (s : Setup) (f : ℕ → ℕ → List Finding) (t x : ℕ) → by_topic_and_cluster s f ≡ [] → t < length s.topics → x < length s.clusters → f t x ≡ []
at_both s f t x h topic cluster = cluster_none s (f t) x (topic_none s (λ (u : ℕ). by_cluster s (f u)) t h topic) cluster

both_at : (s : Setup) (f : ℕ → ℕ → List Finding) → ((t x : ℕ) → t < length s.topics → x < length s.clusters → f t x ≡ []) → by_topic_and_cluster s f ≡ []
both_at s f h = topics_none s (λ (u : ℕ). by_cluster s (f u)) (λ t topic. clusters_none s (f t) (λ x cluster. h t x topic cluster))

pub silent_safe : (s : Setup) (o : Observation) → findings_of s o ≡ [] → IsObservedSafe s o
silent_safe s o h =
    record {
      once = once;
      brought = λ t x y topic here there differ read_x read_y.
          brought_none s o t x y (other_none s x (brought s o t x) y (at_both s (λ (u z : ℕ). by_other s z (brought s o u z)) t x all.none_brought topic here) there differ) read_x read_y
          (once t y topic there);
      alike = λ t y x z topic unread lt there differ_x differ_z not_read read_x read_z.
          apart_none s o t y x z (of_pair t y x z topic unread (before x z lt there) there) lt differ_x differ_z not_read read_x read_z;
      received = λ t x y topic here there differ read_x read_y.
          unreceived_none s o t x y (other_none s x (unreceived s o t x) y (at_both s (λ (u z : ℕ). by_other s z (unreceived s o u z)) t x all.none_unreceived topic here) there differ)
          read_x read_y;
      stored = λ t k g p topic at. lost_none s o t k g p (topic_none s (lost s o) t all.none_lost topic) at;
      cuts = λ t x i e id local remote topic cluster at own is. cuts_none s o t x i e id local remote (at_both s (cuts s o) t x all.none_cuts topic cluster) at own is;
      told = λ t x i e n remote topic cluster at is. told_none s o t x i e n remote (at_both s (told s o) t x all.none_told topic cluster) at is;
      only = λ t x k i v e topic cluster sub inside at. skipped_none s o t x k i v e (at_both s (skipped s o) t x all.none_skipped topic cluster) sub inside at;
    }
  where
    all : AllNone s o
    all = parts s o h

    once : (t x : ℕ) → t < length s.topics → x < length s.clusters → OnceIn (entries_seen s o t x)
    once t x topic cluster = twice_none s o t x (at_both s (twice s o) t x all.none_twice topic cluster)

    before : (x z : ℕ) → x < z → z < length s.clusters → x < length s.clusters
    before x z lt there = omega (arith, lt, there)

    of_pair : (t y x z : ℕ) → t < length s.topics → y < length s.clusters → x < length s.clusters → z < length s.clusters → apart s o t y x z ≡ []
    of_pair t y x z topic unread here there =
        cluster_none s (apart s o t y x) z
        (cluster_none s (λ (v : ℕ). by_cluster s (apart s o t y v)) x
        (at_both s (λ (u w : ℕ). by_cluster s (λ (v : ℕ). by_cluster s (apart s o u w v))) t y all.none_apart topic unread) here) there

pub safe_silent : (s : Setup) (o : Observation) → IsObservedSafe s o → findings_of s o ≡ []
unfolding findings_of
safe_silent s o safe =
    empty_both (all_lost s o) _ (topics_none s (lost s o) (λ t topic. none_lost s o t (λ k g p at. safe.stored t k g p topic at)))
    (empty_both (all_twice s o) _ (both_at s (twice s o) (λ t x topic cluster. none_twice s o t x (safe.once t x topic cluster)))
    (empty_both (all_brought s o) _
    (both_at s (λ (u z : ℕ). by_other s z (brought s o u z)) (λ t x topic here. others_none s x (brought s o t x)
    (λ y there differ. none_brought s o t x y (λ read_x read_y. safe.brought t x y topic here there differ read_x read_y) (safe.once t y topic there))))
    (empty_both (all_apart s o) _
    (both_at s (λ (u w : ℕ). by_cluster s (λ (v : ℕ). by_cluster s (apart s o u w v))) (λ t y topic unread.
    clusters_none s (λ (v : ℕ). by_cluster s (apart s o t y v)) (λ x here. clusters_none s (apart s o t y x) (λ z there.
    none_apart s o t y x z (λ lt differ_x differ_z not_read read_x read_z. safe.alike t y x z topic unread lt there differ_x differ_z not_read read_x read_z)))))
    (empty_both (all_unreceived s o) _
    (both_at s (λ (u z : ℕ). by_other s z (unreceived s o u z)) (λ t x topic here. others_none s x (unreceived s o t x)
    (λ y there differ. none_unreceived s o t x y (λ read_x read_y. safe.received t x y topic here there differ read_x read_y))))
    (empty_both (all_cuts s o) _
    (both_at s (cuts s o) (λ t x topic cluster. none_cuts s o t x (λ i e id local remote at own is. safe.cuts t x i e id local remote topic cluster at own is)))
    (empty_both (all_told s o) (all_skipped s o)
    (both_at s (told s o) (λ t x topic cluster. none_told s o t x (λ i e n remote at is. safe.told t x i e n remote topic cluster at is)))
    (both_at s (skipped s o) (λ t x topic cluster. none_skipped s o t x (λ k i v e sub inside at. safe.only t x k i v e topic cluster sub inside at)))))))))

pub observed_safe_law : LawObservedSafe
observed_safe_law = record { safe = silent_safe; silent = safe_silent }
