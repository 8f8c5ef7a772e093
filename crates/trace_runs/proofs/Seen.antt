-- The snapshot that an update tells, and what is known of snapshots from write to write.
use Rattle.std.proofs.Common.{◌≡◌, ℕ, ◌==◌, Bool, false, List, length, refl, ap, subst, ◌∙◌, arith}
use Rattle.std.proofs.lemmas.Bool.Decides.{nat_tests}
use Rattle.std.specs.Prelude.{None, if◌then◌else◌}
use Rattle.geo_base.specs.declared.entry.Content.{Content}
use Rattle.geo_base.specs.declared.entry.Content.TheVariants as content
use Rattle.geo_base.specs.declared.entry.Entry.{Entry}
use Rattle.geo_base.specs.declared.marker.Marker.TheVariants as marker
use Rattle.geo_base.specs.Broker.{Broker, Site}
use Rattle.geo_base.specs.Traced.{least_snapshot, snapshot_position, snapshot_told, snapshots_from}
use Rattle.broker.specs.Node.{BrokerView}
use Rattle.trace_runs.specs.SnapshotTables.{Snapshots, TellsBeginning, table_at}
use Rattle.trace_runs.specs.Told.{told_by}
use Rattle.trace_runs.specs.Snapshots.{HaveSeen, Knows, number_of}

pub told_is : (h : Site) (b : Broker) (e : Entry) (n : ℕ) → n ≡ length h.clusters → e.ident.origin ≡ h.own
    → told_by e.ident.origin n b.ledgers b.entries e e.content ≡ snapshot_told h b e e.content
told_is h b e n is own = ap (λ (x : ℕ). told_by x n b.ledgers b.entries e e.content) own ∙ (ap (λ (m : ℕ). told_by h.own m b.ledgers b.entries e e.content) is ∙ by e.content)
  where
    by : (c : Content) → told_by h.own (length h.clusters) b.ledgers b.entries e c ≡ snapshot_told h b e c
    by content.Data = refl
    by (content.Marked (marker.Request id source)) = refl
    by (content.Marked (marker.Response id answer)) = refl
    by (content.Marked (marker.Snapshot id local remote)) = refl
    by (content.Marked (marker.Update n remote)) = refl
    by (content.Unread k) = refl

pub told_none : (h : Site) (b : Broker) (e : Entry) → (e.ident.origin ≡ h.own → ⊥) → snapshot_told h b e e.content ≡ None
told_none h b e other = by e.content
  where
    differs : (e.ident.origin == h.own) ≡ false
    differs = grind (arith, nat_tests, other)

    by : (c : Content) → snapshot_told h b e c ≡ None
    by content.Data = refl
    by (content.Marked (marker.Request id source)) = refl
    by (content.Marked (marker.Response id answer)) = refl
    by (content.Marked (marker.Snapshot id local remote)) = refl
    by (content.Marked (marker.Update n remote)) =
        ap (λ (x : Bool). if x then snapshot_position b.ledgers (least_snapshot (snapshots_from h.own (length h.clusters) remote 0 b.entries)) else None) differs
    by (content.Unread k) = refl

-- ---- from write to write

pub seen_same : (v : BrokerView) (ts : List Snapshots) → Knows v ts → HaveSeen v ts ts
seen_same v ts known = record { known = known; others = λ k other. refl }

pub seen_both : (v : BrokerView) (old mid new : List Snapshots) → HaveSeen v old mid → HaveSeen v mid new → HaveSeen v old new
seen_both v old mid new one two = record { known = two.known; others = λ k other. two.others k other ∙ one.others k other }

-- ---- the broker's parts as they are read

pub knows_by : (v : BrokerView) (ts : List Snapshots) (n k : ℕ) (es : List Entry) → n ≡ length v.site.clusters → k ≡ number_of v → es ≡ v.broker.entries → Knows v ts
    → TellsBeginning n (table_at ts k) es
knows_by v ts n k es clusters number entries known = rw (clusters, number, entries) known

pub seen_by : (v : BrokerView) (old new : List Snapshots) (n k : ℕ) (es : List Entry) → n ≡ length v.site.clusters → k ≡ number_of v → es ≡ v.broker.entries
    → TellsBeginning n (table_at new k) es → ((j : ℕ) → (j ≡ k → ⊥) → table_at new j ≡ table_at old j) → HaveSeen v old new
seen_by v old new n k es clusters number entries known others = record {
  known =
      subst (λ (m : ℕ). TellsBeginning m (table_at new (number_of v)) v.broker.entries) clusters
      (subst (λ (j : ℕ). TellsBeginning n (table_at new j) v.broker.entries) number (subst (λ (fs : List Entry). TellsBeginning n (table_at new k) fs) entries known));
  others = λ j other. others j (λ is. other (is ∙ number));
}
