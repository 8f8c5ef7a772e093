-- What the topics whose ledgers moved leave of all of them, and that these lines do not show the links.
use Rattle.std.proofs.Common.{◌≡◌, ℕ, ◌+◌, ◌<◌, List, [], ◌∷◌, ◌++◌, length, drop, get_or, refl, sym, ap, subst, ◌∙◌}
use Rattle.std.specs.Prelude.{slice_index_or}
use Rattle.std.proofs.lemmas.List.{drop_more}
use Rattle.geo_base.specs.declared.entry.Entry.{Entry}
use Rattle.geo_base.specs.Broker.{Broker, Site}
use Rattle.geo_base.specs.Report.{entry_lines, with_line_feeds}
use Rattle.geo_base.specs.Run.{all_limits, run}
use Rattle.geo_base.specs.Setup.{Setup}
use Rattle.geo_base.specs.World.{World, node, topic_at}
use Rattle.broker.specs.Node.{BrokerView}
use Rattle.file_laws.proofs.Ledgers.{readable_law, readable_tellable}
use Rattle.tiered_storage.specs.Readable.{AreTellable}
use Rattle.report_lines.proofs.Added.{line_added}
use Rattle.report_lines.proofs.Parts.{lines_added}
use Rattle.report_lines.specs.Tiers.{moved_ledgers, moved_line, tier_lines}
use Rattle.script_text.specs.Scenario.{IsScenario}
use Rattle.script_text.specs.Script.{Script}
use Rattle.world.specs.World.{IsAt, WorldView, node_at}
use Rattle.run_report.specs.Finished.{IsFinished}
use Rattle.run_report.specs.Shown.{shown_world}
use Rattle.geo_top.specs.Tiered.{AreTopicsTellable, tiered, tiers_at, tiers_of}
use Rattle.run_report.proofs.Limits.{unlimited}
use Rattle.run_report.proofs.Lines.{broker_there, here}
use Rattle.run_report.proofs.Shown.{shown_is, unlinked}

-- ---- what a run stores can move

pub finished_tellable : (n : Script) (b : WorldView) → IsScenario n → IsFinished n b → AreTopicsTellable n.setup (shown_world b)
finished_tellable n b scenario f t x topic cluster =
    subst (λ (w : World). AreTellable n.setup.clusters x (topic_at n.setup w t x).entries)
    (sym (shown_is n.setup b (run n.setup n.steps) f.stands ∙ ap unlinked (sym (unlimited all_limits n.setup n.steps f.unlimited))))
    (readable_tellable n.setup.clusters x _ (readable_law n scenario n.steps t x topic cluster))

-- ---- a topic at each cluster, and all topics

module _ (s : Setup) (b : WorldView) (at : IsAt s b) (t x : ℕ) (topic : t < length s.topics) (cluster : x < length s.clusters) where
  abbrev there : Broker
  there = topic_at s (shown_world b) t x

  -- the store of a broker has what the broker is shown with
  pub entries_there : (v : BrokerView) (es : List Entry) → v ≡ node_at b.brokers (node s t x) → es ≡ v.broker.entries → es ≡ there.entries
  entries_there v es is stored = stored ∙ ap (λ (c : Broker). c.entries) (ap (λ (u : BrokerView). u.broker) is ∙ broker_there s b at t x topic cluster)

  ledgers_there : (v : BrokerView) (ls : List ℕ) → v ≡ node_at b.brokers (node s t x) → ls ≡ v.broker.ledgers → ls ≡ there.ledgers
  ledgers_there v ls is stored = stored ∙ ap (λ (c : Broker). c.ledgers) (ap (λ (u : BrokerView). u.broker) is ∙ broker_there s b at t x topic cluster)

  per_there : (v : BrokerView) (per : ℕ) → v ≡ node_at b.brokers (node s t x) → per ≡ v.site.per_ledger → per ≡ s.per_ledger
  per_there v per is stored = stored ∙ ap (λ (h : Site). h.per_ledger) (ap (λ (u : BrokerView). u.site) is ∙ (at.brokers.each t x topic cluster).site)

  pub tier_added : (keep moved per : ℕ) (name n : List ℕ) (v : BrokerView) (es : List Entry) (ledgers : List ℕ) (old mid new whole : List ℕ) → n ≡ get_or s.clusters x n → v ≡ node_at b.brokers (node s t x)
      → es ≡ v.broker.entries → ledgers ≡ v.broker.ledgers → per ≡ v.site.per_ledger → moved ≡ moved_ledgers per keep ledgers
      → mid ≡ old ++ (moved_line name n moved ++ 10 ∷ [])
      → new ≡ mid ++ with_line_feeds (entry_lines s.clusters ledgers 0 es)
      → old ++ with_line_feeds (tiers_at s (shown_world b) keep t name x (drop x s.clusters)) ≡ whole
      → new ++ with_line_feeds (tiers_at s (shown_world b) keep t name (x + 1) (drop (x + 1) s.clusters)) ≡ whole
  tier_added keep moved per name n v es ledgers old mid new whole read is entries ledgers_are per_is count first then_entries before =
      let rest = tiers_at s (shown_world b) keep t name (x + 1) (drop (x + 1) s.clusters) in
      let shown = entry_lines s.clusters ledgers 0 es in
      let same : tier_lines s.clusters name n s.per_ledger keep there.ledgers there.entries ≡ moved_line name n moved ∷ shown =
      sym (ap (λ (k : ℕ). moved_line name n k ∷ shown) count
      ∙ (ap (λ (p : ℕ). tier_lines s.clusters name n p keep ledgers es) (per_there v per is per_is)
      ∙ (ap (λ (ls : List ℕ). tier_lines s.clusters name n s.per_ledger keep ls es) (ledgers_there v ledgers is ledgers_are)
      ∙ ap (tier_lines s.clusters name n s.per_ledger keep there.ledgers) (entries_there v es is entries)))) in
      lines_added mid new whole shown rest then_entries
      (line_added old mid (moved_line name n moved) whole (shown ++ rest) first
      (subst (λ (ls : List (List ℕ)). old ++ with_line_feeds (ls ++ rest) ≡ whole) same
      (subst (λ (ns : List (List ℕ)). old ++ with_line_feeds (tiers_at s (shown_world b) keep t name x ns) ≡ whole) (here s.clusters x n cluster read) before)))

-- the line before the entries, of which each part was made apart
pub moved_first : (name n topic cluster line old mid : List ℕ) (moved : ℕ) → mid ≡ old ++ line → line ≡ moved_line topic cluster moved ++ 10 ∷ []
    → topic ≡ name → cluster ≡ n → mid ≡ old ++ (moved_line name n moved ++ 10 ∷ [])
moved_first name n topic cluster line old mid moved added is named at =
    added ∙ ap (λ (l : List ℕ). old ++ l) (is ∙ (ap (λ (t : List ℕ). moved_line t cluster moved ++ 10 ∷ []) named ∙ ap (λ (c : List ℕ). moved_line name c moved ++ 10 ∷ []) at))

pub topic_tiered : (s : Setup) (w : World) (keep i : ℕ) (old new whole : List ℕ) → i < length s.topics
    → new ≡ old ++ with_line_feeds (tiers_at s w keep i (slice_index_or s.topics i []) 0 s.clusters)
    → old ++ with_line_feeds (tiers_of s w keep i (drop i s.topics)) ≡ whole
    → new ++ with_line_feeds (tiers_of s w keep (i + 1) (drop (i + 1) s.topics)) ≡ whole
topic_tiered s w keep i old new whole within added before =
    lines_added old new whole (tiers_at s w keep i (slice_index_or s.topics i []) 0 s.clusters) (tiers_of s w keep (i + 1) (drop (i + 1) s.topics)) added
    (subst (λ (ns : List (List ℕ)). old ++ with_line_feeds (tiers_of s w keep i ns) ≡ whole) (drop_more s.topics i [] within) before)

-- ---- they do not show the links, and so they are those of the machine's world

same_at : (s : Setup) (w : World) (keep t : ℕ) (name : List ℕ) (x : ℕ) (ns : List (List ℕ)) → tiers_at s (unlinked w) keep t name x ns ≡ tiers_at s w keep t name x ns
same_at s w keep t name x [] = refl
same_at s w keep t name x (n ∷ ns) =
    ap (λ (ls : List (List ℕ)). tier_lines s.clusters name n s.per_ledger keep (topic_at s w t x).ledgers (topic_at s w t x).entries ++ ls) (same_at s w keep t name (x + 1) ns)

same_tiers : (s : Setup) (w : World) (keep t : ℕ) (ns : List (List ℕ)) → tiers_of s (unlinked w) keep t ns ≡ tiers_of s w keep t ns
same_tiers s w keep t [] = refl
same_tiers s w keep t (n ∷ ns) =
    let first : tiers_at s (unlinked w) keep t n 0 s.clusters ≡ tiers_at s w keep t n 0 s.clusters = same_at s w keep t n 0 s.clusters in
    let rest : tiers_of s (unlinked w) keep (t + 1) ns ≡ tiers_of s w keep (t + 1) ns = same_tiers s w keep (t + 1) ns in
    cc (first, rest)

pub shown_tiered : (keep : ℕ) (n : Script) (b : WorldView) (bytes : List ℕ) → IsFinished n b → bytes ≡ tiered keep n.setup (shown_world b)
    → bytes ≡ tiered keep n.setup (run n.setup n.steps)
shown_tiered keep n b bytes f is =
    let w = run n.setup n.steps in
    is ∙ (ap (tiered keep n.setup) (shown_is n.setup b w f.stands) ∙ ap with_line_feeds (same_tiers n.setup w keep 0 n.setup.topics))
