-- A report does not show the links, and so it is that of the machine's world.
use Rattle.std.proofs.Common.{◌≡◌, ℕ, ◌+◌, List, [], ◌∷◌, ◌++◌, refl, ap, ◌∙◌}
use Rattle.std.specs.Prelude.{◌==◌, if◌then◌else◌, map, codes}
use Rattle.geo_base.specs.declared.event.Step.{Step}
use Rattle.geo_base.specs.Report.{broker_lines, client_line, client_lines, cluster_lines, got_line, head_line, report, report_lines, topic_lines, with_line_feeds, words}
use Rattle.geo_base.specs.Run.{run}
use Rattle.geo_base.specs.Setup.{Declared, Setup}
use Rattle.geo_base.specs.World.{World, client_at, topic_at}
use Rattle.world.specs.World.{WorldView, kept_of}
use Rattle.script_text.specs.Script.{Script}
use Rattle.kept_laws.specs.Standing.{Stands}
use Rattle.state_file.specs.State.{SavedState}
use Rattle.run_report.specs.Finished.{IsFinished, IsResumed}
use Rattle.run_report.specs.Reports.{report_of, resumed_report}
use Rattle.run_report.specs.States.{resumed}
use Rattle.run_report.specs.Shown.{no_links, shown_world}

abbrev pub unlinked : World → World
unlinked w = record w { links = no_links }

pub shown_is : (s : Setup) (b : WorldView) (w : World) → Stands s (kept_of b) w → shown_world b ≡ unlinked w
shown_is s b w h = cc (h.brokers, h.clients, h.broker_clocks, h.client_clocks, h.events, h.idle, h.rounds, h.frame_bytes)

same_clusters : (s : Setup) (w : World) (t : ℕ) (topic : List ℕ) (x : ℕ) (ns : List (List ℕ)) → cluster_lines s (unlinked w) t topic x ns ≡ cluster_lines s w t topic x ns
same_clusters s w t topic x [] = refl
same_clusters s w t topic x (n ∷ ns) =
    ap (λ (ls : List (List ℕ)). words (codes "topic" ∷ topic ∷ codes "at" ∷ n ∷ []) ∷ broker_lines s.clusters x (topic_at s w t x) ++ ls)
    (same_clusters s w t topic (x + 1) ns)

same_clients : (s : Setup) (w : World) (t c : ℕ) (ds : List Declared) → client_lines s (unlinked w) t c ds ≡ client_lines s w t c ds
same_clients s w t c [] = refl
same_clients s w t c (d ∷ ds) =
    ap (λ (ls : List (List ℕ)). (if d.topic == t then client_line s d (client_at s w c) ∷ map (got_line s.clusters) (client_at s w c).got else []) ++ ls)
    (same_clients s w t (c + 1) ds)

same_topics : (s : Setup) (w : World) (t : ℕ) (ns : List (List ℕ)) → topic_lines s (unlinked w) t ns ≡ topic_lines s w t ns
same_topics s w t [] = refl
same_topics s w t (n ∷ ns) =
    let clusters : cluster_lines s (unlinked w) t n 0 s.clusters ≡ cluster_lines s w t n 0 s.clusters = same_clusters s w t n 0 s.clusters in
    let clients : client_lines s (unlinked w) t 0 s.clients ≡ client_lines s w t 0 s.clients = same_clients s w t 0 s.clients in
    let rest : topic_lines s (unlinked w) (t + 1) ns ≡ topic_lines s w (t + 1) ns = same_topics s w (t + 1) ns in
    cc (clusters, clients, rest)

same_report : (s : Setup) (w : World) → report s (unlinked w) ≡ report s w
unfolding report_lines
same_report s w = ap (λ (ls : List (List ℕ)). with_line_feeds (head_line w ∷ ls)) (same_topics s w 0 s.topics)

-- the report that is shown of a world is that of the machine's
pub shown_same : (s : Setup) (b : WorldView) (w : World) → Stands s (kept_of b) w → report s (shown_world b) ≡ report s w
shown_same s b w h = ap (report s) (shown_is s b w h) ∙ same_report s w

pub shown_report : (n : Script) (b : WorldView) (bytes : List ℕ) → IsFinished n b → bytes ≡ report n.setup (shown_world b) → bytes ≡ report_of n
shown_report n b bytes f is =
    let w = run n.setup n.steps in is ∙ (ap (report n.setup) (shown_is n.setup b w f.stands) ∙ same_report n.setup w)

pub shown_resumed : (f : SavedState) (es : List Step) (b : WorldView) (bytes : List ℕ) → IsResumed f es b → bytes ≡ report f.scenario.setup (shown_world b) → bytes ≡ resumed_report f es
shown_resumed f es b bytes r is =
    let s = f.scenario.setup in
    let w = resumed f es in is ∙ (ap (report s) (shown_is s b w r.stands) ∙ same_report s w)
