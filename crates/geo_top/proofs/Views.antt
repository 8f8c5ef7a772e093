-- What the view of each topic leaves of all views, and that these do not show the links.
use Rattle.std.proofs.Common.{◌≡◌, ℕ, ◌+◌, ◌<◌, List, [], ◌∷◌, ◌++◌, length, drop, get_or, refl, sym, ap, subst, ◌∙◌}
use Rattle.std.specs.Prelude.{IfOk, Result, min, slice_index_or}
use Rattle.std.proofs.lemmas.List.{drop_more}
use Rattle.geo_base.specs.declared.entry.Entry.{Entry}
use Rattle.geo_base.specs.Broker.{Broker}
use Rattle.geo_base.specs.Report.{with_line_feeds}
use Rattle.geo_base.specs.Run.{run}
use Rattle.geo_base.specs.Setup.{Setup}
use Rattle.geo_base.specs.World.{World, node, topic_at}
use Rattle.broker.specs.Node.{BrokerView}
use Rattle.report_lines.proofs.Added.{line_added}
use Rattle.report_lines.proofs.Parts.{lines_added}
use Rattle.report_lines.specs.Views.{horizon_line, view_lines, view_messages}
use Rattle.script_text.specs.Script.{Script}
use Rattle.world.specs.World.{IsAt, WorldView, node_at}
use Rattle.geo_top.specs.Compacted.{compacted, views_at, views_of}
use Rattle.geo_top.specs.declared.top.command.Shown.{Shown}
use Rattle.run_report.specs.Finished.{IsFinished}
use Rattle.geo_top.specs.Outputs.{output_of}
use Rattle.run_report.specs.Shown.{shown_world}
use Rattle.run_report.proofs.Lines.{broker_there, here}
use Rattle.run_report.proofs.Shown.{shown_is, unlinked}

-- ---- the views of a topic at each cluster, and those of all topics

-- the view of a broker, whose entries and ledgers were read
view_there : (names : List (List ℕ)) (topic n : List ℕ) (horizon : ℕ) (v b : Broker) (ledgers : List ℕ) (es : List Entry) → v ≡ b → ledgers ≡ v.ledgers → es ≡ v.entries
    → view_lines names topic n horizon b.ledgers b.entries ≡ horizon_line topic n (min horizon (length es)) ∷ view_messages names horizon ledgers es
view_there names topic n horizon v b ledgers es there lengths entries =
    sym (ap (λ (c : Broker). view_lines names topic n horizon c.ledgers c.entries) there)
    ∙ (ap (λ (ls : List ℕ). view_lines names topic n horizon ls v.entries) (sym lengths)
    ∙ ap (λ (xs : List Entry). view_lines names topic n horizon ledgers xs) (sym entries))

-- the line before a view, of which each part was made apart
pub first_line : (name n topic cluster line old mid : List ℕ) (kept horizon len : ℕ) (es : List Entry) → mid ≡ old ++ line → line ≡ horizon_line topic cluster kept ++ 10 ∷ []
    → topic ≡ name → cluster ≡ n → kept ≡ min horizon len → len ≡ length es → mid ≡ old ++ (horizon_line name n (min horizon (length es)) ++ 10 ∷ [])
first_line name n topic cluster line old mid kept horizon len es added is named at least counted =
    added ∙ ap (λ (l : List ℕ). old ++ l) (is ∙ ap (λ (l : List ℕ). l ++ 10 ∷ []) parts)
  where
    parts : horizon_line topic cluster kept ≡ horizon_line name n (min horizon (length es))
    parts =
        ap (λ (t : List ℕ). horizon_line t cluster kept) named
        ∙ (ap (λ (c : List ℕ). horizon_line name c kept) at ∙ ap (horizon_line name n) (least ∙ ap (min horizon) counted))

-- the name at an index, which stands in the list
pub name_at : (xs : List (List ℕ)) (i : ℕ) (x : List ℕ) → i < length xs → x ≡ get_or xs i x → x ≡ slice_index_or xs i []
name_at xs i x within read = read ∙ same
  where
    same : get_or xs i x ≡ slice_index_or xs i []
    same = cc (drop_more xs i x within, drop_more xs i [] within)

pub view_added : (s : Setup) (b : WorldView) (at : IsAt s b) (t x : ℕ) (topic : t < length s.topics) (cluster : x < length s.clusters)
    → (horizon : ℕ) (name n : List ℕ) (v : BrokerView) (es : List Entry) (ledgers : List ℕ) (old mid new whole : List ℕ) → n ≡ get_or s.clusters x n → v ≡ node_at b.brokers (node s t x)
    → es ≡ v.broker.entries → ledgers ≡ v.broker.ledgers
    → mid ≡ old ++ (horizon_line name n (min horizon (length es)) ++ 10 ∷ [])
    → new ≡ mid ++ with_line_feeds (view_messages s.clusters horizon ledgers es)
    → old ++ with_line_feeds (views_at s (shown_world b) horizon t name x (drop x s.clusters)) ≡ whole
    → new ++ with_line_feeds (views_at s (shown_world b) horizon t name (x + 1) (drop (x + 1) s.clusters)) ≡ whole
view_added s b at t x topic cluster horizon name n v es ledgers old mid new whole read is entries ledgers_are first then_view before =
    let rest = views_at s (shown_world b) horizon t name (x + 1) (drop (x + 1) s.clusters) in
    let there : v.broker ≡ topic_at s (shown_world b) t x = ap (λ (u : BrokerView). u.broker) is ∙ broker_there s b at t x topic cluster in
    let shown = view_messages s.clusters horizon ledgers es in
    let same : view_lines s.clusters name n horizon (topic_at s (shown_world b) t x).ledgers (topic_at s (shown_world b) t x).entries ≡ horizon_line name n (min horizon (length es)) ∷ shown =
    view_there s.clusters name n horizon v.broker (topic_at s (shown_world b) t x) ledgers es there ledgers_are entries in
    lines_added mid new whole shown rest then_view
    (line_added old mid (horizon_line name n (min horizon (length es))) whole (shown ++ rest) first
    (subst (λ (ls : List (List ℕ)). old ++ with_line_feeds (ls ++ rest) ≡ whole) same
    (subst (λ (ns : List (List ℕ)). old ++ with_line_feeds (views_at s (shown_world b) horizon t name x ns) ≡ whole) (here s.clusters x n cluster read) before)))

pub topic_viewed : (s : Setup) (w : World) (horizon i : ℕ) (old new whole : List ℕ) → i < length s.topics
    → new ≡ old ++ with_line_feeds (views_at s w horizon i (slice_index_or s.topics i []) 0 s.clusters)
    → old ++ with_line_feeds (views_of s w horizon i (drop i s.topics)) ≡ whole
    → new ++ with_line_feeds (views_of s w horizon (i + 1) (drop (i + 1) s.topics)) ≡ whole
topic_viewed s w horizon i old new whole within added before =
    lines_added old new whole (views_at s w horizon i (slice_index_or s.topics i []) 0 s.clusters) (views_of s w horizon (i + 1) (drop (i + 1) s.topics)) added
    (subst (λ (ns : List (List ℕ)). old ++ with_line_feeds (views_of s w horizon i ns) ≡ whole) (drop_more s.topics i [] within) before)

-- ---- they do not show the links, and so they are those of the machine's world

same_at : (s : Setup) (w : World) (horizon t : ℕ) (name : List ℕ) (x : ℕ) (ns : List (List ℕ)) → views_at s (unlinked w) horizon t name x ns ≡ views_at s w horizon t name x ns
same_at s w horizon t name x [] = refl
same_at s w horizon t name x (n ∷ ns) =
    ap (λ (ls : List (List ℕ)). view_lines s.clusters name n horizon (topic_at s w t x).ledgers (topic_at s w t x).entries ++ ls) (same_at s w horizon t name (x + 1) ns)

same_views : (s : Setup) (w : World) (horizon t : ℕ) (ns : List (List ℕ)) → views_of s (unlinked w) horizon t ns ≡ views_of s w horizon t ns
same_views s w horizon t [] = refl
same_views s w horizon t (n ∷ ns) =
    let first : views_at s (unlinked w) horizon t n 0 s.clusters ≡ views_at s w horizon t n 0 s.clusters = same_at s w horizon t n 0 s.clusters in
    let rest : views_of s (unlinked w) horizon (t + 1) ns ≡ views_of s w horizon (t + 1) ns = same_views s w horizon (t + 1) ns in
    cc (first, rest)

pub shown_compacted : (horizon : ℕ) (n : Script) (b : WorldView) (bytes : List ℕ) → IsFinished n b → bytes ≡ compacted horizon n.setup (shown_world b)
    → bytes ≡ compacted horizon n.setup (run n.setup n.steps)
shown_compacted horizon n b bytes f is =
    let w = run n.setup n.steps in
    is ∙ (ap (compacted horizon n.setup) (shown_is n.setup b w f.stands) ∙ ap with_line_feeds (same_views n.setup w horizon 0 n.setup.topics))

-- ---- what a command shows

pub as_shown : {E : Type 0} (v w : Shown) (n : Script) (r : Result (List ℕ) E) → v ≡ w → IfOk r (λ bytes. bytes ≡ output_of w n) → IfOk r (λ bytes. bytes ≡ output_of v n)
as_shown v w n r is made = subst (λ (u : Shown). IfOk r (λ bytes. bytes ≡ output_of u n)) (sym is) made
