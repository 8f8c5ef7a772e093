-- A summary does not show the links, and so it is that of the machine's world.
use Rattle.std.proofs.Common.{◌≡◌, ℕ, ◌+◌, ◌<◌, List, [], ◌∷◌, ◌++◌, length, drop, get_or, refl, sym, ap, ◌∙◌, append_assoc}
use Rattle.std.specs.Prelude.{codes, decimal}
use Rattle.geo_base.specs.Report.{head_line, with_line_feeds}
use Rattle.geo_base.specs.Run.{run}
use Rattle.geo_base.specs.Setup.{Setup}
use Rattle.geo_base.specs.World.{World, node, topic_at}
use Rattle.world.specs.World.{IsAt, WorldView, node_at}
use Rattle.broker.specs.Node.{BrokerView}
use Rattle.report_lines.proofs.Added.{line_added}
use Rattle.report_lines.proofs.Parts.{with_line_feeds-append}
use Rattle.script_generator.specs.Generated.{generated_run}
use Rattle.script_text.specs.Script.{Script}
use Rattle.run_report.specs.Finished.{IsFinished}
use Rattle.run_report.specs.Shown.{shown_world}
use Rattle.run_report.proofs.Lines.{broker_there, here}
use Rattle.run_report.proofs.Shown.{shown_is, unlinked}
use Rattle.geo_top.specs.Outputs.{summary_of}
use Rattle.geo_top.specs.Summary.{big_line, stored_line, stored_lines, summary, summary_lines}

same_stored : (s : Setup) (w : World) (x : ℕ) (ns : List (List ℕ)) → stored_lines s (unlinked w) x ns ≡ stored_lines s w x ns
same_stored s w x [] = refl
same_stored s w x (n ∷ ns) = ap (λ (ls : List (List ℕ)). stored_line n (topic_at s w 0 x).entries ∷ ls) (same_stored s w (x + 1) ns)

same_summary : (number : ℕ) (s : Setup) (w : World) → summary number s (unlinked w) ≡ summary number s w
unfolding summary_lines
same_summary number s w =
    ap (λ (ls : List (List ℕ)). with_line_feeds (big_line number ∷ ls ++ (codes "quiet" ∷ head_line w ∷ []))) (same_stored s w 0 s.clusters)

summed_up : (number : ℕ) (n : Script) (b : WorldView) (bytes : List ℕ) → IsFinished n b → bytes ≡ summary number n.setup (shown_world b)
    → bytes ≡ summary number n.setup (run n.setup n.steps)
summed_up number n b bytes f is =
    let w = run n.setup n.steps in is ∙ (ap (summary number n.setup) (shown_is n.setup b w f.stands) ∙ same_summary number n.setup w)

pub shown_summary : (number : ℕ) (n : Script) (b : WorldView) (bytes : List ℕ) → n ≡ generated_run number → IsFinished n b
    → bytes ≡ summary number n.setup (shown_world b) → bytes ≡ summary_of number
shown_summary number n b bytes generated f is =
    summed_up number n b bytes f is ∙ ap (λ (m : Script). summary number m.setup (run m.setup m.steps)) generated

-- ---- what each part of a summary leaves of the whole

-- the messages that the one topic stored at a cluster
pub stored_added : (s : Setup) (b : WorldView) (at : IsAt s b) (x : ℕ) (topic : 0 < length s.topics) (cluster : x < length s.clusters)
    → (n : List ℕ) (v : BrokerView) (old new whole : List ℕ) → n ≡ get_or s.clusters x n → v ≡ node_at b.brokers (node s 0 x)
    → new ≡ old ++ (stored_line n v.broker.entries ++ 10 ∷ [])
    → old ++ with_line_feeds (stored_lines s (shown_world b) x (drop x s.clusters)) ≡ whole
    → new ++ with_line_feeds (stored_lines s (shown_world b) (x + 1) (drop (x + 1) s.clusters)) ≡ whole
stored_added s b at x topic cluster n v old new whole read is added before =
    let stored : v.broker ≡ topic_at s (shown_world b) 0 x = ap (λ (u : BrokerView). u.broker) is ∙ broker_there s b at 0 x topic cluster in
    line_added old new (stored_line n v.broker.entries) whole (stored_lines s (shown_world b) (x + 1) (drop (x + 1) s.clusters)) added
    (rw (← stored) at (rw (here s.clusters x n cluster read) at before))

pub big_whole : (number : ℕ) → codes "big " ++ (decimal number ++ codes " clusters 3 messages 2000\n") ≡ big_line number ++ 10 ∷ []
big_whole number = simp append_assoc

put : (big stored quiet head : List ℕ) → ((((big ++ 10 ∷ []) ++ stored) ++ (quiet ++ 10 ∷ [])) ++ (head ++ 10 ∷ []))
    ≡ big ++ (10 ∷ (stored ++ (quiet ++ (10 ∷ (head ++ (10 ∷ []))))))
put big stored quiet head = simp append_assoc

pub summary_whole : (number : ℕ) (s : Setup) (w : World) (one two three four : List ℕ) → one ≡ big_line number ++ 10 ∷ []
    → two ≡ one ++ with_line_feeds (stored_lines s w 0 s.clusters) → three ≡ two ++ codes "quiet\n" → four ≡ three ++ (head_line w ++ 10 ∷ [])
    → four ≡ summary number s w
unfolding summary_lines
summary_whole number s w one two three four first stored quiet head =
    let lines = stored_lines s w 0 s.clusters in
    let last : List (List ℕ) = codes "quiet" ∷ head_line w ∷ [] in
    rw (head, quiet, stored, first) (put (big_line number) (with_line_feeds lines) (codes "quiet") (head_line w)
    ∙ ap (λ (rest : List ℕ). big_line number ++ (10 ∷ rest)) (sym (with_line_feeds-append lines last)))
