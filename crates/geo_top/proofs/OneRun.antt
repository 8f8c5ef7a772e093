-- A run that goes on from its state file is one run.
use Rattle.std.proofs.Common.{◌≡◌, ℕ, suc, ◌+◌, ◌<◌, arith, List, [], ◌∷◌, ◌++◌, length, Result, Ok, Err, refl, sym, ap, subst, ◌∙◌}
use Rattle.std.specs.Prelude.{Option, Some, None, true, map, replicate, slice_index_or}
use Rattle.geo_base.specs.declared.change.Change.TheVariants as change
use Rattle.geo_base.specs.declared.event.Step.{Step}
use Rattle.geo_base.specs.declared.event.Step.TheVariants as step
use Rattle.geo_base.specs.Broker.{Broker, changed, no_broker}
use Rattle.geo_base.specs.Laws.{begun}
use Rattle.geo_base.specs.Report.{report}
use Rattle.geo_base.specs.Run.{all_limits, no_limits, run, run_from, run_under}
use Rattle.geo_base.specs.declared.session.Session.{Session}
use Rattle.geo_base.specs.Setup.{Setup}
use Rattle.geo_base.specs.World.{World, opening_world}
use Rattle.geo_base.specs.Worlds.{BrokerPlaces}
use Rattle.kept_laws.specs.Saved.{revived, world_from}
use Rattle.durable_parts.specs.Durable.{durable_part}
use Rattle.script_text.specs.Lines.{lines_of}
use Rattle.script_text.specs.Rules.{script_of}
use Rattle.script_text.specs.Schedule.{followed, schedule_of}
use Rattle.script_text.specs.Script.{Fault, Script}
use Rattle.script_text.proofs.Following.{behind}
use Rattle.loss_laws.proofs.Alike.{same_brokers}
use Rattle.loss_laws.specs.LostLines.{lost_text}
use Rattle.world_laws.specs.AlikeWorlds.{LawResumed, RunsAlike, kept_behind}
use Rattle.world_laws.specs.Reached.{LawReached}
use Rattle.world_laws.specs.Starts.{IsStart, resumed_world}
use Rattle.geo_top.specs.declared.top.answer.Answer.{Answer}
use Rattle.geo_top.specs.declared.top.command.GoingOn.TheVariants as going_on
use Rattle.geo_top.specs.declared.top.command.Shown.TheVariants as shown
use Rattle.geo_top.specs.declared.top.status.Status.TheVariants as status
use Rattle.geo_top.specs.Losing.{cluster_number, lost_of, lost_on}
use Rattle.geo_top.specs.OneRun.{IsGoneOn, IsKept, IsSavedWith, IsTextOn, counted_on, lines_before, text_on}
use Rattle.geo_top.specs.Outputs.{IsAnswerToFile, answer_to, answer_to_resumed, answer_to_run, refused, unless_exceeded}
use Rattle.run_report.specs.Reports.{exceeded_limit, report_of, resumed_limit, resumed_report}
use Rattle.run_report.specs.States.{gone_on, resumed_under, state_of_run, stopped}
use Rattle.run_report.proofs.Limits.{unlimited}
use Rattle.geo_top.proofs.SavedWith.{answer_is}

-- ---- what is kept of a run leads to the world that is kept
constant : {X Y : Type 0} (y : Y) (xs : List X) → map (λ (x : X). y) xs ≡ replicate (length xs) y
constant y [] = refl
constant y (x ∷ xs) = ap (λ (ys : List _). y ∷ ys) (constant y xs)

-- a broker of which a restart forgets nothing
revived_is : (s : Setup) (b : Broker) → BrokerPlaces s b → changed b change.Forget ≡ b → revived s (durable_part b) ≡ b
revived_is s b p rest =
    let receivers : replicate (length s.clusters) None ≡ map (λ (r : Option ℕ). None) b.receivers = ap (λ (k : ℕ). replicate k None) (sym p.receivers) ∙ sym (constant None b.receivers) in
    let sessions : replicate (length s.clients) None ≡ map (λ (r : Option Session). None) b.sessions = ap (λ (k : ℕ). replicate k None) (sym p.sessions) ∙ sym (constant None b.sessions) in
    ap (λ (rs : List (Option ℕ)). record (durable_part b) { receivers = rs; sessions = replicate (length s.clients) None }) receivers ∙ (ap (λ (ss : List (Option Session)). record (durable_part b) { receivers = map (λ (r : Option ℕ). None) b.receivers; sessions = ss }) sessions ∙ rest)

all_revived : (s : Setup) (bs : List Broker) → ((z : ℕ) → z < length bs → revived s (durable_part (slice_index_or bs z no_broker)) ≡ slice_index_or bs z no_broker) → map (revived s) (map durable_part bs) ≡ bs
all_revived s [] each = refl
all_revived s (b ∷ bs) each =
    let first : revived s (durable_part b) ≡ b = each 0 (omega arith) in
    let rest : map (revived s) (map durable_part bs) ≡ bs = all_revived s bs (λ z within. each (suc z) (omega arith)) in
    ap (λ (c : Broker). c ∷ map (revived s) (map durable_part bs)) first ∙ ap (λ (cs : List Broker). b ∷ cs) rest

pub kept_is : (law : LawReached) (n : Script) → IsKept n → world_from (state_of_run n) ≡ kept_behind n.setup n.steps
kept_is law n k =
    let s = n.setup in
    let es = n.steps ++ step.Stop ∷ [] in
    let w = run s es in
    let same : (run_under all_limits s es).world ≡ w = unlimited all_limits s es k.within in
    let start : IsStart s (resumed_world s w) = subst (λ (v : World). IsStart s (resumed_world s v)) same (law.saved s k.scenario.setup n.steps k.within) in
    let brokers = all_revived s w.brokers (λ z within. revived_is s (slice_index_or w.brokers z no_broker) (start.places.each z within) (start.brokers z within).at_rest) in
    ap (λ (bs : List Broker). resumed_world s (record (opening_world s) { brokers = bs; clients = w.clients; events = w.events; idle = w.idle; rounds = w.rounds; frame_bytes = w.frame_bytes })) brokers

-- ---- the same report
pub reports_same : (law : LawResumed) (n : Script) (es : List Step) → world_from (state_of_run n) ≡ kept_behind n.setup n.steps → resumed_report (state_of_run n) es ≡ report n.setup (run n.setup (n.steps ++ step.Stop ∷ es))
reports_same law n es kept =
    let s = n.setup in
    ap (λ (w : World). report s (run_from no_limits s (begun w) es).world) kept ∙ sym (law.reports s (run s (n.steps ++ step.Stop ∷ es)) (run_from no_limits s (begun (kept_behind s n.steps)) es).world (law.script s n.steps es))

-- and the same loss
pub losses_same : (law : LawResumed) (n : Script) (name : List ℕ) (es : List Step) → world_from (state_of_run n) ≡ kept_behind n.setup n.steps
    → lost_on name (state_of_run n) es ≡ lost_of name true (gone_on n es)
losses_same law n name es kept =
    let s = n.setup in
    let x = cluster_number s name in
    ap (λ (w : World). lost_text true s (run_from no_limits s (begun w) es).world x) kept
    ∙ sym (same_brokers true s (run s (n.steps ++ step.Stop ∷ es)) (run_from no_limits s (begun (kept_behind s n.steps)) es).world x (law.script s n.steps es).brokers)

-- and the same limit
pub limits_same : (law : LawResumed) (n : Script) (es : List Step) → IsStart n.setup (opening_world n.setup) → world_from (state_of_run n) ≡ kept_behind n.setup n.steps → exceeded_limit (stopped n) ≡ None → (resumed_under all_limits (state_of_run n) es).ended ≡ (run_under all_limits n.setup (n.steps ++ step.Stop ∷ es)).ended
limits_same law n es start kept none =
    let s = n.setup in
    let there = run_from all_limits s (begun (opening_world s)) (n.steps ++ step.Stop ∷ []) in
    let same : there.world ≡ run s (n.steps ++ step.Stop ∷ []) = unlimited all_limits s (n.steps ++ step.Stop ∷ []) none in
    let alike : RunsAlike (run_from all_limits s (begun (opening_world s)) (n.steps ++ step.Stop ∷ es)) (run_from all_limits s (begun (resumed_world s there.world)) es) = law.goes_on all_limits s law.limits.1 (opening_world s) start n.steps es none in
    ap (λ (w : World). (run_from all_limits s (begun w) es).ended) kept ∙ (ap (λ (w : World). (run_from all_limits s (begun (resumed_world s w)) es).ended) (sym same) ∙ sym alike.ended)

pub answers_same : (law : LawResumed) (n m : Script) (es : List Step) → IsStart n.setup (opening_world n.setup) → world_from (state_of_run n) ≡ kept_behind n.setup n.steps → IsKept n → IsGoneOn n es m → answer_to_resumed (state_of_run n) (Ok es) ≡ answer_to_run shown.Report m (exceeded_limit m)
answers_same law n m es start kept k is =
    let whole : report n.setup (run n.setup (n.steps ++ step.Stop ∷ es)) ≡ report_of m = ap (λ (s : _). report s (run s (n.steps ++ step.Stop ∷ es))) (sym is.0) ∙ ap (λ (fs : List Step). report m.setup (run m.setup fs)) (sym is.1) in
    let limit : (run_under all_limits n.setup (n.steps ++ step.Stop ∷ es)).ended ≡ exceeded_limit m = ap (λ (s : _). (run_under all_limits s (n.steps ++ step.Stop ∷ es)).ended) (sym is.0) ∙ ap (λ (fs : List Step). (run_under all_limits m.setup fs).ended) (sym is.1) in
    ap (λ (bytes : List ℕ). unless_exceeded bytes (resumed_under all_limits (state_of_run n) es).ended) (reports_same law n es kept ∙ whole) ∙ ap (unless_exceeded (report_of m)) (limits_same law n es start kept k.within ∙ limit)

-- ---- the text
accepted_on : (r : Result Script Fault) (n : Script) (at : ℕ) (q : Result (List Step) Fault) (es : List Step) → r ≡ followed n at step.Stop q → q ≡ Ok es → (m : Script) × (r ≡ Ok m) × IsGoneOn n es m
accepted_on r n at (Ok more) es is e =
    let same : more ≡ es = cc in (_, is, (refl, ap (λ (fs : List Step). n.steps ++ step.Stop ∷ fs) same))
accepted_on r n at (Err f) es is e = cc

refused_on : (r : Result Script Fault) (n : Script) (at : ℕ) (q : Result (List Step) Fault) (f : Fault) → r ≡ followed n at step.Stop q → q ≡ Err f → r ≡ Err (record { line = at + f.line; rule = f.rule })
refused_on r n at (Ok more) f is e = cc
refused_on r n at (Err g) f is e =
    let same : g ≡ f = cc in is ∙ ap (λ (h : Fault). Err (record { line = at + h.line; rule = h.rule })) same

pub text_is : (text lines : List ℕ) (n : Script) → IsKept n → script_of (text ++ 10 ∷ []) ≡ Ok n → IsTextOn text lines n
text_is text lines n k is =
    let at = length (lines_of (text ++ 10 ∷ [])) + 1 in
    let follows : script_of (text_on text lines) ≡ followed n at step.Stop (schedule_of n.setup lines) = behind text lines n step.Stop k.scenario is refl in
    record {
      accepted = λ es e. accepted_on (script_of (text_on text lines)) n at (schedule_of n.setup lines) es follows e;
      refused = λ f e. refused_on (script_of (text_on text lines)) n at (schedule_of n.setup lines) f follows e;
    }

-- ---- the file
pub files_same : (law : LawResumed) (text lines input : List ℕ) (n : Script) (es : List Step) (a : Answer) → IsStart n.setup (opening_world n.setup)
    → world_from (state_of_run n) ≡ kept_behind n.setup n.steps → script_of (text ++ 10 ∷ []) ≡ Ok n → IsSavedWith n lines input → schedule_of n.setup lines ≡ Ok es → IsAnswerToFile going_on.Report input a
    → a ≡ answer_to shown.Report (script_of (text_on text lines))
files_same law text lines input n es a start kept is k said answer =
    let on = (text_is text lines n k.kept is).accepted es said in
    let own : a ≡ answer_to_resumed (state_of_run n) (schedule_of n.setup lines) = answer_is n lines input a k answer in
    let goes : answer_to_resumed (state_of_run n) (Ok es) ≡ answer_to_run shown.Report on.0 (exceeded_limit on.0) = answers_same law n on.0 es start kept k.kept on.2 in
    own ∙ (ap (answer_to_resumed (state_of_run n)) said ∙ (goes ∙ sym (ap (answer_to shown.Report) on.1)))

-- an answer that refuses no line is the same after other lines
counted_passed : (before : ℕ) (bytes : List ℕ) (o : Option ℕ) → counted_on before (unless_exceeded bytes o) (unless_exceeded bytes o).status ≡ unless_exceeded bytes o
counted_passed before bytes None = refl
counted_passed before bytes (Some limit) = refl

-- so it is of a line that is refused, by its number there
pub counted_same : (law : LawResumed) (text lines input : List ℕ) (n : Script) (a : Answer) → IsStart n.setup (opening_world n.setup)
    → world_from (state_of_run n) ≡ kept_behind n.setup n.steps → script_of (text ++ 10 ∷ []) ≡ Ok n → IsSavedWith n lines input → IsAnswerToFile going_on.Report input a
    → counted_on (lines_before text) a a.status ≡ answer_to shown.Report (script_of (text_on text lines))
counted_same law text lines input n a start kept is k answer = by (schedule_of n.setup lines) refl
  where
    own : a ≡ answer_to_resumed (state_of_run n) (schedule_of n.setup lines)
    own = answer_is n lines input a k answer

    Counted : Answer → Type 0
    Counted d = counted_on (lines_before text) a a.status ≡ counted_on (lines_before text) d d.status

    as_counted : (d : Answer) → a ≡ d → Counted d
    as_counted d e = ap (λ (d : Answer). counted_on (lines_before text) d d.status) e

    by : (r : Result (List Step) Fault) → schedule_of n.setup lines ≡ r → counted_on (lines_before text) a a.status ≡ answer_to shown.Report (script_of (text_on text lines))
    by (Ok es) said =
        let f = state_of_run n in
        let d = answer_to_resumed f (Ok es) in
        let here : a ≡ d = own ∙ ap (answer_to_resumed f) said in
        as_counted d here ∙ (counted_passed (lines_before text) (resumed_report f es) (resumed_limit f es) ∙ (sym here ∙ files_same law text lines input n es a start kept is k said answer))
    by (Err f) said =
        let d = refused (status.BadScript f.line f.rule) in
        let here : a ≡ d = own ∙ ap (answer_to_resumed (state_of_run n)) said in
        as_counted d here ∙ sym (ap (answer_to shown.Report) ((text_is text lines n k.kept is).refused f said))
