-- What `run` answers to the script that `live` read, with the schedule that it printed after it.
use Rattle.std.proofs.Common.{◌≡◌, ℕ, ◌+◌, Bool, true, false, if◌then◌else◌, List, [], ◌∷◌, ◌++◌, refl, sym, ap, subst, ◌∙◌, append_assoc, inl, inr}
use Rattle.std.proofs.lemmas.Bool.{cases_Bool}
use Rattle.std.specs.Prelude.{Option, Some, None, Result, Ok, Err, IfOk, IsOkAnd, find}
use Rattle.geo_base.specs.declared.event.Step.{Step}
use Rattle.geo_base.specs.Report.{report}
use Rattle.geo_base.specs.Run.{all_limits, run, run_under}
use Rattle.geo_base.specs.Setup.{Setup}
use Rattle.script_rows.specs.NameWords.{Word}
use Rattle.script_rows.specs.declared.fault.Rule.{Rule}
use Rattle.script_rows.specs.declared.heading.Heading.{Heading}
use Rattle.script_rows.specs.declared.heading.Heading.TheVariants as heading
use Rattle.script_rows.specs.declared.kind.Kind.{Kind}
use Rattle.script_rows.specs.Judging.{values_of}
use Rattle.script_rows.specs.Known.{schedules, step_in}
use Rattle.script_rows.specs.Names.{nothing_seen}
use Rattle.script_rows.specs.Rows.{columns_of}
use Rattle.script_text.specs.Adding.{added, added_of, first_of, progress_after, with_step, with_values_in}
use Rattle.script_text.specs.Lines.{TextLine, is_skipped, lines_of}
use Rattle.script_text.specs.Naming.{names_of}
use Rattle.script_text.specs.Rules.{at_line, breaks_at_end, judged, lowest, rules, said_by, script_from, script_of, script_with, unless_broken}
use Rattle.script_text.specs.Schedule.{IsWithSteps, schedule_text}
use Rattle.script_text.specs.Script.{Fault, Script, SoFar, Steps, no_line}
use Rattle.script_text.proofs.Following.{joined}
use Rattle.geo_top.specs.declared.top.answer.Answer.{Answer}
use Rattle.geo_top.specs.declared.top.command.Shown.TheVariants as shown
use Rattle.geo_top.specs.declared.top.status.Status.TheVariants as status
use Rattle.geo_top.specs.Outputs.{answer_to, unless_exceeded}
use Rattle.run_report.specs.Reports.{exceeded_limit, report_of}
use Rattle.live_output.specs.LiveRuns.{IsLiveRun}
use Rattle.live_output.specs.Playing.{with_steps}
use Rattle.geo_live.specs.LiveAnswers.{ReplaysAs}

-- ---- a script without a line that schedules a step has no step
abbrev IsStepless : Steps → Type 0
IsStepless s = s.first ≡ None → s.list ≡ []

first_there : (o : Option ℕ) (at : ℕ) → first_of o at ≡ None → ⊥
first_there None at is = cc is
first_there (Some first) at is = cc is

one_step : (at : ℕ) (s : Steps) (o : Option Step) → IsStepless s → IsStepless (with_step at s o)
one_step at s None h = h
one_step at s (Some e) h = λ none. absurd (first_there s.first at none)

either : (b : Bool) (s t : SoFar) → IsStepless s.steps → IsStepless t.steps → IsStepless (if b then s else t).steps
either true s t h k = h
either false s t h k = k

one_kind : (at : ℕ) (s : SoFar) (k : Kind) (ws : List Word) → IsStepless s.steps → IsStepless (added_of at s k ws).steps
one_kind at s k ws h =
    either (schedules k)
    (record {
      declared = record s.declared { progress = progress_after s.declared.progress k };
      steps = with_step at s.steps (step_in (names_of s.declared.setup) (heading.Headed k ws));
    })
    (record s { declared = with_values_in s.declared k (values_of (names_of s.declared.setup) nothing_seen (columns_of k) ws) })
    (one_step at s.steps (step_in (names_of s.declared.setup) (heading.Headed k ws)) h) h

one_line : (at : ℕ) (s : SoFar) (l : Heading) → IsStepless s.steps → IsStepless (added at s l).steps
one_line at s heading.Unknown h = h
one_line at s heading.Formless h = h
one_line at s (heading.Headed k ws) h = one_kind at s k ws h

abbrev IsSteplessSoFar : SoFar → Type 0
IsSteplessSoFar s = IsStepless s.steps

unless : (o : Option Rule) (s : SoFar) → IsSteplessSoFar s → IfOk (unless_broken o s) IsSteplessSoFar
unless None s h = h
unless (Some r) s h = tt

one_judged : (at : ℕ) (s : SoFar) (l : TextLine) → IsSteplessSoFar s → IfOk (judged at s l) IsSteplessSoFar
one_judged at s l h =
    elim (cases_Bool (is_skipped l.bytes)) [
      | inl skipped ↦ rw skipped h
      | inr other ↦ rw other (unless (lowest s.declared.progress (names_of s.declared.setup) l) (added at s (said_by l)) (one_line at s (said_by l) h))
    ]

abbrev IsSteplessScript : Script → Type 0
IsSteplessScript n = n.first_event ≡ None → n.steps ≡ []

at_end : (n : ℕ) (o : Option Rule) (s : SoFar) → IsSteplessSoFar s → IfOk (at_line n (unless_broken o (script_with s)) Ok) IsSteplessScript
at_end n None s h = h
at_end n (Some r) s h = tt

at_each : (n : ℕ) (r : Result SoFar Rule) (f : SoFar → Result Script Fault) → IfOk r IsSteplessSoFar → ((s : SoFar) → IsSteplessSoFar s → IfOk (f s) IsSteplessScript)
    → IfOk (at_line n r f) IsSteplessScript
at_each n (Ok s) f h rest = rest s h
at_each n (Err r) f h rest = tt

all_lines : (n : ℕ) (s : SoFar) (ls : List TextLine) → IsSteplessSoFar s → IfOk (script_from n s ls) IsSteplessScript
all_lines n s [] h = at_end n (find (breaks_at_end s.declared) rules) s h
all_lines n s (l ∷ ls) h = at_each n (judged n s l) (λ s'. script_from (n + 1) s' ls) (one_judged n s l h) (λ t k. all_lines (n + 1) t ls k)

no_step : (input : List ℕ) (n : Script) → script_of input ≡ Ok n → n.first_event ≡ None → n.steps ≡ []
no_step input n is =
    subst (λ (r : Result Script Fault). IfOk r IsSteplessScript) is (all_lines 1 no_line (lines_of input) (λ none. refl))

-- ---- what `run` answers to these steps
abbrev ran : Setup → List Step → Answer
ran s es = unless_exceeded (report s (run s es)) (run_under all_limits s es).ended

same_answer : (n m : Script) (es : List Step) → m.setup ≡ n.setup → m.steps ≡ es → exceeded_limit (with_steps n es) ≡ None
    → answer_to shown.Report (Ok m) ≡ record { status = status.Ok; bytes = report_of (with_steps n es) }
same_answer n m es setup steps none =
    ap (λ (s : Setup). ran s m.steps) setup ∙ (ap (ran n.setup) steps ∙ ap (unless_exceeded (report n.setup (run n.setup es))) none)

answers : (n : Script) (es : List Step) (r : Result Script Fault) → IsOkAnd r (IsWithSteps n (n.steps ++ es)) → n.steps ≡ [] → exceeded_limit (with_steps n es) ≡ None
    → answer_to shown.Report r ≡ record { status = status.Ok; bytes = report_of (with_steps n es) }
answers n es (Ok m) h none within = same_answer n m es h.setup (h.steps ∙ ap (λ (fs : List Step). fs ++ es) none) within
answers n es (Err f) h none within = absurd h

pub replays : (input : List ℕ) (n : Script) (es : List Step) → script_of input ≡ Ok n → n.first_event ≡ None → IsLiveRun n es
    → (text : List ℕ) → input ≡ text ++ 10 ∷ [] → ReplaysAs input n es
replays input n es is first run text fed =
    let lines : List ℕ = schedule_text (names_of n.setup) es in
    let whole : text ++ 10 ∷ lines ≡ input ++ lines = sym (append_assoc text (10 ∷ []) lines) ∙ ap (λ (bytes : List ℕ). bytes ++ lines) (sym fed) in
    let more : IsOkAnd (script_of (text ++ 10 ∷ lines)) (IsWithSteps n (n.steps ++ es)) = joined text lines n es (subst (λ (bytes : List ℕ). script_of bytes ≡ Ok n) fed is) run.reads_back in
    subst (λ (bytes : List ℕ). answer_to shown.Report (script_of bytes) ≡ record { status = status.Ok; bytes = report_of (with_steps n es) }) whole
    (answers n es (script_of (text ++ 10 ∷ lines)) more (no_step input n is first) run.within)
