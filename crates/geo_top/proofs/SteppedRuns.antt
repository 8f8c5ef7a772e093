-- The steps that a run of the program tells are those of the machine's.
use Rattle.std.proofs.Common.{◌≡◌, ℕ, ◌≤◌, List, [], ◌∷◌, ◌++◌, length, append_assoc, ap, subst, sym, ◌∙◌}
use Rattle.std.specs.Prelude.{Some, None, Result, Ok, Err, IfOk, OnOk, codes}
use Rattle.geo_base.specs.declared.event.Step.{Step}
use Rattle.geo_base.specs.Report.{head_line, report, report_lines, with_line_feeds}
use Rattle.geo_base.specs.Run.{all_limits, run_from}
use Rattle.geo_base.specs.Setup.{Setup}
use Rattle.geo_base.specs.World.{World, opening_world}
use Rattle.script_rows.specs.Names.{Names}
use Rattle.script_rows.specs.Written.{step_line}
use Rattle.script_text.specs.Canonical.{declarations_text}
use Rattle.script_text.specs.Naming.{names_of}
use Rattle.script_generator.specs.Generated.{generated_run}
use Rattle.script_text.specs.Lines.{lines_of}
use Rattle.script_text.specs.Said.{Said, said_from, said_in}
use Rattle.script_text.specs.Schedule.{schedule_text}
use Rattle.state_file.specs.State.{SavedState}
use Rattle.script_text.specs.Script.{Script}
use Rattle.step_laws.specs.Steps.{all_step_lines, told_from}
use Rattle.step_lines.specs.Telling.{IsTelling, Rises, Telling, told_steps}
use Rattle.step_lines.proofs.Runs.{run_is}
use Rattle.report_lines.proofs.Parts.{with_line_feeds-append}
use Rattle.world.specs.declared.fault.RunFault.{RunFault}
use Rattle.world.specs.declared.fault.RunFault.TheVariants as fault
use Rattle.world.specs.Observing.{run_seen}
use Rattle.world.specs.Runs.{Comes, at_world}
use Rattle.world.specs.World.{WorldView, kept_of}
use Rattle.kept_laws.proofs.Keeping.{opening}
use Rattle.kept_laws.proofs.Reaching.{opening_reached}
use Rattle.kept_laws.specs.Kept.{Kept, opening_kept}
use Rattle.kept_laws.specs.Reached.{Reached}
use Rattle.kept_laws.specs.Saved.{world_from}
use Rattle.kept_laws.specs.Standing.{Stands}
use Rattle.geo_top.specs.declared.top.answer.Answer.{Answer}
use Rattle.geo_top.specs.declared.top.status.Status.TheVariants as status
use Rattle.geo_top.specs.Outputs.{answer_to_big_steps, answer_to_steps, big_steps, refused, unless_exceeded}
use Rattle.run_report.specs.Reports.{exceeded_limit, resumed_limit}
use Rattle.run_report.specs.Shown.{shown_world}
use Rattle.geo_top.specs.Stepped.{steps_by_schedule, steps_of, steps_on, steps_text}
use Rattle.run_report.proofs.Shown.{shown_same}

-- ---- a run from a world on

-- what stands before the steps, of a world that is shown as w
abbrev head_of : Script → World → List ℕ
head_of n w = (declarations_text n.setup n.chance ++ (codes "steps" ++ 10 ∷ [])) ++ report n.setup w

-- head, steps and counts make the whole
whole : (n : Script) (w : World) (said : List Said) (es : List Step)
    → (head_of n w ++ with_line_feeds (all_step_lines (step_line (names_of n.setup)) n.setup 1 said (told_from all_limits n.setup (at_world w) es)))
    ++ (head_line (run_from all_limits n.setup (at_world w) es).world ++ 10 ∷ []) ≡ steps_text n w said es
whole n w said es =
    let s = n.setup in
    let d = declarations_text s n.chance in
    let told = all_step_lines (step_line (names_of s)) s 1 said (told_from all_limits s (at_world w) es) in
    let last = head_line (run_from all_limits s (at_world w) es).world in
    let r = report_lines s w in
    let behind : with_line_feeds (r ++ (told ++ last ∷ [])) ≡ with_line_feeds r ++ (with_line_feeds told ++ (last ++ 10 ∷ [])) =
    with_line_feeds-append r (told ++ last ∷ []) ∙ ap (λ (t : List ℕ). with_line_feeds r ++ t) (with_line_feeds-append told (last ∷ [])) in
    put d (codes "steps") (with_line_feeds r) (with_line_feeds told) (last ++ 10 ∷ []) ∙ ap (λ (t : List ℕ). d ++ (codes "steps" ++ 10 ∷ t)) (sym behind)
  where
    put : (d first r told last : List ℕ) → (((d ++ (first ++ 10 ∷ [])) ++ r) ++ told) ++ last ≡ d ++ (first ++ 10 ∷ (r ++ (told ++ last)))
    put d first r told last = simp append_assoc

-- the counts that are shown of a world are those of the machine's
counts_same : (s : Setup) (b : WorldView) (w : World) → Stands s (kept_of b) w → head_line (shown_world b) ≡ head_line w
counts_same s b w h = cc (h.events, h.idle, h.rounds)

ok_of : {T : Type 0} (X : Type 0) (r : Result T RunFault) (t : T) → r ≡ Ok t → OnOk r X → X
ok_of X r t is h = subst (λ (r : Result _ RunFault). OnOk r X) is h

-- what an observer knows that has told no step
pub begins_telling : (s : Setup) (own names : Names) (t : Telling) (head : List ℕ) (said : List Said) → t ≡ record { text = head; number = 0; said = said } → own ≡ names → names ≡ names_of s
    → Rises 0 said → IsTelling s own t.number t.said
begins_telling s own names t head said is same there rises = record { names = same ∙ there; rises = subst (λ (u : Telling). Rises u.number u.said) (sym is) rises }

-- what a run leaves of an observer that had seen head and lines, and had told no step
abbrev pub Sees : Script → WorldView → List Step → Telling → Telling → Result (Unit {0}) RunFault → Type 0
Sees n old es before after r =
    (w : World) → Reached n.setup w → Stands n.setup (kept_of old) w → OnOk r (after ≡ run_seen told_steps all_limits n.setup (at_world w) es before)

abbrev pub Runs : {T : Type 0} → Script → WorldView → WorldView → List Step → Result T RunFault → Type 0
Runs n old new es r = (w : World) → Reached n.setup w → Stands n.setup (kept_of old) w → Comes n.setup new (run_from all_limits n.setup (at_world w) es) r

pub told_run : (n : Script) (old new : WorldView) (es : List Step) (said : List Said) (head text : List ℕ) (before after : Telling) (r : Result (Unit {0}) RunFault) (u : Unit {0})
    → length es ≤ length said → head ≡ (declarations_text n.setup n.chance ++ (codes "steps" ++ 10 ∷ [])) ++ report n.setup (shown_world old)
    → before ≡ record { text = head; number = 0; said = said } → Sees n old es before after r → Runs n old new es r → r ≡ Ok u
    → text ≡ after.text ++ (head_line (shown_world new) ++ 10 ∷ [])
    → (w : World) → Reached n.setup w → Stands n.setup (kept_of old) w → text ≡ steps_text n w said es
told_run n old new es said head text before after r u many head_is begins sees runs ok is w reached stands =
    let s = n.setup in
    let done = ok_of _ r u ok (runs w reached stands).done in
    let start : Telling = record { text = head; number = 0; said = said } in
    let seen : after ≡ run_seen told_steps all_limits s (at_world w) es start = ok_of _ r u ok (sees w reached stands) ∙ ap (run_seen told_steps all_limits s (at_world w) es) begins in
    let lines = with_line_feeds (all_step_lines (step_line (names_of s)) s 1 said (told_from all_limits s (at_world w) es)) in
    let told : after.text ≡ head ++ lines = ap (λ (t : Telling). t.text) seen ∙ run_is s w es start many done.1 in
    let opens : head ≡ head_of n w = head_is ∙ ap (λ (t : List ℕ). (declarations_text s n.chance ++ (codes "steps" ++ 10 ∷ [])) ++ t) (shown_same s old w stands) in
    is
    ∙ (ap (λ (t : List ℕ). t ++ (head_line (shown_world new) ++ 10 ∷ [])) (told ∙ ap (λ (t : List ℕ). t ++ lines) opens)
    ∙ (ap (λ (t : List ℕ). (head_of n w ++ lines) ++ (t ++ 10 ∷ [])) (counts_same s new (run_from all_limits s (at_world w) es).world done.0)
    ∙ whole n w said es))

-- how it ends
pub ran_within : (n : Script) (old new : WorldView) (es : List Step) (r : Result (Unit {0}) RunFault) (u : Unit {0}) → Runs n old new es r → r ≡ Ok u
    → (w : World) → Reached n.setup w → Stands n.setup (kept_of old) w → (run_from all_limits n.setup (at_world w) es).ended ≡ None
ran_within n old new es r u runs ok w reached stands = (ok_of _ r u ok (runs w reached stands).done).1

pub ran_large : (n : Script) (old new : WorldView) (es : List Step) (r : Result (Unit {0}) RunFault) (limit : ℕ) → Runs n old new es r → r ≡ Err (fault.TooLarge limit)
    → (w : World) → Reached n.setup w → Stands n.setup (kept_of old) w → (run_from all_limits n.setup (at_world w) es).ended ≡ Some limit
ran_large n old new es r limit runs is w reached stands = ((runs w reached stands).large limit is).1

-- ---- a run of a script, from its opening world on
abbrev pub Tells : Script → WorldView → List Step → List Said → Result (List ℕ) RunFault → Type 0
Tells n old es said r = (w : World) → Reached n.setup w → Stands n.setup (kept_of old) w → IfOk r (λ bytes. bytes ≡ steps_text n w said es)

opens : (s : Setup) (old : WorldView) → kept_of old ≡ opening_kept s → Stands s (kept_of old) (opening_world s)
opens s old is = subst (λ (k : Kept). Stands s k (opening_world s)) (sym is) (opening s)

pub stepped_run : (text : List ℕ) (n : Script) (old : WorldView) (es : List Step) (said : List Said) (r : Result (List ℕ) RunFault) → kept_of old ≡ opening_kept n.setup → es ≡ n.steps
    → said ≡ said_in n.first_event text → Tells n old es said r → IfOk r (λ bytes. bytes ≡ steps_of text n)
stepped_run text n old es said r opening steps lines tells =
    let s = n.setup in
    subst (λ (fs : List Step). IfOk r (λ bytes. bytes ≡ steps_text n (opening_world s) (said_in n.first_event text) fs)) steps
    (subst (λ (at : List Said). IfOk r (λ bytes. bytes ≡ steps_text n (opening_world s) at es)) lines (tells (opening_world s) (opening_reached s) (opens s old opening)))

abbrev pub Ends : {T : Type 0} → Script → WorldView → List Step → Result T RunFault → Type 0
Ends n old es r = (w : World) → Reached n.setup w → Stands n.setup (kept_of old) w → OnOk r ((run_from all_limits n.setup (at_world w) es).ended ≡ None)

abbrev pub Exceeds : Script → WorldView → List Step → ℕ → Type 0
Exceeds n old es limit = (w : World) → Reached n.setup w → Stands n.setup (kept_of old) w → (run_from all_limits n.setup (at_world w) es).ended ≡ Some limit

pub stepped_within : {T : Type 0} (n : Script) (old : WorldView) (es : List Step) (r : Result T RunFault) → kept_of old ≡ opening_kept n.setup → es ≡ n.steps → Ends n old es r
    → OnOk r (exceeded_limit n ≡ None)
stepped_within n old es r opening steps ends =
    let s = n.setup in
    subst (λ (fs : List Step). OnOk r ((run_from all_limits s (at_world (opening_world s)) fs).ended ≡ None)) steps (ends (opening_world s) (opening_reached s) (opens s old opening))

pub stepped_large : (n : Script) (old : WorldView) (es : List Step) (limit : ℕ) → kept_of old ≡ opening_kept n.setup → es ≡ n.steps → Exceeds n old es limit → exceeded_limit n ≡ Some limit
stepped_large n old es limit opening steps passes =
    let s = n.setup in
    subst (λ (fs : List Step). (run_from all_limits s (at_world (opening_world s)) fs).ended ≡ Some limit) steps (passes (opening_world s) (opening_reached s) (opens s old opening))

-- ---- the answers
abbrev ok_answer : List ℕ → Answer
ok_answer bytes = record { status = status.Ok; bytes = bytes }

pub told_whole : (text : List ℕ) (n : Script) (bytes : List ℕ) → exceeded_limit n ≡ None → bytes ≡ steps_of text n → ok_answer bytes ≡ answer_to_steps text (Ok n)
told_whole text n bytes within is = ap ok_answer is ∙ sym (ap (unless_exceeded (steps_of text n)) within)

pub told_refused : (text : List ℕ) (n : Script) (limit : ℕ) (a : Answer) → exceeded_limit n ≡ Some limit → a ≡ refused (status.TooLarge limit) → a ≡ answer_to_steps text (Ok n)
told_refused text n limit a some is = is ∙ sym (ap (unless_exceeded (steps_of text n)) some)

-- ---- a run that goes on from a state
-- the world stands for the one from which it goes on
abbrev pub IsFrom : SavedState → WorldView → Type 0
IsFrom f old = Reached f.scenario.setup (world_from f) × Stands f.scenario.setup (kept_of old) (world_from f)

pub stepped_on : (f : SavedState) (n : Script) (lines : List ℕ) (old : WorldView) (es : List Step) (said : List Said) (r : Result (List ℕ) RunFault) → n ≡ f.scenario → IsFrom f old
    → said ≡ said_from 1 (lines_of lines) → Tells n old es said r → IfOk r (λ bytes. bytes ≡ steps_on f lines es)
stepped_on f n lines old es said r same b at tells =
    let there : Tells f.scenario old es said r = subst (λ (m : Script). Tells m old es said r) same tells in
    subst (λ (at : List Said). IfOk r (λ bytes. bytes ≡ steps_text f.scenario (world_from f) at es)) at (there (world_from f) b.0 b.1)

pub stepped_on_within : {T : Type 0} (f : SavedState) (n : Script) (old : WorldView) (es : List Step) (r : Result T RunFault) → n ≡ f.scenario → IsFrom f old → Ends n old es r
    → OnOk r (resumed_limit f es ≡ None)
stepped_on_within f n old es r same b ends = let there : Ends f.scenario old es r = subst (λ (m : Script). Ends m old es r) same ends in there (world_from f) b.0 b.1

pub stepped_on_large : (f : SavedState) (n : Script) (old : WorldView) (es : List Step) (limit : ℕ) → n ≡ f.scenario → IsFrom f old → Exceeds n old es limit → resumed_limit f es ≡ Some limit
stepped_on_large f n old es limit same b passes = let there : Exceeds f.scenario old es limit = subst (λ (m : Script). Exceeds m old es limit) same passes in there (world_from f) b.0 b.1

-- ---- a run that no text said
pub scheduled_run : (n : Script) (text : List ℕ) (old : WorldView) (es : List Step) (said : List Said) (r : Result (List ℕ) RunFault) → kept_of old ≡ opening_kept n.setup → es ≡ n.steps
    → text ≡ schedule_text (names_of n.setup) es → said ≡ said_from 1 (lines_of text) → Tells n old es said r → IfOk r (λ bytes. bytes ≡ steps_by_schedule n)
scheduled_run n text old es said r opening steps written lines tells =
    let s = n.setup in
    let is : said ≡ said_from 1 (lines_of (schedule_text (names_of s) es)) = lines ∙ ap (λ (t : List ℕ). said_from 1 (lines_of t)) written in
    subst (λ (fs : List Step). IfOk r (λ bytes. bytes ≡ steps_text n (opening_world s) (said_from 1 (lines_of (schedule_text (names_of s) fs))) fs)) steps
    (subst (λ (at : List Said). IfOk r (λ bytes. bytes ≡ steps_text n (opening_world s) at es)) is (tells (opening_world s) (opening_reached s) (opens s old opening)))

pub big_whole : (number : ℕ) (n : Script) (bytes : List ℕ) → n ≡ generated_run number → exceeded_limit n ≡ None → bytes ≡ steps_by_schedule n → ok_answer bytes ≡ answer_to_big_steps number
big_whole number n bytes generated none is =
    ap ok_answer (is ∙ ap steps_by_schedule generated) ∙ sym (ap (unless_exceeded (big_steps number)) (ap exceeded_limit (sym generated) ∙ none))

pub big_refused : (number : ℕ) (n : Script) (limit : ℕ) (a : Answer) → n ≡ generated_run number → exceeded_limit n ≡ Some limit → a ≡ refused (status.TooLarge limit)
    → a ≡ answer_to_big_steps number
big_refused number n limit a generated some is = is ∙ sym (ap (unless_exceeded (big_steps number)) (ap exceeded_limit (sym generated) ∙ some))
