-- Each step of an accepted text has a line that says it.
use Rattle.std.proofs.Common.{◌≡◌, ℕ, suc, ◌+◌, ◌-◌, ◌≤◌, Bool, true, false, if◌then◌else◌, List, [], ◌∷◌, length, drop, Option, Some, None, Ok, ◌⊎◌, inl, inr, arith, refl, sym, ap, subst, ◌∙◌}
use Rattle.std.proofs.lemmas.Bool.{cases_Bool}
use Rattle.std.proofs.lemmas.List.{length-append}
use Rattle.geo_base.specs.declared.event.Step.{Step}
use Rattle.geo_base.specs.Setup.{Setup}
use Rattle.script_rows.specs.declared.heading.Heading.{Heading}
use Rattle.script_rows.specs.declared.heading.Heading.TheVariants as heading
use Rattle.script_rows.specs.Judging.{values_of}
use Rattle.script_rows.specs.Known.{schedules, step_in}
use Rattle.script_rows.specs.Names.{Names, nothing_seen}
use Rattle.script_rows.specs.Rows.{columns_of}
use Rattle.script_text.specs.Adding.{added, first_of, progress_after, with_step, with_values_in}
use Rattle.script_text.specs.Lines.{TextLine, is_skipped, lines_of}
use Rattle.script_text.specs.Naming.{names_of}
use Rattle.script_text.specs.Rules.{judged, lowest, said_by, script_from, script_of}
use Rattle.script_text.specs.Said.{Said, said_from, said_in}
use Rattle.script_text.specs.Scenario.{IsScenario}
use Rattle.script_text.specs.Schedule.{at_events, schedule_from, schedule_of, schedule_text, scheduled}
use Rattle.script_text.specs.Script.{Script, SoFar, Steps, no_line, no_steps}
use Rattle.step_lines.specs.Telling.{Rises}
use Rattle.step_lines.proofs.Rising.{said_rise}
use Rattle.script_text.proofs.Accepted.{declared_scripted}
use Rattle.script_text.proofs.Appended.{at_line_ok, complete, ended_ok}
use Rattle.script_text.proofs.Parts.{unbroken}
use Rattle.script_text.proofs.ScheduleBack.{schedule_back}
use Rattle.geo_top.specs.Stepped.{AreAllWritten}

-- ---- a line adds one step at most
one_more : (at : ℕ) (s : Steps) (o : Option Step) → length (with_step at s o).list ≤ length s.list + 1
one_more at s None = omega arith
one_more at s (Some e) = omega (arith, length-append s.list (e ∷ []))

-- ---- of a schedule by itself
scheduled_skipped : (k : ℕ) (n : Names) (s t : Steps) (l : TextLine) → is_skipped l.bytes ≡ true → scheduled k at_events n s l ≡ Ok t → s ≡ t
scheduled_skipped k n s t l skipped is = (unbroken None s t (rw skipped at is)).1

scheduled_other : (k : ℕ) (n : Names) (s t : Steps) (l : TextLine) → is_skipped l.bytes ≡ false → scheduled k at_events n s l ≡ Ok t → with_step k s (step_in n (said_by l)) ≡ t
scheduled_other k n s t l other is = (unbroken (lowest at_events n l) (with_step k s (step_in n (said_by l))) t (rw other at is)).1

schedule_many : (k : ℕ) (n : Names) (s : Steps) (ls : List TextLine) (es : List Step) → schedule_from k n s ls ≡ Ok es → length es ≤ length s.list + length (said_from k ls)
schedule_many k n s [] es is = let same : s.list ≡ es = cc in omega (arith, ap length same)
schedule_many k n s (l ∷ ls) es is =
    let first = at_line_ok k (scheduled k at_events n s l) (λ more. schedule_from (k + 1) n more ls) es is in
    let t = first.0 in
    let rest = schedule_many (k + 1) n t ls es first.2 in
    elim (cases_Bool (is_skipped l.bytes)) [
      | inl skipped ↦
          let same : s ≡ t = scheduled_skipped k n s t l skipped first.1 in
          rw skipped (omega (arith, rest, ap (λ (q : Steps). length q.list) same))
      | inr other ↦
          let o = step_in n (said_by l) in
          let same : with_step k s o ≡ t = scheduled_other k n s t l other first.1 in
          rw other (omega (arith, rest, one_more k s o, ap (λ (q : Steps). length q.list) same))
    ]

pub schedule_said : (s : Setup) (bytes : List ℕ) (es : List Step) → schedule_of s bytes ≡ Ok es → length es ≤ length (said_from 1 (lines_of bytes))
schedule_said s bytes es is = let many = schedule_many 1 (names_of s) no_steps (lines_of bytes) es is in omega (arith, many)

-- ---- of a script
added_steps : (at : ℕ) (s : SoFar) (h : Heading) → (o : Option Step) × ((added at s h).steps ≡ with_step at s.steps o)
added_steps at s heading.Unknown = (None, refl)
added_steps at s heading.Formless = (None, refl)
added_steps at s (heading.Headed k ws) = by (schedules k)
  where
    step : Option Step
    step = step_in (names_of s.declared.setup) (heading.Headed k ws)

    with : SoFar
    with = record { declared = record s.declared { progress = progress_after s.declared.progress k }; steps = with_step at s.steps step }

    without : SoFar
    without = record s { declared = with_values_in s.declared k (values_of (names_of s.declared.setup) nothing_seen (columns_of k) ws) }

    by : (b : Bool) → (o : Option Step) × ((if b then with else without).steps ≡ with_step at s.steps o)
    by true = (step, refl)
    by false = (None, refl)

-- the steps after a line
judged_steps : (at : ℕ) (s t : SoFar) (l : TextLine) → is_skipped l.bytes ≡ false → judged at s l ≡ Ok t → (o : Option Step) × (t.steps ≡ with_step at s.steps o)
judged_steps at s t l other is =
    let a = added at s (said_by l) in
    let same : a ≡ t = (unbroken (lowest s.declared.progress (names_of s.declared.setup) l) a t (rw other at is)).1 in
    let o = added_steps at s (said_by l) in
    (o.0, sym (ap (λ (q : SoFar). q.steps) same) ∙ o.1)

judged_skipped : (at : ℕ) (s t : SoFar) (l : TextLine) → is_skipped l.bytes ≡ true → judged at s l ≡ Ok t → s ≡ t
judged_skipped at s t l skipped is = (unbroken None s t (rw skipped at is)).1

first_kept : (at f : ℕ) (s : Steps) (o : Option Step) → s.first ≡ Some f → (with_step at s o).first ≡ Some f
first_kept at f s None is = is
first_kept at f s (Some e) is = ap (λ (first : Option ℕ). first_of first at) is

-- after the first of them
script_many : (k f : ℕ) (s : SoFar) (ls : List TextLine) (t : Script) → s.steps.first ≡ Some f → script_from k s ls ≡ Ok t
    → (t.first_event ≡ Some f) × (length t.steps ≤ length s.steps.list + length (said_from k ls))
script_many k f s [] t first is =
    let same = (complete s t (ended_ok k _ t is)).same in
    (sym (ap (λ (q : Script). q.first_event) same) ∙ first, omega (arith, ap (λ (q : Script). length q.steps) same))
script_many k f s (l ∷ ls) t first is =
    let next = at_line_ok k (judged k s l) (λ more. script_from (k + 1) more ls) t is in
    let u = next.0 in
    elim (cases_Bool (is_skipped l.bytes)) [
      | inl skipped ↦
          let same : s ≡ u = judged_skipped k s u l skipped next.1 in
          let rest = script_many (k + 1) f u ls t (sym (ap (λ (q : SoFar). q.steps.first) same) ∙ first) next.2 in
          rw skipped (rest.0, omega (arith, rest.1, ap (λ (q : SoFar). length q.steps.list) same))
      | inr other ↦
          let o = judged_steps k s u l other next.1 in
          let rest = script_many (k + 1) f u ls t (ap (λ (q : Steps). q.first) o.1 ∙ first_kept k f s.steps o.0 first) next.2 in
          rw other (rest.0, omega (arith, rest.1, one_more k s.steps o.0, ap (λ (q : Steps). length q.list) o.1))
    ]

-- from before it on: there is none, or it stands so many lines after
abbrev IsSaid : ℕ → List TextLine → Script → Type 0
IsSaid k ls t =
    ((t.first_event ≡ None) × (t.steps ≡ [])) ⊎ ((i : ℕ) × (t.first_event ≡ Some (k + i)) × (length t.steps ≤ length (said_from (k + i) (drop i ls))))

one_line_more : (k : ℕ) (l : TextLine) (ls : List TextLine) (t : Script) → IsSaid (k + 1) ls t → IsSaid k (l ∷ ls) t
one_line_more k l ls t (inl none) = inl none
one_line_more k l ls t (inr there) =
    let i = there.0 in
    let at : k + 1 + i ≡ k + suc i = omega arith in
    inr (suc i, there.1 ∙ ap (λ (m : ℕ). Some m) at, subst (λ (m : ℕ). length t.steps ≤ length (said_from m (drop i ls))) at there.2)

script_first : (k : ℕ) (s : SoFar) (ls : List TextLine) (t : Script) → s.steps ≡ no_steps → script_from k s ls ≡ Ok t → IsSaid k ls t
script_first k s [] t none is =
    let same = (complete s t (ended_ok k _ t is)).same in
    inl (sym (ap (λ (q : Script). q.first_event) same) ∙ ap (λ (q : Steps). q.first) none, sym (ap (λ (q : Script). q.steps) same) ∙ ap (λ (q : Steps). q.list) none)
script_first k s (l ∷ ls) t none is =
    let next = at_line_ok k (judged k s l) (λ more. script_from (k + 1) more ls) t is in
    let u = next.0 in
    elim (cases_Bool (is_skipped l.bytes)) [
      | inl skipped ↦
          let same : s ≡ u = judged_skipped k s u l skipped next.1 in
          one_line_more k l ls t (script_first (k + 1) u ls t (sym (ap (λ (q : SoFar). q.steps) same) ∙ none) next.2)
      | inr other ↦
          let o = judged_steps k s u l other next.1 in
          by other u o.0 (o.1 ∙ ap (λ (q : Steps). with_step k q o.0) none) next.2 (λ still. script_first (k + 1) u ls t still next.2)
    ]
  where
    by : is_skipped l.bytes ≡ false → (u : SoFar) (o : Option Step) → u.steps ≡ with_step k no_steps o → script_from (k + 1) u ls ≡ Ok t
        → (u.steps ≡ no_steps → IsSaid (k + 1) ls t) → IsSaid k (l ∷ ls) t
    by other u None steps goes rest = one_line_more k l ls t (rest steps)
    by other u (Some e) steps goes more =
        let rest = script_many (k + 1) k u ls t (ap (λ (q : Steps). q.first) steps) goes in
        let at : k ≡ k + 0 = omega arith in
        let many : length t.steps ≤ length (said_from k (l ∷ ls)) = rw other (omega (arith, rest.1, ap (λ (q : Steps). length q.list) steps)) in
        inr (0, rest.0 ∙ ap (λ (m : ℕ). Some m) at, subst (λ (m : ℕ). length t.steps ≤ length (said_from m (l ∷ ls))) at many)

said_there : (bytes : List ℕ) (n : Script) → IsSaid 1 (lines_of bytes) n → length n.steps ≤ length (said_in n.first_event bytes)
said_there bytes n (inl none) = omega (arith, ap length none.1)
said_there bytes n (inr there) =
    let i = there.0 in
    let before : i ≡ 1 + i - 1 = omega arith in
    rw there.1 (subst (λ (m : ℕ). length n.steps ≤ length (said_from (1 + i) (drop m (lines_of bytes)))) before there.2)

pub script_said : (bytes : List ℕ) (n : Script) → script_of bytes ≡ Ok n → length n.steps ≤ length (said_in n.first_event bytes)
script_said bytes n is = said_there bytes n (script_first 1 no_line (lines_of bytes) n refl is)

-- its first step stands in no line before the first one
some_there : (bytes : List ℕ) (n : Script) (first : ℕ) → IsSaid 1 (lines_of bytes) n → n.first_event ≡ Some first → 1 ≤ first
some_there bytes n first (inl none) is = cc (none.0, is)
some_there bytes n first (inr there) is =
    let same : 1 + there.0 ≡ first = cc (there.1, is) in omega (arith, same)

pub first_some : (bytes : List ℕ) (n : Script) (first : ℕ) → script_of bytes ≡ Ok n → n.first_event ≡ Some first → 1 ≤ first
first_some bytes n first is some = some_there bytes n first (script_first 1 no_line (lines_of bytes) n refl is) some

-- ---- the lines of a script's text, from that of its first step on
pub said_some : (text : List ℕ) (n : Script) (first : ℕ) (said : List Said) → script_of text ≡ Ok n → n.first_event ≡ Some first
    → said ≡ said_from (first - 1 + 1) (drop (first - 1) (lines_of text)) → said ≡ said_in n.first_event text
said_some text n first said is some lines =
    let there = first_some text n first is some in
    let same : first - 1 + 1 ≡ first = omega (arith, there) in
    lines ∙ (ap (λ (k : ℕ). said_from k (drop (first - 1) (lines_of text))) same ∙ sym (ap (λ (o : Option ℕ). said_in o text) some))

pub said_none : (text : List ℕ) (n : Script) (said : List Said) → n.first_event ≡ None → said ≡ [] → said ≡ said_in n.first_event text
said_none text n said none lines = lines ∙ sym (ap (λ (o : Option ℕ). said_in o text) none)

pub said_many : (text : List ℕ) (n : Script) (said : List Said) → script_of text ≡ Ok n → said ≡ said_in n.first_event text → length n.steps ≤ length said
said_many text n said is lines = subst (λ (at : List Said). length n.steps ≤ length at) (sym lines) (script_said text n is)

-- ---- the lines of a schedule by itself
pub said_on : (s : Setup) (lines : List ℕ) (es : List Step) (said : List Said) → schedule_of s lines ≡ Ok es → said ≡ said_from 1 (lines_of lines) → length es ≤ length said
said_on s lines es said is same = subst (λ (at : List Said). length es ≤ length at) (sym same) (schedule_said s lines es is)

-- as it is written
pub all_written : (n : Script) → IsScenario n → AreAllWritten n
all_written n k = schedule_said n.setup (schedule_text (names_of n.setup) n.steps) n.steps (schedule_back n.setup n.steps (declared_scripted n.setup k.setup) k.steps)

pub rises_on : (lines : List ℕ) (said : List Said) → said ≡ said_from 1 (lines_of lines) → Rises 0 said
rises_on lines said same = subst (λ (at : List Said). Rises 0 at) (sym same) (said_rise 0 0 (lines_of lines) (omega arith))

pub rises_some : (text : List ℕ) (first : ℕ) (said : List Said) → said ≡ said_from (first - 1 + 1) (drop (first - 1) (lines_of text)) → Rises 0 said
rises_some text first said same = subst (λ (at : List Said). Rises 0 at) (sym same) (said_rise 0 (first - 1) (drop (first - 1) (lines_of text)) (omega arith))

pub rises_none : (said : List Said) → said ≡ [] → Rises 0 said
rises_none said same = subst (λ (at : List Said). Rises 0 at) (sym same) tt
