-- What a schedule says after a script is what it says by itself.
use Rattle.std.proofs.Common.{◌≡◌, ℕ, ◌+◌, ◌≤◌, ◌==◌, nat_lt, Bool, true, false, not, ◌||◌, if◌then◌else◌, List, [], ◌∷◌, ◌++◌, length, find, Option, Some, None, Result, Ok, Err, IsOkAnd, option_map, ◌⊎◌, inl, inr, arith, append_assoc, refl, sym, ap, subst, ◌∙◌}
use Rattle.std.proofs.lemmas.Bool.{and_from, cases_Bool, le-ltb}
use Rattle.std.proofs.lemmas.List.{append-nil}
use Rattle.std.proofs.lemmas.Option.{none-some}
use Rattle.geo_base.specs.declared.event.Step.{Step}
use Rattle.script_rows.specs.NameWords.{Word}
use Rattle.script_rows.specs.declared.fault.Rule.{Rule}
use Rattle.script_rows.specs.declared.fault.Rule.TheVariants as rule
use Rattle.script_rows.specs.declared.heading.Heading.{Heading}
use Rattle.script_rows.specs.declared.heading.Heading.TheVariants as heading
use Rattle.script_rows.specs.declared.kind.Kind.{Kind}
use Rattle.script_rows.specs.declared.kind.Kind.TheVariants as kind
use Rattle.script_rows.specs.declared.line_kind.LineKind.TheVariants as line
use Rattle.script_rows.specs.declared.progress.Progress.{Progress}
use Rattle.script_rows.specs.declared.progress.Stage.{Stage}
use Rattle.script_rows.specs.declared.progress.Stage.TheVariants as stage
use Rattle.script_rows.specs.Judging.{came, cells_break, heading_breaks, kind_breaks, values_of, word_rules}
use Rattle.script_rows.specs.Known as known
use Rattle.script_rows.specs.Known.{schedules, step_in}
use Rattle.script_rows.specs.Names.{Names, nothing_seen}
use Rattle.script_rows.specs.Rows.{columns_of, rank, stage_of}
use Rattle.script_rows.specs.Values.{step_of}
use Rattle.script_rows.specs.Written.{AreDeclared, step_line}
use Rattle.script_rows.proofs.Lines.{step_reads}
use Rattle.script_rows.proofs.Plain.{step_said, step_shown}
use Rattle.script_text.specs.Adding.{first_of, with_step}
use Rattle.script_text.specs.Drafts.{heads_step, moved_on, says_step}
use Rattle.script_text.specs.Lines.{TextLine, is_skipped, lines_of}
use Rattle.script_text.specs.Naming.{names_of}
use Rattle.script_text.specs.Rules.{at_line, lowest, said_by, script_from, script_of, script_with, unless_broken}
use Rattle.script_text.specs.Scenario.{IsScenario, IsStep}
use Rattle.script_text.specs.Schedule.{IsWithSteps, at_events, followed, schedule_from, schedule_of, scheduled}
use Rattle.script_text.specs.Script.{Declarations, Fault, Script, SoFar, Steps, no_line, no_steps}
use Rattle.script_text.proofs.Accepted.{declared_scripted}
use Rattle.script_text.proofs.Alike.{find_same}
use Rattle.script_text.proofs.Appended.{at_line_ok, complete, lines_after, reached}
use Rattle.script_text.proofs.Late.{at_step, scheduling, step_breaks, step_goes, words_ok}
use Rattle.script_text.proofs.Lowest.{is_plain, not_plain, words_begun}
use Rattle.script_text.proofs.Named.{names_declared, step_there}
use Rattle.script_text.proofs.Parts.{chosen, unbroken}
use Rattle.script_text.proofs.ScheduleBack.{first_line, line_adds, line_with, not_skipped}

-- ---- once events have begun, the same rules are broken, whatever came before
order_broken : (p q : Progress) (n : Names) (k : Kind) (ws : List Word) → kind_breaks p k rule.Order ≡ true → kind_breaks q k rule.Order ≡ true → find (heading_breaks p n (heading.Headed k ws)) word_rules ≡ find (heading_breaks q n (heading.Headed k ws)) word_rules
order_broken p q n k ws a b = rw (a, b) refl

kind_same : (p q : Progress) (k : Kind) (r : Rule) → came p k ≡ came q k → nat_lt (rank (stage_of k)) (rank p.last) ≡ nat_lt (rank (stage_of k)) (rank q.last) → kind_breaks p k r ≡ kind_breaks q k r
kind_same p q k rule.Order once order = order
kind_same p q k rule.Twice once order = once
kind_same p q k r once order = refl

words_same : (p q : Progress) (n : Names) (k : Kind) (ws : List Word) → came p k ≡ came q k → nat_lt (rank (stage_of k)) (rank p.last) ≡ nat_lt (rank (stage_of k)) (rank q.last) → find (heading_breaks p n (heading.Headed k ws)) word_rules ≡ find (heading_breaks q n (heading.Headed k ws)) word_rules
words_same p q n k ws once order =
    find_same (heading_breaks p n (heading.Headed k ws)) (heading_breaks q n (heading.Headed k ws)) word_rules (λ r. ap (λ (b : Bool). b || cells_break n r nothing_seen (columns_of k) ws) (kind_same p q k r once order))

-- a `ledger` or a `chance` line breaks the rule on the order, whether or not one came
late_kind : (p : Progress) (k : Kind) → p.begun ≡ true → p.last ≡ stage.Event → ((kind_breaks p k rule.Order ≡ true) × (kind_breaks at_events k rule.Order ≡ true)) ⊎ (came p k ≡ came at_events k)
late_kind p (kind.Other line.Ledger) begun last = inl (ap (λ (s : Stage). nat_lt 1 (rank s)) last, refl)
late_kind p (kind.Other line.Chance) begun last = inl (ap (λ (s : Stage). nat_lt 1 (rank s)) last, refl)
late_kind p (kind.Other line.Geo) begun last = inr begun
late_kind p k begun last = inr refl

late_words : (p : Progress) (n : Names) (h : Heading) → p.begun ≡ true → p.last ≡ stage.Event → find (heading_breaks p n h) word_rules ≡ find (heading_breaks at_events n h) word_rules
late_words p n heading.Unknown begun last = refl
late_words p n heading.Formless begun last = refl
late_words p n (heading.Headed k ws) begun last =
    elim (late_kind p k begun last) [
      | inl early ↦ order_broken p at_events n k ws early.0 early.1
      | inr once ↦
          words_same p at_events n k ws once (ap (λ (s : Stage). nat_lt (rank (stage_of k)) (rank s)) last)
    ]

lowest_by_words : (p q : Progress) (n : Names) (l : TextLine) → p.begun ≡ true → q.begun ≡ true → find (heading_breaks p n (said_by l)) word_rules ≡ find (heading_breaks q n (said_by l)) word_rules → lowest p n l ≡ lowest q n l
lowest_by_words p q n l begun begun' words =
    elim (cases_Bool (is_plain l)) [
      | inl plain ↦ words_begun p n l plain begun ∙ (words ∙ sym (words_begun q n l plain begun'))
      | inr other ↦ not_plain p n l other ∙ sym (not_plain q n l other)
    ]

lowest_late : (p : Progress) (n : Names) (l : TextLine) → p.begun ≡ true → p.last ≡ stage.Event → lowest p n l ≡ lowest at_events n l
lowest_late p n l begun last =
    lowest_by_words p at_events n l begun refl (late_words p n (said_by l) begun last)

-- ---- a line that schedules a step breaks the same rules wherever it stands
step_once : (p q : Progress) (k : Kind) → schedules k ≡ true → came p k ≡ came q k
step_once p q (kind.Event k) is = refl
step_once p q (kind.Halt k) is = refl
step_once p q (kind.Do k) is = refl
step_once p q (kind.Other line.Geo) is = cc
step_once p q (kind.Other line.Ledger) is = cc
step_once p q (kind.Other line.Chance) is = cc
step_once p q (kind.Other k) is = refl

step_rank : (k : Kind) → schedules k ≡ true → rank (stage_of k) ≡ 6
step_rank (kind.Event k) is = refl
step_rank (kind.Halt k) is = refl
step_rank (kind.Do k) is = cc
step_rank (kind.Other line.Settle) is = refl
step_rank (kind.Other line.Stop) is = refl
step_rank (kind.Other line.Geo) is = cc
step_rank (kind.Other line.Ledger) is = cc
step_rank (kind.Other line.Chance) is = cc
step_rank (kind.Other line.Cluster) is = cc
step_rank (kind.Other line.Topic) is = cc
step_rank (kind.Other line.Client) is = cc

most_rank : (s : Stage) → rank s ≤ 6
most_rank stage.Geo = omega arith
most_rank stage.Setting = omega arith
most_rank stage.Cluster = omega arith
most_rank stage.Topic = omega arith
most_rank stage.Client = omega arith
most_rank stage.Do = omega arith
most_rank stage.Event = omega arith

step_order : (p : Progress) (k : Kind) → schedules k ≡ true → nat_lt (rank (stage_of k)) (rank p.last) ≡ false
step_order p k is = le-ltb _ _ (omega (arith, step_rank k is, most_rank p.last))

step_words : (p q : Progress) (n : Names) (h : Heading) → heads_step h ≡ true → find (heading_breaks p n h) word_rules ≡ find (heading_breaks q n h) word_rules
step_words p q n heading.Unknown is = refl
step_words p q n heading.Formless is = refl
step_words p q n (heading.Headed k ws) is =
    words_same p q n k ws (step_once p q k is) (step_order p k is ∙ sym (step_order q k is))

pub lowest_step : (p q : Progress) (n : Names) (l : TextLine) → p.begun ≡ true → q.begun ≡ true → heads_step (said_by l) ≡ true → lowest p n l ≡ lowest q n l
lowest_step p q n l begun begun' is = lowest_by_words p q n l begun begun' (step_words p q n (said_by l) is)

-- ---- the same steps, after others
abbrev pub after : List Step → ℕ → Steps → Steps
after before first s = record { first = Some first; list = before ++ s.list }

pushed_after : (before : List Step) (first k at : ℕ) (steps : Steps) (o : Option Step) → with_step at (after before first steps) o ≡ after before first (with_step k steps o)
pushed_after before first k at steps None = refl
pushed_after before first k at steps (Some e) =
    ap (λ (ss : List Step). record { first = Some first; list = ss }) (append_assoc before steps.list (e ∷ []))

abbrev pub also : List Step → ℕ → Result Steps Rule → Result Steps Rule
also before first (Ok s) = Ok (after before first s)
also before first (Err r) = Err r

unless_after : (before : List Step) (first k at : ℕ) (steps : Steps) (e : Option Step) (o : Option Rule) → unless_broken o (with_step at (after before first steps) e) ≡ also before first (unless_broken o (with_step k steps e))
unless_after before first k at steps e None = ap Ok (pushed_after before first k at steps e)
unless_after before first k at steps e (Some r) = refl

scheduled_after : (before : List Step) (first k at : ℕ) (p : Progress) (n : Names) (steps : Steps) (l : TextLine) → p.begun ≡ true → p.last ≡ stage.Event → scheduled at p n (after before first steps) l ≡ also before first (scheduled k at_events n steps l)
scheduled_after before first k at p n steps l begun last =
    elim (cases_Bool (is_skipped l.bytes)) [
      | inl skipped ↦ rw skipped refl
      | inr other ↦
          rw other (ap (λ (o : Option Rule). unless_broken o (with_step at (after before first steps) (step_in n (said_by l)))) (lowest_late p n l begun last) ∙ unless_after before first k at steps (step_in n (said_by l)) (lowest at_events n l))
    ]

-- ---- lines after events
abbrev pub late : Declarations → Declarations
late d = moved_on d (record d.progress { last = stage.Event })

abbrev pub counted : Declarations → ℕ → ℕ → List Step → Result (List Step) Fault → Result Script Fault
counted d off first before (Ok more) =
    Ok (script_with (record { declared = d; steps = record { first = Some first; list = before ++ more } }))
counted d off first before (Err f) = Err (record { line = off + f.line; rule = f.rule })

follows : (off k : ℕ) (d : Declarations) (before : List Step) (first : ℕ) (steps : Steps) (ls : List TextLine) → d.progress.begun ≡ true → (length d.setup.topics == 0) ≡ false → script_from (off + k) (record { declared = late d; steps = after before first steps }) ls ≡ counted (late d) off first before (schedule_from k (names_of d.setup) steps ls)
follows off k d before first steps [] begun some = rw (begun, some) refl
follows off k d before first steps (l ∷ ls) begun some =
    by (scheduled k at_events (names_of d.setup) steps l) refl (λ more. follows off (k + 1) d before first more ls begun some)
  where
    by : (r : Result Steps Rule) → scheduled k at_events (names_of d.setup) steps l ≡ r → ((more : Steps) → script_from (off + (k + 1)) (record { declared = late d; steps = after before first more }) ls ≡ counted (late d) off first before (schedule_from (k + 1) (names_of d.setup) more ls)) → script_from (off + k) (record { declared = late d; steps = after before first steps }) (l ∷ ls) ≡ counted (late d) off first before (at_line k r (λ more. schedule_from (k + 1) (names_of d.setup) more ls))
    by (Ok more) e rest =
        let s : SoFar = record { declared = late d; steps = after before first steps } in
        let one : off + k + 1 ≡ off + (k + 1) = omega arith in
        step_goes (off + k) s l ls (after before first more) (inl refl) (scheduled_after before first k (off + k) (late d).progress (names_of d.setup) steps l begun refl ∙ ap (also before first) e) ∙ (ap (λ (m : ℕ). script_from m (record { declared = late d; steps = after before first more }) ls) one ∙ rest more)
    by (Err r) e rest =
        let s : SoFar = record { declared = late d; steps = after before first steps } in
        step_breaks (off + k) s l ls r (inl refl) (scheduled_after before first k (off + k) (late d).progress (names_of d.setup) steps l begun refl ∙ ap (also before first) e)

-- ---- lines after a step
chosen_some : (b : Bool) (o : Option Step) (e : Step) → (if b then o else None) ≡ Some e → b ≡ true
chosen_some true o e is = refl
chosen_some false o e is = cc

heads : (n : Names) (h : Heading) (e : Step) → step_in n h ≡ Some e → heads_step h ≡ true
heads n heading.Unknown e is = cc
heads n heading.Formless e is = cc
heads n (heading.Headed k ws) e is =
    chosen_some (schedules k) (option_map (step_of k) (values_of n nothing_seen (columns_of k) ws)) e is

first_is : (o : Option ℕ) (at : ℕ) → (first : ℕ) × (first_of o at ≡ Some first)
first_is None at = (at, refl)
first_is (Some first) at = (first, refl)

counted_is : (s : SoFar) (at first : ℕ) (e : Step) (r : Result (List Step) Fault) → first_of s.steps.first at ≡ Some first → counted (late s.declared) at first (s.steps.list ++ e ∷ []) r ≡ followed (script_with s) at e r
counted_is s at first e (Ok more) is =
    let steps = append_assoc s.steps.list (e ∷ []) more in
    rw (steps, is) refl
counted_is s at first e (Err f) is = refl

says : (p : Progress) (n : Names) (e : Step) → AreDeclared n → known.IsStep n e → says_step (line_with (step_line n e)) ≡ true
says p n e d is =
    let bytes = step_line n e in
    let reads = step_reads p n e d is in
    and_from (not (is_skipped bytes)) (heads_step (said_by (line_with bytes))) (ap not (not_skipped bytes (step_said n e))) (heads n (said_by (line_with bytes)) e reads.1)

step_follows : (at : ℕ) (s : SoFar) (e : Step) (bytes : List ℕ) → s.declared.progress.begun ≡ true → (length s.declared.setup.topics == 0) ≡ false → AreDeclared (names_of s.declared.setup) → known.IsStep (names_of s.declared.setup) e → script_from at s (lines_of (step_line (names_of s.declared.setup) e ++ 10 ∷ bytes)) ≡ followed (script_with s) at e (schedule_of s.declared.setup bytes)
step_follows at s e bytes begun some d is =
    let n = names_of s.declared.setup in
    let l = line_with (step_line n e) in
    let ls = lines_of bytes in
    let before = s.steps.list ++ e ∷ [] in
    let first = first_is s.steps.first at in
    let same : with_step at s.steps (Some e) ≡ after before first.0 no_steps = rw (first.1, append-nil before) refl in
    ap (λ (xs : List TextLine). script_from at s xs) (first_line (step_line n e) bytes (step_shown n e d is)) ∙ (step_goes at s l ls (with_step at s.steps (Some e)) (inr (says s.declared.progress n e d is)) (line_adds s.declared.progress at n s.steps e begun d is) ∙ (ap (λ (steps : Steps). script_from (at + 1) (at_step s steps) ls) same ∙ (follows at 1 s.declared before first.0 no_steps ls begun some ∙ counted_is s at first.0 e (schedule_of s.declared.setup bytes) first.1)))

pub behind : (text bytes : List ℕ) (s : Script) (e : Step) → IsScenario s → script_of (text ++ 10 ∷ []) ≡ Ok s → IsStep s.setup e → script_of (text ++ 10 ∷ (step_line (names_of s.setup) e ++ 10 ∷ bytes)) ≡ followed s (length (lines_of (text ++ 10 ∷ [])) + 1) e (schedule_of s.setup bytes)
behind text bytes s e k is known =
    let ls = lines_of (text ++ 10 ∷ []) in
    let r = reached 1 no_line ls s is in
    let c = complete r.state s r.ends in
    let step : (t : Script) → script_with r.state ≡ t → IsScenario t → IsStep t.setup e → script_from (1 + length ls) r.state (lines_of (step_line (names_of t.setup) e ++ 10 ∷ bytes)) ≡ followed t (length ls + 1) e (schedule_of t.setup bytes) = λ t same. subst (λ (u : Script). IsScenario u → IsStep u.setup e → script_from (1 + length ls) r.state (lines_of (step_line (names_of u.setup) e ++ 10 ∷ bytes)) ≡ followed u (length ls + 1) e (schedule_of u.setup bytes)) same (λ k' known'. ap (λ (m : ℕ). script_from m r.state (lines_of (step_line (names_of r.state.declared.setup) e ++ 10 ∷ bytes))) (omega arith) ∙ step_follows (length ls + 1) r.state e bytes c.begun c.some (names_declared r.state.declared.setup (declared_scripted r.state.declared.setup k'.setup)) (step_there r.state.declared.setup e known')) in
    ap (λ (xs : List TextLine). script_from 1 no_line xs) (lines_after text (step_line (names_of s.setup) e ++ 10 ∷ bytes)) ∙ (r.goes (lines_of (step_line (names_of s.setup) e ++ 10 ∷ bytes)) ∙ step s c.same k known)

-- ---- a schedule that is accepted by itself goes on with a script
schedules_heading : (n : Names) (h : Heading) → find (heading_breaks at_events n h) word_rules ≡ None → heads_step h ≡ true
schedules_heading n heading.Unknown none = absurd (none-some rule.Word (sym none))
schedules_heading n heading.Formless none = absurd (none-some rule.Form (sym none))
schedules_heading n (heading.Headed k ws) none = scheduling at_events n k ws none (inl refl)

pub pushed_with : (before : List Step) (at k : ℕ) (own steps : Steps) (o : Option Step) → own.list ≡ before ++ steps.list → (with_step at own o).list ≡ before ++ (with_step k steps o).list
pushed_with before at k own steps None same = same
pushed_with before at k own steps (Some e) same =
    ap (λ (ss : List Step). ss ++ e ∷ []) same ∙ append_assoc before steps.list (e ∷ [])

-- a line that is not skipped, at events, is a step that any begun script takes in
pub line_steps : (at k : ℕ) (s : SoFar) (steps more : Steps) (l : TextLine) → s.declared.progress.begun ≡ true → is_skipped l.bytes ≡ false → unless_broken (lowest at_events (names_of s.declared.setup) l) (with_step k steps (step_in (names_of s.declared.setup) (said_by l))) ≡ Ok more → (says_step l ≡ true) × (scheduled at s.declared.progress (names_of s.declared.setup) s.steps l ≡ Ok (with_step at s.steps (step_in (names_of s.declared.setup) (said_by l)))) × (with_step k steps (step_in (names_of s.declared.setup) (said_by l)) ≡ more)
line_steps at k s steps more l begun other e =
    let n = names_of s.declared.setup in
    let p = s.declared.progress in
    let passed = unbroken (lowest at_events n l) (with_step k steps (step_in n (said_by l))) more e in
    let is = schedules_heading n (said_by l) (words_ok at_events n l passed.0) in
    let none : lowest p n l ≡ None = lowest_step p at_events n l begun refl is ∙ passed.0 in
    let taken : scheduled at p n s.steps l ≡ Ok (with_step at s.steps (step_in n (said_by l))) = rw (other, none) refl in
    (and_from (not (is_skipped l.bytes)) (heads_step (said_by l)) (ap not other) is, taken, passed.1)

joins : (at k : ℕ) (s : SoFar) (before : List Step) (steps : Steps) (ls : List TextLine) (more : List Step) → s.declared.progress.begun ≡ true → (length s.declared.setup.topics == 0) ≡ false → s.steps.list ≡ before ++ steps.list → schedule_from k (names_of s.declared.setup) steps ls ≡ Ok more → IsOkAnd (script_from at s ls) (IsWithSteps (script_with s) (before ++ more))
joins at k s before steps [] more begun some same e =
    let end : script_from at s [] ≡ Ok (script_with s) = rw (begun, some) refl in
    let list : steps.list ≡ more = cc in
    subst (λ (r : Result Script Fault). IsOkAnd r (IsWithSteps (script_with s) (before ++ more))) (sym end) (record { setup = refl; chance = refl; steps = same ∙ ap (λ (ss : List Step). before ++ ss) list })
joins at k s before steps (l ∷ ls) more begun some same e =
    let n = names_of s.declared.setup in
    let first = at_line_ok k (scheduled k at_events n steps l) (λ m. schedule_from (k + 1) n m ls) more e in
    let goal : Result Script Fault → Type 0 = λ r. IsOkAnd r (IsWithSteps (script_with s) (before ++ more)) in
    elim (chosen (is_skipped l.bytes) (Ok steps) (unless_broken (lowest at_events n l) (with_step k steps (step_in n (said_by l)))) (Ok first.0) first.1) [
      | inl skipped ↦
          let still : steps ≡ first.0 = cc in
          let passed : script_from at s (l ∷ ls) ≡ script_from (at + 1) s ls = rw skipped.0 refl in
          subst (λ (r : Result Script Fault). IsOkAnd r (IsWithSteps (script_with s) (before ++ more))) (sym passed) (joins (at + 1) (k + 1) s before first.0 ls more begun some (same ∙ ap (λ (x : Steps). before ++ x.list) still) first.2)
      | inr other ↦
          let o = step_in n (said_by l) in
          let is = line_steps at k s steps first.0 l begun other.0 other.1 in
          let now = at_step s (with_step at s.steps o) in
          let passed : script_from at s (l ∷ ls) ≡ script_from (at + 1) now ls = step_goes at s l ls (with_step at s.steps o) (inr is.0) is.1 in
          let list : (with_step at s.steps o).list ≡ before ++ first.0.list = pushed_with before at k s.steps steps o same ∙ ap (λ (x : Steps). before ++ x.list) is.2 in
          let rest : IsOkAnd (script_from (at + 1) now ls) (IsWithSteps (script_with now) (before ++ more)) = joins (at + 1) (k + 1) now before first.0 ls more begun some list first.2 in
          subst (λ (r : Result Script Fault). IsOkAnd r (IsWithSteps (script_with s) (before ++ more))) (sym passed) (others s now refl refl _ (script_from (at + 1) now ls) rest)
    ]
  where
    others : (s now : SoFar) → now.declared.setup ≡ s.declared.setup → now.declared.chance ≡ s.declared.chance → (ss : List Step) (r : Result Script Fault) → IsOkAnd r (IsWithSteps (script_with now) ss) → IsOkAnd r (IsWithSteps (script_with s) ss)
    others s now setup chance ss (Ok t) is =
        record { setup = is.setup ∙ setup; chance = is.chance ∙ chance; steps = is.steps }
    others s now setup chance ss (Err f) is = is

pub joined : (text bytes : List ℕ) (s : Script) (more : List Step) → script_of (text ++ 10 ∷ []) ≡ Ok s → schedule_of s.setup bytes ≡ Ok more → IsOkAnd (script_of (text ++ 10 ∷ bytes)) (IsWithSteps s (s.steps ++ more))
joined text bytes s more is e =
    let ls = lines_of (text ++ 10 ∷ []) in
    let r = reached 1 no_line ls s is in
    let c = complete r.state s r.ends in
    let own : schedule_of r.state.declared.setup bytes ≡ Ok more = ap (λ (t : Script). schedule_of t.setup bytes) c.same ∙ e in
    let goes : script_of (text ++ 10 ∷ bytes) ≡ script_from (1 + length ls) r.state (lines_of bytes) = ap (λ (xs : List TextLine). script_from 1 no_line xs) (lines_after text bytes) ∙ r.goes (lines_of bytes) in
    let all : IsOkAnd (script_of (text ++ 10 ∷ bytes)) (IsWithSteps (script_with r.state) (r.state.steps.list ++ more)) = subst (λ (x : Result Script Fault). IsOkAnd x (IsWithSteps (script_with r.state) (r.state.steps.list ++ more))) (sym goes) (joins (1 + length ls) 1 r.state r.state.steps.list no_steps (lines_of bytes) more c.begun c.some (sym (append-nil r.state.steps.list)) own) in
    subst (λ (t : Script). IsOkAnd (script_of (text ++ 10 ∷ bytes)) (IsWithSteps t (t.steps ++ more))) c.same all
