-- A schedule that is written reads back the same, and the steps of one that is read are the script's.
use Rattle.std.proofs.Common.{◌≡◌, ℕ, ◌+◌, ◌≤◌, nat_le, ◌==◌, true, false, ◌&&◌, List, [], ◌∷◌, ◌++◌, get_or, All, IfOk, Option, Some, None, Result, Ok, Err, inl, inr, arith, refl, sym, ap, ◌∙◌, subst}
use Rattle.std.specs.List.{list_all}
use Rattle.std.proofs.lemmas.Bool.{and_from, and_parts, leb-true, ne_eqb}
use Rattle.std.proofs.lemmas.List.{append_assoc, append-nil}
use Rattle.std.proofs.lemmas.List.Elements.{All-from_get_or, All-head, All-push, All-tail, All-weaker}
use Rattle.std.proofs.lemmas.List.Splits.{slice_split_at}
use Rattle.geo_base.specs.declared.event.Step.{Step}
use Rattle.geo_base.specs.Setup.{Setup}
use Rattle.script_rows.specs.declared.fault.Rule.{Rule}
use Rattle.script_rows.specs.declared.progress.Progress.{Progress}
use Rattle.script_rows.specs.Judging.{rule_number}
use Rattle.script_rows.specs.Known.{step_in}
use Rattle.script_rows.specs.Known as known
use Rattle.script_rows.specs.Names.{Names}
use Rattle.script_rows.specs.Written.{AreDeclared, step_line}
use Rattle.script_rows.proofs.Back.{passes}
use Rattle.script_rows.proofs.Lines.{step_known, step_reads}
use Rattle.script_rows.proofs.Plain.{IsSaid, is_shown, step_said, step_shown}
use Rattle.script_text.specs.Lines.{TextLine, is_skipped, lines_of}
use Rattle.script_text.specs.Scenario.{IsStep}
use Rattle.script_text.specs.Adding.{with_step}
use Rattle.script_text.specs.declared.fault.ScriptFault.{ScriptFault}
use Rattle.script_text.specs.Drafts.{Answers, IsDeclared}
use Rattle.script_text.specs.Naming.{names_of}
use Rattle.script_text.specs.Rules.{at_line, lowest, said_by, unless_broken}
use Rattle.script_text.specs.Schedule.{at_events, schedule_from, schedule_of, schedule_text, scheduled}
use Rattle.script_text.specs.Script.{Fault, Steps, no_steps}
use Rattle.script_text.proofs.Cuts.{lines_cut}
use Rattle.script_text.proofs.Lowest.{words_begun}
use Rattle.script_text.proofs.Named.{names_declared, step_here, step_there}
use Rattle.script_text.proofs.Late.{words_ok}
use Rattle.script_text.proofs.Parts.{chosen, unbroken}

-- ---- one line
no_feed : (b : ℕ) → is_shown b ≡ true → (b == 10) ≡ false
no_feed b is =
    let least : 32 ≤ b = leb-true _ _ (and_parts (nat_le 32 b) (nat_le b 126) is).0 in ne_eqb b 10 (λ same. omega arith)

feedless : (bytes : List ℕ) → list_all is_shown bytes ≡ true → All (λ b. (b == 10) ≡ false) bytes
feedless bytes all =
    All-from_get_or (λ b. (b == 10) ≡ false) bytes 0 (λ k within. no_feed (get_or bytes k 0) (passes is_shown bytes k 0 all within))

abbrev pub line_with : List ℕ → TextLine
line_with bytes = record { bytes = bytes; ended = true }

pub first_line : (bytes more : List ℕ) → list_all is_shown bytes ≡ true → lines_of (bytes ++ 10 ∷ more) ≡ line_with bytes ∷ lines_of more
first_line bytes more all =
    lines_cut (bytes ++ 10 ∷ more) bytes more (slice_split_at (λ b. b == 10) bytes 10 more (feedless bytes all) refl)

pub not_skipped : (bytes : List ℕ) → IsSaid bytes → is_skipped bytes ≡ false
not_skipped bytes said = subst (λ (bs : List ℕ). is_skipped bs ≡ false) (sym said.2) said.3

-- the line of a step adds that step
pub line_adds : (p : Progress) (at : ℕ) (n : Names) (steps : Steps) (s : Step) → p.begun ≡ true → AreDeclared n → known.IsStep n s → scheduled at p n steps (line_with (step_line n s)) ≡ Ok (with_step at steps (Some s))
line_adds p at n steps s begun d is =
    let reads = step_reads p n s d is in
    let plain : (list_all is_shown (step_line n s) && true) ≡ true = and_from (list_all is_shown (step_line n s)) true (step_shown n s d is) refl in
    let none : lowest p n (line_with (step_line n s)) ≡ None = words_begun p n (line_with (step_line n s)) plain begun ∙ reads.0 in
    rw (not_skipped (step_line n s) (step_said n s), none, reads.1) refl

-- ---- a schedule
from_back : (k : ℕ) (n : Names) (steps : Steps) (ss : List Step) → AreDeclared n → All (known.IsStep n) ss → schedule_from k n steps (lines_of (schedule_text n ss)) ≡ Ok (steps.list ++ ss)
from_back k n steps [] d all = ap Ok (sym (append-nil steps.list))
from_back k n steps (s ∷ ss) d all =
    let is = All-head (known.IsStep n) s ss all in
    let lines = first_line (step_line n s) (schedule_text n ss) (step_shown n s d is) in
    let more = with_step k steps (Some s) in
    subst (λ (ls : List TextLine). schedule_from k n steps ls ≡ Ok (steps.list ++ s ∷ ss)) (sym lines) (subst (λ (r : Result Steps Rule). at_line k r (λ m. schedule_from (k + 1) n m (lines_of (schedule_text n ss))) ≡ Ok (steps.list ++ s ∷ ss)) (sym (line_adds at_events k n steps s refl d is)) (from_back (k + 1) n more ss d (All-tail (known.IsStep n) s ss all) ∙ ap Ok (append_assoc steps.list (s ∷ []) ss)))

all_there : (s : Setup) (ss : List Step) → All (IsStep s) ss → All (known.IsStep (names_of s)) ss
all_there s ss all = All-weaker (IsStep s) (known.IsStep (names_of s)) (step_there s) ss all

pub schedule_back : (s : Setup) (ss : List Step) → IsDeclared s → All (IsStep s) ss → schedule_of s (schedule_text (names_of s) ss) ≡ Ok ss
schedule_back s ss k all = from_back 1 (names_of s) no_steps ss (names_declared s k) (all_there s ss all)

-- ---- what is read
step_pushed : (s : Setup) (at : ℕ) (steps : Steps) (o : Option Step) → ((st : Step) → o ≡ Some st → IsStep s st) → All (IsStep s) steps.list → All (IsStep s) (with_step at steps o).list
step_pushed s at steps None each all = all
step_pushed s at steps (Some st) each all = All-push (IsStep s) steps.list st all (each st refl)

-- a line that is taken in adds a step of the script, or none
pub line_known : (s : Setup) (at : ℕ) (p : Progress) (steps more : Steps) (l : TextLine) → IsDeclared s → scheduled at p (names_of s) steps l ≡ Ok more → All (IsStep s) steps.list → All (IsStep s) more.list
line_known s at p steps more l k e all =
    let n = names_of s in
    elim (chosen (is_skipped l.bytes) (Ok steps) (unless_broken (lowest p n l) (with_step at steps (step_in n (said_by l)))) (Ok more) e) [
      | inl skipped ↦ let same : steps ≡ more = cc in subst (λ (x : Steps). All (IsStep s) x.list) same all
      | inr other ↦
          let parts = unbroken (lowest p n l) (with_step at steps (step_in n (said_by l))) more other.1 in
          subst (λ (x : Steps). All (IsStep s) x.list) parts.1 (step_pushed s at steps (step_in n (said_by l)) (λ st is. step_here s st (step_known p n l.bytes st (names_declared s k) (words_ok p n l parts.0, is))) all)
    ]

-- what is left of a schedule adds steps of the script, if its first line does
known_after : (s : Setup) (k : ℕ) (steps : Steps) (l : TextLine) (ls : List TextLine) (ss : List Step) (r : Result Steps Rule) → IsDeclared s → scheduled k at_events (names_of s) steps l ≡ r → at_line k r (λ more. schedule_from (k + 1) (names_of s) more ls) ≡ Ok ss → All (IsStep s) steps.list → ((more : Steps) → schedule_from (k + 1) (names_of s) more ls ≡ Ok ss → All (IsStep s) more.list → All (IsStep s) ss) → All (IsStep s) ss
known_after s k steps l ls ss (Ok more) d is e all rest = rest more e (line_known s k at_events steps more l d is all)
known_after s k steps l ls ss (Err r) d is e all rest = absurd (cc)

lines_known : (s : Setup) (k : ℕ) (steps : Steps) (ls : List TextLine) (ss : List Step) → IsDeclared s → schedule_from k (names_of s) steps ls ≡ Ok ss → All (IsStep s) steps.list → All (IsStep s) ss
lines_known s k steps [] ss d e all = let same : steps.list ≡ ss = cc in subst (All (IsStep s)) same all
lines_known s k steps (l ∷ ls) ss d e all =
    known_after s k steps l ls ss (scheduled k at_events (names_of s) steps l) d refl e all (λ more goes so. lines_known s (k + 1) more ls ss d goes so)

-- so the steps that are answered are the script's
pub steps_known : (s : Setup) (bytes : List ℕ) (r : Result (List Step) ScriptFault) → IsDeclared s → Answers r (schedule_of s bytes) → IfOk r (All (IsStep s))
steps_known s bytes (Ok ss) d is = lines_known s 1 no_steps (lines_of bytes) ss d is (λ k e under. absurd (omega (arith, under)))
steps_known s bytes (Err f) d is = tt

-- ---- from line to line
pub schedule_goes : (k : ℕ) (n : Names) (steps more : Steps) (l : TextLine) (ls : List TextLine) → scheduled k at_events n steps l ≡ Ok more → schedule_from k n steps (l ∷ ls) ≡ schedule_from (k + 1) n more ls
schedule_goes k n steps more l ls e =
    ap (λ (r : Result Steps Rule). at_line k r (λ m. schedule_from (k + 1) n m ls)) e

pub schedule_breaks : (k : ℕ) (n : Names) (steps : Steps) (l : TextLine) (ls : List TextLine) (r : Rule) → scheduled k at_events n steps l ≡ Err r → schedule_from k n steps (l ∷ ls) ≡ Err (record { line = k; rule = rule_number r })
schedule_breaks k n steps l ls r e =
    ap (λ (x : Result Steps Rule). at_line k x (λ m. schedule_from (k + 1) n m ls)) e

-- a refusal of a schedule
abbrev pub refused_line : ℕ → ℕ → Result (List Step) Fault
refused_line line number = Err (record { line = line; rule = number })
