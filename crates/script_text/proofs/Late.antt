-- Once events come, a line that is taken in schedules a step.
use Rattle.std.proofs.Common.{◌≡◌, ℕ, ◌+◌, ◌≤◌, true, false, not, List, ◌∷◌, find, Option, Some, None, Result, Ok, Err, ◌⊎◌, inl, inr, arith, refl, sym, ap, ◌∙◌}
use Rattle.std.proofs.lemmas.Bool.{and_parts, cases_Bool, both_ways, ltb-false, not-true, or_parts}
use Rattle.std.proofs.lemmas.Option.{none-some}
use Rattle.script_rows.specs.NameWords.{Word}
use Rattle.script_rows.specs.declared.fault.Rule.{Rule}
use Rattle.script_rows.specs.declared.fault.Rule.TheVariants as rule
use Rattle.script_rows.specs.declared.heading.Heading.{Heading}
use Rattle.script_rows.specs.declared.heading.Heading.TheVariants as heading
use Rattle.script_rows.specs.declared.kind.Kind.{Kind}
use Rattle.script_rows.specs.declared.kind.Kind.TheVariants as kind
use Rattle.script_rows.specs.declared.line_kind.LineKind.TheVariants as line
use Rattle.script_rows.specs.declared.progress.Progress.{Progress}
use Rattle.script_rows.specs.declared.progress.Stage.{Stage}
use Rattle.script_rows.specs.declared.progress.Stage.TheVariants as stage
use Rattle.script_rows.specs.Judging.{cells_break, heading_breaks, kind_breaks, rule_number, word_rules}
use Rattle.script_rows.specs.Known.{schedules, step_in}
use Rattle.script_rows.specs.Names.{Names, nothing_seen}
use Rattle.script_rows.specs.Rows.{columns_of, rank, stage_of}
use Rattle.script_text.specs.Adding.{added, progress_after, with_step}
use Rattle.script_text.specs.Drafts.{IsLate, heads_step, moved_on, says_step}
use Rattle.script_text.specs.Lines.{TextLine, is_skipped}
use Rattle.script_text.specs.Naming.{names_of}
use Rattle.script_text.specs.Rules.{at_line, breaks, judged, lowest, said_by, script_from, unless_broken}
use Rattle.script_text.specs.Schedule.{scheduled}
use Rattle.script_text.specs.Script.{SoFar, Steps}
use Rattle.script_text.proofs.Parts.{none_found}

-- ---- a line that breaks no rule
-- its words break none
pub words_ok : (p : Progress) (n : Names) (l : TextLine) → lowest p n l ≡ None → find (heading_breaks p n (said_by l)) word_rules ≡ None
unfolding lowest
words_ok p n l none =
    (none_found (breaks p n l rule.Head) rule.Head _ (none_found (breaks p n l rule.Bytes) rule.Bytes _ none).1).1

-- its kind comes no earlier than the last
pub in_order : (p : Progress) (n : Names) (k : Kind) (ws : List Word) → find (heading_breaks p n (heading.Headed k ws)) word_rules ≡ None → rank p.last ≤ rank (stage_of k)
in_order p n k ws none =
    let h = heading.Headed k ws in
    let word = none_found (heading_breaks p n h rule.Word) rule.Word _ none in
    let form = none_found (heading_breaks p n h rule.Form) rule.Form _ word.1 in
    let long = none_found (heading_breaks p n h rule.LongName) rule.LongName _ form.1 in
    let order = none_found (heading_breaks p n h rule.Order) rule.Order _ long.1 in
    ltb-false _ _ (or_parts (kind_breaks p k rule.Order) (cells_break n rule.Order nothing_seen (columns_of k) ws) order.0).0

last_kind : (k : Kind) → 6 ≤ rank (stage_of k) → schedules k ≡ true
last_kind (kind.Event k) late = refl
last_kind (kind.Halt k) late = refl
last_kind (kind.Other line.Settle) late = refl
last_kind (kind.Other line.Stop) late = refl
last_kind (kind.Other line.Geo) late = absurd (omega arith)
last_kind (kind.Other line.Ledger) late = absurd (omega arith)
last_kind (kind.Other line.Chance) late = absurd (omega arith)
last_kind (kind.Other line.Cluster) late = absurd (omega arith)
last_kind (kind.Other line.Topic) late = absurd (omega arith)
last_kind (kind.Other line.Client) late = absurd (omega arith)
last_kind (kind.Do k) late = absurd (omega arith)

pub scheduling : (p : Progress) (n : Names) (k : Kind) (ws : List Word) → find (heading_breaks p n (heading.Headed k ws)) word_rules ≡ None → (p.last ≡ stage.Event) ⊎ (schedules k ≡ true) → schedules k ≡ true
scheduling p n k ws none (inr is) = is
scheduling p n k ws none (inl late) =
    let last : rank p.last ≡ 6 = ap rank late in
    last_kind k (omega (arith, last, in_order p n k ws none))

-- ---- the state after it
step_moves : (p : Progress) (k : Kind) → schedules k ≡ true → progress_after p k ≡ record p { last = stage.Event }
step_moves p (kind.Event k) is = refl
step_moves p (kind.Halt k) is = refl
step_moves p (kind.Other line.Settle) is = refl
step_moves p (kind.Other line.Stop) is = refl
step_moves p (kind.Other line.Geo) is = cc
step_moves p (kind.Other line.Ledger) is = cc
step_moves p (kind.Other line.Chance) is = cc
step_moves p (kind.Other line.Cluster) is = cc
step_moves p (kind.Other line.Topic) is = cc
step_moves p (kind.Other line.Client) is = cc
step_moves p (kind.Do k) is = cc

abbrev pub at_step : SoFar → Steps → SoFar
at_step s steps =
    record { declared = moved_on s.declared (record s.declared.progress { last = stage.Event }); steps = steps }

pub added_step : (at : ℕ) (s : SoFar) (h : Heading) → find (heading_breaks s.declared.progress (names_of s.declared.setup) h) word_rules ≡ None → (s.declared.progress.last ≡ stage.Event) ⊎ (heads_step h ≡ true) → added at s h ≡ at_step s (with_step at s.steps (step_in (names_of s.declared.setup) h))
added_step at s heading.Unknown none late = absurd (none-some rule.Word (sym none))
added_step at s heading.Formless none late = absurd (none-some rule.Form (sym none))
added_step at s (heading.Headed k ws) none late =
    let is = scheduling s.declared.progress (names_of s.declared.setup) k ws none late in
    let moves = step_moves s.declared.progress k is in
    let steps = with_step at s.steps (step_in (names_of s.declared.setup) (heading.Headed k ws)) in
    let first : added at s (heading.Headed k ws) ≡ record { declared = moved_on s.declared (progress_after s.declared.progress k); steps = steps } = rw is refl in
    first ∙ ap (λ (p : Progress). record { declared = moved_on s.declared p; steps = steps }) moves

abbrev pub after_step : SoFar → Result Steps Rule → Result SoFar Rule
after_step s (Ok steps) = Ok (at_step s steps)
after_step s (Err r) = Err r

-- a skipped line schedules nothing
not_skipped : (l : TextLine) → says_step l ≡ true → is_skipped l.bytes ≡ false
not_skipped l says = not-true (is_skipped l.bytes) (and_parts (not (is_skipped l.bytes)) (heads_step (said_by l)) says).0

heads : (l : TextLine) → says_step l ≡ true → heads_step (said_by l) ≡ true
heads l says = (and_parts (not (is_skipped l.bytes)) (heads_step (said_by l)) says).1

still : (s : SoFar) → s.declared.progress.last ≡ stage.Event → s ≡ at_step s s.steps
still s late =
    ap (λ (st : Stage). record s { declared = record s.declared { progress = record s.declared.progress { last = st } } }) late

said_late : (at : ℕ) (s : SoFar) (l : TextLine) (o : Option Rule) → lowest s.declared.progress (names_of s.declared.setup) l ≡ o → (s.declared.progress.last ≡ stage.Event) ⊎ (heads_step (said_by l) ≡ true) → unless_broken o (added at s (said_by l)) ≡ after_step s (unless_broken o (with_step at s.steps (step_in (names_of s.declared.setup) (said_by l))))
said_late at s l (Some r) e late = refl
said_late at s l None e late =
    ap Ok (added_step at s (said_by l) (words_ok s.declared.progress (names_of s.declared.setup) l e) late)

late_head : (p : Progress) (l : TextLine) (ls : List TextLine) → IsLate p (l ∷ ls) → (p.last ≡ stage.Event) ⊎ (heads_step (said_by l) ≡ true)
late_head p l ls (inl late) = inl late
late_head p l ls (inr says) = inr (heads l says)

skipped_late : (p : Progress) (l : TextLine) (ls : List TextLine) → is_skipped l.bytes ≡ true → IsLate p (l ∷ ls) → p.last ≡ stage.Event
skipped_late p l ls skipped (inl late) = late
skipped_late p l ls skipped (inr says) = absurd (both_ways (is_skipped l.bytes) (not_skipped l says) skipped)

pub judged_late : (at : ℕ) (s : SoFar) (l : TextLine) (ls : List TextLine) → IsLate s.declared.progress (l ∷ ls) → judged at s l ≡ after_step s (scheduled at s.declared.progress (names_of s.declared.setup) s.steps l)
judged_late at s l ls late =
    elim (cases_Bool (is_skipped l.bytes)) [
      | inl skipped ↦ rw skipped (ap Ok (still s (skipped_late s.declared.progress l ls skipped late)))
      | inr other ↦ rw other (said_late at s l (lowest s.declared.progress (names_of s.declared.setup) l) refl (late_head s.declared.progress l ls late))
    ]

-- ---- from line to line
pub step_goes : (at : ℕ) (s : SoFar) (l : TextLine) (ls : List TextLine) (steps : Steps) → IsLate s.declared.progress (l ∷ ls) → scheduled at s.declared.progress (names_of s.declared.setup) s.steps l ≡ Ok steps → script_from at s (l ∷ ls) ≡ script_from (at + 1) (at_step s steps) ls
step_goes at s l ls steps late is =
    ap (λ (r : Result SoFar Rule). at_line at r (λ s'. script_from (at + 1) s' ls)) (judged_late at s l ls late ∙ ap (after_step s) is)

pub step_breaks : (at : ℕ) (s : SoFar) (l : TextLine) (ls : List TextLine) (r : Rule) → IsLate s.declared.progress (l ∷ ls) → scheduled at s.declared.progress (names_of s.declared.setup) s.steps l ≡ Err r → script_from at s (l ∷ ls) ≡ Err (record { line = at; rule = rule_number r })
step_breaks at s l ls r late is =
    ap (λ (r : Result SoFar Rule). at_line at r (λ s'. script_from (at + 1) s' ls)) (judged_late at s l ls late ∙ ap (after_step s) is)
