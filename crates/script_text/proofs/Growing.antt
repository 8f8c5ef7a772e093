-- A line of declarations that is taken in declares more, so that what stands after the declarations of an accepted script is
-- its schedule.
use Rattle.std.proofs.Common.{◌≡◌, ℕ, ◌+◌, ◌<◌, ◌≤◌, true, false, List, [], ◌∷◌, ◌++◌, length, find, is_none, Option, Some, None, Ok, inl, inr, arith, refl, sym, ap, ◌∙◌, subst}
use Rattle.std.specs.List.{sum_by}
use Rattle.std.proofs.lemmas.Bool.{cases_Bool, cases_lt, or_parts}
use Rattle.std.proofs.lemmas.List.{length-map, length-set, length_push, set_past}
use Rattle.std.proofs.lemmas.List.Sums.{sum_by-set, sum_by_push}
use Rattle.std.proofs.lemmas.Option.{none-some}
use Rattle.geo_base.specs.declared.client.Line.{Line}
use Rattle.geo_base.specs.Setup.{Declared, Setup, declared_at, nobody}
use Rattle.script_rows.specs.NameWords.{Word}
use Rattle.script_rows.specs.declared.column.Column.{Column}
use Rattle.script_rows.specs.declared.fault.Rule.TheVariants as rule
use Rattle.script_rows.specs.declared.heading.Heading.{Heading}
use Rattle.script_rows.specs.declared.heading.Heading.TheVariants as heading
use Rattle.script_rows.specs.declared.kind.Kind.{Kind}
use Rattle.script_rows.specs.declared.kind.Kind.TheVariants as kind
use Rattle.script_rows.specs.declared.line_kind.LineKind.TheVariants as row
use Rattle.script_rows.specs.declared.value.Value.{Value}
use Rattle.script_rows.specs.Judging.{cells_break, heading_breaks, kind_breaks, values_of, word_rules}
use Rattle.script_rows.specs.Columns.{cell_breaks, seen_after, value_of}
use Rattle.script_rows.specs.Known.{schedules, step_in}
use Rattle.script_rows.specs.Names.{Names, Seen, nothing_seen}
use Rattle.script_rows.specs.Rows.{columns_of, rank}
use Rattle.script_rows.specs.Values.{item_at, line_of, name_at, rest}
use Rattle.script_rows.specs.Words.{◌>>=◌}
use Rattle.script_rows.proofs.Lines.{unbroken_fits}
use Rattle.script_rows.proofs.RowValues.{item_below}
use Rattle.script_text.specs.Adding.{added, new_client, one_more, setup_after, with_client, with_line, with_step, with_values_in}
use Rattle.script_text.specs.Canonical.{declarations_text}
use Rattle.script_text.specs.Drafts.{heads_step, so_far}
use Rattle.script_text.specs.Lines.{TextLine, is_skipped, lines_of}
use Rattle.script_text.specs.Naming.{names_of}
use Rattle.script_text.specs.Rules.{completed, judged, lowest, said_by, script_from, script_of, unless_broken}
use Rattle.script_text.specs.Scenario.{IsScenario}
use Rattle.script_text.specs.Schedule.{at_events, schedule_from, schedule_of, scheduled}
use Rattle.script_text.specs.Script.{Declarations, Script, SoFar, Steps, no_steps}
use Rattle.script_text.proofs.AllBack.{declared_read}
use Rattle.script_text.proofs.Appended.{at_line_ok, complete, ended_ok}
use Rattle.script_text.proofs.Following.{lowest_step, pushed_with}
use Rattle.script_text.proofs.Late.{added_step, at_step, in_order, words_ok}
use Rattle.script_text.proofs.Parts.{chosen, none_found, unbroken}
use Rattle.script_text.proofs.RowsBack.{said}
use Rattle.script_text.proofs.ScheduleBack.{schedule_goes}

-- ---- how much is declared
abbrev pub lines_of_client : Declared → ℕ
lines_of_client d = length d.lines

abbrev pub declared_by : Setup → ℕ
declared_by s = length s.clusters + length s.topics + length s.clients + sum_by lines_of_client s.clients

client_more : (s : Setup) (w : Word) (t x : ℕ) → declared_by (with_client s (new_client w t x)) ≡ declared_by s + 1
client_more s w t x =
    omega (arith, length_push s.clients (new_client w t x), sum_by_push lines_of_client s.clients (new_client w t x))

line_more : (s : Setup) (c : ℕ) (l : Line) → c < length s.clients → declared_by (with_line s c l) ≡ declared_by s + 1
line_more s c l within =
    let now = one_more (declared_at s c) l in
    omega (arith, sum_by-set lines_of_client s.clients c now nobody within, length_push (declared_at s c).lines l, length-set s.clients c now)

line_keeps : (s : Setup) (c : ℕ) (l : Line) → declared_by s ≤ declared_by (with_line s c l)
line_keeps s c l =
    elim (cases_lt c (length s.clients)) [
      | inl within ↦ omega (arith, line_more s c l within)
      | inr past ↦
          let same : with_line s c l ≡ s = ap (λ (ds : List Declared). record s { clients = ds }) (set_past s.clients c (one_more (declared_at s c) l) past) in
          omega (arith, ap declared_by same)
    ]

setup_keeps : (s : Setup) (k : Kind) (vs : List Value) → declared_by s ≤ declared_by (setup_after s k vs)
setup_keeps s (kind.Other row.Cluster) vs = omega (arith, length_push s.clusters (name_at vs 0))
setup_keeps s (kind.Other row.Topic) vs = omega (arith, length_push s.topics (name_at vs 0))
setup_keeps s (kind.Other row.Client) vs =
    omega (arith, client_more s (name_at vs 0) (item_at vs 1) (item_at vs 2))
setup_keeps s (kind.Do k) vs = line_keeps s (item_at vs 0) (line_of k (rest vs))
setup_keeps s k vs = omega arith

values_keep : (d : Declarations) (k : Kind) (o : Option (List Value)) → declared_by d.setup ≤ declared_by (with_values_in d k o).setup
values_keep d k None = omega arith
values_keep d k (Some vs) = setup_keeps d.setup k vs

added_keeps : (at : ℕ) (s : SoFar) (h : Heading) → declared_by s.declared.setup ≤ declared_by (added at s h).declared.setup
added_keeps at s heading.Unknown = omega arith
added_keeps at s heading.Formless = omega arith
added_keeps at s (heading.Headed k ws) =
    elim (cases_Bool (schedules k)) [
      | inl is ↦
          let same : (added at s (heading.Headed k ws)).declared.setup ≡ s.declared.setup = rw is refl in
          omega (arith, ap declared_by same)
      | inr other ↦
          let now = with_values_in s.declared k (values_of (names_of s.declared.setup) nothing_seen (columns_of k) ws) in
          let same : (added at s (heading.Headed k ws)).declared.setup ≡ now.setup = rw other refl in
          omega (arith, ap declared_by same, values_keep s.declared k (values_of (names_of s.declared.setup) nothing_seen (columns_of k) ws))
    ]

judged_keeps : (at : ℕ) (s now : SoFar) (l : TextLine) → judged at s l ≡ Ok now → declared_by s.declared.setup ≤ declared_by now.declared.setup
judged_keeps at s now l e =
    elim (chosen (is_skipped l.bytes) (Ok s) (unless_broken (lowest s.declared.progress (names_of s.declared.setup) l) (added at s (said_by l))) (Ok now) e) [
      | inl skipped ↦
          let same : s ≡ now = cc in
          omega (arith, ap (λ (x : SoFar). declared_by x.declared.setup) same)
      | inr other ↦
          let passed = unbroken (lowest s.declared.progress (names_of s.declared.setup) l) (added at s (said_by l)) now other.1 in
          omega (arith, added_keeps at s (said_by l), ap (λ (x : SoFar). declared_by x.declared.setup) passed.1)
    ]

script_keeps : (at : ℕ) (s : SoFar) (ls : List TextLine) (t : Script) → script_from at s ls ≡ Ok t → declared_by s.declared.setup ≤ declared_by t.setup
script_keeps at s [] t e =
    omega (arith, ap (λ (x : Script). declared_by x.setup) (complete s t (ended_ok at (completed s) t e)).same)
script_keeps at s (l ∷ ls) t e =
    let first = at_line_ok at (judged at s l) (λ s'. script_from (at + 1) s' ls) t e in
    omega (arith, judged_keeps at s first.0 l first.1, script_keeps (at + 1) first.0 ls t first.2)

-- ---- a line that declares, after a topic
some_is : {A : Type 0} (o : Option A) → is_none o ≡ false → (a : A) × (o ≡ Some a)
some_is None e = cc
some_is (Some a) e = (a, refl)

formed : (n : Names) (z : Seen) (cs : List Column) (ws : List Word) → cells_break n rule.Form z cs ws ≡ false → (vs : List Value) × (values_of n z cs ws ≡ Some vs)
formed n z [] [] e = ([], refl)
formed n z [] (w ∷ ws) e = cc
formed n z (c ∷ cs) [] e = cc
formed n z (c ∷ cs) (w ∷ ws) e =
    let parts = or_parts (cell_breaks n z c w rule.Form) (cells_break n rule.Form (seen_after n z c w) cs ws) e in
    let v = some_is (value_of n z c w) parts.0 in
    let vs = formed n (seen_after n z c w) cs ws parts.1 in
    let more : Option Value → Option (List Value) → Option (List Value) = λ a b. a >>= λ x. b >>= λ xs. Some (x ∷ xs) in
    (v.0 ∷ vs.0, ap (λ (a : Option Value). more a (values_of n (seen_after n z c w) cs ws)) v.1 ∙ ap (λ (b : Option (List Value)). more (Some v.0) b) vs.1)

form_kept : (s : SoFar) (k : Kind) (ws : List Word) → find (heading_breaks s.declared.progress (names_of s.declared.setup) (heading.Headed k ws)) word_rules ≡ None → cells_break (names_of s.declared.setup) rule.Form nothing_seen (columns_of k) ws ≡ false
form_kept s k ws none =
    let p = s.declared.progress in
    let n = names_of s.declared.setup in
    let h = heading.Headed k ws in
    let word = none_found (heading_breaks p n h rule.Word) rule.Word _ none in
    let form = none_found (heading_breaks p n h rule.Form) rule.Form _ word.1 in
    (or_parts (kind_breaks p k rule.Form) (cells_break n rule.Form nothing_seen (columns_of k) ws) form.0).1

row_more : (s : SoFar) (k : Kind) (ws : List Word) (vs : List Value) → 3 ≤ rank s.declared.progress.last → schedules k ≡ false → find (heading_breaks s.declared.progress (names_of s.declared.setup) (heading.Headed k ws)) word_rules ≡ None → values_of (names_of s.declared.setup) nothing_seen (columns_of k) ws ≡ Some vs → declared_by (setup_after s.declared.setup k vs) ≡ declared_by s.declared.setup + 1
row_more s (kind.Other row.Geo) ws vs late is none e =
    absurd (omega (arith, late, in_order s.declared.progress (names_of s.declared.setup) (kind.Other row.Geo) ws none))
row_more s (kind.Other row.Ledger) ws vs late is none e =
    absurd (omega (arith, late, in_order s.declared.progress (names_of s.declared.setup) (kind.Other row.Ledger) ws none))
row_more s (kind.Other row.Chance) ws vs late is none e =
    absurd (omega (arith, late, in_order s.declared.progress (names_of s.declared.setup) (kind.Other row.Chance) ws none))
row_more s (kind.Other row.Cluster) ws vs late is none e =
    absurd (omega (arith, late, in_order s.declared.progress (names_of s.declared.setup) (kind.Other row.Cluster) ws none))
row_more s (kind.Other row.Topic) ws vs late is none e =
    omega (arith, length_push s.declared.setup.topics (name_at vs 0))
row_more s (kind.Other row.Client) ws vs late is none e =
    client_more s.declared.setup (name_at vs 0) (item_at vs 1) (item_at vs 2)
row_more s (kind.Do k) ws vs late is none e =
    let n = names_of s.declared.setup in
    let fits = unbroken_fits s.declared.progress n (kind.Do k) ws vs none e in
    let within : item_at vs 0 < length n.clients = item_below vs 0 (length n.clients) fits.1.0 in
    line_more s.declared.setup (item_at vs 0) (line_of k (rest vs)) (omega (arith, within, length-map s.declared.setup.clients (λ (d : Declared). d.name)))
row_more s (kind.Other row.Settle) ws vs late is none e = cc
row_more s (kind.Other row.Stop) ws vs late is none e = cc
row_more s (kind.Event k) ws vs late is none e = cc
row_more s (kind.Halt k) ws vs late is none e = cc

declares : (at : ℕ) (s : SoFar) (h : Heading) → 3 ≤ rank s.declared.progress.last → heads_step h ≡ false → find (heading_breaks s.declared.progress (names_of s.declared.setup) h) word_rules ≡ None → declared_by (added at s h).declared.setup ≡ declared_by s.declared.setup + 1
declares at s heading.Unknown late is none = absurd (none-some rule.Word (sym none))
declares at s heading.Formless late is none = absurd (none-some rule.Form (sym none))
declares at s (heading.Headed k ws) late is none =
    let n = names_of s.declared.setup in
    let values = formed n nothing_seen (columns_of k) ws (form_kept s k ws none) in
    let same : (added at s (heading.Headed k ws)).declared.setup ≡ setup_after s.declared.setup k values.0 = rw (is, values.1) refl in
    ap declared_by same ∙ row_more s k ws values.0 late is none values.1

-- ---- after a topic, the lines of an accepted script that declares nothing more are a schedule
parts : (at k : ℕ) (s : SoFar) (steps : Steps) (ls : List TextLine) (t : Script) → s.declared.progress.begun ≡ true → 3 ≤ rank s.declared.progress.last → s.steps.list ≡ steps.list → t.setup ≡ s.declared.setup → script_from at s ls ≡ Ok t → schedule_from k (names_of s.declared.setup) steps ls ≡ Ok t.steps
parts at k s steps [] t begun late same own e =
    ap Ok (sym same ∙ ap (λ (x : Script). x.steps) (complete s t (ended_ok at (completed s) t e)).same)
parts at k s steps (l ∷ ls) t begun late same own e =
    let n = names_of s.declared.setup in
    let p = s.declared.progress in
    let first = at_line_ok at (judged at s l) (λ s'. script_from (at + 1) s' ls) t e in
    elim (chosen (is_skipped l.bytes) (Ok s) (unless_broken (lowest p n l) (added at s (said_by l))) (Ok first.0) first.1) [
      | inl skipped ↦
          let still : first.0 ≡ s = cc in
          let goes : schedule_from k n steps (l ∷ ls) ≡ schedule_from (k + 1) n steps ls = rw skipped.0 refl in
          goes ∙ parts (at + 1) (k + 1) s steps ls t begun late same own (subst (λ (x : SoFar). script_from (at + 1) x ls ≡ Ok t) still first.2)
      | inr other ↦
          let passed = unbroken (lowest p n l) (added at s (said_by l)) first.0 other.1 in
          let words = words_ok p n l passed.0 in
          elim (cases_Bool (heads_step (said_by l))) [
            | inl is ↦
                let o = step_in n (said_by l) in
                let now = at_step s (with_step at s.steps o) in
                let none : lowest at_events n l ≡ None = lowest_step at_events p n l refl begun is ∙ passed.0 in
                let taken : scheduled k at_events n steps l ≡ Ok (with_step k steps o) = rw (other.0, none) refl in
                let is_now : first.0 ≡ now = sym passed.1 ∙ added_step at s (said_by l) words (inr is) in
                schedule_goes k n steps (with_step k steps o) l ls taken ∙ parts (at + 1) (k + 1) now (with_step k steps o) ls t begun (omega arith) (pushed_with [] at k s.steps steps o same) own (subst (λ (x : SoFar). script_from (at + 1) x ls ≡ Ok t) is_now first.2)
            | inr is ↦
                let grown = declares at s (said_by l) late is words in
                let kept = script_keeps (at + 1) first.0 ls t first.2 in
                absurd (omega (arith, grown, kept, ap (λ (x : SoFar). declared_by x.declared.setup) passed.1, ap declared_by own))
          ]
    ]

pub parted : (s : Script) (events : List ℕ) → IsScenario s → script_of (declarations_text s.setup s.chance ++ events) ≡ Ok s → schedule_of s.setup events ≡ Ok s.steps
parted s events k is =
    let r = declared_read s k in
    let late : 3 ≤ rank r.last.last = elim (cases_lt (rank r.last.last) 3) [
      | inl early ↦ absurd (omega (arith, r.kept.no_topics early, k.setup.topics.0))
      | inr late ↦ late
    ] in
    parts r.after 1 (so_far (said r.last s.chance s.setup)) no_steps (lines_of events) s r.begun late refl refl (sym (r.reads events) ∙ is)
