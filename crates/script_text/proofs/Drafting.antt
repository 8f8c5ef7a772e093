-- A line of declarations that breaks no rule is taken in as the definition says, and keeps what is kept.
use Rattle.std.proofs.Common.{◌≡◌, ℕ, ◌+◌, ◌<◌, ◌≤◌, Bool, true, false, not, ◌&&◌, List, ◌∷◌, length, find, Option, Some, None, Result, Ok, Err, inl, inr, arith, refl, sym, ap, subst, ◌∙◌}
use Rattle.std.specs.List.{list_all}
use Rattle.std.proofs.lemmas.Bool.{and_parts, cases_Bool, leb-false, not-false}
use Rattle.std.proofs.lemmas.List.{length-map}
use Rattle.std.proofs.lemmas.List.Elements.{All-get_or}
use Rattle.std.proofs.lemmas.Option.{none-some}
use Rattle.geo_base.specs.Setup.{Declared, Setup, declared_at, nobody}
use Rattle.script_rows.specs.NameWords.{Word}
use Rattle.script_rows.specs.declared.act_kind.ActKind.{ActKind}
use Rattle.script_rows.specs.declared.column.Column.TheVariants as column
use Rattle.script_rows.specs.declared.fault.Rule.{Rule}
use Rattle.script_rows.specs.declared.fault.Rule.TheVariants as rule
use Rattle.script_rows.specs.declared.heading.Heading.{Heading}
use Rattle.script_rows.specs.declared.heading.Heading.TheVariants as heading
use Rattle.script_rows.specs.declared.kind.Kind.{Kind}
use Rattle.script_rows.specs.declared.kind.Kind.TheVariants as kind
use Rattle.script_rows.specs.declared.line_kind.LineKind.TheVariants as row
use Rattle.script_rows.specs.declared.progress.Progress.{Progress}
use Rattle.script_rows.specs.declared.value.Value.{Value}
use Rattle.script_rows.specs.Judging.{heading_breaks, rule_number, values_of, word_rules}
use Rattle.script_rows.specs.Known.{schedules}
use Rattle.script_rows.specs.Names.{Names, nothing_seen}
use Rattle.script_rows.specs.Reading.{values_in}
use Rattle.script_rows.specs.Rows.{columns_of, rank, role_of, stage_of}
use Rattle.script_rows.specs.Values.{item_at, line_of, name_at, rest}
use Rattle.script_rows.specs.Written.{AreFit}
use Rattle.script_rows.proofs.Lines.{unbroken_fits}
use Rattle.script_rows.proofs.RowValues.{item_below}
use Rattle.script_text.specs.Adding.{added, with_values_in}
use Rattle.script_text.specs.Drafts.{CanAdd, CanAddHeading, CanAddIn, Draft, drafted, drafted_in, drafted_line, drafted_with, heads_step, says_step, so_far}
use Rattle.script_text.specs.Kept.{IsKept}
use Rattle.script_text.specs.Lines.{TextLine, is_printable, is_skipped}
use Rattle.script_text.specs.Naming.{member_of, names_of}
use Rattle.script_text.specs.Rules.{at_line, breaks, judged, lowest, said_by, script_from, unless_broken}
use Rattle.script_text.specs.Scenario.{has_printable_text}
use Rattle.script_text.specs.Script.{Fault, Script, SoFar}
use Rattle.script_text.specs.Subs.{AreKnown, noted_names}
use Rattle.script_text.proofs.Alike.{noted_lowest, noted_values}
use Rattle.script_text.proofs.KeptRows.{chance_kept, client_kept, cluster_kept, geo_kept, ledger_kept, line_kept, line_noted, skipped_kept, topic_kept}
use Rattle.script_text.proofs.Late.{in_order, words_ok}
use Rattle.script_text.proofs.Noting.{client_known, cluster_known, ledger_known, line_known, topic_known}
use Rattle.script_text.proofs.Parts.{chosen, none_found, unbroken}
use Rattle.script_text.proofs.Printable.{IsPrintable, are_printable, line_printable, line_text}
use Rattle.script_text.proofs.Said.{client_said, cluster_said, new_at, topic_said}

-- ---- what the code has to know of a row
client_there : (s : Setup) (n : Names) → AreKnown s n → length n.clients ≡ length s.clients
client_there s n k =
    ap (λ (m : Names). length m.clients) k.names ∙ length-map s.clients (λ (d : Declared). d.name)

member_there : (s : Setup) (n : Names) → AreKnown s n → length n.members ≡ length s.clients
member_there s n k = ap (λ (m : Names). length m.members) k.names ∙ length-map s.clients member_of

row_can : (d : Draft) (k : Kind) (vs : List Value) → AreKnown d.declared.setup d.names → AreFit d.names nothing_seen (columns_of k) vs → CanAdd d k vs
row_can d (kind.Other row.Cluster) vs k f =
    let said = cluster_said d.names vs f in
    (said.0, said.1 rule.NameTwice, leb-false 8 (length d.names.clusters) (said.1 rule.Clusters))
row_can d (kind.Other row.Topic) vs k f =
    let said = topic_said d.names vs f in (said.0, said.1 rule.NameTwice)
row_can d (kind.Other row.Client) vs k f =
    let said = new_at d.names nothing_seen column.NewClient vs 0 f.1 in (said.0, said.1 rule.NameTwice)
row_can d (kind.Do a) vs k f =
    let s = d.declared.setup in
    let within : item_at vs 0 < length d.names.clients = item_below vs 0 (length d.names.clients) f.1.0 in
    let there : item_at vs 0 < length s.clients = omega (arith, within, client_there s d.names k) in
    let topic = All-get_or (λ (c : Declared). c.topic < length s.topics) s.clients (item_at vs 0) nobody there k.within in
    (there, omega (arith, there, member_there s d.names k), omega (arith, topic, k.subs.many))
row_can d (kind.Other row.Geo) vs k f = tt
row_can d (kind.Other row.Ledger) vs k f = tt
row_can d (kind.Other row.Chance) vs k f = tt
row_can d (kind.Other row.Settle) vs k f = tt
row_can d (kind.Other row.Stop) vs k f = tt
row_can d (kind.Event e) vs k f = tt
row_can d (kind.Halt e) vs k f = tt

in_can : (d : Draft) (p : Progress) (k : Kind) (ws : List Word) (o : Option (List Value)) → AreKnown d.declared.setup d.names → find (heading_breaks p d.names (heading.Headed k ws)) word_rules ≡ None → values_of d.names nothing_seen (columns_of k) ws ≡ o → CanAddIn d k o
in_can d p k ws None known none e = tt
in_can d p k ws (Some vs) known none e = row_can d k vs known (unbroken_fits p d.names k ws vs none e)

heading_can : (d : Draft) (p : Progress) (h : Heading) → AreKnown d.declared.setup d.names → find (heading_breaks p d.names h) word_rules ≡ None → CanAddHeading d h
heading_can d p heading.Unknown known none = tt
heading_can d p heading.Formless known none = tt
heading_can d p (heading.Headed k ws) known none =
    in_can d p k ws (values_of d.names nothing_seen (columns_of k) ws) known none refl

pub line_can : (d : Draft) (l : TextLine) (h : Heading) → h ≡ said_by l → AreKnown d.declared.setup d.names → lowest d.declared.progress d.names l ≡ None → CanAddHeading d h
line_can d l h is known none =
    subst (CanAddHeading d) (sym is) (heading_can d d.declared.progress (said_by l) known (words_ok d.declared.progress d.names l none))

-- the values of such a line can be taken in
pub row_adds : (d : Draft) (l : TextLine) (h : Heading) (k : Kind) (ws : List Word) (vs : List Value) → h ≡ said_by l → AreKnown d.declared.setup d.names → lowest d.declared.progress d.names l ≡ None → h ≡ heading.Headed k ws → values_in d.names h ≡ Some vs → CanAdd d k vs
row_adds d l h k ws vs said known none is says =
    subst (CanAddIn d k) (ap (values_in d.names) (sym is) ∙ says) (subst (CanAddHeading d) is (line_can d l h said known none))

-- ---- what a line leaves
pub record IsTaken (n : ℕ) (d new : Draft) : Type 0 where
  pub known : AreKnown new.declared.setup new.names
  pub kept : IsKept (n + 1) new.declared

-- by the names as they are declared
row_fits : (s : Setup) (n : Names) (k : Kind) (vs : List Value) → AreKnown s n → AreFit n nothing_seen (columns_of k) vs → AreFit (noted_names s n.subs) nothing_seen (columns_of k) vs
row_fits s n k vs known f =
    subst (λ (m : Names). AreFit m nothing_seen (columns_of k) vs) known.names f

row_taken : (n : ℕ) (d : Draft) (k : Kind) (vs : List Value) → 0 < n → AreKnown d.declared.setup d.names → AreFit (noted_names d.declared.setup d.names.subs) nothing_seen (columns_of k) vs → rank d.declared.progress.last ≤ rank (stage_of k) → schedules k ≡ false → ((a : ActKind) → k ≡ kind.Do a → has_printable_text (line_of a (rest vs)) ≡ true) → IsKept n d.declared → IsTaken n d (drafted d k vs)
row_taken n d (kind.Other row.Geo) vs some known f early is text kept =
    record { known = known; kept = geo_kept n d.declared vs early kept }
row_taken n d (kind.Other row.Ledger) vs some known f early is text kept = record {
  known = ledger_known d.declared.setup d.names (item_at vs 0) known;
  kept = ledger_kept n d.declared d.names.subs vs f early kept;
}
row_taken n d (kind.Other row.Chance) vs some known f early is text kept =
    record { known = known; kept = chance_kept n d.declared d.names.subs vs f early kept }
row_taken n d (kind.Other row.Cluster) vs some known f early is text kept = record {
  known = cluster_known d.declared.setup d.names (name_at vs 0) known;
  kept = cluster_kept n d.declared d.names.subs vs f early kept;
}
row_taken n d (kind.Other row.Topic) vs some known f early is text kept = record {
  known = topic_known d.declared.setup d.names (name_at vs 0) known;
  kept = topic_kept n d.declared d.names.subs vs f early kept;
}
row_taken n d (kind.Other row.Client) vs some known f early is text kept = record {
  known = client_known d.declared.setup d.names (name_at vs 0) (item_at vs 1) (item_at vs 2) (client_said d.declared.setup d.names.subs vs kept.topics.names f).topic known;
  kept = client_kept n d.declared d.names.subs vs f early some kept;
}
row_taken n d (kind.Do a) vs some known f early is text kept =
    let s = d.declared.setup in
    let within : item_at vs 0 < length s.clients = omega (arith, item_below vs 0 _ f.1.0, length-map s.clients (λ (e : Declared). e.name)) in
    record {
      known = line_known s d.names (item_at vs 0) (line_of a (rest vs)) (role_of a) within (line_noted (declared_at s (item_at vs 0)) a (rest vs)).role known;
      kept = line_kept n d.declared d.names.subs a vs known.subs f (text a refl) early kept;
    }
row_taken n d (kind.Other row.Settle) vs some known f early is text kept = cc
row_taken n d (kind.Other row.Stop) vs some known f early is text kept = cc
row_taken n d (kind.Event e) vs some known f early is text kept = cc
row_taken n d (kind.Halt e) vs some known f early is text kept = cc

text_of : (n : Names) (k : Kind) (ws : List Word) (vs : List Value) → values_of n nothing_seen (columns_of k) ws ≡ Some vs → are_printable ws ≡ true → (a : ActKind) → k ≡ kind.Do a → has_printable_text (line_of a (rest vs)) ≡ true
text_of n k ws vs e all a is =
    line_text n a ws vs (subst (λ (j : Kind). values_of n nothing_seen (columns_of j) ws ≡ Some vs) is e) all

in_taken : (n : ℕ) (d : Draft) (k : Kind) (ws : List Word) (o : Option (List Value)) → 0 < n → AreKnown d.declared.setup d.names → find (heading_breaks d.declared.progress d.names (heading.Headed k ws)) word_rules ≡ None → values_of d.names nothing_seen (columns_of k) ws ≡ o → are_printable ws ≡ true → schedules k ≡ false → IsKept n d.declared → IsTaken n d (drafted_in d k o)
in_taken n d k ws None some known none e all is kept =
    record { known = known; kept = skipped_kept n d.declared kept }
in_taken n d k ws (Some vs) some known none e all is kept =
    row_taken n d k vs some known (row_fits d.declared.setup d.names k vs known (unbroken_fits d.declared.progress d.names k ws vs none e)) (in_order d.declared.progress d.names k ws none) is (text_of d.names k ws vs e all) kept

heading_taken : (n : ℕ) (d : Draft) (h : Heading) → 0 < n → AreKnown d.declared.setup d.names → find (heading_breaks d.declared.progress d.names h) word_rules ≡ None → IsPrintable h → heads_step h ≡ false → IsKept n d.declared → IsTaken n d (drafted_with d h)
heading_taken n d heading.Unknown some known none all is kept = absurd (none-some rule.Word (sym none))
heading_taken n d heading.Formless some known none all is kept = absurd (none-some rule.Form (sym none))
heading_taken n d (heading.Headed k ws) some known none all is kept =
    in_taken n d k ws (values_of d.names nothing_seen (columns_of k) ws) some known none refl all is kept

-- a line that is not skipped says no step
second_false : (a b : Bool) → a ≡ false → (not a && b) ≡ false → b ≡ false
second_false true b other e = cc
second_false false b other e = e

no_step : (l : TextLine) → is_skipped l.bytes ≡ false → says_step l ≡ false → heads_step (said_by l) ≡ false
no_step l other is = second_false (is_skipped l.bytes) (heads_step (said_by l)) other is

plain : (p : Progress) (n : Names) (l : TextLine) → lowest p n l ≡ None → list_all is_printable l.bytes ≡ true
unfolding lowest
plain p n l none =
    (and_parts (list_all is_printable l.bytes) l.ended (not-false _ (none_found (breaks p n l rule.Bytes) rule.Bytes _ none).0)).0

pub line_taken : (n : ℕ) (d new : Draft) (l : TextLine) → 0 < n → AreKnown d.declared.setup d.names → says_step l ≡ false → drafted_line d l ≡ Ok new → IsKept n d.declared → IsTaken n d new
line_taken n d new l some known is e kept =
    elim (chosen (is_skipped l.bytes) (Ok d) (unless_broken (lowest d.declared.progress d.names l) (drafted_with d (said_by l))) (Ok new) e) [
      | inl skipped ↦
          let same : d ≡ new = cc in
          subst (IsTaken n d) same (record { known = known; kept = skipped_kept n d.declared kept })
      | inr other ↦
          let passed = unbroken (lowest d.declared.progress d.names l) (drafted_with d (said_by l)) new other.1 in
          subst (IsTaken n d) passed.1 (heading_taken n d (said_by l) some known (words_ok d.declared.progress d.names l passed.0) (line_printable l.bytes (plain d.declared.progress d.names l passed.0)) (no_step l other.0 is) kept)
    ]

-- ---- the same by the definition
abbrev pub after_line : Result Draft Rule → Result SoFar Rule
after_line (Ok d) = Ok (so_far d.declared)
after_line (Err r) = Err r

in_added : (d : Draft) (k : Kind) (o : Option (List Value)) → so_far (with_values_in d.declared k o) ≡ so_far (drafted_in d k o).declared
in_added d k None = refl
in_added d k (Some vs) = refl

heading_added : (at : ℕ) (d : Draft) (h : Heading) → AreKnown d.declared.setup d.names → heads_step h ≡ false → added at (so_far d.declared) h ≡ so_far (drafted_with d h).declared
heading_added at d heading.Unknown known is = refl
heading_added at d heading.Formless known is = refl
heading_added at d (heading.Headed k ws) known is =
    let s = d.declared.setup in
    let same : values_of (names_of s) nothing_seen (columns_of k) ws ≡ values_of d.names nothing_seen (columns_of k) ws = sym (ap (λ (n : Names). values_of n nothing_seen (columns_of k) ws) known.names ∙ noted_values s d.names.subs k ws is) in
    let first : added at (so_far d.declared) (heading.Headed k ws) ≡ so_far (with_values_in d.declared k (values_of (names_of s) nothing_seen (columns_of k) ws)) = rw is refl in
    first ∙ (ap (λ (o : Option (List Value)). so_far (with_values_in d.declared k o)) same ∙ in_added d k (values_of d.names nothing_seen (columns_of k) ws))

unless_added : (at : ℕ) (d : Draft) (h : Heading) (o : Option Rule) → AreKnown d.declared.setup d.names → heads_step h ≡ false → unless_broken o (added at (so_far d.declared) h) ≡ after_line (unless_broken o (drafted_with d h))
unless_added at d h None known is = ap Ok (heading_added at d h known is)
unless_added at d h (Some r) known is = refl

line_judged : (at : ℕ) (d : Draft) (l : TextLine) → AreKnown d.declared.setup d.names → says_step l ≡ false → judged at (so_far d.declared) l ≡ after_line (drafted_line d l)
line_judged at d l known is =
    let s = d.declared.setup in
    let p = d.declared.progress in
    let same : lowest p (names_of s) l ≡ lowest p d.names l = sym (ap (λ (n : Names). lowest p n l) known.names ∙ noted_lowest p s d.names.subs l known.subs) in
    elim (cases_Bool (is_skipped l.bytes)) [
      | inl skipped ↦ rw skipped refl
      | inr other ↦ rw other (ap (λ (o : Option Rule). unless_broken o (added at (so_far d.declared) (said_by l))) same ∙ unless_added at d (said_by l) (lowest p d.names l) known (no_step l other is))
    ]

-- ---- from line to line
pub line_goes : (at : ℕ) (d new : Draft) (l : TextLine) (ls : List TextLine) → AreKnown d.declared.setup d.names → says_step l ≡ false → drafted_line d l ≡ Ok new → script_from at (so_far d.declared) (l ∷ ls) ≡ script_from (at + 1) (so_far new.declared) ls
line_goes at d new l ls known is e =
    ap (λ (r : Result SoFar Rule). at_line at r (λ s'. script_from (at + 1) s' ls)) (line_judged at d l known is ∙ ap after_line e)

pub line_breaks : (at : ℕ) (d : Draft) (l : TextLine) (ls : List TextLine) (r : Rule) → AreKnown d.declared.setup d.names → says_step l ≡ false → drafted_line d l ≡ Err r → script_from at (so_far d.declared) (l ∷ ls) ≡ Err (record { line = at; rule = rule_number r })
line_breaks at d l ls r known is e =
    ap (λ (x : Result SoFar Rule). at_line at x (λ s'. script_from (at + 1) s' ls)) (line_judged at d l known is ∙ ap after_line e)

-- a refusal of a whole script
abbrev pub refused_at : ℕ → ℕ → Result Script Fault
refused_at line number = Err (record { line = line; rule = number })
