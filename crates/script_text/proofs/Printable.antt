-- The words of a printable line are printable, and so is the text that words write.
use Rattle.std.proofs.Common.{◌≡◌, ℕ, zero, suc, Bool, true, ◌==◌, cond, List, [], ◌∷◌, Option, Some, None, codes, refl, sym, ap, subst}
use Rattle.std.specs.Prelude.{⊤}
use Rattle.std.specs.List.{list_all, onto_first, join_with_byte}
use Rattle.std.specs.Str.{bytes_eq}
use Rattle.std.proofs.lemmas.Bool.{and_parts, and_from, cond_both}
use Rattle.std.proofs.lemmas.List.Folds.{list_all-append}
use Rattle.std.proofs.lemmas.Option.{none-some, same_Some}
use Rattle.script_rows.specs.NameWords.{Word}
use Rattle.script_rows.specs.declared.act_kind.ActKind.{ActKind}
use Rattle.script_rows.specs.declared.act_kind.ActKind.TheVariants as act
use Rattle.script_rows.specs.declared.column.Column.{Column}
use Rattle.script_rows.specs.declared.column.Column.TheVariants as column
use Rattle.script_rows.specs.declared.event_kind.EventKind.{EventKind}
use Rattle.script_rows.specs.declared.heading.Heading.{Heading}
use Rattle.script_rows.specs.declared.heading.Heading.TheVariants as heading
use Rattle.script_rows.specs.declared.kind.Kind.TheVariants as kind
use Rattle.script_rows.specs.declared.line_kind.LineKind.{LineKind}
use Rattle.script_rows.specs.declared.value.Value.{Value}
use Rattle.script_rows.specs.declared.value.Value.TheVariants as value
use Rattle.script_rows.specs.Columns.{seen_after, value_of}
use Rattle.script_rows.specs.Judging.{act_cells, do_headed, do_heading, event_headed, halt_headed, halt_heading, heading_of, other_headed, values_of}
use Rattle.script_rows.specs.Names.{Names, Seen, nothing_seen}
use Rattle.script_rows.specs.Rows.{act_built, act_of_word, columns_of, event_built, event_of_word, halt_built, line_built, line_of_word, may_halt}
use Rattle.script_rows.specs.Values.{first, line_of, rest, text, text_at}
use Rattle.script_rows.specs.Words.{◌>>=◌, gathered, words_of}
use Rattle.script_rows.proofs.Chosen.{some_part}
use Rattle.script_rows.proofs.RowValues.{value_at, value_is}
use Rattle.script_text.specs.Lines.{is_printable}
use Rattle.script_text.specs.Scenario.{has_printable_text}

abbrev pub are_printable : List Word → Bool
are_printable ws = list_all (list_all is_printable) ws

onto_printable : (b : ℕ) (ws : List Word) → is_printable b ≡ true → are_printable ws ≡ true → are_printable (onto_first b ws) ≡ true
onto_printable b [] is all = rw is refl
onto_printable b (w ∷ ws) is all = rw is all

pub words_printable : (bytes : List ℕ) → list_all is_printable bytes ≡ true → are_printable (words_of bytes) ≡ true
words_printable [] all = refl
words_printable (b ∷ bs) all =
    let parts = and_parts (is_printable b) (list_all is_printable bs) all in
    let rest = words_printable bs parts.1 in
    cond_both (b == 32) ([] ∷ words_of bs) (onto_first b (words_of bs)) (λ ws. are_printable ws ≡ true) (λ _. rest) (λ _. onto_printable b (words_of bs) parts.0 rest)

text_printable : (ws : List Word) → are_printable ws ≡ true → list_all is_printable (join_with_byte 32 ws) ≡ true
text_printable [] all = refl
text_printable (w ∷ []) all = (and_parts (list_all is_printable w) true all).0
text_printable (w ∷ x ∷ ws) all =
    let parts = and_parts (list_all is_printable w) (are_printable (x ∷ ws)) all in
    rw (list_all-append is_printable w (32 ∷ join_with_byte 32 (x ∷ ws))) (and_from (list_all is_printable w) (list_all is_printable (join_with_byte 32 (x ∷ ws))) parts.0 (text_printable (x ∷ ws) parts.1))

gathered_printable : (n : ℕ) (ws : List Word) → are_printable ws ≡ true → are_printable (gathered n ws) ≡ true
gathered_printable zero ws all = refl
gathered_printable (suc n) [] all = refl
gathered_printable (suc zero) (w ∷ ws) all =
    and_from (list_all is_printable (join_with_byte 32 (w ∷ ws))) true (text_printable (w ∷ ws) all) refl
gathered_printable (suc (suc n)) (w ∷ ws) all =
    let parts = and_parts (list_all is_printable w) (are_printable ws) all in
    and_from (list_all is_printable w) (are_printable (gathered (suc n) ws)) parts.0 (gathered_printable (suc n) ws parts.1)

-- ---- the words of a line's columns
abbrev pub IsPrintable : Heading → Type 0
IsPrintable (heading.Headed k ws) = are_printable ws ≡ true
IsPrintable h = ⊤

if_printable : (b : Bool) (x y : Heading) → IsPrintable x → IsPrintable y → IsPrintable (cond b x y)
if_printable b x y p q = cond_both b x y IsPrintable (λ _. p) (λ _. q)

front_printable : (w : Word) (ws : List Word) → list_all is_printable w ≡ true → are_printable ws ≡ true → are_printable (w ∷ ws) ≡ true
front_printable w ws one all = and_from (list_all is_printable w) (are_printable ws) one all

cells_printable : (k : ActKind) (ws : List Word) → are_printable ws ≡ true → are_printable (act_cells k ws) ≡ true
cells_printable act.Pub ws all = gathered_printable 4 ws all
cells_printable k ws all = all

do_printable : (c : Word) (ws : List Word) (o : Option ActKind) → list_all is_printable c ≡ true → are_printable ws ≡ true → IsPrintable (do_headed c ws o)
do_printable c ws None one all = tt
do_printable c ws (Some k) one all =
    if_printable (act_built k) (heading.Headed (kind.Do k) (c ∷ act_cells k ws)) heading.Unknown (front_printable c (act_cells k ws) one (cells_printable k ws all)) tt

done_printable : (ws : List Word) → are_printable ws ≡ true → IsPrintable (do_heading ws)
done_printable [] all = tt
done_printable (c ∷ []) all = tt
done_printable (c ∷ w ∷ ws) all =
    let first = and_parts (list_all is_printable c) (are_printable (w ∷ ws)) all in
    do_printable c ws (act_of_word w) first.0 (and_parts (list_all is_printable w) (are_printable ws) first.1).1

halted_printable : (c : Word) (ws : List Word) (o : Option EventKind) → list_all is_printable c ≡ true → are_printable ws ≡ true → IsPrintable (halt_headed c ws o)
halted_printable c ws None one all = tt
halted_printable c ws (Some k) one all =
    if_printable (event_built k) (cond (may_halt k) (heading.Headed (kind.Halt k) (c ∷ ws)) heading.Formless) heading.Unknown (if_printable (may_halt k) (heading.Headed (kind.Halt k) (c ∷ ws)) heading.Formless (front_printable c ws one all) tt) tt

halt_printable : (ws : List Word) → are_printable ws ≡ true → IsPrintable (halt_heading ws)
halt_printable [] all = tt
halt_printable (c ∷ []) all = tt
halt_printable (c ∷ w ∷ ws) all =
    let first = and_parts (list_all is_printable c) (are_printable (w ∷ ws)) all in
    halted_printable c ws (event_of_word w) first.0 (and_parts (list_all is_printable w) (are_printable ws) first.1).1

event_printable : (ws : List Word) (o : Option EventKind) → are_printable ws ≡ true → IsPrintable (event_headed ws o)
event_printable ws None all = tt
event_printable ws (Some k) all = if_printable (event_built k) (heading.Headed (kind.Event k) ws) heading.Unknown all tt

other_printable : (w : Word) (ws : List Word) (o : Option LineKind) → are_printable ws ≡ true → IsPrintable (other_headed w ws o)
other_printable w ws None all = event_printable ws (event_of_word w) all
other_printable w ws (Some k) all =
    if_printable (line_built k) (heading.Headed (kind.Other k) ws) heading.Unknown all tt

heading_printable : (ws : List Word) → are_printable ws ≡ true → IsPrintable (heading_of ws)
heading_printable [] all = tt
heading_printable (w ∷ ws) all =
    let more = (and_parts (list_all is_printable w) (are_printable ws) all).1 in
    let halt = cond halt_built (halt_heading ws) heading.Unknown in
    let other = other_headed w ws (line_of_word w) in
    if_printable (bytes_eq w (codes "do")) (do_heading ws) (cond (bytes_eq w (codes "halt")) halt other) (done_printable ws more) (if_printable (bytes_eq w (codes "halt")) halt other (if_printable halt_built (halt_heading ws) heading.Unknown (halt_printable ws more) tt) (other_printable w ws (line_of_word w) more))

pub line_printable : (bytes : List ℕ) → list_all is_printable bytes ≡ true → IsPrintable (heading_of (words_of bytes))
line_printable bytes all = heading_printable (words_of bytes) (words_printable bytes all)

-- ---- the text of a publish
-- the i-th column is a text
abbrev pub IsTextAt : List Column → ℕ → Type 0
IsTextAt [] i = ⊥
IsTextAt (c ∷ cs) zero = c ≡ column.Text
IsTextAt (c ∷ cs) (suc i) = IsTextAt cs i

text_said : (n : Names) (z : Seen) (c : Column) (w : Word) (v : Value) → c ≡ column.Text → value_of n z c w ≡ Some v → text v ≡ w
text_said n z c w v is e =
    let said : Some (value.Text w) ≡ Some v = subst (λ (d : Column). value_of n z d w ≡ Some v) is e in
    ap text (sym (same_Some (value.Text w) v said))

text_at_printable : (n : Names) (i : ℕ) (z : Seen) (cs : List Column) (ws : List Word) (vs : List Value) → IsTextAt cs i → values_of n z cs ws ≡ Some vs → are_printable ws ≡ true → list_all is_printable (text (value_at vs i)) ≡ true
text_at_printable n i z [] ws vs at e all = absurd at
text_at_printable n i z (c ∷ cs) [] vs at e all = absurd (none-some vs e)
text_at_printable n zero z (c ∷ cs) (w ∷ ws) vs at e all =
    let v = some_part (value_of n z c w) (λ v. values_of n (seen_after n z c w) cs ws >>= λ vs. Some (v ∷ vs)) vs e in
    let more = some_part (values_of n (seen_after n z c w) cs ws) (λ vs. Some (v.0 ∷ vs)) vs v.2 in
    let one = (and_parts (list_all is_printable w) (are_printable ws) all).0 in
    subst (λ (xs : List Value). list_all is_printable (text (first xs)) ≡ true) (same_Some (v.0 ∷ more.0) vs more.2) (subst (λ (t : List ℕ). list_all is_printable t ≡ true) (sym (text_said n z c w v.0 at v.1)) one)
text_at_printable n (suc i) z (c ∷ cs) (w ∷ ws) vs at e all =
    let v = some_part (value_of n z c w) (λ v. values_of n (seen_after n z c w) cs ws >>= λ vs. Some (v ∷ vs)) vs e in
    let more = some_part (values_of n (seen_after n z c w) cs ws) (λ vs. Some (v.0 ∷ vs)) vs v.2 in
    let others = (and_parts (list_all is_printable w) (are_printable ws) all).1 in
    subst (λ (xs : List Value). list_all is_printable (text (value_at (rest xs) i)) ≡ true) (same_Some (v.0 ∷ more.0) vs more.2) (text_at_printable n i (seen_after n z c w) cs ws more.0 at more.1 others)

pub_printable : (n : Names) (ws : List Word) (vs : List Value) → values_of n nothing_seen (columns_of (kind.Do act.Pub)) ws ≡ Some vs → are_printable ws ≡ true → list_all is_printable (text_at (rest vs) 3) ≡ true
pub_printable n ws vs e all =
    subst (λ (v : Value). list_all is_printable (text v) ≡ true) (value_is (rest vs) 3) (text_at_printable n 4 nothing_seen (columns_of (kind.Do act.Pub)) ws vs refl e all)

pub line_text : (n : Names) (k : ActKind) (ws : List Word) (vs : List Value) → values_of n nothing_seen (columns_of (kind.Do k)) ws ≡ Some vs → are_printable ws ≡ true → has_printable_text (line_of k (rest vs)) ≡ true
line_text n act.Pub ws vs e all = pub_printable n ws vs e all
line_text n k ws vs e all = refl
