-- A walk over the words of a line, word by word.
use Rattle.std.proofs.Common.{◌≡◌, nat_le, Bool, true, false, cond, List, ◌∷◌, find, Option, Some, None, Ok, Err, is_none, refl, sym, ap, ◌∙◌}
use Rattle.std.proofs.lemmas.Bool.{both_ways}
use Rattle.script_rows.specs.NameWords.{Word}
use Rattle.script_rows.specs.declared.column.Column.{Column}
use Rattle.script_rows.specs.declared.fault.Rule.{Rule}
use Rattle.script_rows.specs.declared.value.Value.{Value}
use Rattle.script_rows.specs.Columns.{cell_breaks, seen_after, value_of}
use Rattle.script_rows.specs.Judging.{cells_break, rule_number, word_rules}
use Rattle.script_rows.specs.Names.{Names, Seen}
use Rattle.script_rows.specs.Reading.{cell_read, lower, said}
use Rattle.script_rows.proofs.Lines.{all_fail}
use Rattle.script_rows.proofs.Lowers.{lower_none, lower_three, lowest_of_either}

-- ---- a word that is read, or that breaks a rule
read_parts : (broken : Option Rule) (o : Option Value) (v : Value) → said broken o ≡ Ok v → (broken ≡ None) × (o ≡ Some v)
read_parts (Some r) o v e = cc
read_parts None (Some x) v e = (refl, cc)
read_parts None None v e = cc

pub read_sound : (n : Names) (s : Seen) (c : Column) (w : Word) (v : Value) → cell_read n s c w ≡ Ok v → (find (cell_breaks n s c w) word_rules ≡ None) × (value_of n s c w ≡ Some v)
read_sound n s c w v e = read_parts (find (cell_breaks n s c w) word_rules) (value_of n s c w) v e

-- a word that breaks no rule has its column's form
broken_part : (broken : Option Rule) (o : Option Value) (r : Rule) → said broken o ≡ Err r → (broken ≡ None → is_none o ≡ false) → broken ≡ Some r
broken_part (Some x) o r e formed = cc
broken_part None (Some v) r e formed = cc
broken_part None None r e formed = absurd (both_ways true (formed refl) refl)

pub read_broken : (n : Names) (s : Seen) (c : Column) (w : Word) (r : Rule) → cell_read n s c w ≡ Err r → find (cell_breaks n s c w) word_rules ≡ Some r
read_broken n s c w r e =
    broken_part (find (cell_breaks n s c w) word_rules) (value_of n s c w) r e (λ none. (all_fail (cell_breaks n s c w) word_rules none).1.0)

-- ---- one word more
next_lowest : (n : Names) (s : Seen) (c : Column) (w : Word) (cs : List Column) (ws : List Word) (columns : List Column) (words : List Word) (o p : Option Rule) → columns ≡ c ∷ cs → words ≡ w ∷ ws → find (cell_breaks n s c w) word_rules ≡ p → lower o (find (λ r. cells_break n r s columns words) word_rules) ≡ lower (lower o p) (find (λ r. cells_break n r (seen_after n s c w) cs ws) word_rules)
next_lowest n s c w cs ws columns words o p first second e =
    rw (first, second, ← e) (ap (lower o) (lowest_of_either (cell_breaks n s c w) (λ r. cells_break n r (seen_after n s c w) cs ws)) ∙ sym (lower_three o (find (cell_breaks n s c w) word_rules) (find (λ r. cells_break n r (seen_after n s c w) cs ws) word_rules)))

pub next_broken : (n : Names) (s : Seen) (c : Column) (w : Word) (r : Rule) (cs : List Column) (ws : List Word) (columns : List Column) (words : List Word) (o : Option Rule) → columns ≡ c ∷ cs → words ≡ w ∷ ws → cell_read n s c w ≡ Err r → lower o (find (λ r. cells_break n r s columns words) word_rules) ≡ lower (lower o (Some r)) (find (λ r. cells_break n r (seen_after n s c w) cs ws) word_rules)
next_broken n s c w r cs ws columns words o first second e =
    next_lowest n s c w cs ws columns words o (Some r) first second (read_broken n s c w r e)

pub next_sound : (n : Names) (s : Seen) (c : Column) (w : Word) (v : Value) (cs : List Column) (ws : List Word) (columns : List Column) (words : List Word) (o : Option Rule) → columns ≡ c ∷ cs → words ≡ w ∷ ws → cell_read n s c w ≡ Ok v → lower o (find (λ r. cells_break n r s columns words) word_rules) ≡ lower o (find (λ r. cells_break n r (seen_after n s c w) cs ws) word_rules)
next_sound n s c w v cs ws columns words o first second e =
    next_lowest n s c w cs ws columns words o None first second (read_sound n s c w v e).0 ∙ ap (λ p. lower p (find (λ r. cells_break n r (seen_after n s c w) cs ws) word_rules)) (lower_none o)

one_is : (b : Bool) (x y : Rule) → cond b (Some x) (Some y) ≡ None → ⊥
one_is true x y e = cc
one_is false x y e = cc

-- a rule that is broken stays broken
pub still_broken : (o : Option Rule) (r : Rule) → lower o (Some r) ≡ None → ⊥
still_broken None r e = cc
still_broken (Some x) r e = one_is (nat_le (rule_number x) (rule_number r)) x r e
