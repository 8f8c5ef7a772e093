-- The lowest rule that a line breaks, test by test.
use Rattle.std.proofs.Common.{◌≡◌, Bool, true, false, not, ◌&&◌, cond, find, codes, Some, refl, ap, ◌∙◌}
use Rattle.std.specs.List.{list_all}
use Rattle.std.specs.Str.{bytes_eq}
use Rattle.script_rows.specs.declared.fault.Rule.TheVariants as rule
use Rattle.script_rows.specs.declared.progress.Progress.{Progress}
use Rattle.script_rows.specs.Judging.{heading_breaks, word_rules}
use Rattle.script_rows.specs.Names.{Names}
use Rattle.script_text.specs.Lines.{TextLine, is_printable}
use Rattle.script_text.specs.Rules.{lowest, said_by}

abbrev pub is_plain : TextLine → Bool
is_plain l = list_all is_printable l.bytes && l.ended

abbrev pub is_head : TextLine → Bool
is_head l = bytes_eq l.bytes (codes "geo 1")

tested : (p : Progress) (n : Names) (l : TextLine) → lowest p n l ≡ cond (not (is_plain l)) (Some rule.Bytes) (cond (not p.begun && not (is_head l)) (Some rule.Head) (find (heading_breaks p n (said_by l)) word_rules))
unfolding lowest
tested p n l = refl

pub not_plain : (p : Progress) (n : Names) (l : TextLine) → is_plain l ≡ false → lowest p n l ≡ Some rule.Bytes
not_plain p n l plain =
    tested p n l ∙ ap (λ (b : Bool). cond (not b) (Some rule.Bytes) (cond (not p.begun && not (is_head l)) (Some rule.Head) (find (heading_breaks p n (said_by l)) word_rules))) plain

headed : (p : Progress) (n : Names) (l : TextLine) → is_plain l ≡ true → lowest p n l ≡ cond (not p.begun && not (is_head l)) (Some rule.Head) (find (heading_breaks p n (said_by l)) word_rules)
headed p n l plain =
    tested p n l ∙ ap (λ (b : Bool). cond (not b) (Some rule.Bytes) (cond (not p.begun && not (is_head l)) (Some rule.Head) (find (heading_breaks p n (said_by l)) word_rules))) plain

pub no_head : (p : Progress) (n : Names) (l : TextLine) → is_plain l ≡ true → p.begun ≡ false → is_head l ≡ false → lowest p n l ≡ Some rule.Head
no_head p n l plain begun other =
    headed p n l plain ∙ (ap (λ (b : Bool). cond (not b && not (is_head l)) (Some rule.Head) (find (heading_breaks p n (said_by l)) word_rules)) begun ∙ ap (λ (b : Bool). cond (not false && not b) (Some rule.Head) (find (heading_breaks p n (said_by l)) word_rules)) other)

pub words_begun : (p : Progress) (n : Names) (l : TextLine) → is_plain l ≡ true → p.begun ≡ true → lowest p n l ≡ find (heading_breaks p n (said_by l)) word_rules
words_begun p n l plain begun =
    headed p n l plain ∙ ap (λ (b : Bool). cond (not b && not (is_head l)) (Some rule.Head) (find (heading_breaks p n (said_by l)) word_rules)) begun

not_both : (b : Bool) → (not b && false) ≡ false
not_both true = refl
not_both false = refl

pub words_head : (p : Progress) (n : Names) (l : TextLine) → is_plain l ≡ true → is_head l ≡ true → lowest p n l ≡ find (heading_breaks p n (said_by l)) word_rules
words_head p n l plain head =
    headed p n l plain ∙ (ap (λ (b : Bool). cond (not p.begun && not b) (Some rule.Head) (find (heading_breaks p n (said_by l)) word_rules)) head ∙ ap (λ (b : Bool). cond b (Some rule.Head) (find (heading_breaks p n (said_by l)) word_rules)) (not_both p.begun))
