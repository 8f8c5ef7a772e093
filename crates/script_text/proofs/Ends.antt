-- What the lines up to the last make.
use Rattle.std.proofs.Common.{◌≡◌, ℕ, not, [], Option, Result, Ok, refl, ap}
use Rattle.script_rows.specs.declared.fault.Rule.{Rule}
use Rattle.script_rows.specs.declared.fault.Rule.TheVariants as rule
use Rattle.script_rows.specs.declared.progress.Progress.{Progress}
use Rattle.script_text.specs.Drafts.{moved_on}
use Rattle.script_text.specs.Rules.{at_line, breaks_at_end, completed, rules, script_from, script_with, unless_broken}
use Rattle.script_text.specs.Script.{Declarations, Script, Steps}
use Rattle.script_text.proofs.Alike.{find_same}

rule_same : (d : Declarations) (p : Progress) (r : Rule) → p.begun ≡ d.progress.begun → breaks_at_end (moved_on d p) r ≡ breaks_at_end d r
rule_same d p rule.Head is = ap not is
rule_same d p rule.Lone is = refl
rule_same d p r is = refl

completed_same : (d : Declarations) (p : Progress) (steps : Steps) → p.begun ≡ d.progress.begun → completed (record { declared = moved_on d p; steps = steps }) ≡ completed (record { declared = d; steps = steps })
completed_same d p steps is =
    ap (λ (o : Option Rule). unless_broken o (script_with (record { declared = d; steps = steps }))) (find_same (breaks_at_end (moved_on d p)) (breaks_at_end d) rules (λ r. rule_same d p r is))

-- the kind of the last line says nothing at the end
pub end_same : (at : ℕ) (d : Declarations) (p : Progress) (steps : Steps) → p.begun ≡ d.progress.begun → script_from at (record { declared = moved_on d p; steps = steps }) [] ≡ at_line at (completed (record { declared = d; steps = steps })) Ok
end_same at d p steps is =
    ap (λ (r : Result Script Rule). at_line at r Ok) (completed_same d p steps is)
