-- The line of one finding more.
use Rattle.std.proofs.Common.{◌≡◌, ℕ, ◌+◌, ◌<◌, List, ◌∷◌, ◌++◌, length, drop, get_or, sym, ap, ◌∙◌, append_assoc}
use Rattle.std.proofs.lemmas.List.{drop_more}
use Rattle.geo_base.specs.Setup.{Setup}
use Rattle.observation.specs.declared.finding.Finding.{Finding}
use Rattle.observed_text.specs.Findings.{finding_line, finding_lines}

pub line_added : (s : Setup) (fs : List Finding) (i : ℕ) (f : Finding) (old new whole : List ℕ) → i < length fs → f ≡ get_or fs i f → new ≡ old ++ finding_line s f
    → old ++ finding_lines s (drop i fs) ≡ whole → new ++ finding_lines s (drop (i + 1) fs) ≡ whole
line_added s fs i f old new whole lt is added before =
    let rest = finding_lines s (drop (i + 1) fs) in
    let cut : drop i fs ≡ f ∷ drop (i + 1) fs = drop_more fs i f lt ∙ ap (λ (g : Finding). g ∷ drop (i + 1) fs) (sym is) in
    ap (λ (t : List ℕ). t ++ rest) added ∙ (append_assoc old (finding_line s f) rest ∙ (ap (λ (gs : List Finding). old ++ finding_lines s gs) (sym cut) ∙ before))
