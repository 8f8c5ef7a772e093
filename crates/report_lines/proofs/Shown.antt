-- Bytes that are all shown as themselves.
use Rattle.std.proofs.Common.{◌≡◌, ℕ, true, List, [], ◌∷◌, refl, ap}
use Rattle.std.specs.List.{list_all}
use Rattle.std.proofs.lemmas.Bool.{and_parts}
use Rattle.geo_base.specs.Report.{printed}
use Rattle.report_lines.specs.Printed.{is_shown}

pub shown_whole : (bs : List ℕ) → list_all is_shown bs ≡ true → printed bs ≡ bs
shown_whole [] all = refl
shown_whole (b ∷ bs) all =
    let parts = and_parts (is_shown b) (list_all is_shown bs) all in
    rw parts.0 (ap (λ (more : List ℕ). b ∷ more) (shown_whole bs parts.1))
