-- What has one part too many has no form.
use Rattle.std.proofs.Common.{◌≡◌, ◌<◌, List, [], ◌∷◌, length, None, arith, refl}
use Rattle.script_rows.specs.NameWords.{Word}
use Rattle.trace_lines.specs.Ranges.{range_in}
use Rattle.trace_lines.specs.Words.{pair_in}

pub no_range : (f l : Word) (ws : List Word) → 0 < length ws → range_in (f ∷ l ∷ ws) ≡ None
no_range f l [] some = absurd (omega arith)
no_range f l (w ∷ ws) some = refl

pub no_place : (clusters : List Word) (c p : Word) (ws : List Word) → 0 < length ws → pair_in clusters (c ∷ p ∷ ws) ≡ None
no_place clusters c p [] some = absurd (omega arith)
no_place clusters c p (w ∷ ws) some = refl
