-- What stands at the front of a text stands there still when more is added, and where memory ends after what was added.
use Rattle.std.proofs.Common.{◌≡◌, List, ℕ, ◌++◌, take, drop, length, ap, sym, ◌∙◌}
use Rattle.std.specs.Prelude.{Result, Ok, Err, OnErr}
use Rattle.std.proofs.lemmas.List.{take-append-drop}
pub use Rattle.geo_base.proofs.Lists.{take_front as first_stands, take_front_still as still_stands}
pub use Rattle.geo_base.proofs.Results.{on_err_always as on_err}

-- what stands at the front of what stands
pub stands_on : (old text new : List ℕ) → take (length old) text ≡ old → take (length text) new ≡ text → take (length old) new ≡ old
stands_on old text new stands after =
    let whole : new ≡ text ++ drop (length text) new = sym (take-append-drop (length text) new) ∙ ap (λ (xs : List ℕ). xs ++ drop (length text) new) after in
    still_stands old text new (drop (length text) new) whole stands

pub still_err : {T E : Type 0} (r : Result T E) (old text new : List ℕ) → take (length old) text ≡ old → OnErr r (take (length text) new ≡ text) → OnErr r (take (length old) new ≡ old)
still_err (Ok x) old text new stands after = tt
still_err (Err e) old text new stands after = stands_on old text new stands after
