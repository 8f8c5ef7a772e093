-- A topic that has no list of subscriptions has none.
use Rattle.std.proofs.Common.{◌≡◌, ℕ, false, cond, List, [], length, Option, None, Some, ap, ◌∙◌, refl, sym}
use Rattle.std.specs.Prelude.{slice_get, unwrap_or}
use Rattle.std.proofs.lemmas.Option.{unwrap_or-slice_get}
use Rattle.script_rows.specs.NameBytes.{is_among, name_at, number_in}
use Rattle.script_rows.specs.NameWords.{Word}
use Rattle.script_rows.specs.Names.{Names, subs_of}

none_there : (n : Names) (t : ℕ) → slice_get n.subs t ≡ None → subs_of n t ≡ []
none_there n t e =
    sym (unwrap_or-slice_get n.subs t []) ∙ ap (λ (o : Option (List Word)). unwrap_or o []) e

pub no_sub : (n : Names) (t : ℕ) (w : Word) → slice_get n.subs t ≡ None → false ≡ is_among (subs_of n t) w
no_sub n t w e = ap (λ (names : List Word). is_among names w) (sym (none_there n t e))

pub no_count : (n : Names) (t : ℕ) → slice_get n.subs t ≡ None → 0 ≡ length (subs_of n t)
no_count n t e = ap (λ (names : List Word). length names) (sym (none_there n t e))

pub no_name : (n : Names) (t i : ℕ) → slice_get n.subs t ≡ None → [] ≡ name_at (subs_of n t) i
no_name n t i e = ap (λ (names : List Word). name_at names i) (sym (none_there n t e))

pub not_found : (n : Names) (t : ℕ) (w : Word) → slice_get n.subs t ≡ None → None ≡ cond (is_among (subs_of n t) w) (Some (number_in (subs_of n t) w)) None
not_found n t w e = rw (none_there n t e) refl
