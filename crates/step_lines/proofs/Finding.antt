-- A broker's subscription is found by its name: what the places from one on have, all have.
use Rattle.std.proofs.Common.{◌≡◌, ℕ, ◌+◌, Bool, true, false, List, drop, sym, ap, ◌∙◌}
use Rattle.std.specs.Prelude.{◌&&◌, not, Some, find, is_some, if◌then◌else◌, slice_get}
use Rattle.std.specs.Str.{bytes_eq}
use Rattle.geo_base.specs.Subscription.{Subscription}
use Rattle.report_lines.proofs.Added.{drop_here}
use Rattle.step_lines.specs.Resting.{are_apart, has_from}

at_place : (n : List ℕ) (vs : List Subscription) (i : ℕ) (v : Subscription) → slice_get vs i ≡ Some v
    → has_from n i vs ≡ is_some (if bytes_eq v.name n then Some v else find (λ (v : Subscription). bytes_eq v.name n) (drop (i + 1) vs))
at_place n vs i v at = ap (λ (us : List Subscription). is_some (find (λ (v : Subscription). bytes_eq v.name n) us)) (drop_here vs i v at)

pub has_here : (n : List ℕ) (vs : List Subscription) (i : ℕ) (v : Subscription) (total : Bool) → slice_get vs i ≡ Some v → bytes_eq v.name n ≡ true → has_from n i vs ≡ total → true ≡ total
has_here n vs i v total at same before =
    sym (ap (λ (b : Bool). is_some (if b then Some v else find (λ (v : Subscription). bytes_eq v.name n) (drop (i + 1) vs))) same) ∙ (sym (at_place n vs i v at) ∙ before)

pub has_next : (n : List ℕ) (vs : List Subscription) (i : ℕ) (v : Subscription) (total : Bool) → slice_get vs i ≡ Some v → bytes_eq v.name n ≡ false → has_from n i vs ≡ total
    → has_from n (i + 1) vs ≡ total
has_next n vs i v total at other before =
    sym (ap (λ (b : Bool). is_some (if b then Some v else find (λ (v : Subscription). bytes_eq v.name n) (drop (i + 1) vs))) other) ∙ (sym (at_place n vs i v at) ∙ before)

-- ---- no two have one name

apart_at : (vs : List Subscription) (i : ℕ) (v : Subscription) → slice_get vs i ≡ Some v → are_apart (drop i vs) ≡ (not (has_from v.name (i + 1) vs) && are_apart (drop (i + 1) vs))
apart_at vs i v at = ap are_apart (drop_here vs i v at)

pub apart_here : (vs : List Subscription) (i : ℕ) (v : Subscription) (total : Bool) → slice_get vs i ≡ Some v → has_from v.name (i + 1) vs ≡ true → are_apart (drop i vs) ≡ total → false ≡ total
apart_here vs i v total at same before = sym (ap (λ (b : Bool). not b && are_apart (drop (i + 1) vs)) same) ∙ (sym (apart_at vs i v at) ∙ before)

pub apart_next : (vs : List Subscription) (i : ℕ) (v : Subscription) (total : Bool) → slice_get vs i ≡ Some v → has_from v.name (i + 1) vs ≡ false → are_apart (drop i vs) ≡ total
    → are_apart (drop (i + 1) vs) ≡ total
apart_next vs i v total at other before = sym (ap (λ (b : Bool). not b && are_apart (drop (i + 1) vs)) other) ∙ (sym (apart_at vs i v at) ∙ before)
