-- What an index has after a key was put into it or taken out of it.
use Rattle.std.proofs.Common.{◌≡◌, Bool, true, false, cond, not, ◌&&◌, ◌||◌, List, [], ◌∷◌, Option, Some, None, Bor, sym, subst}
use Rattle.std.specs.Prelude.{IfSome, MatchOption, slice_get}
use Rattle.std.specs.Option.{option_copied}

pub put_in : (here was now : Bool) → now ≡ cond here true was → now ≡ (here || was)
put_in true was now h = h
put_in false was now h = h

pub taken_out : (here was now : Bool) → now ≡ cond here false was → now ≡ (not here && was)
taken_out true was now h = h
taken_out false was now h = h

-- what holds of the first of a range holds of what its first step copied
pub first_copied : {K : Type 0} (r rest : List K) (o : Option (Bor K)) (k : Option K) (P : K → Type 0)
    → MatchOption o ((r ≡ []) × (rest ≡ [])) (λ x. r ≡ x.now ∷ rest) → k ≡ option_copied o → IfSome (slice_get r 0) P → IfSome k P
first_copied {K} r rest None k P step copied h = subst (λ (x : Option K). IfSome x P) (sym copied) tt
first_copied {K} r rest (Some x) k P step copied h = subst (λ (y : Option K). IfSome y P) (sym copied) (subst (λ (xs : List K). IfSome (slice_get xs 0) P) step h)

-- what is least of a range is one key for all
pub at_most_all : {K : Type 0} (o : Option K) (P Q : K → Type 0) (R : K → K → Type 0)
    → ((q : K) → P q → Q q → IfSome o (λ k. R k q)) → IfSome o (λ k. (q : K) → P q → Q q → R k q)
at_most_all None P Q R h = tt
at_most_all (Some k) P Q R h = h

-- what is in a range and among the keys is among the keys
pub first_had : {K : Type 0} (o : Option K) (P Q : K → Type 0) → IfSome o (λ k. P k × Q k) → IfSome o Q
first_had None P Q h = tt
first_had (Some k) P Q h = h.1

-- what holds of what is lent holds of its copy
pub copied_too : {K : Type 0} (o : Option (Bor K)) (k : Option K) (P : K → Type 0) → k ≡ option_copied o → IfSome o (λ x. P x.now) → IfSome k P
copied_too {K} None k P copied h = subst (λ (x : Option K). IfSome x P) (sym copied) tt
copied_too {K} (Some x) k P copied h = subst (λ (y : Option K). IfSome y P) (sym copied) h
