-- What awaits a receipt under a number, by its place among ascending numbers.
use Rattle.std.proofs.Common.{◌≡◌, ℕ, zero, suc, ◌<◌, ◌==◌, Bool, true, false, List, [], ◌∷◌, length, get_or, refl, ap, arith}
use Rattle.std.specs.Prelude.{if◌then◌else◌, Option, Some, None}
use Rattle.std.specs.List.{All, remove}
use Rattle.std.specs.Option.{IfSome}
use Rattle.std.proofs.lemmas.Bool.Decides.{nat_tests}
use Rattle.std.proofs.lemmas.List.Elements.{All-cons, All-tail}
use Rattle.geo_base.specs.declared.replicator.Pending.{Pending}
use Rattle.geo_base.specs.Ascending.{IsAscending, IsGap, IsHere}
use Rattle.geo_base.specs.Replicator.{pending_index, without_number}
use Rattle.replicator.specs.Sending.{number_of}
use Rattle.geo_base.proofs.Bools.{if_both}

-- those before a place have other numbers
found : (ps : List Pending) (n at : ℕ) (d : Pending) → at < length ps → ((k : ℕ) → k < at → number_of (get_or ps k d) ≡ n → ⊥) → number_of (get_or ps at d) ≡ n → (pending_index ps n ≡ Some (get_or ps at d).index) × (without_number ps n ≡ remove ps at)
found [] n at d within before same = absurd (omega arith)
found (p ∷ ps) n zero d within before same =
    let is : (p.number == n) ≡ true = grind (arith, nat_tests) in
    (rw is refl, rw is refl)
found (p ∷ ps) n (suc at) d within before same =
    let other : (p.number == n) ≡ false = grind (arith, nat_tests, before zero (omega arith)) in
    let rest = found ps n at d (omega arith) (λ k l. before (suc k) (omega arith)) same in
    (rw other rest.0, rw other (ap (λ qs. p ∷ qs) rest.1))

missed : (ps : List Pending) (n : ℕ) → ((k : ℕ) (d : Pending) → k < length ps → number_of (get_or ps k d) ≡ n → ⊥) → (pending_index ps n ≡ None) × (without_number ps n ≡ ps)
missed [] n all = (refl, refl)
missed (p ∷ ps) n all =
    let other : (p.number == n) ≡ false = grind (arith, nat_tests, all zero p (omega arith)) in
    let rest = missed ps n (λ k d l. all (suc k) d (omega arith)) in
    (rw other rest.0, rw other (ap (λ qs. p ∷ qs) rest.1))

pub pending_here : (ps : List Pending) (n at : ℕ) (d : Pending) → IsHere Pending number_of ps n at → (pending_index ps n ≡ Some (get_or ps at d).index) × (without_number ps n ≡ remove ps at)
pending_here ps n at d h =
    found ps n at d h.within (λ k l e. omega (arith, e, h.place.low k d (omega arith) l)) (h.same d)

pub pending_gap : (ps : List Pending) (n at : ℕ) → IsAscending number_of ps → IsGap Pending number_of ps n at → (pending_index ps n ≡ None) × (without_number ps n ≡ ps)
pending_gap ps n at asc g =
    missed ps n (λ k d l e. grind (arith, e, g.place.low k d, g.place.high k d, g.other d, asc at k d))

-- numbers stand once: what is left without one has no such number
left_without : (p : Pending) (ps : List Pending) (n : ℕ) → IsAscending number_of (p ∷ ps) → pending_index (without_number ps n) n ≡ None
    → (same : Bool) → (p.number == n) ≡ same → pending_index (if same then ps else p ∷ without_number ps n) n ≡ None
left_without p ps n asc rest true is =
    let same : p.number ≡ n = grind (arith, nat_tests) in
    (missed ps n (λ k d l e. omega (arith, same, e, asc zero (suc k) d (omega arith) (omega arith)))).0
left_without p ps n asc rest false is = rw is rest

pub pending_once : (ps : List Pending) (n : ℕ) → IsAscending number_of ps → pending_index (without_number ps n) n ≡ None
pending_once [] n asc = refl
pending_once (p ∷ ps) n asc =
    left_without p ps n asc (pending_once ps n (λ i j d l k. asc (suc i) (suc j) d (omega arith) (omega arith))) (p.number == n) refl

-- a number that awaits no receipt leaves all when it is taken out
pub none_taken : (ps : List Pending) (n : ℕ) → pending_index ps n ≡ None → without_number ps n ≡ ps
none_taken [] n h = refl
none_taken (p ∷ ps) n h = by_number (p.number == n) p ps n h (none_taken ps n)
  where
    by_number : (same : Bool) (p : Pending) (ps : List Pending) (n : ℕ) → (if same then Some p.index else pending_index ps n) ≡ None → (pending_index ps n ≡ None → without_number ps n ≡ ps)
        → (if same then ps else p ∷ without_number ps n) ≡ p ∷ ps
    by_number true p ps n h rest = absurd cc
    by_number false p ps n h rest = ap (λ qs. p ∷ qs) (rest h)

-- what holds of all that await a receipt holds of the one that is found, and of those that are left
pub some_found : (P : ℕ → Type 0) (ps : List Pending) (n : ℕ) → All (λ (p : Pending). P p.index) ps → IfSome (pending_index ps n) P
some_found P [] n h = tt
some_found P (p ∷ ps) n h =
    if_both (λ (o : Option ℕ). IfSome o P) (p.number == n) (Some p.index) (pending_index ps n) (h zero p (omega arith)) (some_found P ps n (All-tail (λ (p : Pending). P p.index) p ps h))

pub all_left : (P : Pending → Type 0) (ps : List Pending) (n : ℕ) → All P ps → All P (without_number ps n)
all_left P [] n h = h
all_left P (p ∷ ps) n h =
    if_both (All P) (p.number == n) ps (p ∷ without_number ps n) (All-tail P p ps h) (All-cons P p (without_number ps n) (h zero p (omega arith)) (all_left P ps n (All-tail P p ps h)))
