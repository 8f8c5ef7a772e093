-- Reading items one after the other, as a loop does.
use Rattle.std.proofs.Common.{◌≡◌, ℕ, suc, ◌+◌, ◌-◌, ◌<◌, ◌≤◌, List, [], ◌∷◌, ◌++◌, Ok, Err, refl, sym, ap, ◌∙◌, arith}
use Rattle.state_items.specs.declared.fault.ItemFault.{ItemFault}
use Rattle.state_items.specs.declared.fault.ItemFault.TheVariants as item_fault
use Rattle.state_items.specs.Reading.{Fails, Read, many}

pub goes_on : {A : Type 0} (one : List A → List ℕ → Read A) (count i : ℕ) (before new : List A) (bytes : List ℕ) (x : A) (after : List ℕ) (total : Read (List A)) → i < count → new ≡ before ++ x ∷ [] → one before bytes ≡ Ok (x, after)
    → many one (count - i) before bytes ≡ total → many one (count - (i + 1)) new after ≡ total
unfolding many
goes_on one count i before new bytes x after total lt e h so_far =
    let k : count - i ≡ suc (count - (i + 1)) = omega arith in
    let step : many one (count - i) before bytes ≡ many one (count - (i + 1)) (before ++ x ∷ []) after = rw (k, h) refl in
    ap (λ (xs : List _). many one (count - (i + 1)) xs after) e ∙ sym step ∙ so_far

pub ends : {A : Type 0} (one : List A → List ℕ → Read A) (e : ItemFault) (count i : ℕ) (before : List A) (bytes : List ℕ) (total : Read (List A)) → i < count → Fails e (one before bytes)
    → many one (count - i) before bytes ≡ total → Fails e total
unfolding many
ends one item_fault.Memory count i before bytes total lt h so_far = tt
ends one (item_fault.Broken b) count i before bytes total lt h so_far =
    let k : count - i ≡ suc (count - (i + 1)) = omega arith in
    let step : many one (count - i) before bytes ≡ Err b = rw (k, h) refl in
    sym so_far ∙ step

pub is_done : {A : Type 0} (one : List A → List ℕ → Read A) (count i : ℕ) (before : List A) (bytes : List ℕ) (total : Read (List A)) → count ≤ i → many one (count - i) before bytes ≡ total → total ≡ Ok (before, bytes)
unfolding many
is_done one count i before bytes total le so_far =
    let k : count - i ≡ 0 = omega arith in
    let step : many one (count - i) before bytes ≡ Ok (before, bytes) = rw k refl in
    sym so_far ∙ step
