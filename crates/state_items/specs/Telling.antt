-- Readings that are told by a relation: what bytes mean is not always a function that can be written down.
use Rattle.std.specs.Prelude.{◌≡◌, ℕ, zero, suc, List, [], ◌∷◌, ◌++◌, Result, Ok, Err}
use Rattle.state_items.specs.declared.fault.Broken.{Broken}
use Rattle.state_items.specs.declared.fault.ItemFault.{ItemFault}
use Rattle.state_items.specs.declared.fault.ItemFault.TheVariants as item_fault
use Rattle.state_items.specs.Reading.{Answer, Read}

-- What a function answered is an answer that a relation has, its value seen by view, unless memory ran out.
abbrev pub TellsFault : {Y : Type 0} → ItemFault → (Answer Y → Type 0) → Type 0
TellsFault item_fault.Memory Has = Unit {0}
TellsFault (item_fault.Broken b) Has = Has (Err b)

abbrev pub Tells : {X Y : Type 0} → (X → Y) → Result X ItemFault → (Answer Y → Type 0) → Type 0
Tells view (Ok x) Has = Has (Ok (view x))
Tells view (Err e) Has = TellsFault e Has

-- one reading and then the next
pub data Then {A B : Type 0} (First : Answer A → Type 0) (Next : A → Answer B → Type 0) (answer : Answer B) : Type 0 where
  stops : (e : Broken) → First (Err e) → answer ≡ Err e → Then First Next answer
  goes : (x : A) → First (Ok x) → Next x answer → Then First Next answer

-- so many items, each read with those before it at hand
abbrev pub Many : {A : Type 0} → (List A → List ℕ → Read A → Type 0) → ℕ → List A → List ℕ → Read (List A) → Type 0
Many One zero before bytes answer = answer ≡ Ok (before, bytes)
Many One (suc n) before bytes answer = Then (One before bytes) (λ x r. Many One n (before ++ x.0 ∷ []) x.1 r) answer
