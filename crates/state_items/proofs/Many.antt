-- Items that a relation tells, one after the other, as a loop reads them.
use Rattle.std.proofs.Common.{◌≡◌, ℕ, zero, suc, ◌+◌, ◌-◌, ◌<◌, ◌≤◌, List, [], ◌∷◌, ◌++◌, length, Ok, Err, refl, sym, ap, subst, ◌∙◌, append_assoc, arith}
use Rattle.std.specs.List.{flat_map}
use Rattle.std.proofs.lemmas.List.{append-nil}
use Rattle.std.proofs.lemmas.List.Concat.{flat_map-cons}
use Rattle.state_items.specs.declared.fault.ItemFault.{ItemFault}
use Rattle.state_items.specs.declared.fault.ItemFault.TheVariants as item_fault
use Rattle.state_items.specs.Reading.{Read}
use Rattle.state_items.specs.Fitting.{AllFit}
use Rattle.state_items.proofs.Telling.{then_one}
use Rattle.state_items.specs.Telling.{Many, TellsFault, stops, goes}

pub goes_on : {A : Type 0} (One : List A → List ℕ → Read A → Type 0) (count i : ℕ) (before new : List A) (bytes : List ℕ) (x : A) (after : List ℕ) (Whole : Read (List A) → Type 0) → i < count → new ≡ before ++ x ∷ [] → One before bytes (Ok (x, after))
    → ((answer : Read (List A)) → Many One (count - i) before bytes answer → Whole answer)
    → (answer : Read (List A)) → Many One (count - (i + 1)) new after answer → Whole answer
goes_on One count i before new bytes x after Whole lt e h so_far answer left =
    let more : Many One (count - (i + 1)) (before ++ x ∷ []) after answer = subst (λ (xs : List _). Many One (count - (i + 1)) xs after answer) e left in
    let k : suc (count - (i + 1)) ≡ count - i = omega arith in
    so_far answer (subst (λ (n : ℕ). Many One n before bytes answer) k (goes (x, after) h more))

pub begins : {A : Type 0} (One : List A → List ℕ → Read A → Type 0) (count : ℕ) (bytes : List ℕ) (answer : Read (List A)) → Many One (count - 0) [] bytes answer → Many One count [] bytes answer
begins One count bytes answer h =
    let k : count - 0 ≡ count = omega arith in
    subst (λ (n : ℕ). Many One n [] bytes answer) k h

pub ends : {A : Type 0} (One : List A → List ℕ → Read A → Type 0) (e : ItemFault) (count i : ℕ) (before : List A) (bytes : List ℕ) (Whole : Read (List A) → Type 0) → i < count → TellsFault e (One before bytes)
    → ((answer : Read (List A)) → Many One (count - i) before bytes answer → Whole answer) → TellsFault e Whole
ends One item_fault.Memory count i before bytes Whole lt h so_far = tt
ends One (item_fault.Broken b) count i before bytes Whole lt h so_far =
    let k : suc (count - (i + 1)) ≡ count - i = omega arith in
    so_far (Err b) (subst (λ (n : ℕ). Many One n before bytes (Err b)) k (stops b h refl))

pub is_done : {A : Type 0} (One : List A → List ℕ → Read A → Type 0) (count i : ℕ) (before : List A) (bytes : List ℕ) (Whole : Read (List A) → Type 0) → count ≤ i
    → ((answer : Read (List A)) → Many One (count - i) before bytes answer → Whole answer) → Whole (Ok (before, bytes))
is_done One count i before bytes Whole le so_far =
    let k : 0 ≡ count - i = omega arith in
    so_far (Ok (before, bytes)) (subst (λ (n : ℕ). Many One n before bytes (Ok (before, bytes))) k refl)

-- what is told has one answer, where each item has
pub many_one : {A : Type 0} (One : List A → List ℕ → Read A → Type 0) → ((before : List A) (bytes : List ℕ) (a b : Read A) → One before bytes a → One before bytes b → a ≡ b)
    → (n : ℕ) (before : List A) (bytes : List ℕ) (a b : Read (List A)) → Many One n before bytes a → Many One n before bytes b → a ≡ b
many_one One one zero before bytes a b h k = h ∙ sym k
many_one One one (suc n) before bytes a b h k =
    then_one (One before bytes) (λ x r. Many One n (before ++ x.0 ∷ []) x.1 r) (one before bytes) (λ x c d l m. many_one One one n (before ++ x.0 ∷ []) x.1 c d l m) a b h k

-- what was written is told again
pub many_again : {A : Type 0} (One : List A → List ℕ → Read A → Type 0) (text : A → List ℕ) (Fits : List A → A → Type 0)
    → ((before : List A) (x : A) (rest : List ℕ) → Fits before x → One before (text x ++ rest) (Ok (x, rest)))
    → (xs before : List A) (rest : List ℕ) → AllFit Fits before xs → Many One (length xs) before (flat_map text xs ++ rest) (Ok (before ++ xs, rest))
many_again One text Fits again [] before rest h = ap (λ (ys : List _). Ok (ys, rest)) (append-nil before)
many_again One text Fits again (x ∷ xs) before rest h =
    let regrouped : text x ++ (flat_map text xs ++ rest) ≡ flat_map text (x ∷ xs) ++ rest =
    sym (ap (λ (b : List ℕ). b ++ rest) (flat_map-cons text x xs) ∙ append_assoc (text x) (flat_map text xs) rest) in
    let others : Many One (length xs) (before ++ x ∷ []) (flat_map text xs ++ rest) (Ok (before ++ x ∷ xs, rest)) =
    subst (λ (ys : List _). Many One (length xs) (before ++ x ∷ []) (flat_map text xs ++ rest) (Ok (ys, rest))) (append_assoc before (x ∷ []) xs) (many_again One text Fits again xs (before ++ x ∷ []) rest h.1) in
    subst (λ (b : List ℕ). Many One (suc (length xs)) before b (Ok (before ++ x ∷ xs, rest))) regrouped (goes (x, flat_map text xs ++ rest) (again before x (flat_map text xs ++ rest) h.0) others)
