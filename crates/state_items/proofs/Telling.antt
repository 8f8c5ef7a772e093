-- Answers of one reading and then the next.
use Rattle.std.proofs.Common.{◌≡◌, Ok, Err, refl, sym, ap, subst, ◌∙◌}
use Rattle.state_items.specs.declared.fault.Broken.{Broken}
use Rattle.state_items.specs.declared.fault.ItemFault.{ItemFault}
use Rattle.state_items.specs.declared.fault.ItemFault.TheVariants as item_fault
use Rattle.state_items.specs.Reading.{Answer, Fails}
use Rattle.state_items.specs.Telling.{TellsFault, Then, stops, goes}

-- the first reading ends it
pub reading_stopped : {A B : Type 0} (read : Answer A) (Q : A → Answer B → Type 0) (e : ItemFault) → Fails e read → TellsFault e (Then (λ r. r ≡ read) Q)
reading_stopped read Q item_fault.Memory h = tt
reading_stopped read Q (item_fault.Broken b) h = stops b (sym h) refl

same_fault : {A : Type 0} (d e : Broken) → ◌≡◌ {A = Answer A} (Err d) (Err e) → d ≡ e
same_fault d e h = cc

same_value : {A : Type 0} (x y : A) → ◌≡◌ {A = Answer A} (Ok x) (Ok y) → x ≡ y
same_value x y h = cc

not_both : {A : Type 0} (e : Broken) (x : A) → ◌≡◌ {A = Answer A} (Err e) (Ok x) → ⊥
not_both e x h = absurd cc

-- what is told has one answer, where each of its readings has
pub then_one : {A B : Type 0} (P : Answer A → Type 0) (Q : A → Answer B → Type 0) → ((a b : Answer A) → P a → P b → a ≡ b) → ((x : A) (a b : Answer B) → Q x a → Q x b → a ≡ b)
    → (a b : Answer B) → Then P Q a → Then P Q b → a ≡ b
then_one P Q p q a b (stops d h is) (stops e k js) = is ∙ ap (λ (f : Broken). Err f) (same_fault d e (p (Err d) (Err e) h k)) ∙ sym js
then_one P Q p q a b (stops d h is) (goes y k m) = absurd (not_both d y (p (Err d) (Ok y) h k))
then_one P Q p q a b (goes x h l) (stops e k js) = absurd (not_both e x (p (Err e) (Ok x) k h))
then_one P Q p q a b (goes x h l) (goes y k m) = q y a b (subst (λ (z : _). Q z a) (same_value x y (p (Ok x) (Ok y) h k)) l) m
