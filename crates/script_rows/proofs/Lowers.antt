-- The lowest of the rules that either of two things break.
use Rattle.std.proofs.Common.{◌≡◌, ℕ, ◌<◌, ◌≤◌, nat_le, nat_lt, Bool, true, false, cond, ◌&&◌, ◌||◌, List, [], ◌∷◌, find, Option, Some, None, inl, inr, arith, refl, sym, subst}
use Rattle.std.specs.List.{list_all}
use Rattle.std.proofs.lemmas.Bool.{and_parts, leb-false, leb-true, le-leb, lt-leb, ltb-true}
use Rattle.std.proofs.lemmas.Option.{none-some, same_Some}
use Rattle.script_rows.specs.declared.fault.Rule.{Rule}
use Rattle.script_rows.specs.Judging.{rule_number, word_rules}
use Rattle.script_rows.specs.Reading.{lower}
use Rattle.script_rows.proofs.Chosen.{chosen}

-- ---- the lower of two
pub lower_none : (o : Option Rule) → lower o None ≡ o
lower_none None = refl
lower_none (Some x) = refl

-- a rule that is no higher than what is beside it
first_lower : (r : Rule) (o : Option Rule) → ((x : Rule) → o ≡ Some x → rule_number r ≤ rule_number x) → lower (Some r) o ≡ Some r
first_lower r None low = refl
first_lower r (Some x) low = rw (le-leb (rule_number r) (rule_number x) (low x refl)) refl

second_lower : (r : Rule) (o : Option Rule) → ((x : Rule) → o ≡ Some x → rule_number r < rule_number x) → lower o (Some r) ≡ Some r
second_lower r None low = refl
second_lower r (Some x) low = rw (lt-leb (rule_number x) (rule_number r) (low x refl)) refl

same_side : (r : Rule) → lower (Some r) (Some r) ≡ Some r
same_side r = rw (le-leb (rule_number r) (rule_number r) (omega arith)) refl

two_tests : (x y z : Rule) (a b c : Bool) → nat_le (rule_number x) (rule_number y) ≡ a → nat_le (rule_number y) (rule_number z) ≡ b → nat_le (rule_number x) (rule_number z) ≡ c → lower (cond a (Some x) (Some y)) (Some z) ≡ lower (Some x) (cond b (Some y) (Some z))
two_tests x y z true true true p q r = rw (r, p) refl
two_tests x y z true true false p q r =
    absurd (omega (arith, leb-true _ _ p, leb-true _ _ q, leb-false _ _ r))
two_tests x y z true false true p q r = rw (r) refl
two_tests x y z true false false p q r = rw (r) refl
two_tests x y z false true true p q r = rw (q, p) refl
two_tests x y z false true false p q r = rw (q, p) refl
two_tests x y z false false true p q r =
    absurd (omega (arith, leb-false _ _ p, leb-false _ _ q, leb-true _ _ r))
two_tests x y z false false false p q r = rw (q, r) refl

-- the lowest of three
pub lower_three : (o p q : Option Rule) → lower (lower o p) q ≡ lower o (lower p q)
lower_three None p q = refl
lower_three (Some x) None q = refl
lower_three (Some x) (Some y) None = lower_none (lower (Some x) (Some y))
lower_three (Some x) (Some y) (Some z) = two_tests x y z _ _ _ refl refl refl

-- ---- a search by either of two tests
abbrev ascends : List Rule → Bool
ascends [] = true
ascends (r ∷ rs) = list_all (λ x. nat_lt (rule_number r) (rule_number x)) rs && ascends rs

-- what is found among rules that are all above a number is above it
found_above : (p : Rule → Bool) (rs : List Rule) (m : ℕ) → list_all (λ x. nat_lt m (rule_number x)) rs ≡ true → (x : Rule) → find p rs ≡ Some x → m < rule_number x
found_above p [] m above x e = absurd (none-some x e)
found_above p (r ∷ rs) m above x e =
    let parts = and_parts (nat_lt m (rule_number r)) (list_all (λ y. nat_lt m (rule_number y)) rs) above in
    elim (chosen (p r) (Some r) (find p rs) (Some x) e) [
      | inl here ↦ subst (λ (y : Rule). m < rule_number y) (same_Some r x here.1) (ltb-true _ _ parts.0)
      | inr later ↦ found_above p rs m parts.1 x later.1
    ]

either : (x y : Bool) (r : Rule) (left right both : Option Rule) → ((z : Rule) → left ≡ Some z → rule_number r < rule_number z) → ((z : Rule) → right ≡ Some z → rule_number r < rule_number z) → both ≡ lower left right → cond (x || y) (Some r) both ≡ lower (cond x (Some r) left) (cond y (Some r) right)
either true true r left right both low high e = sym (same_side r)
either true false r left right both low high e = sym (first_lower r right (λ z is. omega (arith, high z is)))
either false true r left right both low high e = sym (second_lower r left low)
either false false r left right both low high e = e

either_from : (a b : Rule → Bool) (rs : List Rule) → ascends rs ≡ true → find (λ r. a r || b r) rs ≡ lower (find a rs) (find b rs)
either_from a b [] up = refl
either_from a b (r ∷ rs) up =
    let parts = and_parts (list_all (λ x. nat_lt (rule_number r) (rule_number x)) rs) (ascends rs) up in
    either (a r) (b r) r (find a rs) (find b rs) (find (λ x. a x || b x) rs) (found_above a rs (rule_number r) parts.0) (found_above b rs (rule_number r) parts.0) (either_from a b rs parts.1)

-- the lowest of the rules of a line that one or the other breaks
pub lowest_of_either : (a b : Rule → Bool) → find (λ r. a r || b r) word_rules ≡ lower (find a word_rules) (find b word_rules)
lowest_of_either a b = either_from a b word_rules refl
