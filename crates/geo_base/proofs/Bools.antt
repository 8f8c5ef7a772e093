-- Lemmas on truth values that several crates use, each named by its statement.
use Rattle.std.proofs.Common.{Bool, None, Option, Some, arith, cond, false, inl, inr, not, refl, rules, sym, true, ℕ, ◌&&◌, ◌≡◌, ◌⊎◌}
use Rattle.std.proofs.lemmas.Bool.{false≢true}
use Rattle.std.specs.Prelude.{if◌then◌else◌, ◌||◌}

pub both_true : (a b : Bool) → (a && b) ≡ true → (a ≡ true) × (b ≡ true)
both_true true true h = (refl, refl)
both_true true false h = absurd cc
both_true false b h = absurd cc

pub and_of_both : (a b : Bool) → a ≡ true → b ≡ true → (a && b) ≡ true
and_of_both true true h k = refl
and_of_both true false h k = absurd (false≢true k)
and_of_both false b h k = absurd (false≢true h)

pub and_first : (a b : Bool) → (a && b) ≡ true → a ≡ true
and_first true b h = refl
and_first false b h = absurd (false≢true h)

pub and_second : (a b : Bool) → (a && b) ≡ true → b ≡ true
and_second true b h = h
and_second false b h = absurd (false≢true h)

pub and_with_true : (b : Bool) → (b && true) ≡ b
and_with_true true = refl
and_with_true false = refl

pub and_with_false : (b : Bool) → (b && false) ≡ false
and_with_false true = refl
and_with_false false = refl

pub and_no_second : (t u : Bool) → u ≡ false → (t && u) ≡ false
and_no_second true u h = h
and_no_second false u h = refl

pub and_assoc : (a b c : Bool) → (a && (b && c)) ≡ ((a && b) && c)
and_assoc true b c = refl
and_assoc false b c = refl

pub and_middle : (a b c : Bool) → (a && b && c) ≡ true → b ≡ true
and_middle true true true h = refl
and_middle true true false h = refl
and_middle true false c h = absurd cc
and_middle false b c h = absurd cc

pub and_first_of_five : (a b c d e : Bool) → (a && b && c && d && e) ≡ true → a ≡ true
and_first_of_five a b c d e h = grind (arith, h)

pub and_fourth_of_five : (a b c d e : Bool) → (a && b && c && d && e) ≡ true → d ≡ true
and_fourth_of_five true true true true e h = refl
and_fourth_of_five true true true false e h = absurd cc
and_fourth_of_five true true false d e h = absurd cc
and_fourth_of_five true false c d e h = absurd cc
and_fourth_of_five false b c d e h = absurd cc

pub or_of_first : (a b : Bool) → a ≡ true → (a || b) ≡ true
or_of_first true b h = refl
or_of_first false b h = absurd (cc)

pub or_of_second : (a b : Bool) → b ≡ true → (a || b) ≡ true
or_of_second true b h = refl
or_of_second false b h = h

pub or_cases : (a b : Bool) → (a || b) ≡ true → (a ≡ true) ⊎ (b ≡ true)
or_cases true b h = inl refl
or_cases false b h = inr h

pub or_not_first : (a b : Bool) → (a || b) ≡ false → a ≡ false
or_not_first true b h = h
or_not_first false b h = refl

pub or_not_second : (a b : Bool) → (a || b) ≡ false → b ≡ false
or_not_second true b h = absurd (false≢true (sym h))
or_not_second false b h = h

pub or_other : (a b : Bool) → (a || b) ≡ true → a ≡ false → b ≡ true
or_other true b h e = absurd (false≢true (sym e))
or_other false b h e = h

pub or_assoc : (a b c : Bool) → ((a || b) || c) ≡ (a || (b || c))
or_assoc true b c = refl
or_assoc false b c = refl

pub not_true_false : (b : Bool) → not b ≡ true → b ≡ false
not_true_false true h = absurd (cc)
not_true_false false h = refl

pub unless_true : (d meant : Bool) → meant ≡ true → (not d || meant) ≡ true
unless_true true meant h = h
unless_true false meant h = refl

pub unless_false : (c d : Bool) → (not c && d) ≡ true → c ≡ false
unless_false true d h = absurd (false≢true h)
unless_false false d h = refl

pub true_or_false : (b : Bool) → (b ≡ true) ⊎ (b ≡ false)
true_or_false true = inl refl
true_or_false false = inr refl

pub true_not_false : true ≡ false → ⊥
true_not_false e = absurd (cc)

pub by_truth : {P : Type 0} (b : Bool) → (b ≡ true → P) → (b ≡ false → P) → P
by_truth true h k = h refl
by_truth false h k = k refl

pub if_both : {X : Type 0} (P : X → Type 0) (b : Bool) (x y : X) → P x → P y → P (if b then x else y)
if_both P true x y p q = p
if_both P false x y p q = q

pub if_true : {A : Type 0} (c : Bool) (x y : A) → c ≡ true → (if c then x else y) ≡ x
if_true true x y e = refl
if_true false x y e = absurd (false≢true e)

pub if_false : {A : Type 0} (c : Bool) (x y : A) → c ≡ false → (if c then x else y) ≡ y
if_false true x y e = absurd (false≢true (sym e))
if_false false x y e = refl

pub ifs_swap : (a b : Bool) (x y z : Option ℕ) → (a ≡ true → b ≡ true → ⊥) → (if a then x else if b then y else z) ≡ (if b then y else if a then x else z)
ifs_swap true true x y z h = absurd (h refl refl)
ifs_swap true false x y z h = refl
ifs_swap false b x y z h = refl

pub ifs_join : (c : Bool) (x y z : Option ℕ) → (if c then x else z) ≡ (if c then x else if c then y else z)
ifs_join true x y z = refl
ifs_join false x y z = refl

pub cond_none : {A : Type 0} (b : Bool) (x : A) → cond b (Some x) None ≡ None → b ≡ false
cond_none true x e = cc
cond_none false x e = search rules

pub cond_else_none : {A : Type 0} (b : Bool) (x : A) (more : Option A) → cond b (Some x) more ≡ None → (b ≡ false) × (more ≡ None)
cond_else_none true x more e = cc
cond_else_none false x more e = (refl, e)

pub cond_cases : {A : Type 0} (b : Bool) (x y z : A) → cond b x y ≡ z → ((b ≡ true) × (x ≡ z)) ⊎ ((b ≡ false) × (y ≡ z))
cond_cases true x y z e = inl (refl, e)
cond_cases false x y z e = inr (refl, e)
