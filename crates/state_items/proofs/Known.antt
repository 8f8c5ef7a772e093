-- What is known of what was read.
use Rattle.std.proofs.Common.{◌≡◌, ℕ, zero, suc, ◌≤◌, nat_lt, Bool, true, false, List, [], ◌∷◌, ◌++◌, length, Ok, Err, refl, sym, ap, subst, ◌∙◌, append_assoc, arith}
use Rattle.std.specs.Prelude.{nat_le, ◌&&◌}
use Rattle.std.proofs.lemmas.Bool.{leb-true}
use Rattle.std.proofs.lemmas.Bool.Decides.{nat_tests}
use Rattle.std.proofs.lemmas.List.{append-nil}
use Rattle.cursor_acks.specs.declared.range.IndexRange.{IndexRange}
use Rattle.state_items.specs.declared.fault.Broken.{Broken}
use Rattle.state_items.specs.declared.rule.Rule.{Rule}
use Rattle.state_items.specs.declared.rule.Rule.TheVariants as rule
use Rattle.state_items.specs.Fitting.{AllFit, IsCursor}
use Rattle.state_items.specs.Ranges.{AreIn, IsNext, cursor_at, is_behind, range_at, ranges_at}
use Rattle.state_items.specs.Reading.{◌>>=◌, Answer, Read, broken, judge, list_at, many, number_at, number_within}
use Rattle.state_items.specs.Telling.{Many, Then, goes, stops}
use Rattle.state_items.proofs.Gaps.{none_in, one_in}

pub same_value : {A : Type 0} (x y : A) → ◌≡◌ {A = Answer A} (Ok x) (Ok y) → x ≡ y
same_value x y h = cc

pub not_both : {A : Type 0} (e : Broken) (x : A) → ◌≡◌ {A = Answer A} (Err e) (Ok x) → ⊥
not_both e x h = absurd cc

-- one reading and then the next, which came to their ends
pub record Came {A B : Type 0} (a : Answer A) (f : A → Answer B) (y : B) : Type 0 where
  pub first : A
  pub is : a ≡ Ok first
  pub next : f first ≡ Ok y

pub came : {A B : Type 0} (a : Answer A) (f : A → Answer B) (y : B) → (a >>= f) ≡ Ok y → Came a f y
came (Ok x) f y h = record { first = x; is = refl; next = h }
came (Err e) f y h = absurd (not_both e y h)

pub judged : (b : Bool) (item : List ℕ) (r : Rule) (u : Unit {0}) → judge b item r ≡ Ok u → b ≡ true
judged true item r u h = refl
judged false item r u h = absurd (not_both (broken item r) u h)

pub within_known : (most : ℕ) (r : Rule) (bytes : List ℕ) (x : ℕ × List ℕ) → number_within most r bytes ≡ Ok x → x.0 ≤ most
unfolding number_within
within_known most r bytes x h =
    let a = came (number_at bytes) (λ (n : ℕ × List ℕ). judge (nat_le n.0 most) bytes r >>= λ (kept : Unit {0}). Ok n) x h in
    let b = came (judge (nat_le a.first.0 most) bytes r) (λ (kept : Unit {0}). Ok a.first) x a.next in
    subst (λ (n : ℕ × List ℕ). n.0 ≤ most) (same_value a.first x b.next) (leb-true a.first.0 most (judged _ bytes r b.first b.is))

-- ---- lists

-- so many items after others
pub record Listed {A : Type 0} (Fits : List A → A → Type 0) (before : List A) (n : ℕ) (xs : List A) : Type 0 where
  pub new : List A
  pub is : xs ≡ before ++ new
  pub count : length new ≡ n
  pub each : AllFit Fits before new

none_listed : {A : Type 0} (Fits : List A → A → Type 0) (before xs : List A) → before ≡ xs → Listed Fits before 0 xs
none_listed Fits before xs e = record { new = []; is = sym e ∙ sym (append-nil before); count = refl; each = tt }

one_listed : {A : Type 0} (Fits : List A → A → Type 0) (before : List A) (x : A) (n : ℕ) (xs : List A) → Fits before x → Listed Fits (before ++ x ∷ []) n xs → Listed Fits before (suc n) xs
one_listed Fits before x n xs fits r = record {
  new = x ∷ r.new;
  is = r.is ∙ append_assoc before (x ∷ []) r.new;
  count = ap suc r.count;
  each = (fits, r.each);
}

pub many_known : {A : Type 0} (one : List A → List ℕ → Read A) (Fits : List A → A → Type 0)
    → ((before : List A) (bytes : List ℕ) (x : A × List ℕ) → one before bytes ≡ Ok x → Fits before x.0)
    → (n : ℕ) (before : List A) (bytes : List ℕ) (xs : List A × List ℕ) → many one n before bytes ≡ Ok xs → Listed Fits before n xs.0
unfolding many
many_known one Fits known zero before bytes xs h = none_listed Fits before xs.0 (ap (λ (y : List _ × List ℕ). y.0) (same_value (before, bytes) xs h))
many_known one Fits known (suc n) before bytes xs h =
    let a = came (one before bytes) (λ (x : _ × List ℕ). many one n (before ++ x.0 ∷ []) x.1) xs h in
    one_listed Fits before a.first.0 n xs.0 (known before bytes a.first a.is) (many_known one Fits known n (before ++ a.first.0 ∷ []) a.first.1 xs a.next)

pub listed_all : {A : Type 0} (Fits : List A → A → Type 0) (n : ℕ) (xs : List A) → Listed Fits [] n xs → AllFit Fits [] xs
listed_all Fits n xs r = subst (AllFit Fits []) (sym r.is) r.each

pub listed_count : {A : Type 0} (Fits : List A → A → Type 0) (n : ℕ) (xs : List A) → Listed Fits [] n xs → length xs ≡ n
listed_count Fits n xs r = ap length r.is ∙ r.count

pub list_known : {A : Type 0} (one : List A → List ℕ → Read A) (Fits : List A → A → Type 0)
    → ((before : List A) (bytes : List ℕ) (x : A × List ℕ) → one before bytes ≡ Ok x → Fits before x.0)
    → (bytes : List ℕ) (xs : List A × List ℕ) → list_at one bytes ≡ Ok xs → AllFit Fits [] xs.0
list_known one Fits known bytes xs h =
    let a = came (number_at bytes) (λ (n : ℕ × List ℕ). many one n.0 [] n.1) xs h in
    listed_all Fits a.first.0 xs.0 (many_known one Fits known a.first.0 [] a.first.1 xs a.next)

-- and of what was told

pub record Told {A B : Type 0} (First : Answer A → Type 0) (Next : A → Answer B → Type 0) (y : B) : Type 0 where
  pub first : A
  pub is : First (Ok first)
  pub next : Next first (Ok y)

told_as : {A B : Type 0} (First : Answer A → Type 0) (Next : A → Answer B → Type 0) (answer : Answer B) (y : B) → answer ≡ Ok y → Then First Next answer → Told First Next y
told_as First Next answer y e (stops b h is) = absurd (not_both b y (sym is ∙ e))
told_as First Next answer y e (goes x h more) = record { first = x; is = h; next = subst (Next x) e more }

pub told : {A B : Type 0} (First : Answer A → Type 0) (Next : A → Answer B → Type 0) (y : B) → Then First Next (Ok y) → Told First Next y
told First Next y h = told_as First Next (Ok y) y refl h

pub all_told : {A : Type 0} (One : List A → List ℕ → Read A → Type 0) (Fits : List A → A → Type 0)
    → ((before : List A) (bytes : List ℕ) (x : A × List ℕ) → One before bytes (Ok x) → Fits before x.0)
    → (n : ℕ) (before : List A) (bytes : List ℕ) (xs : List A × List ℕ) → Many One n before bytes (Ok xs) → Listed Fits before n xs.0
all_told One Fits known zero before bytes xs h = none_listed Fits before xs.0 (ap (λ (y : List _ × List ℕ). y.0) (sym (same_value xs (before, bytes) h)))
all_told One Fits known (suc n) before bytes xs h =
    let a = told (One before bytes) (λ x r. Many One n (before ++ x.0 ∷ []) x.1 r) xs h in
    one_listed Fits before a.first.0 n xs.0 (known before bytes a.first a.is) (all_told One Fits known n (before ++ a.first.0 ∷ []) a.first.1 xs a.next)

-- ---- cursors

range_known : (n : ℕ) (before : List IndexRange) (bytes : List ℕ) (x : IndexRange × List ℕ) → range_at n before bytes ≡ Ok x → IsNext n before x.0
unfolding range_at
range_known n before bytes x h =
    let a = came (number_at bytes) _ x h in
    let b = came (judge (is_behind before a.first.0 && nat_lt a.first.0 n) bytes rule.Ranges) _ x a.next in
    let c = came (number_at a.first.1) _ x b.next in
    let d = came (judge (nat_le a.first.0 c.first.0 && nat_lt c.first.0 n) a.first.1 rule.Ranges) _ x c.next in
    let begins = judged _ bytes rule.Ranges b.first b.is in
    let ends = judged _ a.first.1 rule.Ranges d.first d.is in
    let next : IsNext n before (record { first = a.first.0; last = c.first.0 }) =
    record { behind = grind (arith, begins); order = grind (arith, nat_tests, ends); within = grind (arith, nat_tests, ends) } in
    subst (λ (y : IndexRange × List ℕ). IsNext n before y.0) (same_value _ x d.next) next

all_in : (n : ℕ) (rs before : List IndexRange) → AreIn n before → AllFit (IsNext n) before rs → AreIn n (before ++ rs)
all_in n [] before h each = subst (AreIn n) (sym (append-nil before)) h
all_in n (r ∷ rs) before h each = subst (AreIn n) (append_assoc before (r ∷ []) rs) (all_in n rs (before ++ r ∷ []) (one_in n before r h each.0) each.1)

pub cursor_known : (n : ℕ) (bytes : List ℕ) (x : List ℕ × List ℕ) → cursor_at n bytes ≡ Ok x → IsCursor n x.0
unfolding cursor_at
cursor_known n bytes x h =
    let a = came (ranges_at n bytes) _ x h in
    let next = list_known (range_at n) (IsNext n) (range_known n) bytes a.first a.is in
    subst (λ (y : List ℕ × List ℕ). IsCursor n y.0) (same_value _ x a.next) (record { ranges = a.first.0; inside = all_in n a.first.0 [] (none_in n) next; is = refl })
