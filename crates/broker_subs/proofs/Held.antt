-- What is out or due again after something was taken out or put in.
use Rattle.std.proofs.Common.{◌≡◌, ℕ, ◌==◌, Bool, true, false, List, [], ◌∷◌, refl, ap, sym, ◌∙◌, arith}
use Rattle.std.specs.Prelude.{nat_lt, not, ◌||◌, if◌then◌else◌}
use Rattle.std.specs.List.{filter, list_any}
use Rattle.std.proofs.lemmas.Bool.Decides.{nat_tests}
use Rattle.geo_base.specs.declared.consumer.Unacked.{Unacked}
use Rattle.geo_base.specs.Cursor.{has, with_indexes}
use Rattle.geo_base.specs.Dispatcher.{with_out}
use Rattle.cursor_acks.proofs.Sets.{has_with_indexes}
pub use Rattle.geo_base.proofs.Bools.{or_of_first as or_left, or_of_second as or_right}
pub use Rattle.geo_base.proofs.Sums.{eq_itself as itself}

pub or_cases : (a b : Bool) {P : Type 0} → (a || b) ≡ true → (a ≡ true → P) → (b ≡ true → P) → P
or_cases true b h f g = f refl
or_cases false b h f g = g h

-- an index is out
abbrev pub is_out : List Unacked → ℕ → Bool
is_out os i = list_any (λ (o : Unacked). o.index == i) os

out_left_case : (p : Unacked → Bool) (i : ℕ) (o : Unacked) (os : List Unacked) (b : Bool) → (is_out (filter p os) i ≡ true → is_out os i ≡ true) → is_out (if b then o ∷ filter p os else filter p os) i ≡ true → is_out (o ∷ os) i ≡ true
out_left_case p i o os true rest h = or_cases (o.index == i) _ h (or_left (o.index == i) _) (λ e. or_right (o.index == i) _ (rest e))
out_left_case p i o os false rest h = or_right (o.index == i) _ (rest h)

-- what is still out was out
pub out_left : (p : Unacked → Bool) (i : ℕ) (os : List Unacked) → is_out (filter p os) i ≡ true → is_out os i ≡ true
out_left p i [] h = h
out_left p i (o ∷ os) h = out_left_case p i o os (p o) (out_left p i os) h

due_left_case : (p : ℕ → Bool) (i x : ℕ) (xs : List ℕ) (b : Bool) → (has (filter p xs) i ≡ true → has xs i ≡ true) → has (if b then x ∷ filter p xs else filter p xs) i ≡ true → has (x ∷ xs) i ≡ true
due_left_case p i x xs true rest h = or_cases (x == i) _ h (or_left (x == i) _) (λ e. or_right (x == i) _ (rest e))
due_left_case p i x xs false rest h = or_right (x == i) _ (rest h)

pub due_left : (p : ℕ → Bool) (i : ℕ) (xs : List ℕ) → has (filter p xs) i ≡ true → has xs i ≡ true
due_left p i [] h = h
due_left p i (x ∷ xs) h = due_left_case p i x xs (p x) (due_left p i xs) h

out_gains_case : (i : ℕ) (o x : Unacked) (xs : List Unacked) (lower same : Bool) → (is_out (with_out xs o) i ≡ true → is_out (o ∷ xs) i ≡ true)
    → is_out (if lower then o ∷ x ∷ xs else if same then o ∷ xs else x ∷ with_out xs o) i ≡ true → is_out (o ∷ x ∷ xs) i ≡ true
out_gains_case i o x xs true same rest h = h
out_gains_case i o x xs false true rest h = or_cases (o.index == i) _ h (or_left (o.index == i) _) (λ e. or_right (o.index == i) _ (or_right (x.index == i) _ e))
out_gains_case i o x xs false false rest h =
    or_cases (x.index == i) _ h (λ e. or_right (o.index == i) _ (or_left (x.index == i) _ e))
    (λ e. or_cases (o.index == i) _ (rest e) (or_left (o.index == i) _) (λ f. or_right (o.index == i) _ (or_right (x.index == i) _ f)))

-- one more index is out
pub out_gains : (i : ℕ) (o : Unacked) (os : List Unacked) → is_out (with_out os o) i ≡ true → is_out (o ∷ os) i ≡ true
out_gains i o [] h = h
out_gains i o (x ∷ xs) h = out_gains_case i o x xs (nat_lt o.index x.index) (x.index == o.index) (out_gains i o xs) h

left_out_case : (c : List ℕ) (i : ℕ) (o : Unacked) (ps : List Unacked) (b : Bool) → has c o.index ≡ b → (is_out ps i ≡ true → has c i ≡ false) → is_out (if not b then o ∷ ps else ps) i ≡ true → has c i ≡ false
left_out_case c i o ps true e rest h = rest h
left_out_case c i o ps false e rest h = or_cases (o.index == i) _ h (λ same. let at : o.index ≡ i = grind (arith, nat_tests) in rw at at e) rest

-- what is out and not acknowledged is not acknowledged
pub left_out : (c : List ℕ) (i : ℕ) (os : List Unacked) → is_out (filter (λ (o : Unacked). not (has c o.index)) os) i ≡ true → has c i ≡ false
left_out c i [] h = absurd (cc)
left_out c i (o ∷ os) h = left_out_case c i o (filter (λ (o : Unacked). not (has c o.index)) os) (has c o.index) refl (left_out c i os) h

left_due_case : (c : List ℕ) (i x : ℕ) (ys : List ℕ) (b : Bool) → has c x ≡ b → (has ys i ≡ true → has c i ≡ false) → has (if not b then x ∷ ys else ys) i ≡ true → has c i ≡ false
left_due_case c i x ys true e rest h = rest h
left_due_case c i x ys false e rest h = or_cases (x == i) _ h (λ same. let at : x ≡ i = grind (arith, nat_tests) in rw at at e) rest

pub left_due : (c : List ℕ) (i : ℕ) (xs : List ℕ) → has (filter (λ j. not (has c j)) xs) i ≡ true → has c i ≡ false
left_due c i [] h = absurd (cc)
left_due c i (x ∷ xs) h = left_due_case c i x (filter (λ j. not (has c j)) xs) (has c x) refl (left_due c i xs) h

-- some more indexes are due again
pub due_gains : (i : ℕ) (due more : List ℕ) → has (with_indexes due more) i ≡ true → (has more i || has due i) ≡ true
due_gains i due more h = rw (sym (has_with_indexes due more i)) h

-- two tests that agree on what is out leave the same out
pub out_same : (p q : ℕ → Bool) (os : List Unacked) → ((i : ℕ) → is_out os i ≡ true → p i ≡ q i) → filter (λ (o : Unacked). p o.index) os ≡ filter (λ (o : Unacked). q o.index) os
out_same p q [] h = refl
out_same p q (o ∷ os) h =
    ap (λ (b : Bool). if b then o ∷ filter (λ (o : Unacked). p o.index) os else filter (λ (o : Unacked). p o.index) os) (h o.index (or_left (o.index == o.index) _ (itself o.index)))
    ∙ ap (λ (ps : List Unacked). if q o.index then o ∷ ps else ps) (out_same p q os (λ i e. h i (or_right (o.index == i) _ e)))

pub due_same : (p q : ℕ → Bool) (xs : List ℕ) → ((i : ℕ) → has xs i ≡ true → p i ≡ q i) → filter p xs ≡ filter q xs
due_same p q [] h = refl
due_same p q (x ∷ xs) h =
    ap (λ (b : Bool). if b then x ∷ filter p xs else filter p xs) (h x (or_left (x == x) _ (itself x)))
    ∙ ap (λ (ys : List ℕ). if q x then x ∷ ys else ys) (due_same p q xs (λ i e. h i (or_right (x == i) _ e)))

pub all_out : (os : List Unacked) → filter (λ (o : Unacked). true) os ≡ os
all_out [] = refl
all_out (o ∷ os) = ap (λ ps. o ∷ ps) (all_out os)

pub all_due : (xs : List ℕ) → filter (λ i. true) xs ≡ xs
all_due [] = refl
all_due (x ∷ xs) = ap (λ ys. x ∷ ys) (all_due xs)
