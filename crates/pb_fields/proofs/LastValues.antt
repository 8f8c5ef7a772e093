-- The last value of a field of a message: it has its row's form, and a required one is there.
use Rattle.std.proofs.Common.{◌≡◌, ◌≢◌, ℕ, zero, suc, ◌<◌, min, length, get_or, arith, Bool, true, false, eqb, eq-eqb, ne_eqb, List, [], ◌∷◌, Option, Some, None, inl, inr, refl, sym, ap, subst, ◌∙◌}
use Rattle.std.specs.Prelude.{MatchOption, IsUtf8, not, ◌&&◌}
use Rattle.std.specs.Option.{option_copied, option_map}
use Rattle.std.specs.Borrow.{Bor}
use Rattle.std.specs.List.{AllByRecursion, reduce, last_or}
use Rattle.std.proofs.lemmas.Bool.{cases_eq, cases_Bool}
use Rattle.pb_fields.specs.declared.field.Field.{Field}
use Rattle.pb_fields.specs.declared.field.Value.{Value}
use Rattle.pb_fields.specs.declared.field.Value.TheVariants as value
use Rattle.pb_fields.specs.declared.message.Form.TheVariants as form
use Rattle.pb_fields.specs.declared.message.Row.{Row}
use Rattle.pb_fields.specs.Message.{row_of, HasForm, Fits, has, absent, IsMessage, values, last_value}

-- ---- one field in front

pub values-same : (n : ℕ) (f : Field) (fs : List Field) → f.number ≡ n → values n (f ∷ fs) ≡ f.value ∷ values n fs
values-same n f fs same = let test : eqb f.number n ≡ true = eq-eqb _ _ same in rw test refl

pub values-other : (n : ℕ) (f : Field) (fs : List Field) → (f.number ≡ n → ⊥) → values n (f ∷ fs) ≡ values n fs
values-other n f fs other = let test : eqb f.number n ≡ false = ne_eqb _ _ other in rw test refl

-- ---- forms

pub values-form : (rows : List Row) (n : ℕ) (r : Row) (fs : List Field) → row_of rows n ≡ Some r → AllByRecursion (Fits rows) fs → AllByRecursion (λ v. HasForm v r.form) (values n fs)
values-form rows n r [] is fit = tt
values-form rows n r (f ∷ fs) is fit =
    elim (cases_eq f.number n) [
      | inl same ↦ rw (values-same n f fs same) (fit.0 r (ap (λ (k : ℕ). row_of rows k) same ∙ is), values-form rows n r fs is fit.1)
      | inr other ↦ rw (values-other n f fs other) (values-form rows n r fs is fit.1)
    ]

last-form : (r : Row) (vs : List Value) (o : Option Value) → MatchOption o (Unit {0}) (λ v. HasForm v r.form) → AllByRecursion (λ v. HasForm v r.form) vs → MatchOption (last_or o vs) (Unit {0}) (λ v. HasForm v r.form)
last-form r [] o h all = h
last-form r (v ∷ vs) o h all = last-form r vs (Some v) all.0 all.1

pub last_value-form : (rows : List Row) (n : ℕ) (r : Row) (fs : List Field) → row_of rows n ≡ Some r → AllByRecursion (Fits rows) fs → MatchOption (last_value n fs) (Unit {0}) (λ v. HasForm v r.form)
last_value-form rows n r fs is fit = last-form r (values n fs) None tt (values-form rows n r fs is fit)

-- ---- required fields

nothing_reduced : (xs : List ℕ) → reduce min xs ≡ None → xs ≡ []
nothing_reduced [] e = refl
nothing_reduced (x ∷ xs) e = absurd cc

absent-gone : (q : Row) (rows : List Row) (fs : List Field) → (q.required && not (has fs q.number)) ≡ true → absent (q ∷ rows) fs ≡ q.number ∷ absent rows fs
absent-gone q rows fs test = rw test refl

absent-there : (q : Row) (rows : List Row) (fs : List Field) → (q.required && not (has fs q.number)) ≡ false → absent (q ∷ rows) fs ≡ absent rows fs
absent-there q rows fs test = rw test refl

row_of-same : (q : Row) (rows : List Row) (n : ℕ) → q.number ≡ n → row_of (q ∷ rows) n ≡ Some q
row_of-same q rows n same = let test : eqb q.number n ≡ true = eq-eqb _ _ same in rw test refl

row_of-other : (q : Row) (rows : List Row) (n : ℕ) → (q.number ≡ n → ⊥) → row_of (q ∷ rows) n ≡ row_of rows n
row_of-other q rows n other = let test : eqb q.number n ≡ false = ne_eqb _ _ other in rw test refl

has_required : (rows : List Row) (n : ℕ) (r : Row) (fs : List Field) → row_of rows n ≡ Some r → r.required ≡ true → absent rows fs ≡ [] → has fs n ≡ true
has_required [] n r fs is required complete = absurd cc
has_required (q ∷ rows) n r fs is required complete =
    elim (cases_eq q.number n) [
      | inl same ↦ elim (cases_Bool (has fs n)) [
        | inl there ↦ there
        | inr gone ↦
            let e = sym (row_of-same q rows n same) ∙ is in
            let q-is : q ≡ r = cc in
            let wanted : q.required ≡ true = ap (λ (k : Row). k.required) q-is ∙ required in
            let test : (q.required && not (has fs q.number)) ≡ true = rw (wanted, same, gone) refl in
            absurd (let h = absent-gone q rows fs test in cc)
      ]
      | inr other ↦ has_required rows n r fs (sym (row_of-other q rows n other) ∙ is) required (fewer (q.required && not (has fs q.number)) refl)
    ]
  where
    fewer : (b : Bool) → (q.required && not (has fs q.number)) ≡ b → absent rows fs ≡ []
    fewer true test = absurd (let h = absent-gone q rows fs test in cc)
    fewer false test = sym (absent-there q rows fs test) ∙ complete

some_last : (vs : List Value) (v : Value) → last_or (Some v) vs ≡ None → ⊥
some_last [] v e = cc
some_last (w ∷ vs) v e = some_last vs w e

has-value : (fs : List Field) (n : ℕ) → has fs n ≡ true → last_value n fs ≡ None → ⊥
has-value [] n there e = cc
has-value (f ∷ fs) n there e =
    elim (cases_eq f.number n) [
      | inl same ↦ some_last (values n fs) f.value (ap (λ (vs : List Value). last_or None vs) (sym (values-same n f fs same)) ∙ e)
      | inr other ↦ (let test : eqb f.number n ≡ false = ne_eqb _ _ other in has-value fs n (rw test at there) (ap (λ (vs : List Value). last_or None vs) (sym (values-other n f fs other)) ∙ e))
    ]

pub last_value-required : (rows : List Row) (n : ℕ) (r : Row) (fs : List Field) → row_of rows n ≡ Some r → r.required ≡ true → IsMessage rows fs → last_value n fs ≢ None
last_value-required rows n r fs is required message = has-value fs n (has_required rows n r fs is required (nothing_reduced (absent rows fs) message.complete))

-- ---- what the readers of one value answer

pub varint_there : (o : Option Value) → o ≢ None → MatchOption o (Unit {0}) (λ v. HasForm v form.Varint) → ((n : ℕ) → o ≢ Some (value.Varint n)) → ⊥
varint_there None some h none = some refl
varint_there (Some (value.Varint n)) some h none = none n refl
varint_there (Some v) some h none = absurd h

pub text_there : (o : Option Value) → o ≢ None → MatchOption o (Unit {0}) (λ v. HasForm v form.Text) → ((b : List ℕ) → IsUtf8 b → o ≢ Some (value.Bytes b)) → ⊥
text_there None some h none = some refl
text_there (Some (value.Bytes b)) some h none = none b h refl
text_there (Some v) some h none = absurd h

pub optional_varint-is : (o : Option Value) (r : Option ℕ) → MatchOption o (Unit {0}) (λ v. HasForm v form.Varint) → MatchOption r ((n : ℕ) → o ≢ Some (value.Varint n)) (λ n. o ≡ Some (value.Varint n)) → o ≡ option_map value.Varint r
optional_varint-is o (Some n) h found = found
optional_varint-is None None h none = refl
optional_varint-is (Some (value.Varint n)) None h none = absurd (none n refl)
optional_varint-is (Some v) None h none = absurd h

pub optional_text-is : (o : Option Value) (r : Option (Bor (List ℕ))) → MatchOption o (Unit {0}) (λ v. HasForm v form.Text) → MatchOption r ((b : List ℕ) → IsUtf8 b → o ≢ Some (value.Bytes b)) (λ b. o ≡ Some (value.Bytes b.now)) → o ≡ option_map value.Bytes (option_copied r)
optional_text-is o (Some b) h found = found
optional_text-is None None h none = refl
optional_text-is (Some (value.Bytes b)) None h none = absurd (none b h refl)
optional_text-is (Some v) None h none = absurd h

-- the value of a field of that number is among its values
pub values-at : (P : Value → Type 0) (n i : ℕ) (fs : List Field) (f : Field) → i < length fs → f ≡ get_or fs i f → f.number ≡ n → AllByRecursion P (values n fs) → P f.value
values-at P n i [] f lt is same all = absurd (omega arith)
values-at P n zero (g ∷ fs) f lt is same all =
    let here : g.number ≡ n = ap (λ (k : Field). k.number) (sym is) ∙ same in
    let first : P g.value = (subst (λ (vs : List Value). AllByRecursion P vs) (values-same n g fs here) all).0 in
    subst (λ (k : Field). P k.value) (sym is) first
values-at P n (suc i) (g ∷ fs) f lt is same all =
    elim (cases_eq g.number n) [
      | inl here ↦ values-at P n i fs f (omega arith) is same (rest_of here).1
      | inr other ↦ values-at P n i fs f (omega arith) is same (rest_other other)
    ]
  where
    rest_of : g.number ≡ n → AllByRecursion P (g.value ∷ values n fs)
    rest_of here = subst (λ (vs : List Value). AllByRecursion P vs) (values-same n g fs here) all

    rest_other : (g.number ≡ n → ⊥) → AllByRecursion P (values n fs)
    rest_other other = subst (λ (vs : List Value). AllByRecursion P vs) (values-other n g fs other) all

-- a value with a text's form is a text
pub not_text : (v : Value) → HasForm v form.Text → ((b : List ℕ) → IsUtf8 b → v ≢ value.Bytes b) → ⊥
not_text (value.Bytes b) h none = none b h refl
not_text v h none = absurd h
