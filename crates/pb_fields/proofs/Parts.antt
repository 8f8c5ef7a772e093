-- What the parts of a canonical list of fields say: fields that are there or not, lists of fields, unknown fields.
use Rattle.std.proofs.Common.{◌≡◌, ℕ, Bool, true, false, eqb, List, [], ◌∷◌, ◌++◌, Option, Some, None, map, refl, sym, ap, subst, ◌∙◌}
use Rattle.std.specs.Prelude.{filter, is_none, IfSome, option_to_list}
use Rattle.std.specs.Option.{option_map}
use Rattle.std.specs.List.{AllByRecursion, last_or}
use Rattle.std.proofs.lemmas.List.{map-append}
use Rattle.std.proofs.lemmas.List.Elements.{filter-append}
use Rattle.pb_fields.specs.declared.field.Field.{Field}
use Rattle.pb_fields.specs.declared.field.Value.{Value}
use Rattle.pb_fields.specs.declared.message.Row.{Row}
use Rattle.pb_fields.specs.Canonical.{optional}
use Rattle.pb_fields.specs.Message.{row_of, HasForm, Fits, IsUnknown, values, unknown}
use Rattle.pb_fields.proofs.LastValues.{values-same, values-other}
pub use Rattle.geo_base.proofs.Lists.{all_append as AllByRecursion-append}

pub AllByRecursion-map : {X Y : Type 0} (P : X → Type 0) (Q : Y → Type 0) (f : X → Y) (xs : List X) → ((x : X) → P x → Q (f x)) → AllByRecursion P xs → AllByRecursion Q (map f xs)
AllByRecursion-map P Q f [] each h = tt
AllByRecursion-map P Q f (x ∷ xs) each h = (each x h.0, AllByRecursion-map P Q f xs each h.1)

pub AllByRecursion-optional : {X : Type 0} (P : X → Type 0) (Q : Field → Type 0) (make : X → Field) (o : Option X) → ((x : X) → P x → Q (make x)) → IfSome o P → AllByRecursion Q (optional make o)
AllByRecursion-optional P Q make None each h = tt
AllByRecursion-optional P Q make (Some x) each h = (each x h, tt)

-- a field whose value has its row's form
pub fits_row : (rows : List Row) (n : ℕ) (q : Row) (v : Value) → row_of rows n ≡ Some q → HasForm v q.form → Fits rows (record { number = n; value = v })
fits_row rows n q v is h = λ r e. subst (λ (k : Row). HasForm v k.form) (same_row q r (sym is ∙ e)) h
  where
    same_row : (x y : Row) → ◌≡◌ {A = Option Row} (Some x) (Some y) → x ≡ y
    same_row x y e = cc

pub fits_unknown : (rows : List Row) (fs : List Field) → AllByRecursion (IsUnknown rows) fs → AllByRecursion (Fits rows) fs
fits_unknown rows [] h = tt
fits_unknown rows (f ∷ fs) h = (λ r e. absurd (let none = h.0 in cc), fits_unknown rows fs h.1)

-- ---- values

pub values-append : (n : ℕ) (xs ys : List Field) → values n (xs ++ ys) ≡ values n xs ++ values n ys
values-append n xs ys =
    let test : Field → Bool = λ f. eqb f.number n in
    ap (λ (fs : List Field). map (λ f. f.value) fs) (filter-append test xs ys) ∙ map-append (λ f. f.value) (filter test xs) (filter test ys)

-- a field of a number
abbrev pub made : {X : Type 0} → ℕ → (X → Value) → X → Field
made k wrap x = record { number = k; value = wrap x }

pub values-optional : {X : Type 0} (n : ℕ) (wrap : X → Value) (o : Option X) → values n (optional (made n wrap) o) ≡ option_to_list (option_map wrap o)
values-optional n wrap None = refl
values-optional n wrap (Some x) = values-same n (made n wrap x) [] refl

pub values-optional_other : {X : Type 0} (n k : ℕ) (wrap : X → Value) (o : Option X) → (k ≡ n → ⊥) → values n (optional (made k wrap) o) ≡ []
values-optional_other n k wrap None other = refl
values-optional_other n k wrap (Some x) other = values-other n (made k wrap x) [] other

pub values-map : {X : Type 0} (n : ℕ) (wrap : X → Value) (xs : List X) → values n (map (made n wrap) xs) ≡ map wrap xs
values-map n wrap [] = refl
values-map n wrap (x ∷ xs) = values-same n (made n wrap x) (map (made n wrap) xs) refl ∙ ap (λ (vs : List Value). wrap x ∷ vs) (values-map n wrap xs)

pub values-map_other : {X : Type 0} (n k : ℕ) (wrap : X → Value) (xs : List X) → (k ≡ n → ⊥) → values n (map (made k wrap) xs) ≡ []
values-map_other n k wrap [] other = refl
values-map_other n k wrap (x ∷ xs) other = values-other n (made k wrap x) (map (made k wrap) xs) other ∙ values-map_other n k wrap xs other

pub values-unknown : (rows : List Row) (n : ℕ) (r : Row) (fs : List Field) → row_of rows n ≡ Some r → AllByRecursion (IsUnknown rows) fs → values n fs ≡ []
values-unknown rows n r [] is h = refl
values-unknown rows n r (f ∷ fs) is h =
    values-other n f fs (λ same. let none = h.0 in let some = ap (λ (k : ℕ). row_of rows k) same ∙ is in cc) ∙ values-unknown rows n r fs is h.1

pub last_or-option : (o : Option Value) → last_or None (option_to_list o) ≡ o
last_or-option None = refl
last_or-option (Some v) = refl

-- ---- unknown fields

pub unknown-append : (rows : List Row) (xs ys : List Field) → unknown rows (xs ++ ys) ≡ unknown rows xs ++ unknown rows ys
unknown-append rows xs ys = filter-append (λ f. is_none (row_of rows f.number)) xs ys

pub unknown-optional : {X : Type 0} (rows : List Row) (r : Row) (k : ℕ) (wrap : X → Value) (o : Option X) → row_of rows k ≡ Some r → unknown rows (optional (made k wrap) o) ≡ []
unknown-optional rows r k wrap None is = refl
unknown-optional rows r k wrap (Some x) is = let test : is_none (row_of rows k) ≡ false = rw is refl in rw test refl

pub unknown-map : {X : Type 0} (rows : List Row) (r : Row) (k : ℕ) (wrap : X → Value) (xs : List X) → row_of rows k ≡ Some r → unknown rows (map (made k wrap) xs) ≡ []
unknown-map rows r k wrap [] is = refl
unknown-map rows r k wrap (x ∷ xs) is = let test : is_none (row_of rows k) ≡ false = rw is refl in rw test (unknown-map rows r k wrap xs is)

pub unknown-same : (rows : List Row) (fs : List Field) → AllByRecursion (IsUnknown rows) fs → unknown rows fs ≡ fs
unknown-same rows [] h = refl
unknown-same rows (f ∷ fs) h = let test : is_none (row_of rows f.number) ≡ true = rw h.0 refl in rw test (ap (λ (gs : List Field). f ∷ gs) (unknown-same rows fs h.1))
