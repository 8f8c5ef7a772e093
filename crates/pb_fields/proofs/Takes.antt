-- A value is taken out of fields: what other numbers say, and the unknown fields, stay.
use Rattle.std.proofs.Common.{◌≡◌, ◌≢◌, ℕ, zero, suc, ◌+◌, ◌<◌, length, get_or, set, take, arith, true, false, List, [], ◌∷◌, Option, Some, None, inl, inr, refl, sym, ap, ◌∙◌}
use Rattle.std.specs.Prelude.{is_none, MatchOption}
use Rattle.std.proofs.lemmas.Bool.{cases_eq, cases_Bool}
use Rattle.std.proofs.lemmas.List.{get_or_default}
use Rattle.pb_fields.specs.declared.field.Field.{Field}
use Rattle.pb_fields.specs.declared.field.Value.{Value}
use Rattle.pb_fields.specs.declared.message.Row.{Row}
use Rattle.pb_fields.specs.Message.{IsLastAt, last_value, row_of, unknown, values}
use Rattle.pb_fields.proofs.LastValues.{values-same, values-other}

pub others : (n i : ℕ) (fs : List Field) (y d : Field) → i < length fs → (get_or fs i d).number ≡ n → y.number ≡ n → (m : ℕ) → m ≢ n → values m (set fs i y) ≡ values m fs
others n i [] y d lt at is m other = absurd (omega arith)
others n zero (f ∷ fs) y d lt at is m other = values-other m y fs (λ e. other (sym e ∙ is)) ∙ sym (values-other m f fs (λ e. other (sym e ∙ at)))
others n (suc i) (f ∷ fs) y d lt at is m other =
    let rest : values m (set fs i y) ≡ values m fs = others n i fs y d (omega arith) at is m other in
    elim (cases_eq f.number m) [
      | inl same ↦ values-same m f (set fs i y) same ∙ ap (λ (vs : List Value). f.value ∷ vs) rest ∙ sym (values-same m f fs same)
      | inr not ↦ values-other m f (set fs i y) not ∙ rest ∙ sym (values-other m f fs not)
    ]

known_front : (rows : List Row) (f : Field) (fs : List Field) → is_none (row_of rows f.number) ≡ false → unknown rows (f ∷ fs) ≡ unknown rows fs
known_front rows f fs known = rw known refl

unknown_front : (rows : List Row) (f : Field) (fs : List Field) → is_none (row_of rows f.number) ≡ true → unknown rows (f ∷ fs) ≡ f ∷ unknown rows fs
unknown_front rows f fs strange = rw strange refl

known_at : (rows : List Row) (n : ℕ) (f : Field) → is_none (row_of rows n) ≡ false → f.number ≡ n → is_none (row_of rows f.number) ≡ false
known_at rows n f known is = ap (λ (k : ℕ). is_none (row_of rows k)) is ∙ known

pub strangers : (n i : ℕ) (fs : List Field) (y d : Field) → i < length fs → (get_or fs i d).number ≡ n → y.number ≡ n → (rows : List Row) → is_none (row_of rows n) ≡ false → unknown rows (set fs i y) ≡ unknown rows fs
strangers n i [] y d lt at is rows known = absurd (omega arith)
strangers n zero (f ∷ fs) y d lt at is rows known = known_front rows y fs (known_at rows n y known is) ∙ sym (known_front rows f fs (known_at rows n f known at))
strangers n (suc i) (f ∷ fs) y d lt at is rows known =
    let rest : unknown rows (set fs i y) ≡ unknown rows fs = strangers n i fs y d (omega arith) at is rows known in
    elim (cases_Bool (is_none (row_of rows f.number))) [
      | inl strange ↦ unknown_front rows f (set fs i y) strange ∙ ap (λ (gs : List Field). f ∷ gs) rest ∙ sym (unknown_front rows f fs strange)
      | inr here ↦ known_front rows f (set fs i y) here ∙ rest ∙ sym (known_front rows f fs here)
    ]

-- fields that say the same of a number have their last one at the same place
pub stays : (n : ℕ) (xs ys all : List Field) (o : Option ℕ) → last_value n ys ≡ last_value n xs → MatchOption o (last_value n xs ≡ None) (IsLastAt n xs all) → MatchOption o (last_value n ys ≡ None) (IsLastAt n ys all)
stays n xs ys all None same is = same ∙ is
stays n xs ys all (Some i) same is = record { within = is.within; same = is.same; value = λ d. same ∙ is.value d }

-- a field with the number, at its place, is the last of those up to it
pub found : (n i : ℕ) (fs : List Field) (f : Field) → i < length fs → f ≡ get_or fs i f → f.number ≡ n → last_value n (take (i + 1) fs) ≡ Some f.value → IsLastAt n (take (i + 1) fs) fs i
found n i fs f lt is same last =
    let at : (d : Field) → f ≡ get_or fs i d = λ d. is ∙ get_or_default fs i f d lt in
    record {
      within = lt;
      same = λ d. ap (λ (g : Field). g.number) (sym (at d)) ∙ same;
      value = λ d. last ∙ ap (λ (g : Field). Some g.value) (at d);
    }
