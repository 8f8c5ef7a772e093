-- The canonical fields of one part say it, fit its row, and can be written.
use Rattle.std.proofs.Common.{◌≡◌, ◌≢◌, ℕ, ◌+◌, ◌*◌, ◌^◌, ◌<◌, ◌≤◌, arith, Bool, true, false, List, [], ◌∷◌, ◌++◌, Option, Some, None, length, length-append, map, refl, sym, ap, subst, ◌∙◌}
use Rattle.std.specs.Prelude.{nat_lt, if◌then◌else◌}
use Rattle.std.specs.Option.{option_map}
use Rattle.std.specs.List.{AllByRecursion, last_or}
use Rattle.geo_base.specs.declared.position.Position.{Position}
use Rattle.pb_fields.specs.declared.field.Field.{Field}
use Rattle.pb_fields.specs.declared.field.Value.{Value}
use Rattle.pb_fields.specs.declared.field.Value.TheVariants as value
use Rattle.pb_fields.specs.declared.message.Form.{Form}
use Rattle.pb_fields.specs.declared.message.Form.TheVariants as form
use Rattle.pb_fields.specs.declared.message.Row.{Row}
use Rattle.pb_fields.specs.Field.{IsFieldNumber, IsField, varint_field, bytes_field}
use Rattle.pb_fields.specs.Canonical.{varint, field_text}
use Rattle.pb_fields.specs.Message.{row_of, HasForm, Fits, values}
use Rattle.pb_fields.specs.Embedded.{FitsWith, AnyContent}
use Rattle.pb_fields.proofs.LastValues.{values-same}
use Rattle.pb_fields.proofs.Parts.{AllByRecursion-map, fits_row, values-optional, values-map, last_or-option}
use Rattle.pb_fields.proofs.Written.{text-is, varint-is}
use Rattle.pulsar_commands.specs.Table.{id_rows}
use Rattle.pulsar_commands.specs.Part.{Part, text, optional_text, number, optional_number, number_or, flag, id, optional_id, ids, place, IsIdText, AreIds, Told}
use Rattle.pulsar_commands.specs.Text.{IdRight}
use Rattle.pulsar_commands.specs.Canonical.{id_text, id_field, part_fields, IsPosition, IsPart}
use Rattle.pulsar_commands.proofs.Ascending.{row}

-- ---- ids

abbrev id_fields : Position → List Field
id_fields p = varint_field 1 p.ledger ∷ varint_field 2 p.entry ∷ []

varint_ok : (n k : ℕ) → IsFieldNumber n → k < 2 ^ 64 → IsField (varint_field n k)
varint_ok n k h fits = record { number = h; value = fits }

bytes_ok : (n : ℕ) (content : List ℕ) → IsFieldNumber n → length content < 2 ^ 64 → IsField (bytes_field n content)
bytes_ok n content h fits = record { number = h; value = fits }

one : IsFieldNumber 1
one = record { above_zero = omega arith; in_range = omega arith }

two : IsFieldNumber 2
two = record { above_zero = omega arith; in_range = omega arith }

ids_ok : (p : Position) → IsPosition p → AllByRecursion IsField (id_fields p)
ids_ok p h = (varint_ok 1 p.ledger one h.ledger, (varint_ok 2 p.entry two h.entry, tt))

pub id_is : (p : Position) → IsPosition p → IsIdText (id_text p) p
id_is p h = record { fields = id_fields p; text = text-is (id_fields p) (ids_ok p h); ledger = refl; entry = refl }

any_fits : (rows : List Row) (f : Field) → Fits rows f → FitsWith AnyContent rows f
any_fits rows f h = record { fits = h; holds = λ content k. tt }

pub id_right : (p : Position) → IsPosition p → IdRight 0 (id_text p)
id_right p h = record {
  fields = id_fields p;
  text = text-is (id_fields p) (ids_ok p h);
  message = record {
    fit = (any_fits id_rows _ (fits_row id_rows 1 _ (value.Varint p.ledger) refl tt), (any_fits id_rows _ (fits_row id_rows 2 _ (value.Varint p.entry) refl tt), tt));
    complete = refl;
  };
}

varint_short : (n : ℕ) → n < 2 ^ 64 → length (varint n) ≤ 10
varint_short n h = (varint-is n h).at_most_ten

field_short : (n k : ℕ) → n < 100 → k < 2 ^ 64 → length (field_text (varint_field n k)) ≤ 20
field_short n k small fits =
    let tag = varint_short (8 * n + 0) (omega arith) in
    let content = varint_short k fits in
    omega (arith, tag, content, length-append (varint (8 * n + 0)) (varint k))

id_short : (p : Position) → IsPosition p → length (id_text p) < 2 ^ 64
id_short p h =
    let first : List ℕ = field_text (varint_field 1 p.ledger) in
    let second : List ℕ = field_text (varint_field 2 p.entry) in
    let a = field_short 1 p.ledger (omega arith) h.ledger in
    let b = field_short 2 p.entry (omega arith) h.entry in
    let l : length (first ++ (second ++ [])) ≡ length first + (length second + 0) = length-append first (second ++ []) ∙ ap (λ (n : ℕ). length first + n) (length-append second []) in
    omega (arith, a, b, l)

-- ---- what a part says

number_flag : (b : Bool) → b ≡ nat_lt 0 (if b then 1 else 0)
number_flag true = refl
number_flag false = refl

ids_said : (ps : List Position) → AllByRecursion IsPosition ps → AreIds (map (λ p. value.Bytes (id_text p)) ps) ps
ids_said [] h = tt
ids_said (p ∷ ps) h = (id_is p h.0, ids_said ps h.1)

pub told : (p : Part) → IsPart p → Told (values (place p) (part_fields p)) p
told (text n t) h = ap (λ (vs : List Value). last_or None vs) (values-same n (bytes_field n t) [] refl)
told (optional_text n t) h = ap (λ (vs : List Value). last_or None vs) (values-optional n value.Bytes t) ∙ last_or-option (option_map value.Bytes t)
told (number n k) h = ap (λ (vs : List Value). last_or None vs) (values-same n (varint_field n k) [] refl)
told (optional_number n k) h = ap (λ (vs : List Value). last_or None vs) (values-optional n value.Varint k) ∙ last_or-option (option_map value.Varint k)
told (number_or n absent k) h = rw (values-same n (varint_field n k) [] refl) refl
told (flag n b) h = rw (values-same n (varint_field n (if b then 1 else 0)) [] refl) (number_flag b)
told (id n p) h = rw (values-same n (id_field n p) [] refl) (id_is p h)
told (optional_id n None) h = tt
told (optional_id n (Some p)) h = rw (values-same n (id_field n p) [] refl) (id_is p h)
told (ids n ps) h = rw (values-map n (λ p. value.Bytes (id_text p)) ps) (ids_said ps h)

-- ---- rows

module _ (rows : List Row) where
  plain : (n : ℕ) (r : Row) (v : Value) → row_of rows n ≡ Some r → r.form ≢ form.Message → HasForm v r.form → FitsWith IdRight rows (record { number = n; value = v })
  plain n r v is other h = record {
    fits = fits_row rows n r v is h;
    holds = λ content k. absurd (other (ap (λ (x : Row). x.form) (same_row r k.row (sym is ∙ k.known)) ∙ k.message));
  }
    where
      same_row : (x y : Row) → ◌≡◌ {A = Option Row} (Some x) (Some y) → x ≡ y
      same_row x y e = cc

  -- a field whose content is a text of a position
  pub held_content : (n : ℕ) (r : Row) (content : List ℕ) → row_of rows n ≡ Some r → r.form ≡ form.Message → IdRight 0 content → FitsWith IdRight rows (bytes_field n content)
  held_content n r content is message right = record {
    fits = fits_row rows n r (value.Bytes content) is (rw message tt);
    holds = λ other k. subst (λ (c : List ℕ). IdRight 0 c) (same_content content other k.value) right;
  }
    where
      same_content : (a b : List ℕ) → ◌≡◌ {A = Value} (value.Bytes a) (value.Bytes b) → a ≡ b
      same_content a b e = cc

  held_id : (n : ℕ) (r : Row) (p : Position) → row_of rows n ≡ Some r → r.form ≡ form.Message → IsPosition p → FitsWith IdRight rows (id_field n p)
  held_id n r p is message h = held_content n r (id_text p) is message (id_right p h)

  text_apart : ◌≢◌ {A = Form} form.Text form.Message
  text_apart e = cc

  varint_apart : ◌≢◌ {A = Form} form.Varint form.Message
  varint_apart e = cc

  pub part_fits : (p : Part) → row_of rows (place p) ≡ Some (row p) → IsPart p → AllByRecursion (FitsWith IdRight rows) (part_fields p)
  part_fits (text n t) is h = (plain n _ (value.Bytes t) is text_apart h.utf8, tt)
  part_fits (optional_text n None) is h = tt
  part_fits (optional_text n (Some t)) is h = (plain n _ (value.Bytes t) is text_apart h.utf8, tt)
  part_fits (number n k) is h = (plain n _ (value.Varint k) is varint_apart tt, tt)
  part_fits (optional_number n None) is h = tt
  part_fits (optional_number n (Some k)) is h = (plain n _ (value.Varint k) is varint_apart tt, tt)
  part_fits (number_or n absent k) is h = (plain n _ (value.Varint k) is varint_apart tt, tt)
  part_fits (flag n b) is h = (plain n _ (value.Varint (if b then 1 else 0)) is varint_apart tt, tt)
  part_fits (id n p) is h = (held_id n _ p is refl h, tt)
  part_fits (optional_id n None) is h = tt
  part_fits (optional_id n (Some p)) is h = (held_id n _ p is refl h, tt)
  part_fits (ids n ps) is h = AllByRecursion-map IsPosition (FitsWith IdRight rows) (id_field n) ps (λ p k. held_id n _ p is refl k) h

-- ---- what can be written

flag_fits : (b : Bool) → (if b then 1 else 0) < 2 ^ 64
flag_fits true = omega arith
flag_fits false = omega arith

pub part_ok : (p : Part) → IsFieldNumber (place p) → IsPart p → AllByRecursion IsField (part_fields p)
part_ok (text n t) k h = (bytes_ok n t k h.length, tt)
part_ok (optional_text n None) k h = tt
part_ok (optional_text n (Some t)) k h = (bytes_ok n t k h.length, tt)
part_ok (number n x) k h = (varint_ok n x k h, tt)
part_ok (optional_number n None) k h = tt
part_ok (optional_number n (Some x)) k h = (varint_ok n x k h, tt)
part_ok (number_or n absent x) k h = (varint_ok n x k h, tt)
part_ok (flag n b) k h = (varint_ok n _ k (flag_fits b), tt)
part_ok (id n p) k h = (bytes_ok n (id_text p) k (id_short p h), tt)
part_ok (optional_id n None) k h = tt
part_ok (optional_id n (Some p)) k h = (bytes_ok n (id_text p) k (id_short p h), tt)
part_ok (ids n ps) k h = AllByRecursion-map IsPosition IsField (id_field n) ps (λ p i. bytes_ok n (id_text p) k (id_short p i)) h
