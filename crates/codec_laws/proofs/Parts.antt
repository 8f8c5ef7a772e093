-- What a command's own message says in each of its fields is there.
use Rattle.std.proofs.Common.{◌≡◌, ℕ, true, false, Bool, List, [], ◌∷◌, Option, Some, None, refl}
use Rattle.std.specs.Prelude.{nat_lt, IfSome}
use Rattle.std.specs.List.{AllByRecursion}
use Rattle.geo_base.specs.declared.position.Position.{Position}
use Rattle.pb_fields.specs.declared.field.Field.{Field}
use Rattle.pb_fields.specs.declared.field.Value.{Value}
use Rattle.pb_fields.specs.declared.field.Value.TheVariants as value
use Rattle.pb_fields.specs.declared.message.Form.TheVariants as form
use Rattle.pb_fields.specs.declared.message.Row.{Row}
use Rattle.pb_fields.specs.Message.{IsRow, values, last_value}
use Rattle.pb_fields.specs.Embedded.{IsMessageWith, AnyContent}
use Rattle.pb_fields.proofs.Nested.{IsHeld, last_held, message_of}
use Rattle.pulsar_commands.specs.Table.{id_rows}
use Rattle.pulsar_commands.specs.Part.{text, optional_text, number, optional_number, number_or, flag, id, optional_id, ids, IsIdText, IsId, IsOptionalId, AreIds, IsNumberOr, IsFlag, Says}
use Rattle.pulsar_commands.specs.Text.{IdRight}
use Rattle.codec_laws.proofs.Values as values_of
use Rattle.codec_laws.proofs.Values.{NumberMaybe, required_number, repeated_held}

-- a text of a position says one
id_in : (n : ℕ) (content : List ℕ) → IdRight n content → (p : Position) × IsIdText content p
id_in n content h =
    let message = message_of AnyContent id_rows h.fields h.message in
    let ledger = required_number id_rows 1 h.fields refl message in
    let entry = required_number id_rows 2 h.fields refl message in
    (record { ledger = ledger.0; entry = entry.0 }, record { fields = h.fields; text = h.text; ledger = ledger.1; entry = entry.1 })

is_id : (v : Value) (content : List ℕ) (p : Position) → v ≡ value.Bytes content → IsIdText content p → IsId v p
is_id v content p is h = rw is h

held_id : (n : ℕ) (v : Value) → IsHeld (IdRight n) v → (p : Position) × IsId v p
held_id n v h = let p = id_in n h.content h.right in (p.0, is_id v h.content p.0 h.is p.1)

optional_held : (n : ℕ) (o : Option Value) → IfSome o (IsHeld (IdRight n)) → (p : Option Position) × IsOptionalId o p
optional_held n None h = (None, tt)
optional_held n (Some v) h = let p = held_id n v h in (Some p.0, p.1)

all_held : (n : ℕ) (vs : List Value) → AllByRecursion (IsHeld (IdRight n)) vs → (ps : List Position) × AreIds vs ps
all_held n [] h = ([], tt)
all_held n (v ∷ vs) h = let p = held_id n v h.0 in let rest = all_held n vs h.1 in (p.0 ∷ rest.0, (p.1, rest.1))

some_id : (n : ℕ) (o : Option Value) (content : List ℕ) → o ≡ Some (value.Bytes content) → IdRight n content → (p : Position) × IsOptionalId o (Some p)
some_id n o content is h = let p = id_in n content h in (p.0, rw is p.1)

number_or_of : (absent : ℕ) (o : Option Value) → NumberMaybe o → (k : ℕ) × IsNumberOr absent o k
number_or_of absent o (None, is) = (absent, rw is refl)
number_or_of absent o (Some k, is) = (k, rw is refl)

flag_of : (o : Option Value) → NumberMaybe o → (b : Bool) × IsFlag o b
flag_of o (None, is) = (false, rw is refl)
flag_of o (Some k, is) = (nat_lt 0 k, rw is refl)

-- ---- by the rows of the message

module _ (rows : List Row) (fs : List Field) (h : IsMessageWith IdRight rows fs) where
  pub a_text : (n : ℕ) → IsRow rows n form.Text true → (t : List ℕ) × Says fs (text n t)
  a_text n is = values_of.required_text rows n fs is (message_of IdRight rows fs h)

  pub a_text_maybe : (n : ℕ) → IsRow rows n form.Text false → (t : Option (List ℕ)) × Says fs (optional_text n t)
  a_text_maybe n is = values_of.optional_text rows n fs is (message_of IdRight rows fs h)

  pub a_number : (n : ℕ) → IsRow rows n form.Varint true → (k : ℕ) × Says fs (number n k)
  a_number n is = values_of.required_number rows n fs is (message_of IdRight rows fs h)

  pub a_number_maybe : (n : ℕ) → IsRow rows n form.Varint false → (k : Option ℕ) × Says fs (optional_number n k)
  a_number_maybe n is = values_of.optional_number rows n fs is (message_of IdRight rows fs h)

  pub a_number_or : (n absent : ℕ) → IsRow rows n form.Varint false → (k : ℕ) × Says fs (number_or n absent k)
  a_number_or n absent is = number_or_of absent (last_value n fs) (a_number_maybe n is)

  pub a_flag : (n : ℕ) → IsRow rows n form.Varint false → (b : Bool) × Says fs (flag n b)
  a_flag n is = flag_of (last_value n fs) (a_number_maybe n is)

  pub an_id : (n : ℕ) → IsRow rows n form.Message true → (p : Position) × Says fs (id n p)
  an_id n is = let held = values_of.required_held IdRight rows n fs is h in some_id n (last_value n fs) held.0 held.1.0 held.1.1

  pub an_id_maybe : (n : ℕ) → IsRow rows n form.Message false → (p : Option Position) × Says fs (optional_id n p)
  an_id_maybe n is = optional_held n (last_value n fs) (last_held IdRight rows n _ fs is refl h)

  pub all_ids : (n : ℕ) → IsRow rows n form.Message false → (ps : List Position) × Says fs (ids n ps)
  all_ids n is = all_held n (values n fs) (repeated_held IdRight rows n fs is h)
