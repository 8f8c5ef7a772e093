-- What a message's fields say of a number is there: a value of the row's form, where it is required.
use Rattle.std.proofs.Common.{◌≡◌, ◌≢◌, ℕ, true, false, List, [], ◌∷◌, Option, Some, None, map, refl, ap}
use Rattle.std.specs.Prelude.{MatchOption, IfSome}
use Rattle.std.specs.Option.{option_map}
use Rattle.std.specs.List.{AllByRecursion}
use Rattle.pb_fields.specs.declared.field.Field.{Field}
use Rattle.pb_fields.specs.declared.field.Value.{Value}
use Rattle.pb_fields.specs.declared.field.Value.TheVariants as value
use Rattle.pb_fields.specs.declared.message.Form.TheVariants as form
use Rattle.pb_fields.specs.declared.message.Row.{Row}
use Rattle.pb_fields.specs.Message.{IsRow, HasForm, IsMessage, values, last_value}
use Rattle.pb_fields.specs.Embedded.{IsMessageWith}
use Rattle.pb_fields.proofs.Nested.{IsHeld, last_held, values_held, held_right, message_of}
use Rattle.pb_fields.proofs.LastValues.{last_value-form, last_value-required, values-form}

abbrev pub TextThere : Option Value → Type 0
TextThere o = (t : List ℕ) × (o ≡ Some (value.Bytes t))

abbrev pub NumberThere : Option Value → Type 0
NumberThere o = (n : ℕ) × (o ≡ Some (value.Varint n))

abbrev pub TextMaybe : Option Value → Type 0
TextMaybe o = (t : Option (List ℕ)) × (o ≡ option_map value.Bytes t)

abbrev pub NumberMaybe : Option Value → Type 0
NumberMaybe o = (n : Option ℕ) × (o ≡ option_map value.Varint n)

text_there : (o : Option Value) → o ≢ None → MatchOption o (Unit {0}) (λ v. HasForm v form.Text) → TextThere o
text_there None some h = absurd (some refl)
text_there (Some (value.Bytes t)) some h = (t, refl)
text_there (Some v) some h = absurd h

content_there : (o : Option Value) → o ≢ None → MatchOption o (Unit {0}) (λ v. HasForm v form.Message) → TextThere o
content_there None some h = absurd (some refl)
content_there (Some (value.Bytes t)) some h = (t, refl)
content_there (Some v) some h = absurd h

number_there : (o : Option Value) → o ≢ None → MatchOption o (Unit {0}) (λ v. HasForm v form.Varint) → NumberThere o
number_there None some h = absurd (some refl)
number_there (Some (value.Varint n)) some h = (n, refl)
number_there (Some v) some h = absurd h

text_maybe : (o : Option Value) → MatchOption o (Unit {0}) (λ v. HasForm v form.Text) → TextMaybe o
text_maybe None h = (None, refl)
text_maybe (Some (value.Bytes t)) h = (Some t, refl)
text_maybe (Some v) h = absurd h

number_maybe : (o : Option Value) → MatchOption o (Unit {0}) (λ v. HasForm v form.Varint) → NumberMaybe o
number_maybe None h = (None, refl)
number_maybe (Some (value.Varint n)) h = (Some n, refl)
number_maybe (Some v) h = absurd h

-- ---- by the rows

pub required_text : (rows : List Row) (n : ℕ) (fs : List Field) → IsRow rows n form.Text true → IsMessage rows fs → TextThere (last_value n fs)
required_text rows n fs is h = text_there (last_value n fs) (last_value-required rows n _ fs is refl h) (last_value-form rows n _ fs is h.fit)

pub required_content : (rows : List Row) (n : ℕ) (fs : List Field) → IsRow rows n form.Message true → IsMessage rows fs → TextThere (last_value n fs)
required_content rows n fs is h = content_there (last_value n fs) (last_value-required rows n _ fs is refl h) (last_value-form rows n _ fs is h.fit)

pub required_number : (rows : List Row) (n : ℕ) (fs : List Field) → IsRow rows n form.Varint true → IsMessage rows fs → NumberThere (last_value n fs)
required_number rows n fs is h = number_there (last_value n fs) (last_value-required rows n _ fs is refl h) (last_value-form rows n _ fs is h.fit)

pub optional_text : (rows : List Row) (n : ℕ) (fs : List Field) → IsRow rows n form.Text false → IsMessage rows fs → TextMaybe (last_value n fs)
optional_text rows n fs is h = text_maybe (last_value n fs) (last_value-form rows n _ fs is h.fit)

pub optional_number : (rows : List Row) (n : ℕ) (fs : List Field) → IsRow rows n form.Varint false → IsMessage rows fs → NumberMaybe (last_value n fs)
optional_number rows n fs is h = number_maybe (last_value n fs) (last_value-form rows n _ fs is h.fit)

-- ---- a repeated field

all_texts : (vs : List Value) → AllByRecursion (λ v. HasForm v form.Text) vs → (ts : List (List ℕ)) × (vs ≡ map value.Bytes ts)
all_texts [] h = ([], refl)
all_texts (value.Bytes t ∷ vs) h = let rest = all_texts vs h.1 in (t ∷ rest.0, ap (λ (ws : List Value). value.Bytes t ∷ ws) rest.1)
all_texts (v ∷ vs) h = absurd h.0

pub repeated_text : (rows : List Row) (n : ℕ) (fs : List Field) → IsRow rows n form.Text false → IsMessage rows fs → (ts : List (List ℕ)) × (values n fs ≡ map value.Bytes ts)
repeated_text rows n fs is h = all_texts (values n fs) (values-form rows n _ fs is h.fit)

-- ---- messages that are held

-- the last content of a number, which is right
abbrev pub HeldThere : (List ℕ → Type 0) → Option Value → Type 0
HeldThere P o = (content : List ℕ) × ((o ≡ Some (value.Bytes content)) × P content)

held_there : (P : List ℕ → Type 0) (o : Option Value) → IfSome o (IsHeld P) → TextThere o → HeldThere P o
held_there P o h there = (there.0, (there.1, held_right P o there.0 h there.1))

pub required_held : (Right : ℕ → List ℕ → Type 0) (rows : List Row) (n : ℕ) (fs : List Field) → IsRow rows n form.Message true → IsMessageWith Right rows fs → HeldThere (Right n) (last_value n fs)
required_held Right rows n fs is h = held_there (Right n) (last_value n fs) (last_held Right rows n _ fs is refl h) (required_content rows n fs is (message_of Right rows fs h))

pub repeated_held : (Right : ℕ → List ℕ → Type 0) (rows : List Row) (n : ℕ) (fs : List Field) → IsRow rows n form.Message false → IsMessageWith Right rows fs → AllByRecursion (IsHeld (Right n)) (values n fs)
repeated_held Right rows n fs is h = values_held Right rows n _ fs is refl h.fit
