-- What a command says in one of its fields, and which values of the field say so.
use Rattle.std.specs.Prelude.{◌≡◌, ℕ, nat_lt, Bool, false, List, [], ◌∷◌, Option, Some, None}
use Rattle.std.specs.Option.{option_map}
use Rattle.std.specs.List.{last_or}
use Rattle.geo_base.specs.declared.position.Position.{Position}
use Rattle.pb_fields.specs.declared.field.Field.{Field}
use Rattle.pb_fields.specs.declared.field.Value.{Value}
use Rattle.pb_fields.specs.declared.field.Value.TheVariants as value
use Rattle.pb_fields.specs.Text.{IsText}
use Rattle.pb_fields.specs.Message.{last_value, values}

-- Each has the field's number first. A text or a number is there, or need not be; a number may have a value that counts
-- where it is absent; a flag is false where it is absent or 0, and else true; an id is there, need not be, or is repeated.
pub data Part : Type 0 where
  text : ℕ → List ℕ → Part
  optional_text : ℕ → Option (List ℕ) → Part
  number : ℕ → ℕ → Part
  optional_number : ℕ → Option ℕ → Part
  number_or : ℕ → ℕ → ℕ → Part
  flag : ℕ → Bool → Part
  id : ℕ → Position → Part
  optional_id : ℕ → Option Position → Part
  ids : ℕ → List Position → Part

-- the field's number
abbrev pub place : Part → ℕ
place (text n t) = n
place (optional_text n t) = n
place (number n k) = n
place (optional_number n k) = n
place (number_or n absent k) = n
place (flag n b) = n
place (id n p) = n
place (optional_id n p) = n
place (ids n ps) = n

-- Content is a text of a position (MessageIdData: ledgerId 1, entryId 2).
pub record IsIdText (content : List ℕ) (p : Position) : Type 0 where
  pub fields : List Field
  pub text : IsText content fields
  pub ledger : last_value 1 fields ≡ Some (value.Varint p.ledger)
  pub entry : last_value 2 fields ≡ Some (value.Varint p.entry)

abbrev pub IsId : Value → Position → Type 0
IsId (value.Bytes content) p = IsIdText content p
IsId v p = ⊥

abbrev pub IsOptionalId : Option Value → Option Position → Type 0
IsOptionalId None None = Unit {0}
IsOptionalId (Some v) (Some p) = IsId v p
IsOptionalId v p = ⊥

-- the values one by one
abbrev pub AreIds : List Value → List Position → Type 0
AreIds [] [] = Unit {0}
AreIds (v ∷ vs) (p ∷ ps) = IsId v p × AreIds vs ps
AreIds vs ps = ⊥

abbrev pub IsNumberOr : ℕ → Option Value → ℕ → Type 0
IsNumberOr absent None k = k ≡ absent
IsNumberOr absent (Some v) k = v ≡ value.Varint k

abbrev pub IsFlag : Option Value → Bool → Type 0
IsFlag None b = b ≡ false
IsFlag (Some (value.Varint n)) b = b ≡ nat_lt 0 n
IsFlag (Some v) b = ⊥

-- The values of the field, in their order, say the part. Where a field is not repeated, its last value counts.
abbrev pub Told : List Value → Part → Type 0
Told vs (text n t) = last_or None vs ≡ Some (value.Bytes t)
Told vs (optional_text n t) = last_or None vs ≡ option_map value.Bytes t
Told vs (number n k) = last_or None vs ≡ Some (value.Varint k)
Told vs (optional_number n k) = last_or None vs ≡ option_map value.Varint k
Told vs (number_or n absent k) = IsNumberOr absent (last_or None vs) k
Told vs (flag n b) = IsFlag (last_or None vs) b
Told vs (id n p) = IsOptionalId (last_or None vs) (Some p)
Told vs (optional_id n p) = IsOptionalId (last_or None vs) p
Told vs (ids n ps) = AreIds vs ps

-- The fields say the part.
abbrev pub Says : List Field → Part → Type 0
Says fields part = Told (values (place part) fields) part
