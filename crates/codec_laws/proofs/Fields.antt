-- Any bytes are a text of a list of fields, or the first field that has no reading is their fault.
use Rattle.std.proofs.Common.{◌≡◌, ◌≢◌, ℕ, zero, suc, ◌/◌, ◌%◌, ◌^◌, ◌<◌, ◌≤◌, List, [], ◌∷◌, ◌++◌, length, take, drop, refl, sym, ap, ◌∙◌, append_assoc, arith, ◌⊎◌, inl, inr}
use Rattle.std.specs.Int.{w32, w64, from_le_bytes}
use Rattle.std.proofs.lemmas.Bool.{cases_lt, cases_eq}
use Rattle.std.proofs.lemmas.List.{length-take, take-append-drop}
use Rattle.pb_fields.specs.declared.field.Field.{Field}
use Rattle.pb_fields.specs.declared.field.Value.{Value}
use Rattle.pb_fields.specs.declared.field.Value.TheVariants as value
use Rattle.pb_fields.specs.declared.field.WireType.{WireType}
use Rattle.pb_fields.specs.declared.field.WireType.TheVariants as wire
use Rattle.pb_fields.specs.declared.fault.FieldFault.{FieldFault}
use Rattle.pb_fields.specs.declared.fault.FieldFault.TheVariants as fault
use Rattle.pb_fields.specs.Field.{wire_number}
use Rattle.pb_fields.specs.Varint.{TakesVarint}
use Rattle.pb_fields.specs.Text.{TakesValue, TakesField, IsText, end, next}
use Rattle.pb_fields.specs.Faults.{BrokenValue, BrokenField, HasFault}
use Rattle.pb_fields.specs.Faults as broken
use Rattle.pb_fields.proofs.ValueTexts.{takes_varint, takes_fixed64, takes_fixed32, takes_bytes, fixed64_front, fixed32_front}
use Rattle.pb_fields.proofs.Fields.{takes_field, TakesField-shorter}
use Rattle.codec_laws.specs.Answers.{AreBytes, HasAnswer, right, wrong}
use Rattle.codec_laws.proofs.AnswerBytes.{byte_at, cut_are, parts_are, le_below_4, le_below_8}
use Rattle.codec_laws.proofs.Varints.{VarintAnswer, varint_answer}

-- ---- values

-- the value and the bytes after it
abbrev pub ValueAnswer : WireType → List ℕ → Type 0
ValueAnswer w bytes = HasAnswer {X = Value × List ℕ} {E = FieldFault} (λ v. TakesValue w bytes v.0 v.1) (λ why. BrokenValue w bytes why)

number_value : (bytes : List ℕ) → VarintAnswer bytes → ValueAnswer wire.Varint bytes
number_value bytes (right v t) = right (value.Varint v.0, v.1) (takes_varint bytes v.0 v.1 t)
number_value bytes (wrong why h) = wrong why (broken.varint h)

-- a length, and so many bytes
sized : (bytes : List ℕ) (n : ℕ) (rest : List ℕ) → TakesVarint bytes n rest → n ≤ length rest → TakesVarint bytes (length (take n rest)) (take n rest ++ drop n rest)
sized bytes n rest t le = let len : length (take n rest) ≡ n = omega (arith, length-take n rest) in rw (len, take-append-drop n rest) t

content_value : (bytes : List ℕ) → VarintAnswer bytes → ValueAnswer wire.Bytes bytes
content_value bytes (wrong why h) = wrong why (broken.size h)
content_value bytes (right v t) =
    elim (cases_lt (length v.1) v.0) [
      | inl short ↦ wrong fault.Truncated (broken.content t short)
      | inr enough ↦ right (value.Bytes (take v.0 v.1), drop v.0 v.1) (takes_bytes bytes (take v.0 v.1) (drop v.0 v.1) (sized bytes v.0 v.1 t enough))
    ]

fixed64_value : (bytes : List ℕ) → AreBytes bytes → ValueAnswer wire.Fixed64 bytes
fixed64_value bytes are =
    elim (cases_lt (length bytes) 8) [
      | inl short ↦ wrong fault.Truncated (broken.fixed64 short)
      | inr long ↦
          let n : ℕ = from_le_bytes w64 (take 8 bytes) in
          right (value.Fixed64 n, drop 8 bytes) (takes_fixed64 bytes n (drop 8 bytes) (le_below_8 (take 8 bytes) (byte_at (take 8 bytes) (cut_are 8 bytes are).0)) (fixed64_front bytes long (byte_at bytes are)))
    ]

fixed32_value : (bytes : List ℕ) → AreBytes bytes → ValueAnswer wire.Fixed32 bytes
fixed32_value bytes are =
    elim (cases_lt (length bytes) 4) [
      | inl short ↦ wrong fault.Truncated (broken.fixed32 short)
      | inr long ↦
          let n : ℕ = from_le_bytes w32 (take 4 bytes) in
          right (value.Fixed32 n, drop 4 bytes) (takes_fixed32 bytes n (drop 4 bytes) (le_below_4 (take 4 bytes) (byte_at (take 4 bytes) (cut_are 4 bytes are).0)) (fixed32_front bytes long (byte_at bytes are)))
    ]

value_answer : (w : WireType) (bytes : List ℕ) → AreBytes bytes → ValueAnswer w bytes
value_answer wire.Varint bytes are = number_value bytes (varint_answer bytes are)
value_answer wire.Fixed64 bytes are = fixed64_value bytes are
value_answer wire.Bytes bytes are = content_value bytes (varint_answer bytes are)
value_answer wire.Fixed32 bytes are = fixed32_value bytes are

-- ---- a field

none_of : (k : ℕ) → k ≢ 0 → k ≢ 1 → k ≢ 2 → k ≢ 5 → (w : WireType) → k ≢ wire_number w
none_of k a b c d wire.Varint = a
none_of k a b c d wire.Fixed64 = b
none_of k a b c d wire.Bytes = c
none_of k a b c d wire.Fixed32 = d

-- the wire type of a number
type_of : (k : ℕ) → ((w : WireType) × (k ≡ wire_number w)) ⊎ ((w : WireType) → k ≢ wire_number w)
type_of k =
    elim (cases_eq k 0) [
      | inl is ↦ inl (wire.Varint, is)
      | inr a ↦ elim (cases_eq k 1) [
        | inl is ↦ inl (wire.Fixed64, is)
        | inr b ↦ elim (cases_eq k 2) [
          | inl is ↦ inl (wire.Bytes, is)
          | inr c ↦ elim (cases_eq k 5) [ inl is ↦ inl (wire.Fixed32, is) | inr d ↦ inr (none_of k a b c d) ]
        ]
      ]
    ]

-- the field and the bytes after it
abbrev pub FieldAnswer : List ℕ → Type 0
FieldAnswer bytes = HasAnswer {X = Field × List ℕ} {E = FieldFault} (λ f. TakesField bytes f.0 f.1) (λ why. BrokenField bytes why)

-- after a tag that is right
valued : (bytes rest : List ℕ) (tag : ℕ) (w : WireType) → TakesVarint bytes tag rest → tag < 2 ^ 32 → tag % 8 ≡ wire_number w → 0 < tag / 8 → ValueAnswer w rest → FieldAnswer bytes
valued bytes rest tag w t small is above (wrong why h) = wrong why (broken.behind t (broken.value small is above h))
valued bytes rest tag w t small is above (right v s) =
    right (record { number = tag / 8; value = v.0 }, v.1)
    (takes_field bytes rest v.1 tag w (record { number = tag / 8; value = v.0 }) t (omega (arith, is)) above (omega (arith, small)) s)

typed : (bytes rest : List ℕ) (tag : ℕ) → TakesVarint bytes tag rest → AreBytes rest → tag < 2 ^ 32 → ((w : WireType) × (tag % 8 ≡ wire_number w)) ⊎ ((w : WireType) → tag % 8 ≢ wire_number w) → FieldAnswer bytes
typed bytes rest tag t are small (inr none) = wrong fault.WireType (broken.behind t (broken.wire_type small none))
typed bytes rest tag t are small (inl w) =
    elim (cases_eq (tag / 8) 0) [
      | inl no_number ↦ wrong fault.FieldZero (broken.behind t (broken.number w.0 small w.1 no_number))
      | inr some ↦ valued bytes rest tag w.0 t small w.1 (omega arith) (value_answer w.0 rest are)
    ]

tagged : (b : ℕ) (bytes : List ℕ) → AreBytes (b ∷ bytes) → VarintAnswer (b ∷ bytes) → FieldAnswer (b ∷ bytes)
tagged b bytes are (wrong why h) = wrong why (broken.tag h)
tagged b bytes are (right v t) =
    elim (cases_lt v.0 (2 ^ 32)) [
      | inr large ↦ wrong fault.Varint (broken.behind t (broken.too_large large))
      | inl small ↦ typed (b ∷ bytes) v.1 v.0 t (parts_are (b ∷ bytes) t.text v.1 t.parts are).1 small (type_of (v.0 % 8))
    ]

-- ---- field after field

-- the fault's offset among the bytes
abbrev pub FieldsAnswer : List ℕ → Type 0
FieldsAnswer bytes = HasAnswer (IsText bytes) (λ (why : FieldFault). (at : ℕ) × HasFault bytes why at)

later : (bytes rest : List ℕ) (f : Field) → TakesField bytes f rest → FieldsAnswer rest → FieldsAnswer bytes
later bytes rest f t (right fs h) = right (f ∷ fs) (next t h)
later bytes rest f t (wrong why h) =
    let k = h.1 in
    wrong why (
      length (t.text ++ k.text),
      record {
        fields = f ∷ k.fields;
        text = t.text ++ k.text;
        rest = k.rest;
        parts = t.parts ∙ ap (λ (z : List ℕ). t.text ++ z) k.parts ∙ sym (append_assoc t.text k.text k.rest);
        before = next (record { text = t.text; parts = refl; field = t.field }) k.before;
        broken = k.broken;
        at_is = refl;
      },
    )

broken_here : (b : ℕ) (bytes : List ℕ) (why : FieldFault) → BrokenField (b ∷ bytes) why → FieldsAnswer (b ∷ bytes)
broken_here b bytes why h = wrong why (0, record { fields = []; text = []; rest = b ∷ bytes; parts = refl; before = end; broken = h; at_is = refl })

fields_from : (fuel : ℕ) (bytes : List ℕ) → length bytes ≤ fuel → AreBytes bytes → FieldsAnswer bytes
fields_from fuel [] le are = right [] end
fields_from zero (b ∷ bytes) le are = absurd (omega arith)
fields_from (suc fuel) (b ∷ bytes) le are =
    elim (tagged b bytes are (varint_answer (b ∷ bytes) are)) [
      | wrong why h ↦ broken_here b bytes why h
      | right f t ↦ later (b ∷ bytes) f.1 f.0 t (fields_from fuel f.1 (omega (arith, TakesField-shorter (b ∷ bytes) f.0 f.1 t)) (parts_are (b ∷ bytes) t.text f.1 t.parts are).1)
    ]

pub fields_answer : (bytes : List ℕ) → AreBytes bytes → FieldsAnswer bytes
fields_answer bytes are = fields_from (length bytes) bytes (omega arith) are
