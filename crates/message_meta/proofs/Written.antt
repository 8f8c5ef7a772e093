-- The canonical fields of metadata mean it.
use Rattle.std.proofs.Common.{◌≡◌, ℕ, List, [], ◌++◌, Option, Some, None, map, refl, ap, ◌∙◌, arith}
use Rattle.std.specs.Prelude.{IsUtf8, IfSome, option_to_list}
use Rattle.std.specs.Option.{option_map}
use Rattle.std.specs.List.{AllByRecursion, last_or}
use Rattle.std.proofs.lemmas.List.{append-nil}
use Rattle.pb_fields.specs.declared.field.Field.{Field}
use Rattle.pb_fields.specs.declared.field.Value.{Value}
use Rattle.pb_fields.specs.declared.field.Value.TheVariants as value
use Rattle.pb_fields.specs.declared.message.Row.{Row}
use Rattle.pb_fields.specs.Canonical.{text, optional, AscendFrom}
use Rattle.pb_fields.specs.Field.{varint_field, bytes_field}
use Rattle.pb_fields.specs.Message.{row_of, Fits, values, unknown}
use Rattle.pb_fields.proofs.Parts.{AllByRecursion-append, AllByRecursion-map, AllByRecursion-optional, fits_row, fits_unknown, values-append, values-optional, values-optional_other, values-map, values-map_other, values-unknown, last_or-option, unknown-append, unknown-optional, unknown-map, unknown-same}
use Rattle.pb_fields.proofs.Order.{behind_map, behind_optional, ascend_optional}
use Rattle.pb_fields.proofs.Written.{text-is}
use Rattle.message_meta.specs.Table.{rows}
use Rattle.message_meta.specs.Metadata.{Metadata, IsMeta, IsMetaText}
use Rattle.message_meta.specs.Canonical.{required_fields, optional_fields, canonical_fields, IsMetadata}

-- ---- each field fits its row

all_fit : (m : Metadata) → IsMetadata m → AllByRecursion (Fits rows) (canonical_fields m)
all_fit m h =
    let required : AllByRecursion (Fits rows) (required_fields m) = (fits_row rows 1 _ (value.Bytes m.producer) refl h.producer, (fits_row rows 2 _ (value.Varint m.seq) refl tt, (fits_row rows 3 _ (value.Varint m.publish_time) refl tt, tt))) in
    let origin = AllByRecursion-optional IsUtf8 (Fits rows) (bytes_field 5) m.replicated_from (λ b utf8. fits_row rows 5 _ (value.Bytes b) refl utf8) h.replicated_from in
    let key = AllByRecursion-optional IsUtf8 (Fits rows) (bytes_field 6) m.key (λ b utf8. fits_row rows 6 _ (value.Bytes b) refl utf8) h.key in
    let names = AllByRecursion-map IsUtf8 (Fits rows) (bytes_field 7) m.replicate_to (λ b utf8. fits_row rows 7 _ (value.Bytes b) refl utf8) h.replicate_to in
    let marker = AllByRecursion-optional (λ n. Unit {0}) (Fits rows) (varint_field 20) m.marker (λ n u. fits_row rows 20 _ (value.Varint n) refl tt) (any m.marker) in
    AllByRecursion-append (Fits rows) (required_fields m) (optional_fields m ++ m.rest) required
    (AllByRecursion-append (Fits rows) (optional_fields m) m.rest
    (AllByRecursion-append (Fits rows) (optional (bytes_field 5) m.replicated_from) _ origin
    (AllByRecursion-append (Fits rows) (optional (bytes_field 6) m.key) _ key
    (AllByRecursion-append (Fits rows) (map (bytes_field 7) m.replicate_to) _ names marker)))
    (fits_unknown rows m.rest h.rest))
  where
    any : (o : Option ℕ) → IfSome o (λ n. Unit {0})
    any None = tt
    any (Some n) = tt

-- ---- what they say

-- the values of a known number, part by part
parts : (m : Metadata) → IsMetadata m → (n : ℕ) (r : Row) → row_of rows n ≡ Some r → (a b c d : List Value)
    → values n (optional (bytes_field 5) m.replicated_from) ≡ a → values n (optional (bytes_field 6) m.key) ≡ b
    → values n (map (bytes_field 7) m.replicate_to) ≡ c → values n (optional (varint_field 20) m.marker) ≡ d
    → values n (canonical_fields m) ≡ values n (required_fields m) ++ (a ++ (b ++ (c ++ d)))
parts m h n r is a b c d ea eb ec ed =
    let o5 : List Field = optional (bytes_field 5) m.replicated_from in
    let o6 : List Field = optional (bytes_field 6) m.key in
    let o7 : List Field = map (bytes_field 7) m.replicate_to in
    let o20 : List Field = optional (varint_field 20) m.marker in
    let optional_part : values n (optional_fields m) ≡ a ++ (b ++ (c ++ d)) =
    values-append n o5 (o6 ++ (o7 ++ o20)) ∙ rw (ea, values-append n o6 (o7 ++ o20), eb, values-append n o7 o20, ec, ed) refl in
    values-append n (required_fields m) (optional_fields m ++ m.rest)
    ∙ ap (λ (vs : List Value). values n (required_fields m) ++ vs)
    (values-append n (optional_fields m) m.rest ∙ rw (optional_part, values-unknown rows n r m.rest is h.rest, append-nil (a ++ (b ++ (c ++ d)))) refl)

-- every known field is known
rest_is : (m : Metadata) → IsMetadata m → unknown rows (canonical_fields m) ≡ m.rest
rest_is m h =
    let o5 : List Field = optional (bytes_field 5) m.replicated_from in
    let o6 : List Field = optional (bytes_field 6) m.key in
    let o7 : List Field = map (bytes_field 7) m.replicate_to in
    let o20 : List Field = optional (varint_field 20) m.marker in
    let nothing : unknown rows (optional_fields m) ≡ [] =
    unknown-append rows o5 (o6 ++ (o7 ++ o20)) ∙ rw (
      unknown-optional rows _ 5 value.Bytes m.replicated_from refl,
      unknown-append rows o6 (o7 ++ o20),
      unknown-optional rows _ 6 value.Bytes m.key refl,
      unknown-append rows o7 o20,
      unknown-map rows _ 7 value.Bytes m.replicate_to refl,
      unknown-optional rows _ 20 value.Varint m.marker refl,
    ) refl in
    unknown-append rows (required_fields m) (optional_fields m ++ m.rest)
    ∙ unknown-append rows (optional_fields m) m.rest ∙ rw (nothing, unknown-same rows m.rest h.rest) refl

pub means : (m : Metadata) → IsMetadata m → IsMeta (canonical_fields m) m
means m h =
    let from : List Value = option_to_list (option_map value.Bytes m.replicated_from) in
    let key : List Value = option_to_list (option_map value.Bytes m.key) in
    let names : List Value = map value.Bytes m.replicate_to in
    let marker : List Value = option_to_list (option_map value.Varint m.marker) in
    let none5 = λ (n : ℕ) (h : 5 ≡ n → ⊥). values-optional_other n 5 value.Bytes m.replicated_from h in
    let none6 = λ (n : ℕ) (h : 6 ≡ n → ⊥). values-optional_other n 6 value.Bytes m.key h in
    let none7 = λ (n : ℕ) (h : 7 ≡ n → ⊥). values-map_other n 7 value.Bytes m.replicate_to h in
    let none20 = λ (n : ℕ) (h : 20 ≡ n → ⊥). values-optional_other n 20 value.Varint m.marker h in
    let last : List Value → Option Value = λ vs. last_or None vs in
    record {
      message = record { fit = all_fit m h; complete = refl };
      producer_name = ap last (parts m h 1 _ refl [] [] [] [] (none5 1 (λ e. omega arith)) (none6 1 (λ e. omega arith)) (none7 1 (λ e. omega arith)) (none20 1 (λ e. omega arith)));
      sequence_id = ap last (parts m h 2 _ refl [] [] [] [] (none5 2 (λ e. omega arith)) (none6 2 (λ e. omega arith)) (none7 2 (λ e. omega arith)) (none20 2 (λ e. omega arith)));
      publish_time = ap last (parts m h 3 _ refl [] [] [] [] (none5 3 (λ e. omega arith)) (none6 3 (λ e. omega arith)) (none7 3 (λ e. omega arith)) (none20 3 (λ e. omega arith)));
      replicated_from = ap last (parts m h 5 _ refl from [] [] [] (values-optional 5 value.Bytes m.replicated_from) (none6 5 (λ e. omega arith)) (none7 5 (λ e. omega arith)) (none20 5 (λ e. omega arith)) ∙ append-nil from) ∙ last_or-option (option_map value.Bytes m.replicated_from);
      partition_key = ap last (parts m h 6 _ refl [] key [] [] (none5 6 (λ e. omega arith)) (values-optional 6 value.Bytes m.key) (none7 6 (λ e. omega arith)) (none20 6 (λ e. omega arith)) ∙ append-nil key) ∙ last_or-option (option_map value.Bytes m.key);
      replicate_to = parts m h 7 _ refl [] [] names [] (none5 7 (λ e. omega arith)) (none6 7 (λ e. omega arith)) (values-map 7 value.Bytes m.replicate_to) (none20 7 (λ e. omega arith)) ∙ append-nil names;
      marker_type = ap last (parts m h 20 _ refl [] [] [] marker (none5 20 (λ e. omega arith)) (none6 20 (λ e. omega arith)) (none7 20 (λ e. omega arith)) (values-optional 20 value.Varint m.marker)) ∙ last_or-option (option_map value.Varint m.marker);
      rest = rest_is m h;
    }

pub canonical_is : (m : Metadata) → IsMetadata m → IsMetaText (text (canonical_fields m)) m
canonical_is m h = record { fields = canonical_fields m; text = text-is (canonical_fields m) h.fields; means = means m h }

-- ---- their order

pub known_ascend : (m : Metadata) → AscendFrom 1 (required_fields m ++ optional_fields m)
known_ascend m =
    let marker : AscendFrom 7 (optional (varint_field 20) m.marker) = ascend_optional 7 20 (varint_field 20) m.marker (λ n. refl) (omega arith) in
    let names = behind_map 6 7 (bytes_field 7) m.replicate_to (optional (varint_field 20) m.marker) (λ b. refl) (omega arith) marker in
    let key = behind_optional 5 6 (bytes_field 6) m.key (map (bytes_field 7) m.replicate_to ++ optional (varint_field 20) m.marker) (λ b. refl) (omega arith) names in
    let origin = behind_optional 3 5 (bytes_field 5) m.replicated_from (optional (bytes_field 6) m.key ++ (map (bytes_field 7) m.replicate_to ++ optional (varint_field 20) m.marker)) (λ b. refl) (omega arith) key in
    (omega arith, (omega arith, (omega arith, origin)))
