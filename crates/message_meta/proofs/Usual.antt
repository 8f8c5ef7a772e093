-- Metadata of the usual form: five fields in the order of their numbers, of which the last two need not be there.
use Rattle.std.proofs.Common.{◌≡◌, ℕ, ◌+◌, List, [], ◌∷◌, ◌++◌, Option, None, length, sym, ap, subst, ◌∙◌, arith, length-append}
use Rattle.std.specs.Prelude.{IfSome, IsUtf8}
use Rattle.std.specs.List.{AllByRecursion}
use Rattle.std.proofs.lemmas.List.{append-nil}
use Rattle.std.proofs.lemmas.Grind.{flat_map-append}
use Rattle.pb_fields.specs.declared.field.Field.{Field}
use Rattle.pb_fields.specs.Buffer.{Filled, Puts}
use Rattle.pb_fields.specs.Canonical.{field_text, optional, text}
use Rattle.pb_fields.specs.Field.{IsField, bytes_field, varint_field}
use Rattle.pb_fields.specs.Front.{Fronts}
use Rattle.pb_fields.specs.Text.{IsText, end}
use Rattle.pb_fields.proofs.Buffers.{put_same, put_then}
use Rattle.pb_fields.proofs.Parts.{AllByRecursion-append}
use Rattle.message_meta.specs.Metadata.{Metadata, IsMetaText}
use Rattle.message_meta.specs.Canonical.{IsMetadata, canonical_fields}
use Rattle.message_meta.proofs.Written.{means}

module _ (producer : List ℕ) (seq time : ℕ) (from key : Option (List ℕ)) where
  abbrev pub usual : Metadata
  usual = record { producer = producer; seq = seq; publish_time = time; replicated_from = from; key = key; replicate_to = []; marker = None; rest = [] }

  abbrev behind : List Field
  behind = optional (bytes_field 5) from ++ (optional (bytes_field 6) key ++ [])

  -- the fields one after another
  abbrev plain : List Field
  plain = bytes_field 1 producer ∷ varint_field 2 seq ∷ varint_field 3 time ∷ behind

  plain_is : plain ≡ canonical_fields usual
  plain_is = ap (λ (x : List Field). bytes_field 1 producer ∷ varint_field 2 seq ∷ varint_field 3 time ∷ x) (sym (append-nil behind))

  usual_metadata : AllByRecursion IsField plain → IsUtf8 producer → IfSome from IsUtf8 → IfSome key IsUtf8 → IsMetadata usual
  usual_metadata fields named placed keyed = record {
    fields = subst (λ (fs : List Field). AllByRecursion IsField fs) plain_is fields;
    producer = named;
    replicated_from = placed;
    key = keyed;
    replicate_to = tt;
    rest = tt;
  }

  behind_fields : AllByRecursion IsField (optional (bytes_field 5) from) → AllByRecursion IsField (optional (bytes_field 6) key) → AllByRecursion IsField behind
  behind_fields five six = AllByRecursion-append IsField (optional (bytes_field 5) from) (optional (bytes_field 6) key ++ []) five (AllByRecursion-append IsField (optional (bytes_field 6) key) [] six tt)

  -- ---- read

  pub usual_is : (bytes a b c d e : List ℕ) → Fronts bytes (bytes_field 1 producer ∷ []) a → Fronts a (varint_field 2 seq ∷ []) b → Fronts b (varint_field 3 time ∷ []) c → Fronts c (optional (bytes_field 5) from) d → Fronts d (optional (bytes_field 6) key) e → e ≡ [] → IsUtf8 producer → IfSome from IsUtf8 → IfSome key IsUtf8 → IsMetaText bytes usual
  usual_is bytes a b c d e one two three five six nothing named placed keyed =
      let last : IsText e [] = subst (λ (x : List ℕ). IsText x []) (sym nothing) end in
      let all : IsText bytes plain = one.text _ (two.text _ (three.text _ (five.text _ (six.text _ last)))) in
      record {
        fields = canonical_fields usual;
        text = subst (λ (fs : List Field). IsText bytes fs) plain_is all;
        means = means usual (usual_metadata (one.writable.0, (two.writable.0, (three.writable.0, behind_fields five.writable six.writable))) named placed keyed);
      }

  -- ---- written

  pub usual_writable : IsField (bytes_field 1 producer) → IsField (varint_field 2 seq) → IsField (varint_field 3 time) → AllByRecursion IsField (optional (bytes_field 5) from) → AllByRecursion IsField (optional (bytes_field 6) key)
      → IsUtf8 producer → IfSome from IsUtf8 → IfSome key IsUtf8 → IsMetadata usual
  usual_writable one two three five six named placed keyed = usual_metadata (one, (two, (three, behind_fields five six))) named placed keyed

  -- its text, field by field
  pub usual_text : text (canonical_fields usual) ≡ field_text (bytes_field 1 producer) ++ (field_text (varint_field 2 seq) ++ (field_text (varint_field 3 time) ++ (text (optional (bytes_field 5) from) ++ text (optional (bytes_field 6) key))))
  usual_text =
      let others : text behind ≡ text (optional (bytes_field 5) from) ++ text (optional (bytes_field 6) key) =
      flat_map-append field_text (optional (bytes_field 5) from) (optional (bytes_field 6) key ++ []) ∙ ap (λ (fs : List Field). text (optional (bytes_field 5) from) ++ text fs) (append-nil (optional (bytes_field 6) key)) in
      ap (λ (fs : List Field). text fs) (sym plain_is) ∙ ap (λ (bs : List ℕ). field_text (bytes_field 1 producer) ++ (field_text (varint_field 2 seq) ++ (field_text (varint_field 3 time) ++ bs))) others

  pub usual_size : length (text (canonical_fields usual)) ≡ length (field_text (bytes_field 1 producer)) + length (field_text (varint_field 2 seq)) + length (field_text (varint_field 3 time)) + length (text (optional (bytes_field 5) from)) + length (text (optional (bytes_field 6) key))
  usual_size =
      let one : List ℕ = field_text (bytes_field 1 producer) in
      let two : List ℕ = field_text (varint_field 2 seq) in
      let three : List ℕ = field_text (varint_field 3 time) in
      let five : List ℕ = text (optional (bytes_field 5) from) in
      let six : List ℕ = text (optional (bytes_field 6) key) in
      ap (λ (bs : List ℕ). length bs) usual_text ∙ omega (arith, length-append one (two ++ (three ++ (five ++ six))), length-append two (three ++ (five ++ six)), length-append three (five ++ six), length-append five six)

  -- put into a buffer field by field
  pub usual_put : (a b c d e f : Filled) → Puts a (field_text (bytes_field 1 producer)) b → Puts b (field_text (varint_field 2 seq)) c → Puts c (field_text (varint_field 3 time)) d → Puts d (text (optional (bytes_field 5) from)) e → Puts e (text (optional (bytes_field 6) key)) f
      → Puts a (text (canonical_fields usual)) f
  usual_put a b c d e f one two three five six =
      let last : Puts d (text (optional (bytes_field 5) from) ++ text (optional (bytes_field 6) key)) f = put_then d e f _ _ five six in
      put_same a f _ _ (sym usual_text) (put_then a b f _ _ one (put_then b c f _ _ two (put_then c d f _ _ three last)))
