-- Known fields, and the text of the others after them.
use Rattle.std.proofs.Common.{◌≡◌, ℕ, List, [], ◌++◌, sym, ap, subst, ◌∙◌, append_assoc}
use Rattle.std.specs.List.{AllByRecursion}
use Rattle.std.proofs.lemmas.Grind.{flat_map-append}
use Rattle.pb_fields.specs.declared.field.Field.{Field}
use Rattle.pb_fields.specs.Canonical.{field_text, text}
use Rattle.pb_fields.specs.Field.{IsField}
use Rattle.pb_fields.specs.Message.{IsUnknown}
use Rattle.pb_fields.proofs.Parts.{AllByRecursion-append}
use Rattle.message_meta.specs.declared.known.KnownMeta.{KnownMeta}
use Rattle.message_meta.specs.Table.{rows}
use Rattle.message_meta.specs.Metadata.{Metadata, IsMetaText}
use Rattle.message_meta.specs.Canonical.{IsMetadata, canonical_fields, optional_fields, required_fields}
use Rattle.message_meta.specs.Known.{IsJoinedText, IsKnown, IsRest, joined, known_fields}
use Rattle.message_meta.proofs.Written.{canonical_is}

joined_text : (k : KnownMeta) (fields : List Field) → text (known_fields k) ++ text fields ≡ text (canonical_fields (joined k fields))
joined_text k fields =
    let r : List Field = required_fields (joined k []) in
    let o : List Field = optional_fields (joined k []) in
    sym (flat_map-append field_text (r ++ o) fields) ∙ ap (λ (fs : List Field). text fs) (append_assoc r o fields)

joined_metadata : (k : KnownMeta) (fields : List Field) → IsKnown k → AllByRecursion IsField fields → AllByRecursion (IsUnknown rows) fields → IsMetadata (joined k fields)
joined_metadata k fields h writable unknown = record {
  fields = AllByRecursion-append IsField (required_fields (joined k [])) (optional_fields (joined k []) ++ fields) h.required (AllByRecursion-append IsField (optional_fields (joined k [])) fields h.others writable);
  producer = h.producer;
  replicated_from = h.replicated_from;
  key = h.key;
  replicate_to = h.replicate_to;
  rest = unknown;
}

pub same_text : (k : KnownMeta) (m : Metadata) → joined k m.rest ≡ m → text (known_fields k) ++ text m.rest ≡ text (canonical_fields m)
same_text k m same = joined_text k m.rest ∙ ap (λ (x : Metadata). text (canonical_fields x)) same

pub same_metadata : (k : KnownMeta) (m : Metadata) → joined k m.rest ≡ m → IsKnown k → AllByRecursion IsField m.rest → AllByRecursion (IsUnknown rows) m.rest → IsMetadata m
same_metadata k m same h writable unknown = subst (λ (x : Metadata). IsMetadata x) same (joined_metadata k m.rest h writable unknown)

pub joined_is : (k : KnownMeta) (rest bytes : List ℕ) → IsRest rest → IsKnown k → bytes ≡ text (known_fields k) ++ rest → IsJoinedText k rest bytes
joined_is k rest bytes r h is =
    let whole : bytes ≡ text (canonical_fields (joined k r.fields)) = is ∙ ap (λ (b : List ℕ). text (known_fields k) ++ b) r.is ∙ joined_text k r.fields in
    record {
      fields = r.fields;
      kept = r.is;
      canonical = whole;
      is_text = subst (λ (b : List ℕ). IsMetaText b (joined k r.fields)) (sym whole) (canonical_is (joined k r.fields) (joined_metadata k r.fields h r.writable r.unknown));
    }
