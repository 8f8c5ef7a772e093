-- The texts of an entry as the code writes them.
use Rattle.std.proofs.Common.{◌≡◌, ℕ, ◌<◌, ◌^◌, List, [], ◌++◌, length, sym, ap, subst, ◌∙◌}
use Rattle.std.proofs.lemmas.Grind.{flat_map-append}
use Rattle.geo_base.specs.declared.entry.Entry.{Entry}
use Rattle.message_meta.specs.declared.known.KnownMeta.{KnownMeta}
use Rattle.message_meta.specs.Canonical.{canonical_fields, optional_fields, required_fields}
use Rattle.message_meta.specs.Known.{IsJoinedText, joined}
use Rattle.message_meta.specs.Metadata.{IsMetaText, Metadata}
use Rattle.pb_fields.specs.declared.field.Field.{Field}
use Rattle.pb_fields.specs.Canonical.{field_text, text}
use Rattle.frame_values.specs.Coded.{IsMarkerRight}
use Rattle.frame_values.specs.Texts.{metadata_of, payload_text}
use Rattle.state_items.specs.EntryTexts.{AreShort, HasMetadata, HasTexts, metadata_text, source_of, with_rest}

parts : (r o f : List Field) → text (r ++ (o ++ f)) ≡ text r ++ (text o ++ text f)
parts r o f = flat_map-append field_text r (o ++ f) ∙ ap (λ (t : List ℕ). text r ++ t) (flat_map-append field_text o f)

abbrev stated : List (List ℕ) → ℕ → Entry → List Field → Metadata
stated names own e fields = metadata_of names (source_of own e.ident.origin) e fields

stated_text : (names : List (List ℕ)) (own : ℕ) (e : Entry) (fields : List Field) → e.meta.rest ≡ text fields → text (canonical_fields (stated names own e fields)) ≡ metadata_text names own e
stated_text names own e fields kept =
    parts (required_fields (stated names own e [])) (optional_fields (stated names own e [])) fields
    ∙ ap (λ (t : List ℕ). with_rest (stated names own e []) t) (sym kept)

pub metadata_is : (names : List (List ℕ)) (own : ℕ) (e : Entry) (k : KnownMeta) (bytes : List ℕ) → ((rest : List Field) → joined k rest ≡ stated names own e rest) → IsJoinedText k e.meta.rest bytes → bytes ≡ metadata_text names own e
metadata_is names own e k bytes same h =
    h.canonical ∙ ap (λ (m : Metadata). text (canonical_fields m)) (same h.fields) ∙ stated_text names own e h.fields h.kept

pub metadata_has : (names : List (List ℕ)) (own : ℕ) (e : Entry) (k : KnownMeta) (bytes : List ℕ) → ((rest : List Field) → joined k rest ≡ stated names own e rest) → IsJoinedText k e.meta.rest bytes → HasMetadata names own e
metadata_has names own e k bytes same h =
    let is : IsMetaText bytes (stated names own e h.fields) = subst (λ (m : Metadata). IsMetaText bytes m) (same h.fields) h.is_text in
    record {
      fields = h.fields;
      rest = h.kept;
      text = subst (λ (b : List ℕ). IsMetaText b (stated names own e h.fields)) (metadata_is names own e k bytes same h) is;
    }

pub texts_are : (names : List (List ℕ)) (own : ℕ) (e : Entry) → HasMetadata names own e → IsMarkerRight names e.content e.payload → HasTexts names own e
texts_are names own e h m = record { metadata = h; marker = m }

pub both_short : (names : List (List ℕ)) (own : ℕ) (e : Entry) → length (metadata_text names own e) < 2 ^ 32 → length (payload_text names e.content e.payload) < 2 ^ 32 → AreShort names own e
both_short names own e h k = record { metadata = h; payload = k }
