-- One part written after others.
use Rattle.std.proofs.Common.{◌≡◌, ℕ, List, [], ◌∷◌, ◌++◌, Result, Ok, Err, sym, ap, ◌∙◌, append_assoc}
use Rattle.std.specs.Prelude.{OnOk}
use Rattle.std.specs.List.{flat_map}
use Rattle.std.proofs.lemmas.List.{append-nil}
use Rattle.std.proofs.lemmas.List.Concat.{flat_map-append}
use Rattle.pb_fields.specs.declared.field.Field.{Field}
use Rattle.pb_fields.specs.Canonical.{field_text, text}
use Rattle.pulsar_commands.specs.Part.{Part}
use Rattle.pulsar_commands.specs.Canonical.{part_fields, WritesPart, Writes}

pub text-append : (xs ys : List Field) → text (xs ++ ys) ≡ text xs ++ text ys
text-append xs ys = flat_map-append field_text xs ys

pub writes-one : (old : List ℕ) (p : Part) (new : List ℕ) → WritesPart old p new → Writes old (p ∷ []) new
writes-one old p new h = record {
  appends = h.appends ∙ ap (λ (fs : List Field). old ++ text fs) (sym (append-nil (part_fields p)));
  writable = (h.writable, tt);
}

pub writes-cons : (old : List ℕ) (p : Part) (ps : List Part) (middle new : List ℕ) → WritesPart old p middle → Writes middle ps new → Writes old (p ∷ ps) new
writes-cons old p ps middle new h k = record {
  appends = k.appends ∙ ap (λ (xs : List ℕ). xs ++ text (flat_map part_fields ps)) h.appends ∙ append_assoc old (text (part_fields p)) (text (flat_map part_fields ps)) ∙ ap (λ (xs : List ℕ). old ++ xs) (sym (text-append (part_fields p) (flat_map part_fields ps)));
  writable = (h.writable, k.writable);
}

-- the last call's answer decides
pub writes_last : {X E : Type 0} (old : List ℕ) (p : Part) (new : List ℕ) (r : Result X E) → OnOk r (WritesPart old p new) → OnOk r (Writes old (p ∷ []) new)
writes_last old p new (Ok x) h = writes-one old p new h
writes_last old p new (Err e) h = tt

pub writes_more : {X E : Type 0} (old : List ℕ) (p : Part) (ps : List Part) (middle new : List ℕ) (r : Result X E) → WritesPart old p middle → OnOk r (Writes middle ps new) → OnOk r (Writes old (p ∷ ps) new)
writes_more old p ps middle new (Ok x) h k = writes-cons old p ps middle new h k
writes_more old p ps middle new (Err e) h k = tt
