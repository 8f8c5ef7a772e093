-- A position as writers make it: its two numbers in their order.
use Rattle.std.proofs.Common.{◌≡◌, ℕ, ◌+◌, List, [], ◌∷◌, ◌++◌, length, refl, sym, ap, subst, ◌∙◌, append_assoc, append-nil, length-append, arith}
use Rattle.geo_base.specs.declared.position.Position.{Position}
use Rattle.pb_fields.specs.declared.field.Field.{Field}
use Rattle.pb_fields.specs.declared.field.Value.TheVariants as value
use Rattle.pb_fields.specs.Buffer.{Filled, Puts}
use Rattle.pb_fields.specs.Canonical.{field_text, head_text}
use Rattle.pb_fields.specs.Field.{IsField, varint_field}
use Rattle.pb_fields.specs.Front.{Fronts}
use Rattle.pb_fields.specs.Text.{IsText, end}
use Rattle.pb_fields.specs.Message.{Fits}
use Rattle.pb_fields.specs.Embedded.{FitsWith, AnyContent}
use Rattle.pb_fields.proofs.Buffers.{content_put, put_two}
use Rattle.pb_fields.proofs.Heads.{head_content}
use Rattle.pb_fields.proofs.Parts.{fits_row}
use Rattle.pulsar_commands.specs.Canonical.{WritesPart, id_field, id_text}
use Rattle.pulsar_commands.specs.Table.{id_rows}
use Rattle.pulsar_commands.specs.Part.{IsIdText}
use Rattle.pulsar_commands.specs.Part as part
use Rattle.pulsar_commands.specs.Text.{IdRight}

-- ---- read

abbrev usual_id : ℕ → ℕ → List Field
usual_id ledger entry = varint_field 1 ledger ∷ varint_field 2 entry ∷ []

usual_text : (content after rest : List ℕ) (ledger entry : ℕ) → Fronts content (varint_field 1 ledger ∷ []) after → Fronts after (varint_field 2 entry ∷ []) rest → rest ≡ [] → IsText content (usual_id ledger entry)
usual_text content after rest ledger entry one two nothing = one.text _ (two.text _ (subst (λ (x : List ℕ). IsText x []) (sym nothing) end))

any_fits : (f : Field) → Fits id_rows f → FitsWith AnyContent id_rows f
any_fits f h = record { fits = h; holds = λ content k. tt }

pub usual_id_right : (content after rest : List ℕ) (ledger entry : ℕ) → Fronts content (varint_field 1 ledger ∷ []) after → Fronts after (varint_field 2 entry ∷ []) rest → rest ≡ [] → IdRight 0 content
usual_id_right content after rest ledger entry one two nothing = record {
  fields = usual_id ledger entry;
  text = usual_text content after rest ledger entry one two nothing;
  message = record {
    fit = (any_fits _ (fits_row id_rows 1 _ (value.Varint ledger) refl tt), (any_fits _ (fits_row id_rows 2 _ (value.Varint entry) refl tt), tt));
    complete = refl;
  };
}

pub usual_id_said : (content after rest : List ℕ) (p : Position) → Fronts content (varint_field 1 p.ledger ∷ []) after → Fronts after (varint_field 2 p.entry ∷ []) rest → rest ≡ [] → IsIdText content p
usual_id_said content after rest p one two nothing = record {
  fields = usual_id p.ledger p.entry;
  text = usual_text content after rest p.ledger p.entry one two nothing;
  ledger = refl;
  entry = refl;
}

-- ---- written

-- its text is that of its two numbers
id_is : (p : Position) → id_text p ≡ field_text (varint_field 1 p.ledger) ++ field_text (varint_field 2 p.entry)
id_is p = ap (λ (bs : List ℕ). field_text (varint_field 1 p.ledger) ++ bs) (append-nil (field_text (varint_field 2 p.entry)))

pub id_length : (p : Position) → length (id_text p) ≡ length (field_text (varint_field 1 p.ledger)) + length (field_text (varint_field 2 p.entry))
id_length p = ap (λ (bs : List ℕ). length bs) (id_is p) ∙ length-append (field_text (varint_field 1 p.ledger)) (field_text (varint_field 2 p.entry))

pub id_appended : (old head first new : List ℕ) (n size : ℕ) (p : Position) → head ≡ old ++ head_text n size → size ≡ length (id_text p) → first ≡ head ++ field_text (varint_field 1 p.ledger) → new ≡ first ++ field_text (varint_field 2 p.entry)
    → IsField (varint_field 1 p.ledger) → IsField (varint_field 2 p.entry) → WritesPart old (part.id n p) new
id_appended old head first new n size p headed sized one two a b =
    let before : List ℕ = head_text n (length (id_text p)) in
    let whole : new ≡ (old ++ before) ++ (field_text (varint_field 1 p.ledger) ++ field_text (varint_field 2 p.entry)) =
    two ∙ ap (λ (bs : List ℕ). bs ++ field_text (varint_field 2 p.entry)) (one ∙ ap (λ (bs : List ℕ). bs ++ field_text (varint_field 1 p.ledger)) (headed ∙ ap (λ (k : ℕ). old ++ head_text n k) sized))
    ∙ append_assoc (old ++ before) (field_text (varint_field 1 p.ledger)) (field_text (varint_field 2 p.entry)) in
    record {
      appends = whole ∙ ap (λ (bs : List ℕ). (old ++ before) ++ bs) (sym (id_is p)) ∙ append_assoc old before (id_text p) ∙ ap (λ (bs : List ℕ). old ++ bs) (head_content n (id_text p) ∙ sym (append-nil (field_text (id_field n p))));
      writable = record { ledger = a.value; entry = b.value };
    }

-- ---- put into a buffer

pub id_put : (a b c d : Filled) (n size : ℕ) (p : Position) → Puts a (head_text n size) b → size ≡ length (id_text p) → Puts b (field_text (varint_field 1 p.ledger)) c → Puts c (field_text (varint_field 2 p.entry)) d → Puts a (field_text (id_field n p)) d
id_put a b c d n size p headed sized one two =
    let head : Puts a (head_text n (length (id_text p))) b = subst (λ (k : ℕ). Puts a (head_text n k) b) sized headed in
    content_put a b d n (id_text p) head (put_two b c d (field_text (varint_field 1 p.ledger)) (field_text (varint_field 2 p.entry)) one two)

-- what it takes
pub id_field_length : (n size : ℕ) (p : Position) → size ≡ length (id_text p) → length (field_text (id_field n p)) ≡ length (head_text n size) + (length (field_text (varint_field 1 p.ledger)) + length (field_text (varint_field 2 p.entry)))
id_field_length n size p sized =
    let head : length (head_text n size) ≡ length (head_text n (length (id_text p))) = ap (λ (k : ℕ). length (head_text n k)) sized in
    let whole : length (head_text n (length (id_text p)) ++ id_text p) ≡ length (field_text (id_field n p)) = ap (λ (bs : List ℕ). length bs) (head_content n (id_text p)) in
    omega (arith, head, whole, length-append (head_text n (length (id_text p))) (id_text p), id_length p)
