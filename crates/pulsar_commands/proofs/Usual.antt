-- The BaseCommand as writers make it: its type, and then the command's own message.
use Rattle.std.proofs.Common.{◌≡◌, ℕ, ◌<◌, ◌^◌, arith, true, false, eqb, eq-eqb, ne_eqb, List, [], ◌∷◌, Some, None, length, refl, ap, subst, ◌∙◌}
use Rattle.std.specs.List.{AllByRecursion, last_or}
use Rattle.pb_fields.specs.declared.field.Field.{Field}
use Rattle.pb_fields.specs.declared.field.Value.{Value}
use Rattle.pb_fields.specs.declared.field.Value.TheVariants as value
use Rattle.pb_fields.specs.declared.message.Form.TheVariants as form
use Rattle.pb_fields.specs.declared.message.MessageFault.{MessageFault}
use Rattle.pb_fields.specs.declared.message.Row.{Row}
use Rattle.pb_fields.specs.Field.{IsField, varint_field, bytes_field}
use Rattle.pb_fields.specs.Text.{IsText}
use Rattle.pb_fields.specs.Message.{row_of, Fits, last_value, lowest_absent, IsMessage, here, later}
use Rattle.pb_fields.specs.Embedded.{FitsWith, IsMessageWith, WrongFieldsWith, field, WrongMessageWith, within}
use Rattle.pb_fields.proofs.LastValues.{values-same, values-other}
use Rattle.pb_fields.proofs.Parts.{fits_row}
use Rattle.pulsar_commands.specs.declared.kind.Kind.{Kind}
use Rattle.pulsar_commands.specs.declared.kind.Kind.TheVariants as kind
use Rattle.pulsar_commands.specs.Table.{kind_number, type_rows, held_rows, rows_of, required}
use Rattle.pulsar_commands.specs.Text.{IdRight, IdWrong, BodyRight, BodyWrong, HasType, IsLast, usual}
use Rattle.pulsar_commands.proofs.Held.{content_held}

-- a type's number is neither that of the type's own field nor beyond the numbers of fields
pub bounds : (k : Kind) → (1 < kind_number k) × (kind_number k < 20)
bounds kind.Connect = (omega arith, omega arith)
bounds kind.Connected = (omega arith, omega arith)
bounds kind.Subscribe = (omega arith, omega arith)
bounds kind.Producer = (omega arith, omega arith)
bounds kind.Send = (omega arith, omega arith)
bounds kind.SendReceipt = (omega arith, omega arith)
bounds kind.SendError = (omega arith, omega arith)
bounds kind.Message = (omega arith, omega arith)
bounds kind.Ack = (omega arith, omega arith)
bounds kind.Flow = (omega arith, omega arith)
bounds kind.Unsubscribe = (omega arith, omega arith)
bounds kind.Success = (omega arith, omega arith)
bounds kind.Error = (omega arith, omega arith)
bounds kind.CloseProducer = (omega arith, omega arith)
bounds kind.CloseConsumer = (omega arith, omega arith)
bounds kind.ProducerSuccess = (omega arith, omega arith)
bounds kind.Ping = (omega arith, omega arith)
bounds kind.Pong = (omega arith, omega arith)

-- Two fields, of the numbers 1 and n.
module _ (n : ℕ) (above_one : 1 < n) (body : List ℕ) where
  abbrev pub type_field : Field
  type_field = varint_field 1 n

  abbrev pub body_field : Field
  body_field = bytes_field n body

  abbrev pub both_fields : List Field
  both_fields = type_field ∷ body_field ∷ []

  not_one : n ≡ 1 → ⊥
  not_one e = omega (arith, above_one, e)

  one_not : 1 ≡ n → ⊥
  one_not e = omega (arith, above_one, e)

  pub type_last : last_value 1 both_fields ≡ Some (value.Varint n)
  type_last = ap (λ (vs : List Value). last_or None vs) (values-same 1 type_field (body_field ∷ []) refl ∙ ap (λ (vs : List Value). value.Varint n ∷ vs) (values-other 1 body_field [] not_one))

  pub body_last : last_value n both_fields ≡ Some (value.Bytes body)
  body_last = ap (λ (vs : List Value). last_or None vs) (values-other n type_field (body_field ∷ []) one_not ∙ values-same n body_field [] refl)

  no_row : (m : ℕ) (r : Row) → (r.number ≡ m → ⊥) → row_of (r ∷ []) m ≡ None
  no_row m r other = let test : eqb r.number m ≡ false = ne_eqb _ _ other in rw test refl

  its_row : (r : Row) → r.number ≡ n → row_of (r ∷ []) n ≡ Some r
  its_row r same = let test : eqb r.number n ≡ true = eq-eqb _ _ same in rw test refl

  unknown_fits : (rows : List Row) (f : Field) → row_of rows f.number ≡ None → Fits rows f
  unknown_fits rows f none = λ r is. absurd (let h = none in cc)

  pub type_message : IsMessage type_rows both_fields
  type_message = record {
    fit = (fits_row type_rows 1 (required 1 form.Varint) (value.Varint n) refl tt, (unknown_fits type_rows body_field (no_row n (required 1 form.Varint) one_not), tt));
    complete = refl;
  }

  there : lowest_absent (required n form.Message ∷ []) both_fields ≡ None
  there =
      let other : eqb 1 n ≡ false = ne_eqb _ _ one_not in
      let same : eqb n n ≡ true = eq-eqb _ _ refl in
      rw (other, same) refl

  -- the type's field fits the row of the other
  pub type_fits : (Right : ℕ → List ℕ → Type 0) → FitsWith Right (required n form.Message ∷ []) type_field
  type_fits Right = record {
    fits = unknown_fits (required n form.Message ∷ []) type_field (no_row 1 (required n form.Message) not_one);
    holds = λ content h. absurd (let known = h.known in let none = no_row 1 (required n form.Message) not_one in cc);
  }

  pub holds_message : (Right : ℕ → List ℕ → Type 0) → Right n body → IsMessageWith Right (required n form.Message ∷ []) both_fields
  holds_message Right right = record {
    fit = (
      type_fits Right,
      (
        record {
          fits = fits_row (required n form.Message ∷ []) n (required n form.Message) (value.Bytes body) (its_row (required n form.Message) refl) tt;
          holds = λ content h. subst (λ (c : List ℕ). Right n c) (same_content body content h.value) right;
        },
        tt,
      ),
    );
    complete = there;
  }
    where
      same_content : (a b : List ℕ) → ◌≡◌ {A = Value} (value.Bytes a) (value.Bytes b) → a ≡ b
      same_content a b e = cc

  pub fields_ok : n < 20 → length body < 2 ^ 64 → AllByRecursion IsField both_fields
  fields_ok small fits = (
    record { number = record { above_zero = omega arith; in_range = omega arith }; value = small_value },
    (record { number = record { above_zero = positive; in_range = in_range }; value = fits }, tt),
  )
    where
      small_value : n < 2 ^ 64
      small_value = omega (arith, small)

      positive : 0 < n
      positive = omega (arith, above_one)

      in_range : n < 2 ^ 29
      in_range = omega (arith, small)

-- ---- what is read of it

pub usual_type : (k : Kind) (content : List ℕ) → HasType (usual k content) k
usual_type k content = let more = (bounds k).0 in record { message = type_message (kind_number k) more content; is = type_last (kind_number k) more content }

pub usual_right : (k : Kind) (content : List ℕ) (held : List Field) → IsText content held → IsMessageWith IdRight (rows_of k) held → IsMessageWith (BodyRight k) (held_rows k) (usual k content)
usual_right k content held text message = holds_message (kind_number k) (bounds k).0 content (BodyRight k) (record { fields = held; text = text; message = message })

pub usual_last : (k : Kind) (content : List ℕ) (held : List Field) → IsText content held → IsLast k (usual k content) held
usual_last k content held text = record { content = content; is = body_last (kind_number k) (bounds k).0 content; text = text }

-- what is wrong with the content is wrong with the whole
pub usual_wrong : (k : Kind) (content : List ℕ) (m : MessageFault) → WrongMessageWith IdRight IdWrong (rows_of k) content m → WrongFieldsWith (BodyRight k) (BodyWrong k) (held_rows k) (usual k content) m
usual_wrong k content m wrong =
    field (later (type_fits (kind_number k) (bounds k).0 content (BodyRight k)) (here (within content (content_held k (bytes_field (kind_number k) content) content refl refl) wrong)))

-- two fields of the right numbers
pub usual_pair : (bytes content : List ℕ) (first n second : ℕ) (k : Kind) → IsText bytes (varint_field first n ∷ bytes_field second content ∷ []) → first ≡ 1 → n ≡ kind_number k → second ≡ kind_number k → IsText bytes (usual k content)
usual_pair bytes content first n second k text one named placed = subst (λ (fs : List Field). IsText bytes fs) same text
  where
    same : varint_field first n ∷ bytes_field second content ∷ [] ≡ usual k content
    same = rw (one, named, placed) refl
