-- Any bytes are a message of a table, or something is wrong with them, where that holds of what the messages hold.
use Rattle.std.proofs.Common.{◌≡◌, ◌≢◌, ℕ, Bool, List, [], ◌∷◌, Option, Some, None, true, false, refl, sym, ap, subst, ◌∙◌, ◌⊎◌, inl, inr}
use Rattle.std.specs.Str.{is_utf8}
use Rattle.std.specs.List.{AllByRecursion}
use Rattle.std.proofs.lemmas.Bool.{cases_Bool}
use Rattle.std.proofs.lemmas.Str.{IsUtf8-from_is_utf8, is_utf8-from_IsUtf8}
use Rattle.pb_fields.specs.declared.field.Field.{Field}
use Rattle.pb_fields.specs.declared.field.Value.{Value}
use Rattle.pb_fields.specs.declared.field.Value.TheVariants as value
use Rattle.pb_fields.specs.declared.field.WireType.TheVariants as wire
use Rattle.pb_fields.specs.declared.message.Form.{Form}
use Rattle.pb_fields.specs.declared.message.Form.TheVariants as form
use Rattle.pb_fields.specs.declared.message.Row.{Row}
use Rattle.pb_fields.specs.declared.message.MessageFault.{MessageFault}
use Rattle.pb_fields.specs.declared.message.MessageFault.TheVariants as fault
use Rattle.pb_fields.specs.Field.{wire_type}
use Rattle.pb_fields.specs.Text.{IsText}
use Rattle.pb_fields.specs.Faults.{fault_at}
use Rattle.pb_fields.specs.Message.{row_of, form_type, HasForm, Fits, lowest_absent, IsMessage, IsWrong, type_differs, not_text, FirstWrong, here, later, WrongFields, WrongMessage}
use Rattle.pb_fields.specs.Message as plain
use Rattle.pb_fields.specs.Embedded.{Holds, FitsWith, IsMessageWith, IsMessageText, IsWrongWith, by_row, within, WrongFieldsWith, field, missing, WrongMessageWith, no_fields, wrong_fields, AnyContent, NoFault}
use Rattle.pb_fields.proofs.Parts.{fits_row}
use Rattle.pb_fields.proofs.Nested.{message_of}
use Rattle.codec_laws.specs.Answers.{AreBytes, HasAnswer, right, wrong}
use Rattle.codec_laws.proofs.Contents.{HoldsBytes, AllHoldBytes, contents_are}
use Rattle.codec_laws.proofs.Fields.{FieldsAnswer, fields_answer}

-- Every content of bytes, in a field of any number, is right, or something is wrong with it.
abbrev pub AreJudged : (ℕ → List ℕ → Type 0) → (ℕ → List ℕ → MessageFault → Type 0) → Type 0
AreJudged Right Wrong = (n : ℕ) (content : List ℕ) → AreBytes content → Right n content ⊎ ((e : MessageFault) × Wrong n content e)

-- ---- a field

same_row : (r q : Row) → ◌≡◌ {A = Option Row} (Some r) (Some q) → r ≡ q
same_row r q e = cc

same_content : (a b : List ℕ) → ◌≡◌ {A = Value} (value.Bytes a) (value.Bytes b) → a ≡ b
same_content a b e = cc

-- a value of another type than its row's
other_type : (rows : List Row) (f : Field) (r : Row) (v : Value) (k : Form) → row_of rows f.number ≡ Some r → f.value ≡ v → r.form ≡ k → wire_type v ≢ form_type k → IsWrong rows f (fault.WrongWire f.number)
other_type rows f r v k is v-is k-is differs =
    type_differs r is (λ e. differs (ap (λ (x : Value). wire_type x) (sym v-is) ∙ e ∙ ap (λ (x : Form). form_type x) k-is)) refl

has_form : (r : Row) (v w : Value) (k : Form) → w ≡ v → r.form ≡ k → HasForm v k → HasForm w r.form
has_form r v w k v-is k-is h = rw (v-is, k-is) h

-- a row of another form holds no message
no_message : (rows : List Row) (f : Field) (r : Row) (k : Form) → row_of rows f.number ≡ Some r → r.form ≡ k → k ≢ form.Message → (content : List ℕ) → Holds rows f content → ⊥
no_message rows f r k is k-is other content h =
    let same : r ≡ h.row = same_row r h.row (sym is ∙ h.known) in
    other (sym k-is ∙ ap (λ (q : Row). q.form) same ∙ h.message)

both_ways : {b : Bool} → b ≡ true → b ≡ false → ⊥
both_ways h k = let e : ◌≡◌ {A = Bool} true false = sym h ∙ k in cc

-- a number of fixed length is of no form
no_form_64 : (k : Form) → wire.Fixed64 ≢ form_type k
no_form_64 form.Varint e = cc
no_form_64 form.Text e = cc
no_form_64 form.Message e = cc

no_form_32 : (k : Form) → wire.Fixed32 ≢ form_type k
no_form_32 form.Varint e = cc
no_form_32 form.Text e = cc
no_form_32 form.Message e = cc

module _ (Right : ℕ → List ℕ → Type 0) (Wrong : ℕ → List ℕ → MessageFault → Type 0) (judged : AreJudged Right Wrong) where
  abbrev FieldJudged : List Row → Field → Type 0
  FieldJudged rows f = FitsWith Right rows f ⊎ ((e : MessageFault) × IsWrongWith Wrong rows f e)

  fits_alone : (rows : List Row) (f : Field) (r : Row) (v : Value) (k : Form) → row_of rows f.number ≡ Some r → f.value ≡ v → r.form ≡ k → HasForm v k → k ≢ form.Message → FieldJudged rows f
  fits_alone rows f r v k is v-is k-is h other = inl (record {
    fits = fits_row rows f.number r f.value is (has_form r v f.value k v-is k-is h);
    holds = λ content held. absurd (no_message rows f r k is k-is other content held);
  })

  text_judged : (rows : List Row) (f : Field) (r : Row) (content : List ℕ) → row_of rows f.number ≡ Some r → f.value ≡ value.Bytes content → r.form ≡ form.Text → FieldJudged rows f
  text_judged rows f r content is v-is k-is =
      elim (cases_Bool (is_utf8 content)) [
        | inl utf8 ↦ fits_alone rows f r (value.Bytes content) form.Text is v-is k-is (IsUtf8-from_is_utf8 content utf8) (λ e. cc)
        | inr other ↦ inr (fault.NotText f.number, by_row (not_text r content is k-is v-is (λ u. let utf8 = is_utf8-from_IsUtf8 content u in absurd (both_ways utf8 other)) refl))
      ]

  message_judged : (rows : List Row) (f : Field) (r : Row) (content : List ℕ) → row_of rows f.number ≡ Some r → f.value ≡ value.Bytes content → r.form ≡ form.Message → AreBytes content → FieldJudged rows f
  message_judged rows f r content is v-is k-is are =
      elim (judged f.number content are) [
        | inl good ↦ inl (record {
          fits = fits_row rows f.number r f.value is (has_form r (value.Bytes content) f.value form.Message v-is k-is tt);
          holds = λ c held. subst (λ (z : List ℕ). Right f.number z) (same_content content c (sym v-is ∙ held.value)) good;
        })
        | inr bad ↦ inr (bad.0, within content (record { row = r; known = is; message = k-is; value = v-is }) bad.1)
      ]

  by_value : (rows : List Row) (f : Field) (r : Row) (v : Value) (k : Form) → row_of rows f.number ≡ Some r → f.value ≡ v → r.form ≡ k → HoldsBytes v → FieldJudged rows f
  by_value rows f r (value.Varint n) form.Varint is v-is k-is are = fits_alone rows f r (value.Varint n) form.Varint is v-is k-is tt (λ e. cc)
  by_value rows f r (value.Bytes content) form.Text is v-is k-is are = text_judged rows f r content is v-is k-is
  by_value rows f r (value.Bytes content) form.Message is v-is k-is are = message_judged rows f r content is v-is k-is are
  by_value rows f r (value.Varint n) form.Text is v-is k-is are = inr (fault.WrongWire f.number, by_row (other_type rows f r (value.Varint n) form.Text is v-is k-is (λ e. cc)))
  by_value rows f r (value.Varint n) form.Message is v-is k-is are = inr (fault.WrongWire f.number, by_row (other_type rows f r (value.Varint n) form.Message is v-is k-is (λ e. cc)))
  by_value rows f r (value.Bytes content) form.Varint is v-is k-is are = inr (fault.WrongWire f.number, by_row (other_type rows f r (value.Bytes content) form.Varint is v-is k-is (λ e. cc)))
  by_value rows f r (value.Fixed64 n) k is v-is k-is are = inr (fault.WrongWire f.number, by_row (other_type rows f r (value.Fixed64 n) k is v-is k-is (no_form_64 k)))
  by_value rows f r (value.Fixed32 n) k is v-is k-is are = inr (fault.WrongWire f.number, by_row (other_type rows f r (value.Fixed32 n) k is v-is k-is (no_form_32 k)))

  by_row_of : (rows : List Row) (f : Field) (o : Option Row) → row_of rows f.number ≡ o → HoldsBytes f.value → FieldJudged rows f
  by_row_of rows f None is are = inl (record { fits = λ r e. absurd cc; holds = λ content h. absurd (let known = h.known in cc) })
  by_row_of rows f (Some r) is are = by_value rows f r f.value r.form is refl refl are

  -- ---- fields

  list_judged : (rows : List Row) (fs : List Field) → AllHoldBytes fs → AllByRecursion (FitsWith Right rows) fs ⊎ ((e : MessageFault) × FirstWrong (FitsWith Right rows) (IsWrongWith Wrong rows) fs e)
  list_judged rows [] are = inl tt
  list_judged rows (f ∷ fs) are =
      elim (by_row_of rows f (row_of rows f.number) refl are.0) [
        | inr bad ↦ inr (bad.0, here bad.1)
        | inl good ↦ elim (list_judged rows fs are.1) [ inl all ↦ inl (good, all) | inr bad ↦ inr (bad.0, later good bad.1) ]
      ]

  complete_or : (rows : List Row) (fs : List Field) (o : Option ℕ) → lowest_absent rows fs ≡ o → AllByRecursion (FitsWith Right rows) fs → IsMessageWith Right rows fs ⊎ ((e : MessageFault) × WrongFieldsWith Right Wrong rows fs e)
  complete_or rows fs None is all = inl (record { fit = all; complete = is })
  complete_or rows fs (Some n) is all = inr (fault.Missing n, missing n all is refl)

  pub of_fields : (rows : List Row) (fs : List Field) → AllHoldBytes fs → IsMessageWith Right rows fs ⊎ ((e : MessageFault) × WrongFieldsWith Right Wrong rows fs e)
  of_fields rows fs are =
      elim (list_judged rows fs are) [
        | inl all ↦ complete_or rows fs (lowest_absent rows fs) refl all
        | inr bad ↦ inr (bad.0, field bad.1)
      ]

  -- ---- bytes

  abbrev pub MessageAnswer : List Row → List ℕ → Type 0
  MessageAnswer rows bytes = HasAnswer {X = List Field} {E = MessageFault} (λ fs. IsText bytes fs × IsMessageWith Right rows fs) (λ e. WrongMessageWith Right Wrong rows bytes e)

  of_read : (rows : List Row) (bytes : List ℕ) → AreBytes bytes → FieldsAnswer bytes → MessageAnswer rows bytes
  of_read rows bytes are (wrong why h) = wrong (fault.Pb (fault_at why h.0)) (no_fields why h.0 h.1 refl)
  of_read rows bytes are (right fs is) =
      elim (of_fields rows fs (contents_are is are)) [
        | inl good ↦ right fs (is, good)
        | inr bad ↦ wrong bad.0 (wrong_fields fs is bad.1)
      ]

  pub message_answer : (rows : List Row) (bytes : List ℕ) → AreBytes bytes → MessageAnswer rows bytes
  message_answer rows bytes are = of_read rows bytes are (fields_answer bytes are)

  text_or_wrong : (rows : List Row) (bytes : List ℕ) → MessageAnswer rows bytes → IsMessageText Right rows bytes ⊎ ((e : MessageFault) × WrongMessageWith Right Wrong rows bytes e)
  text_or_wrong rows bytes (right fs h) = inl (record { fields = fs; text = h.0; message = h.1 })
  text_or_wrong rows bytes (wrong e h) = inr (e, h)

  -- messages that are held by others
  pub table_judged : (rows : List Row) → AreJudged (λ n. IsMessageText Right rows) (λ n. WrongMessageWith Right Wrong rows)
  table_judged rows n content are = text_or_wrong rows content (message_answer rows content are)

pub any_judged : AreJudged AnyContent NoFault
any_judged n content are = inl tt

-- ---- where nothing is asked of what a message holds

wrong_alone : (rows : List Row) (f : Field) (e : MessageFault) → IsWrongWith NoFault rows f e → IsWrong rows f e
wrong_alone rows f e (by_row h) = h
wrong_alone rows f e (within content holds h) = absurd h

first_alone : (rows : List Row) (fs : List Field) (e : MessageFault) → FirstWrong (FitsWith AnyContent rows) (IsWrongWith NoFault rows) fs e → FirstWrong (Fits rows) (IsWrong rows) fs e
first_alone rows [] e h = elim h [ ]
first_alone rows (f ∷ fs) e (here h) = here (wrong_alone rows f e h)
first_alone rows (f ∷ fs) e (later good h) = later good.fits (first_alone rows fs e h)

all_alone : (rows : List Row) (fs : List Field) → AllByRecursion (FitsWith AnyContent rows) fs → AllByRecursion (Fits rows) fs
all_alone rows [] all = tt
all_alone rows (f ∷ fs) all = (all.0.fits, all_alone rows fs all.1)

fields_alone : (rows : List Row) (fs : List Field) (e : MessageFault) → WrongFieldsWith AnyContent NoFault rows fs e → WrongFields rows fs e
fields_alone rows fs e (field h) = plain.field (first_alone rows fs e h)
fields_alone rows fs e (missing n all is e-is) = plain.missing n (all_alone rows fs all) is e-is

message_alone : (rows : List Row) (bytes : List ℕ) (e : MessageFault) → WrongMessageWith AnyContent NoFault rows bytes e → WrongMessage rows bytes e
message_alone rows bytes e (no_fields why at h e-is) = plain.no_fields why at h e-is
message_alone rows bytes e (wrong_fields fs is h) = plain.wrong_fields fs is (fields_alone rows fs e h)

abbrev pub PlainAnswer : List Row → List ℕ → Type 0
PlainAnswer rows bytes = HasAnswer {X = List Field} {E = MessageFault} (λ fs. IsText bytes fs × IsMessage rows fs) (λ e. WrongMessage rows bytes e)

plain_of : (rows : List Row) (bytes : List ℕ) → MessageAnswer AnyContent NoFault any_judged rows bytes → PlainAnswer rows bytes
plain_of rows bytes (right fs h) = right fs (h.0, message_of AnyContent rows fs h.1)
plain_of rows bytes (wrong e h) = wrong e (message_alone rows bytes e h)

pub plain_answer : (rows : List Row) (bytes : List ℕ) → AreBytes bytes → PlainAnswer rows bytes
plain_answer rows bytes are = plain_of rows bytes (message_answer AnyContent NoFault any_judged rows bytes are)
