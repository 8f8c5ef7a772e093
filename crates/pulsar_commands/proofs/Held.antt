-- The message in the field of a type, as the fields are read one after another.
use Rattle.std.proofs.Common.{◌≡◌, ◌≢◌, ℕ, suc, ◌+◌, ◌<◌, length, take, drop, get_or, eqb, eq-eqb, ne_eqb, true, false, List, [], ◌∷◌, ◌++◌, Option, Some, None, inl, inr, refl, sym, ap, subst, ◌∙◌}
use Rattle.std.specs.Prelude.{IfOk, IfErr}
use Rattle.std.specs.Option.{ok_or}
use Rattle.std.specs.List.{AllByRecursion}
use Rattle.std.proofs.Math.Seq.{drop-cons}
use Rattle.std.proofs.lemmas.List.{take-append-drop, take_more}
use Rattle.std.proofs.lemmas.Bool.{cases_eq, cases_Bool}
use Rattle.pb_fields.specs.declared.field.Field.{Field}
use Rattle.pb_fields.specs.declared.field.Value.{Value}
use Rattle.pb_fields.specs.declared.field.Value.TheVariants as value
use Rattle.pb_fields.specs.declared.message.Form.TheVariants as form
use Rattle.pb_fields.specs.declared.message.MessageFault.{MessageFault}
use Rattle.pb_fields.specs.Message.{IsWrongOrMemory, row_of, has, lowest_absent, last_value, values, Fits, HasForm, IsMessage}
use Rattle.pb_fields.specs.Embedded.{Holds, FitsWith, IsMessageWith, IsWrongWith, WrongFieldsWith, field}
use Rattle.pb_fields.proofs.LastValues.{values-other, last_value-required}
use Rattle.pb_fields.proofs.Messages.{first_wrong, last_value-same, last_value-other}
use Rattle.pb_fields.proofs.Nested.{IsWrongOrMemory-weaker, message_of}
use Rattle.pulsar_commands.specs.declared.kind.Kind.{Kind}
use Rattle.pulsar_commands.specs.Table.{kind_number, required, rows_of, held_rows}
use Rattle.pulsar_commands.specs.Text.{IdRight, BodyRight, BodyWrong, IsLast}

-- ---- one field

-- its row
row_there : (k : Kind) (n : ℕ) → n ≡ kind_number k → row_of (held_rows k) n ≡ Some (required (kind_number k) form.Message)
row_there k n same = let test : eqb (kind_number k) n ≡ true = eq-eqb _ _ (sym same) in rw test refl

row_gone : (k : Kind) (n : ℕ) → (n ≡ kind_number k → ⊥) → row_of (held_rows k) n ≡ None
row_gone k n other = let test : eqb (kind_number k) n ≡ false = ne_eqb _ _ (λ e. other (sym e)) in rw test refl

-- a field of another number fits whatever it holds
pub other_fits : (k : Kind) (f : Field) → (f.number ≡ kind_number k → ⊥) → Fits (held_rows k) f → FitsWith (BodyRight k) (held_rows k) f
other_fits k f other fits = record { fits = fits; holds = λ content h. absurd (let gone = row_gone k f.number other in let known = h.known in cc) }

same_content : (a b : List ℕ) → ◌≡◌ {A = Value} (value.Bytes a) (value.Bytes b) → a ≡ b
same_content a b e = cc

-- a field fits whose content is right
pub content_fits : (k : Kind) (f : Field) (content : List ℕ) → Fits (held_rows k) f → f.value ≡ value.Bytes content → BodyRight k f.number content → FitsWith (BodyRight k) (held_rows k) f
content_fits k f content fits is right = record { fits = fits; holds = λ c h. subst (λ (x : List ℕ). BodyRight k f.number x) (same_content content c (sym is ∙ h.value)) right }

pub content_held : (k : Kind) (f : Field) (content : List ℕ) → f.number ≡ kind_number k → f.value ≡ value.Bytes content → Holds (held_rows k) f content
content_held k f content same is = record { row = required (kind_number k) form.Message; known = row_there k f.number same; message = refl; value = is }

form_there : (v : Value) → HasForm v form.Message → ((b : List ℕ) → v ≢ value.Bytes b) → ⊥
form_there (value.Bytes b) h none = none b refl
form_there v h none = absurd h

-- a field of the type's number that fits has a content
pub content_there : (k : Kind) (f : Field) → f.number ≡ kind_number k → Fits (held_rows k) f → ((b : List ℕ) → f.value ≢ value.Bytes b) → ⊥
content_there k f same fits none = form_there f.value (fits (required (kind_number k) form.Message) (row_there k f.number same)) none

pub last_alone : (k : Kind) (f : Field) → f.number ≡ kind_number k → last_value (kind_number k) (f ∷ []) ≡ Some f.value
last_alone k f same = last_value-same (kind_number k) [] f (eq-eqb _ _ same)

-- ---- the fields up to one

-- what is kept of them
pub record Kept (k : Kind) (fs : List Field) (held : List Field) : Type 0 where
  pub message : IsMessage (rows_of k) held
  pub ids : IsMessageWith IdRight (rows_of k) held
  pub last : IsLast k fs held

abbrev pub IsKept : Kind → List Field → Option (List Field) → Type 0
IsKept k fs None = last_value (kind_number k) fs ≡ None
IsKept k fs (Some held) = Kept k fs held

pub kept_other : (k : Kind) (fs : List Field) (f : Field) (o : Option (List Field)) → (f.number ≡ kind_number k → ⊥) → IsKept k fs o → IsKept k (fs ++ f ∷ []) o
kept_other k fs f None other h = last_value-other (kind_number k) fs f (ne_eqb _ _ other) ∙ h
kept_other k fs f (Some held) other h =
    record { message = h.message; ids = h.ids; last = record { content = h.last.content; is = last_value-other (kind_number k) fs f (ne_eqb _ _ other) ∙ h.last.is; text = h.last.text } }

pub last_more : (k : Kind) (fs : List Field) (f : Field) (held : List Field) → f.number ≡ kind_number k → IsLast k (f ∷ []) held → IsLast k (fs ++ f ∷ []) held
last_more k fs f held same h =
    record { content = h.content; is = last_value-same (kind_number k) fs f (eq-eqb _ _ same) ∙ sym (last_alone k f same) ∙ h.is; text = h.text }

pub all_more : (P : Field → Type 0) (fs : List Field) (f : Field) → AllByRecursion P fs → P f → AllByRecursion P (fs ++ f ∷ [])
all_more P [] f all h = (h, tt)
all_more P (g ∷ fs) f all h = (all.0, all_more P fs f all.1 h)

-- ---- all fields

values_gone : (n : ℕ) (fs : List Field) → has fs n ≡ false → values n fs ≡ []
values_gone n [] gone = refl
values_gone n (f ∷ fs) gone =
    elim (cases_eq f.number n) [
      | inl same ↦ absurd (let test : eqb f.number n ≡ true = eq-eqb _ _ same in let h = rw test at gone in cc)
      | inr other ↦ (let test : eqb f.number n ≡ false = ne_eqb _ _ other in values-other n f fs other ∙ values_gone n fs (rw test at gone))
    ]

complete_there : (k : Kind) (fs : List Field) → has fs (kind_number k) ≡ true → lowest_absent (held_rows k) fs ≡ None
complete_there k fs there = rw there refl

-- the required field is there
pub complete : (k : Kind) (fs held : List Field) → IsLast k fs held → lowest_absent (held_rows k) fs ≡ None
complete k fs held last =
    elim (cases_Bool (has fs (kind_number k))) [
      | inl there ↦ complete_there k fs there
      | inr gone ↦ absurd (let nothing = values_gone (kind_number k) fs gone in let is = last.is in let none : last_value (kind_number k) fs ≡ None = rw nothing refl in cc)
    ]

-- the required field is missing
pub lacking : (k : Kind) (fs : List Field) → AllByRecursion (FitsWith (BodyRight k) (held_rows k)) fs → last_value (kind_number k) fs ≡ None → lowest_absent (held_rows k) fs ≡ Some (kind_number k)
lacking k fs fit none =
    elim (cases_Bool (has fs (kind_number k))) [
      | inl there ↦ absurd (last_value-required (held_rows k) (kind_number k) _ fs (row_there k (kind_number k) refl) refl (message_of (BodyRight k) (held_rows k) fs (record { fit = fit; complete = complete_there k fs there })) none)
      | inr gone ↦ rw gone refl
    ]

-- ---- what is answered

pub kept_ok : (P : List Field → Type 0) (k : Kind) (fs : List Field) (o : Option (List Field)) (e : MessageFault) → ((h : List Field) → Kept k fs h → P h) → IsKept k fs o → IfOk (ok_or o e) P
kept_ok P k fs None e f h = tt
kept_ok P k fs (Some held) e f h = f held h

pub kept_err : (P : MessageFault → Type 0) (k : Kind) (fs : List Field) (o : Option (List Field)) (e : MessageFault) → (last_value (kind_number k) fs ≡ None → P e) → IsKept k fs o → IfErr (ok_or o e) P
kept_err P k fs None e f h = f h
kept_err P k fs (Some held) e f h = tt

-- one field more
pub one_more : (fs : List Field) (i : ℕ) (f : Field) → i < length fs → f ≡ get_or fs i f → take (i + 1) fs ≡ take i fs ++ f ∷ []
one_more fs i f lt is = take_more fs i f lt ∙ ap (λ (x : Field). take i fs ++ x ∷ []) (sym is)

-- the first wrong field
pub wrong_field : (k : Kind) (fs : List Field) (i : ℕ) (f : Field) (e : MessageFault) → i < length fs → f ≡ get_or fs i f → AllByRecursion (FitsWith (BodyRight k) (held_rows k)) (take i fs) → IsWrongOrMemory (IsWrongWith (BodyWrong k) (held_rows k) f) e → IsWrongOrMemory (WrongFieldsWith (BodyRight k) (BodyWrong k) (held_rows k) fs) e
wrong_field k fs i f e lt is fit wrong =
    let parts : fs ≡ take i fs ++ f ∷ drop (suc i) fs = sym (take-append-drop i fs) ∙ ap (λ (xs : List Field). take i fs ++ xs) (drop-cons fs i f lt ∙ ap (λ (x : Field). x ∷ drop (suc i) fs) (sym is)) in
    rw parts (IsWrongOrMemory-weaker _ _ _ (λ e wrong. field (first_wrong (FitsWith (BodyRight k) (held_rows k)) (IsWrongWith (BodyWrong k) (held_rows k)) (take i fs) f (drop (suc i) fs) e fit wrong)) wrong)
