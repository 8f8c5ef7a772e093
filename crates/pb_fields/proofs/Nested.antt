-- Messages that hold messages: the judgement gives one answer.
use Rattle.std.proofs.Common.{◌≡◌, ◌≢◌, ℕ, List, [], ◌∷◌, Option, Some, None, Result, Ok, Err, inl, inr, refl, sym, ap, subst, ◌∙◌}
use Rattle.std.specs.Prelude.{IfOk, IfErr, IfSome, MatchOption}
use Rattle.std.specs.Option.{option_copied, option_map}
use Rattle.std.specs.Borrow.{Bor}
use Rattle.std.specs.List.{AllByRecursion, last_or}
use Rattle.std.proofs.lemmas.Bool.{cases_eq}
use Rattle.pb_fields.specs.declared.field.Field.{Field}
use Rattle.pb_fields.specs.declared.field.Value.{Value}
use Rattle.pb_fields.specs.declared.field.Value.TheVariants as value
use Rattle.pb_fields.specs.declared.message.Form.{Form}
use Rattle.pb_fields.specs.declared.message.Form.TheVariants as form
use Rattle.pb_fields.specs.declared.message.Row.{Row}
use Rattle.pb_fields.specs.declared.fault.FieldFault.TheVariants as why
use Rattle.pb_fields.specs.declared.fault.PbFault.{PbFault}
use Rattle.pb_fields.specs.declared.fault.PbFault.TheVariants as pb
use Rattle.pb_fields.specs.declared.message.MessageFault.{MessageFault}
use Rattle.pb_fields.specs.declared.message.MessageFault.TheVariants as fault
use Rattle.pb_fields.specs.Text.{IsText}
use Rattle.pb_fields.specs.Faults.{IsFaultOf, Answers}
use Rattle.pb_fields.specs.Message.{row_of, HasForm, Fits, values, last_value, IsMessage, IsWrongOrMemory, pb_fault}
use Rattle.pb_fields.specs.Embedded.{Holds, FitsWith, IsMessageWith, IsMessageText, IsWrongWith, by_row, within, WrongFieldsWith, field, missing, WrongMessageWith, no_fields, wrong_fields, IsExact, AnyContent, NoFault}
use Rattle.pb_fields.proofs.Unique.{text_one, fault_one, fault_sound}
use Rattle.pb_fields.proofs.LastValues.{values-same, values-other}
use Rattle.pb_fields.proofs.Messages.{first_one, none_wrong, fits_or_wrong, wrong_one}
use Rattle.geo_base.proofs.Results.{some_number}

pub IsWrongOrMemory-weaker : (P Q : MessageFault → Type 0) (e : MessageFault) → ((e : MessageFault) → P e → Q e) → IsWrongOrMemory P e → IsWrongOrMemory Q e
IsWrongOrMemory-weaker P Q (fault.Pb x) f h = f (fault.Pb x) h
IsWrongOrMemory-weaker P Q (fault.WrongWire x) f h = f (fault.WrongWire x) h
IsWrongOrMemory-weaker P Q (fault.NotText x) f h = f (fault.NotText x) h
IsWrongOrMemory-weaker P Q (fault.Missing x) f h = f (fault.Missing x) h
IsWrongOrMemory-weaker P Q fault.Memory f h = tt

pub IsWrongOrMemory-of : (P : MessageFault → Type 0) (e : MessageFault) → P e → IsWrongOrMemory P e
IsWrongOrMemory-of P (fault.Pb x) h = h
IsWrongOrMemory-of P (fault.WrongWire x) h = h
IsWrongOrMemory-of P (fault.NotText x) h = h
IsWrongOrMemory-of P (fault.Missing x) h = h
IsWrongOrMemory-of P fault.Memory h = tt

pub err_weaker : {X : Type 0} (P Q : MessageFault → Type 0) (r : Result X MessageFault) → ((e : MessageFault) → P e → Q e) → IfErr r (IsWrongOrMemory P) → IfErr r (IsWrongOrMemory Q)
err_weaker P Q (Ok x) f h = tt
err_weaker P Q (Err e) f h = IsWrongOrMemory-weaker P Q e f h

-- a field that holds a message has its row's form
holds_fits : (rows : List Row) (f : Field) (content : List ℕ) → Holds rows f content → Fits rows f
holds_fits rows f content h = λ r e.
    let same : h.row ≡ r = some_is h.row r (sym h.known ∙ e) in
    let message : r.form ≡ form.Message = ap (λ (k : Row). k.form) (sym same) ∙ h.message in
    rw (h.value, message) tt
  where
    some_is : (x y : Row) → ◌≡◌ {A = Option Row} (Some x) (Some y) → x ≡ y
    some_is x y e = cc

same_content : (f : Field) (a b : List ℕ) → f.value ≡ value.Bytes a → f.value ≡ value.Bytes b → a ≡ b
same_content f a b h k = bytes_are (sym h ∙ k)
  where
    bytes_are : ◌≡◌ {A = Value} (value.Bytes a) (value.Bytes b) → a ≡ b
    bytes_are e = cc

module _ (Right : ℕ → List ℕ → Type 0) (Wrong : ℕ → List ℕ → MessageFault → Type 0) (exact : IsExact Right Wrong) where
  pub field_sound : (rows : List Row) (f : Field) (e : MessageFault) → FitsWith Right rows f → IsWrongWith Wrong rows f e → ⊥
  field_sound rows f e right (by_row wrong) = fits_or_wrong rows f e right.fits wrong
  field_sound rows f e right (within content h wrong) = exact.either f.number content e (right.holds content h) wrong

  pub field_one : (rows : List Row) (f : Field) (a b : MessageFault) → IsWrongWith Wrong rows f a → IsWrongWith Wrong rows f b → a ≡ b
  field_one rows f a b (by_row h) (by_row k) = wrong_one rows f a b h k
  field_one rows f a b (by_row h) (within content holds k) = absurd (fits_or_wrong rows f a (holds_fits rows f content holds) h)
  field_one rows f a b (within content holds h) (by_row k) = absurd (fits_or_wrong rows f b (holds_fits rows f content holds) k)
  field_one rows f a b (within content holds h) (within content' holds' k) =
      exact.one f.number content' a b (subst (λ (c : List ℕ). Wrong f.number c a) (same_content f content content' holds.value holds'.value) h) k

  pub fields_one : (rows : List Row) (fs : List Field) (a b : MessageFault) → WrongFieldsWith Right Wrong rows fs a → WrongFieldsWith Right Wrong rows fs b → a ≡ b
  fields_one rows fs a b (field h) (field k) = first_one (FitsWith Right rows) (IsWrongWith Wrong rows) (field_sound rows) (field_one rows) fs a b h k
  fields_one rows fs a b (field h) (missing n fit is b-is) = absurd (none_wrong (FitsWith Right rows) (IsWrongWith Wrong rows) (field_sound rows) fs _ fit h)
  fields_one rows fs a b (missing n fit is a-is) (field k) = absurd (none_wrong (FitsWith Right rows) (IsWrongWith Wrong rows) (field_sound rows) fs _ fit k)
  fields_one rows fs a b (missing m fit is a-is) (missing n fit' is' b-is) = a-is ∙ ap (λ (x : ℕ). fault.Missing x) (some_number m n (sym is ∙ is')) ∙ sym b-is

  pub fields_sound : (rows : List Row) (fs : List Field) (e : MessageFault) → IsMessageWith Right rows fs → WrongFieldsWith Right Wrong rows fs e → ⊥
  fields_sound rows fs e right (field h) = none_wrong (FitsWith Right rows) (IsWrongWith Wrong rows) (field_sound rows) fs _ right.fit h
  fields_sound rows fs e right (missing n fit is e-is) = (let h = right.complete in cc)

  pub message_one : (rows : List Row) (bytes : List ℕ) (a b : MessageFault) → WrongMessageWith Right Wrong rows bytes a → WrongMessageWith Right Wrong rows bytes b → a ≡ b
  message_one rows bytes a b (no_fields why at h a-is) (no_fields why' at' k b-is) =
      let one = fault_one bytes why why' at at' h k in a-is ∙ (let p = one.0 in let q = one.1 in cc) ∙ sym b-is
  message_one rows bytes a b (no_fields why at h a-is) (wrong_fields fs is k) = absurd (fault_sound bytes fs why at is h)
  message_one rows bytes a b (wrong_fields fs is h) (no_fields why at k b-is) = absurd (fault_sound bytes fs why at is k)
  message_one rows bytes a b (wrong_fields fs is h) (wrong_fields gs is' k) =
      fields_one rows gs a b (subst (λ (x : List Field). WrongFieldsWith Right Wrong rows x a) (text_one is is') h) k

  pub message_sound : (rows : List Row) (bytes : List ℕ) (fs : List Field) (e : MessageFault) → IsText bytes fs → IsMessageWith Right rows fs → WrongMessageWith Right Wrong rows bytes e → ⊥
  message_sound rows bytes fs e is right (no_fields why at h e-is) = fault_sound bytes fs why at is h
  message_sound rows bytes fs e is right (wrong_fields gs is' h) = fields_sound rows gs e (subst (λ (x : List Field). IsMessageWith Right rows x) (text_one is is') right) h

  -- the judgement of embedded messages of a table is exact where that of what they hold is
  pub of_table : (rows : List Row) → IsExact (λ n. IsMessageText Right rows) (λ n. WrongMessageWith Right Wrong rows)
  of_table rows = record {
    either = λ n content e right wrong. message_sound rows content right.fields e right.text right.message wrong;
    one = λ n content a b. message_one rows content a b;
  }

  -- ---- what a reader answers

  pub only_with : (rows : List Row) (bytes : List ℕ) (r : Result (List Field) MessageFault) → IfOk r (λ fs. IsText bytes fs × IsMessageWith Right rows fs) → IfErr r (IsWrongOrMemory (WrongMessageWith Right Wrong rows bytes)) → (fs : List Field) → IsText bytes fs → IsMessageWith Right rows fs → Answers fault.Memory r (Ok fs)
  only_with rows bytes (Ok gs) found wrong fs is right = inr (let same = text_one is found.0 in cc)
  only_with rows bytes (Err fault.Memory) found wrong fs is right = inl refl
  only_with rows bytes (Err (fault.Pb x)) found wrong fs is right = absurd (message_sound rows bytes fs (fault.Pb x) is right wrong)
  only_with rows bytes (Err (fault.WrongWire x)) found wrong fs is right = absurd (message_sound rows bytes fs (fault.WrongWire x) is right wrong)
  only_with rows bytes (Err (fault.NotText x)) found wrong fs is right = absurd (message_sound rows bytes fs (fault.NotText x) is right wrong)
  only_with rows bytes (Err (fault.Missing x)) found wrong fs is right = absurd (message_sound rows bytes fs (fault.Missing x) is right wrong)

  pub refused_with : (rows : List Row) (bytes : List ℕ) (r : Result (List Field) MessageFault) → IfOk r (λ fs. IsText bytes fs × IsMessageWith Right rows fs) → IfErr r (IsWrongOrMemory (WrongMessageWith Right Wrong rows bytes)) → (e : MessageFault) → WrongMessageWith Right Wrong rows bytes e → Answers fault.Memory r (Err e)
  refused_with rows bytes (Ok gs) found wrong e h = absurd (message_sound rows bytes gs e found.0 found.1 h)
  refused_with rows bytes (Err fault.Memory) found wrong e h = inl refl
  refused_with rows bytes (Err (fault.Pb x)) found wrong e h = inr (let same = message_one rows bytes (fault.Pb x) e wrong h in cc)
  refused_with rows bytes (Err (fault.WrongWire x)) found wrong e h = inr (let same = message_one rows bytes (fault.WrongWire x) e wrong h in cc)
  refused_with rows bytes (Err (fault.NotText x)) found wrong e h = inr (let same = message_one rows bytes (fault.NotText x) e wrong h in cc)
  refused_with rows bytes (Err (fault.Missing x)) found wrong e h = inr (let same = message_one rows bytes (fault.Missing x) e wrong h in cc)

-- where nothing is asked
pub unread_exact : IsExact AnyContent NoFault
unread_exact = record { either = λ n content e r w. w; one = λ n content a b w v. absurd w }

-- fields that are a message with what they hold are one without
pub message_of : (Right : ℕ → List ℕ → Type 0) (rows : List Row) (fs : List Field) → IsMessageWith Right rows fs → IsMessage rows fs
message_of Right rows fs h = record { fit = fits_of fs h.fit; complete = h.complete }
  where
    fits_of : (fs : List Field) → AllByRecursion (FitsWith Right rows) fs → AllByRecursion (Fits rows) fs
    fits_of [] h = tt
    fits_of (f ∷ fs) h = (h.0.fits, fits_of fs h.1)

pub pb_wrong_with : (Right : ℕ → List ℕ → Type 0) (Wrong : ℕ → List ℕ → MessageFault → Type 0) (rows : List Row) (bytes : List ℕ) (e : PbFault) → IsFaultOf bytes e → IsWrongOrMemory (WrongMessageWith Right Wrong rows bytes) (pb_fault e)
pb_wrong_with Right Wrong rows bytes (pb.Truncated at) h = no_fields why.Truncated at h refl
pb_wrong_with Right Wrong rows bytes (pb.Varint at) h = no_fields why.Varint at h refl
pb_wrong_with Right Wrong rows bytes (pb.WireType at) h = no_fields why.WireType at h refl
pb_wrong_with Right Wrong rows bytes (pb.FieldZero at) h = no_fields why.FieldZero at h refl
pb_wrong_with Right Wrong rows bytes pb.Memory h = tt

-- ---- what is held

-- a value that is a right content
pub record IsHeld (P : List ℕ → Type 0) (v : Value) : Type 0 where
  pub content : List ℕ
  pub is : v ≡ value.Bytes content
  pub right : P content

-- a value with a message's form has a content
content_there : (v : Value) → HasForm v form.Message → (content : List ℕ) × (v ≡ value.Bytes content)
content_there (value.Bytes content) h = (content, refl)
content_there v h = absurd h

field_held : (Right : ℕ → List ℕ → Type 0) (rows : List Row) (n : ℕ) (r : Row) (f : Field) → row_of rows n ≡ Some r → r.form ≡ form.Message → f.number ≡ n → FitsWith Right rows f → IsHeld (Right n) f.value
field_held Right rows n r f is message same right =
    let known : row_of rows f.number ≡ Some r = ap (λ (k : ℕ). row_of rows k) same ∙ is in
    let found = content_there f.value (subst (λ (k : Form). HasForm f.value k) message (right.fits r known)) in
    record {
      content = found.0;
      is = found.1;
      right = subst (λ (k : ℕ). Right k found.0) same (right.holds found.0 (record { row = r; known = known; message = message; value = found.1 }));
    }

pub values_held : (Right : ℕ → List ℕ → Type 0) (rows : List Row) (n : ℕ) (r : Row) (fs : List Field) → row_of rows n ≡ Some r → r.form ≡ form.Message → AllByRecursion (FitsWith Right rows) fs → AllByRecursion (IsHeld (Right n)) (values n fs)
values_held Right rows n r [] is message fit = tt
values_held Right rows n r (f ∷ fs) is message fit =
    elim (cases_eq f.number n) [
      | inl same ↦ rw (values-same n f fs same) (field_held Right rows n r f is message same fit.0, values_held Right rows n r fs is message fit.1)
      | inr other ↦ rw (values-other n f fs other) (values_held Right rows n r fs is message fit.1)
    ]

last_all : (P : Value → Type 0) (vs : List Value) (o : Option Value) → IfSome o P → AllByRecursion P vs → IfSome (last_or o vs) P
last_all P [] o h all = h
last_all P (v ∷ vs) o h all = last_all P vs (Some v) all.0 all.1

pub last_held : (Right : ℕ → List ℕ → Type 0) (rows : List Row) (n : ℕ) (r : Row) (fs : List Field) → row_of rows n ≡ Some r → r.form ≡ form.Message → IsMessageWith Right rows fs → IfSome (last_value n fs) (IsHeld (Right n))
last_held Right rows n r fs is message h = last_all (IsHeld (Right n)) (values n fs) None tt (values_held Right rows n r fs is message h.fit)

-- the content of a value that is there
pub held_right : (P : List ℕ → Type 0) (o : Option Value) (content : List ℕ) → IfSome o (IsHeld P) → o ≡ Some (value.Bytes content) → P content
held_right P None content h e = absurd cc
held_right P (Some v) content h e = subst (λ (c : List ℕ). P c) (let is = h.is in bytes_are h.content content (sym is ∙ some_are v (value.Bytes content) e)) h.right
  where
    some_are : (x y : Value) → ◌≡◌ {A = Option Value} (Some x) (Some y) → x ≡ y
    some_are x y e = cc

    bytes_are : (a b : List ℕ) → ◌≡◌ {A = Value} (value.Bytes a) (value.Bytes b) → a ≡ b
    bytes_are a b e = cc

pub message_there : (P : List ℕ → Type 0) (o : Option Value) → IfSome o (IsHeld P) → ((b : List ℕ) → o ≢ Some (value.Bytes b)) → o ≡ None
message_there P None h none = refl
message_there P (Some v) h none = absurd (none h.content (ap (λ (x : Value). Some x) h.is))

-- what the reader of one content answers
pub optional_content : (P : List ℕ → Type 0) (o : Option Value) (r : Option (Bor (List ℕ))) → IfSome o (IsHeld P) → MatchOption r ((b : List ℕ) → o ≢ Some (value.Bytes b)) (λ b. o ≡ Some (value.Bytes b.now)) → o ≡ option_map value.Bytes (option_copied r)
optional_content P o (Some b) h found = found
optional_content P o None h none = message_there P o h none

pub optional_right : (P : List ℕ → Type 0) (o : Option Value) (r : Option (Bor (List ℕ))) → IfSome o (IsHeld P) → MatchOption r ((b : List ℕ) → o ≢ Some (value.Bytes b)) (λ b. o ≡ Some (value.Bytes b.now)) → IfSome (option_copied r) P
optional_right P o (Some b) h found = held_right P o b.now h found
optional_right P o None h none = tt
