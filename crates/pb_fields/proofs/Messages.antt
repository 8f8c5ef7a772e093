-- Messages over fields: what a loop over rows or fields keeps, and that the judgement gives one answer.
use Rattle.std.proofs.Common.{◌≡◌, ◌≢◌, ℕ, min, Bool, true, false, eqb, cond, List, [], ◌∷◌, ◌++◌, Option, Some, None, Result, Ok, Err, inl, inr, map, refl, sym, ap, subst, ◌∙◌}
use Rattle.std.specs.Prelude.{filter, not, ◌&&◌, fold, is_none, IfOk, IfErr}
use Rattle.std.specs.List.{AllByRecursion, reduce, last_or}
use Rattle.std.specs.Option.{option_map_or}
use Rattle.std.proofs.lemmas.List.{map-append, append-nil}
use Rattle.std.proofs.lemmas.List.Elements.{filter-append}
use Rattle.pb_fields.specs.declared.field.Field.{Field}
use Rattle.pb_fields.specs.declared.field.Value.{Value}
use Rattle.pb_fields.specs.declared.message.Row.{Row}
use Rattle.pb_fields.specs.declared.fault.FieldFault.TheVariants as why
use Rattle.pb_fields.specs.declared.fault.PbFault.{PbFault}
use Rattle.pb_fields.specs.declared.fault.PbFault.TheVariants as pb
use Rattle.pb_fields.specs.declared.field.Value.TheVariants as value
use Rattle.pb_fields.specs.declared.message.Form.{Form}
use Rattle.pb_fields.specs.declared.message.Form.TheVariants as form
use Rattle.pb_fields.specs.declared.message.MessageFault.{MessageFault}
use Rattle.pb_fields.specs.declared.message.MessageFault.TheVariants as fault
use Rattle.pb_fields.specs.Field.{wire_type}
use Rattle.pb_fields.specs.Text.{IsText}
use Rattle.pb_fields.specs.Faults.{IsFaultOf, Answers}
use Rattle.pb_fields.specs.Message.{row_of, form_type, HasForm, Fits, has, absent, lowest_absent, IsMessage, IsWrong, type_differs, not_text, FirstWrong, here, later, WrongFields, field, missing, WrongMessage, no_fields, wrong_fields, IsWrongOrMemory, values, last_value, pb_fault, IsUnknown, unknown}
use Rattle.pb_fields.proofs.Unique.{text_one, fault_one, fault_sound}

fold-push : (x n : ℕ) (xs : List ℕ) → fold min x (xs ++ n ∷ []) ≡ min (fold min x xs) n
fold-push x n [] = refl
fold-push x n (y ∷ xs) = fold-push (min x y) n xs

reduce-push : (xs : List ℕ) (n : ℕ) → reduce min (xs ++ n ∷ []) ≡ Some (option_map_or (λ m. min m n) (reduce min xs) n)
reduce-push [] n = refl
reduce-push (x ∷ xs) n = ap (λ (m : ℕ). Some m) (fold-push x n xs)

last_or-push : {X : Type 0} (xs : List X) (o : Option X) (y : X) → last_or o (xs ++ y ∷ []) ≡ Some y
last_or-push [] o y = refl
last_or-push (x ∷ xs) o y = last_or-push xs (Some x) y

-- one row more
absent-push : (rows : List Row) (r : Row) (fields : List Field) → absent (rows ++ r ∷ []) fields ≡ absent rows fields ++ absent (r ∷ []) fields
absent-push rows r fields =
    let test : Row → Bool = λ r. r.required && not (has fields r.number) in
    ap (λ (rs : List Row). map (λ r. r.number) rs) (filter-append test rows (r ∷ [])) ∙ map-append (λ r. r.number) (filter test rows) (filter test (r ∷ []))

pub lowest_absent-there : (rows : List Row) (r : Row) (fields : List Field) → (r.required && not (has fields r.number)) ≡ false → lowest_absent (rows ++ r ∷ []) fields ≡ lowest_absent rows fields
lowest_absent-there rows r fields there =
    let nothing : absent (r ∷ []) fields ≡ [] = rw there refl in
    ap (λ (xs : List ℕ). reduce min xs) (absent-push rows r fields ∙ ap (λ (xs : List ℕ). absent rows fields ++ xs) nothing ∙ append-nil (absent rows fields))

pub lowest_absent-missing : (rows : List Row) (r : Row) (fields : List Field) → (r.required && not (has fields r.number)) ≡ true → lowest_absent (rows ++ r ∷ []) fields ≡ Some (option_map_or (λ n. min n r.number) (lowest_absent rows fields) r.number)
lowest_absent-missing rows r fields gone =
    let one : absent (r ∷ []) fields ≡ r.number ∷ [] = rw gone refl in
    ap (λ (xs : List ℕ). reduce min xs) (absent-push rows r fields ∙ ap (λ (xs : List ℕ). absent rows fields ++ xs) one) ∙ reduce-push (absent rows fields) r.number

-- one field more
values-push : (n : ℕ) (fields : List Field) (f : Field) → values n (fields ++ f ∷ []) ≡ values n fields ++ values n (f ∷ [])
values-push n fields f =
    let test : Field → Bool = λ f. eqb f.number n in
    ap (λ (fs : List Field). map (λ f. f.value) fs) (filter-append test fields (f ∷ [])) ∙ map-append (λ f. f.value) (filter test fields) (filter test (f ∷ []))

pub last_value-same : (n : ℕ) (fields : List Field) (f : Field) → eqb f.number n ≡ true → last_value n (fields ++ f ∷ []) ≡ Some f.value
last_value-same n fields f same =
    let one : values n (f ∷ []) ≡ f.value ∷ [] = rw same refl in
    ap (λ (vs : List Value). last_or None vs) (values-push n fields f ∙ ap (λ (vs : List Value). values n fields ++ vs) one) ∙ last_or-push (values n fields) None f.value

pub last_value-other : (n : ℕ) (fields : List Field) (f : Field) → eqb f.number n ≡ false → last_value n (fields ++ f ∷ []) ≡ last_value n fields
last_value-other n fields f other =
    let nothing : values n (f ∷ []) ≡ [] = rw other refl in
    ap (λ (vs : List Value). last_or None vs) (values-push n fields f ∙ ap (λ (vs : List Value). values n fields ++ vs) nothing ∙ append-nil (values n fields))

-- ---- the judgement of fields

-- Right and Wrong may be those of any message: a field is not both, and one thing is wrong with it.
module _ (Right : Field → Type 0) (Wrong : Field → MessageFault → Type 0) where
  pub first_wrong : (front : List Field) (f : Field) (rest : List Field) (e : MessageFault) → AllByRecursion Right front → Wrong f e → FirstWrong Right Wrong (front ++ f ∷ rest) e
  first_wrong [] f rest e right wrong = here wrong
  first_wrong (g ∷ front) f rest e right wrong = later right.0 (first_wrong front f rest e right.1 wrong)

module _ (Right : Field → Type 0) (Wrong : Field → MessageFault → Type 0) (either : (f : Field) (e : MessageFault) → Right f → Wrong f e → ⊥) where
  pub none_wrong : (fs : List Field) (e : MessageFault) → AllByRecursion Right fs → FirstWrong Right Wrong fs e → ⊥
  none_wrong [] e right h = elim h [ ]
  none_wrong (f ∷ fs) e right (here h) = either f e right.0 h
  none_wrong (f ∷ fs) e right (later r h) = none_wrong fs e right.1 h

  pub first_one : (one : (f : Field) (a b : MessageFault) → Wrong f a → Wrong f b → a ≡ b) (fs : List Field) (a b : MessageFault) → FirstWrong Right Wrong fs a → FirstWrong Right Wrong fs b → a ≡ b
  first_one one [] a b h k = elim h [ ]
  first_one one (f ∷ fs) a b (here h) (here k) = one f a b h k
  first_one one (f ∷ fs) a b (here h) (later right k) = absurd (either f a right h)
  first_one one (f ∷ fs) a b (later right h) (here k) = absurd (either f b right k)
  first_one one (f ∷ fs) a b (later right h) (later right' k) = first_one one fs a b h k

pub fits_or_wrong : (rows : List Row) (f : Field) (e : MessageFault) → Fits rows f → IsWrong rows f e → ⊥
fits_or_wrong rows f e fit (type_differs r is differs e-is) = differs (same_type f.value r.form (fit r is))
  where
    same_type : (v : Value) (k : Form) → HasForm v k → wire_type v ≡ form_type k
    same_type (value.Varint n) form.Varint h = refl
    same_type (value.Bytes content) form.Text h = refl
    same_type (value.Bytes content) form.Message h = refl
    same_type v k h = absurd h
fits_or_wrong rows f e fit (not_text r content is text bytes broken e-is) =
    broken (let h = fit r is in let P : Value → Form → Type 0 = λ v k. HasForm v k in subst (λ (v : Value). P v form.Text) bytes (subst (λ (k : Form). P f.value k) text h))

-- a text has a text's type
text_type : (rows : List Row) (f : Field) (r r' : Row) (content : List ℕ) → row_of rows f.number ≡ Some r → row_of rows f.number ≡ Some r' → r'.form ≡ form.Text → f.value ≡ value.Bytes content → (wire_type f.value ≢ form_type r.form) → ⊥
text_type rows f r r' content is is' text bytes differs =
    let same : r ≡ r' = some_is r r' (sym is ∙ is') in
    differs (ap (λ (v : Value). wire_type v) bytes ∙ sym (ap (λ (k : Row). form_type k.form) same ∙ ap (λ (k : Form). form_type k) text))
  where
    some_is : (x y : Row) → ◌≡◌ {A = Option Row} (Some x) (Some y) → x ≡ y
    some_is x y e = cc

pub wrong_one : (rows : List Row) (f : Field) (a b : MessageFault) → IsWrong rows f a → IsWrong rows f b → a ≡ b
wrong_one rows f a b (type_differs r is differs a-is) (type_differs r' is' differs' b-is) = a-is ∙ sym b-is
wrong_one rows f a b (type_differs r is differs a-is) (not_text r' content is' text bytes broken b-is) = absurd (text_type rows f r r' content is is' text bytes differs)
wrong_one rows f a b (not_text r' content is' text bytes broken a-is) (type_differs r is differs b-is) = absurd (text_type rows f r r' content is is' text bytes differs)
wrong_one rows f a b (not_text r content is text bytes broken a-is) (not_text r' content' is' text' bytes' broken' b-is) = a-is ∙ sym b-is

pub fields_one : (rows : List Row) (fs : List Field) (a b : MessageFault) → WrongFields rows fs a → WrongFields rows fs b → a ≡ b
fields_one rows fs a b (field h) (field k) = first_one (Fits rows) (IsWrong rows) (fits_or_wrong rows) (wrong_one rows) fs a b h k
fields_one rows fs a b (field h) (missing n fit is b-is) = absurd (none_wrong (Fits rows) (IsWrong rows) (fits_or_wrong rows) fs _ fit h)
fields_one rows fs a b (missing n fit is a-is) (field k) = absurd (none_wrong (Fits rows) (IsWrong rows) (fits_or_wrong rows) fs _ fit k)
fields_one rows fs a b (missing m fit is a-is) (missing n fit' is' b-is) =
    a-is ∙ ap (λ (x : ℕ). fault.Missing x) (same_number m n (sym is ∙ is')) ∙ sym b-is
  where
    same_number : (x y : ℕ) → ◌≡◌ {A = Option ℕ} (Some x) (Some y) → x ≡ y
    same_number x y e = cc

pub fields_sound : (rows : List Row) (fs : List Field) (e : MessageFault) → IsMessage rows fs → WrongFields rows fs e → ⊥
fields_sound rows fs e right (field h) = none_wrong (Fits rows) (IsWrong rows) (fits_or_wrong rows) fs _ right.fit h
fields_sound rows fs e right (missing n fit is e-is) = (let h = right.complete in cc)

-- ---- the judgement of bytes

pub message_one : (rows : List Row) (bytes : List ℕ) (a b : MessageFault) → WrongMessage rows bytes a → WrongMessage rows bytes b → a ≡ b
message_one rows bytes a b (no_fields why at h a-is) (no_fields why' at' k b-is) =
    let one = fault_one bytes why why' at at' h k in a-is ∙ (let p = one.0 in let q = one.1 in cc) ∙ sym b-is
message_one rows bytes a b (no_fields why at h a-is) (wrong_fields fs is k) = absurd (fault_sound bytes fs why at is h)
message_one rows bytes a b (wrong_fields fs is h) (no_fields why at k b-is) = absurd (fault_sound bytes fs why at is k)
message_one rows bytes a b (wrong_fields fs is h) (wrong_fields gs is' k) =
    fields_one rows gs a b (subst (λ (x : List Field). WrongFields rows x a) (text_one is is') h) k

pub message_sound : (rows : List Row) (bytes : List ℕ) (fs : List Field) (e : MessageFault) → IsText bytes fs → IsMessage rows fs → WrongMessage rows bytes e → ⊥
message_sound rows bytes fs e is right (no_fields why at h e-is) = fault_sound bytes fs why at is h
message_sound rows bytes fs e is right (wrong_fields gs is' h) = fields_sound rows gs e (subst (λ (x : List Field). IsMessage rows x) (text_one is is') right) h

-- ---- what a reader answers

abbrev pub IsFound : List Row → List ℕ → List Field → Type 0
IsFound rows bytes fs = IsText bytes fs × IsMessage rows fs

pub only : (rows : List Row) (bytes : List ℕ) (r : Result (List Field) MessageFault) → IfOk r (IsFound rows bytes) → IfErr r (IsWrongOrMemory (WrongMessage rows bytes)) → (fs : List Field) → IsText bytes fs → IsMessage rows fs → Answers fault.Memory r (Ok fs)
only rows bytes (Ok gs) found wrong fs is right = inr (let same = text_one is found.0 in cc)
only rows bytes (Err fault.Memory) found wrong fs is right = inl refl
only rows bytes (Err (fault.Pb x)) found wrong fs is right = absurd (message_sound rows bytes fs (fault.Pb x) is right wrong)
only rows bytes (Err (fault.WrongWire x)) found wrong fs is right = absurd (message_sound rows bytes fs (fault.WrongWire x) is right wrong)
only rows bytes (Err (fault.NotText x)) found wrong fs is right = absurd (message_sound rows bytes fs (fault.NotText x) is right wrong)
only rows bytes (Err (fault.Missing x)) found wrong fs is right = absurd (message_sound rows bytes fs (fault.Missing x) is right wrong)

pub refused : (rows : List Row) (bytes : List ℕ) (r : Result (List Field) MessageFault) → IfOk r (IsFound rows bytes) → IfErr r (IsWrongOrMemory (WrongMessage rows bytes)) → (e : MessageFault) → WrongMessage rows bytes e → Answers fault.Memory r (Err e)
refused rows bytes (Ok gs) found wrong e h = absurd (message_sound rows bytes gs e found.0 found.1 h)
refused rows bytes (Err fault.Memory) found wrong e h = inl refl
refused rows bytes (Err (fault.Pb x)) found wrong e h = inr (let same = message_one rows bytes (fault.Pb x) e wrong h in cc)
refused rows bytes (Err (fault.WrongWire x)) found wrong e h = inr (let same = message_one rows bytes (fault.WrongWire x) e wrong h in cc)
refused rows bytes (Err (fault.NotText x)) found wrong e h = inr (let same = message_one rows bytes (fault.NotText x) e wrong h in cc)
refused rows bytes (Err (fault.Missing x)) found wrong e h = inr (let same = message_one rows bytes (fault.Missing x) e wrong h in cc)

pub pb_wrong : (rows : List Row) (bytes : List ℕ) (e : PbFault) → IsFaultOf bytes e → IsWrongOrMemory (WrongMessage rows bytes) (pb_fault e)
pb_wrong rows bytes (pb.Truncated at) h = no_fields why.Truncated at h refl
pb_wrong rows bytes (pb.Varint at) h = no_fields why.Varint at h refl
pb_wrong rows bytes (pb.WireType at) h = no_fields why.WireType at h refl
pb_wrong rows bytes (pb.FieldZero at) h = no_fields why.FieldZero at h refl
pb_wrong rows bytes pb.Memory h = tt

-- a fault of the fields is never want of memory
pub fields_wrong : (rows : List Row) (bytes : List ℕ) (fs : List Field) (e : MessageFault) → IsText bytes fs → WrongFields rows fs e → IsWrongOrMemory (WrongMessage rows bytes) e
fields_wrong rows bytes fs fault.Memory is h = tt
fields_wrong rows bytes fs (fault.Pb x) is h = wrong_fields fs is h
fields_wrong rows bytes fs (fault.WrongWire x) is h = wrong_fields fs is h
fields_wrong rows bytes fs (fault.NotText x) is h = wrong_fields fs is h
fields_wrong rows bytes fs (fault.Missing x) is h = wrong_fields fs is h

-- a text's value that is no text
pub text_wrong : (rows : List Row) (f : Field) (r : Row) (v : Value) → f.value ≡ v → row_of rows f.number ≡ Some r → wire_type v ≡ form_type r.form → r.form ≡ form.Text → (HasForm v form.Text → ⊥) → IsWrong rows f (fault.NotText f.number)
text_wrong rows f r (value.Bytes content) v-is is same text broken = not_text r content is text v-is broken refl
text_wrong rows f r (value.Varint n) v-is is same text broken = absurd (let e = same ∙ ap (λ (k : Form). form_type k) text in cc)
text_wrong rows f r (value.Fixed64 n) v-is is same text broken = absurd (let e = same ∙ ap (λ (k : Form). form_type k) text in cc)
text_wrong rows f r (value.Fixed32 n) v-is is same text broken = absurd (let e = same ∙ ap (λ (k : Form). form_type k) text in cc)

pub AllByRecursion-filter : {X : Type 0} (P : X → Type 0) (test : X → Bool) (xs : List X) → AllByRecursion P xs → AllByRecursion P (filter test xs)
AllByRecursion-filter P test [] h = tt
AllByRecursion-filter P test (x ∷ xs) h =
    elim (test x) as (λ b. AllByRecursion P (cond b (x ∷ filter test xs) (filter test xs))) [
      | true ↦ (h.0, AllByRecursion-filter P test xs h.1)
      | false ↦ AllByRecursion-filter P test xs h.1
    ]

-- what is kept as unknown is unknown
unknown-cons : (rows : List Row) (f : Field) (fs : List Field) (o : Option Row) → row_of rows f.number ≡ o → AllByRecursion (IsUnknown rows) (unknown rows fs) → AllByRecursion (IsUnknown rows) (unknown rows (f ∷ fs))
unknown-cons rows f fs None is rest = let test : is_none (row_of rows f.number) ≡ true = rw is refl in rw test (is, rest)
unknown-cons rows f fs (Some r) is rest = let test : is_none (row_of rows f.number) ≡ false = rw is refl in rw test rest

pub unknown-all : (rows : List Row) (fs : List Field) → AllByRecursion (IsUnknown rows) (unknown rows fs)
unknown-all rows [] = tt
unknown-all rows (f ∷ fs) = unknown-cons rows f fs (row_of rows f.number) refl (unknown-all rows fs)
