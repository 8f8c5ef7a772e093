-- A field at the front of bytes, read.
use Rattle.std.proofs.Common.{◌≡◌, ◌≢◌, ℕ, ◌+◌, ◌-◌, ◌*◌, ◌/◌, ◌%◌, ◌^◌, ◌<◌, List, [], ◌∷◌, ◌++◌, length, refl, sym, ap, ◌∙◌, append_assoc, arith}
use Rattle.std.proofs.lemmas.List.{append-nil, length-append}
use Rattle.pb_fields.specs.declared.field.Field.{Field}
use Rattle.pb_fields.specs.declared.field.WireType.{WireType}
use Rattle.pb_fields.specs.declared.field.WireType.TheVariants as wire
use Rattle.pb_fields.specs.declared.fault.FieldFault.{FieldFault}
use Rattle.pb_fields.specs.declared.fault.FieldFault.TheVariants as fault
use Rattle.pb_fields.specs.declared.fault.FieldError.{FieldError}
use Rattle.pb_fields.specs.declared.fault.FieldError.TheVariants as field_error
use Rattle.pb_fields.specs.Field.{wire_number}
use Rattle.pb_fields.specs.Varint.{IsGroups, last, more, TakesVarint}
use Rattle.pb_fields.specs.Text.{TakesValue, IsFieldText, TakesField, IsText, end, next}
use Rattle.pb_fields.specs.Faults.{BrokenVarint, BrokenValue, value, BrokenField, tag, behind, ForFault, HasFault, IsFaultOf, fault_at}

-- a tag has room for 29 bits of number, and its low three bits are the type
pub tag_fits : (n : ℕ) (w : WireType) → n < 2 ^ 29 → 8 * n + wire_number w < 2 ^ 32
tag_fits n wire.Varint h = omega arith
tag_fits n wire.Fixed64 h = omega arith
tag_fits n wire.Bytes h = omega arith
tag_fits n wire.Fixed32 h = omega arith

pub type_of_tag : (n : ℕ) (w : WireType) → (8 * n + wire_number w) % 8 ≡ wire_number w
type_of_tag n wire.Varint = omega arith
type_of_tag n wire.Fixed64 = omega arith
type_of_tag n wire.Bytes = omega arith
type_of_tag n wire.Fixed32 = omega arith

pub number_of_tag : (n : ℕ) (w : WireType) → (8 * n + wire_number w) / 8 ≡ n
number_of_tag n wire.Varint = omega arith
number_of_tag n wire.Fixed64 = omega arith
number_of_tag n wire.Bytes = omega arith
number_of_tag n wire.Fixed32 = omega arith

pub broken_tag : (bytes : List ℕ) (why : FieldFault) → bytes ≢ [] → BrokenVarint bytes why → BrokenField bytes why
broken_tag [] why some broken = absurd (some refl)
broken_tag (b ∷ bs) why some broken = tag broken

pub broken_value : (bytes rest : List ℕ) (n number : ℕ) (w : WireType) (why : FieldFault) → TakesVarint bytes n rest → n ≡ 8 * number + wire_number w → 0 < number → number < 2 ^ 29 → BrokenValue w rest why → BrokenField bytes why
broken_value bytes rest n number w why taken is above below broken =
    let fits : n < 2 ^ 32 = rw is (tag_fits number w below) in
    let of_type : n % 8 ≡ wire_number w = rw is (type_of_tag number w) in
    let numbered : 0 < n / 8 = rw (is, number_of_tag number w) above in
    behind taken (value fits of_type numbered broken)

pub takes_field : (bytes after rest : List ℕ) (n : ℕ) (w : WireType) (f : Field) → TakesVarint bytes n after → n ≡ 8 * f.number + wire_number w → 0 < f.number → f.number < 2 ^ 29 → TakesValue w after f.value rest → TakesField bytes f rest
takes_field bytes after rest n w f taken is above below v = record {
  text = taken.text ++ v.text;
  parts = taken.parts ∙ ap (λ (xs : List ℕ). taken.text ++ xs) v.parts ∙ sym (append_assoc taken.text v.text rest);
  field = record {
    value = v.text;
    tag = record { text = taken.text; parts = refl; varint = rw (v.of_type, ← is) taken.varint };
    value_is = v.value;
    number = record { above_zero = above; in_range = below };
  };
}

pub ForFault-weaker : (P Q : FieldFault → Type 0) (e : FieldError) → ((why : FieldFault) → P why → Q why) → ForFault P e → ForFault Q e
ForFault-weaker P Q (field_error.Fault why) f h = f why h
ForFault-weaker P Q field_error.Memory f h = tt

-- a field takes at least a byte
groups_some : {text : List ℕ} {n : ℕ} → IsGroups text n → 0 < length text
groups_some (last small is) = omega arith
groups_some (more goes byte is g) = omega arith

pub TakesField-shorter : (bytes : List ℕ) (f : Field) (rest : List ℕ) → TakesField bytes f rest → length rest < length bytes
TakesField-shorter bytes f rest t =
    let tag = t.field.tag in
    let whole = ap (λ (xs : List ℕ). length xs) t.parts in
    let parts = ap (λ (xs : List ℕ). length xs) tag.parts in
    omega (arith, groups_some tag.varint.groups, whole, parts, length-append t.text rest, length-append tag.text t.field.value)

-- ---- field after field

-- The fields stand before rest.
pub record HasRead (bytes rest : List ℕ) (fs : List Field) : Type 0 where
  pub text : List ℕ
  pub parts : bytes ≡ text ++ rest
  pub fields : IsText text fs

IsText-push : (bytes text : List ℕ) (fs : List Field) (f : Field) → IsText bytes fs → IsFieldText text f → IsText (bytes ++ text) (fs ++ f ∷ [])
IsText-push bytes text fs f end t = next (record { text = text; parts = sym (append-nil text); field = t }) end
IsText-push bytes text fs f (next {rest = rest} {fs = gs} g h) t =
    next (record { text = g.text; parts = ap (λ (xs : List ℕ). xs ++ text) g.parts ∙ append_assoc g.text rest text; field = g.field }) (IsText-push rest text gs f h t)

pub HasRead-none : (bytes : List ℕ) → HasRead bytes bytes []
HasRead-none bytes = record { text = []; parts = refl; fields = end }

pub HasRead-more : (bytes rest after : List ℕ) (fs : List Field) (f : Field) → HasRead bytes rest fs → TakesField rest f after → HasRead bytes after (fs ++ f ∷ [])
HasRead-more bytes rest after fs f h t = record {
  text = h.text ++ t.text;
  parts = h.parts ∙ ap (λ (xs : List ℕ). h.text ++ xs) t.parts ∙ sym (append_assoc h.text t.text after);
  fields = IsText-push h.text t.text fs f h.fields t.field;
}

pub HasRead-all : (bytes rest : List ℕ) (fs : List Field) → HasRead bytes rest fs → rest ≡ [] → IsText bytes fs
HasRead-all bytes rest fs h nothing =
    let whole : bytes ≡ h.text = h.parts ∙ ap (λ (xs : List ℕ). h.text ++ xs) nothing ∙ append-nil h.text in
    rw whole h.fields

pub HasRead-fault : (bytes rest : List ℕ) (fs : List Field) (why : FieldFault) → HasRead bytes rest fs → BrokenField rest why → HasFault bytes why (length bytes - length rest)
HasRead-fault bytes rest fs why h broken = record {
  fields = fs;
  text = h.text;
  rest = rest;
  parts = h.parts;
  before = h.fields;
  broken = broken;
  at_is = omega (arith, ap (λ (xs : List ℕ). length xs) h.parts, length-append h.text rest);
}

pub IsFaultOf-at : (bytes : List ℕ) (why : FieldFault) (at : ℕ) → HasFault bytes why at → IsFaultOf bytes (fault_at why at)
IsFaultOf-at bytes fault.Truncated at h = h
IsFaultOf-at bytes fault.Varint at h = h
IsFaultOf-at bytes fault.WireType at h = h
IsFaultOf-at bytes fault.FieldZero at h = h
