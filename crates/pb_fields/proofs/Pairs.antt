-- Two fields at the front of bytes, and nothing after.
use Rattle.std.proofs.Common.{◌≡◌, ◌≢◌, ℕ, ◌+◌, ◌*◌, ◌%◌, ◌<◌, ◌^◌, List, [], ◌∷◌, ◌++◌, length, sym, ap, subst, ◌∙◌}
use Rattle.std.proofs.lemmas.List.{nil_from_length}
use Rattle.pb_fields.specs.declared.field.Field.{Field}
use Rattle.pb_fields.specs.declared.field.WireType.{WireType}
use Rattle.pb_fields.specs.declared.fault.FieldFault.{FieldFault}
use Rattle.pb_fields.specs.Field.{wire_number, wire_type}
use Rattle.pb_fields.specs.Varint.{TakesVarint}
use Rattle.pb_fields.specs.Text.{TakesField, IsText, end, next}
use Rattle.pb_fields.specs.Faults.{BrokenVarint, BrokenBehind, BrokenValue}
use Rattle.pb_fields.specs.Faults as broken
use Rattle.pb_fields.proofs.Fields.{type_of_tag, number_of_tag, tag_fits}
use Rattle.pb_fields.proofs.Unique.{field_one, field_sound, tag_taken, varint_one, varint_sound}

pub pair_text : (bytes after rest : List ℕ) (f g : Field) → TakesField bytes f after → TakesField after g rest → length rest ≡ 0 → IsText bytes (f ∷ g ∷ [])
pair_text bytes after rest f g h k nothing = next h (next (subst (λ (x : List ℕ). TakesField after g x) (nil_from_length rest nothing) k) end)

-- where no varint stands at the front, no field does
pub no_tag : (bytes : List ℕ) (why : FieldFault) → BrokenVarint bytes why → (f : Field) (x : List ℕ) → TakesField bytes f x → ⊥
no_tag bytes why h f x t = varint_sound bytes (t.field.value ++ x) (8 * f.number + wire_number (wire_type f.value)) why (tag_taken bytes f x t) h

-- nor where the varint is no tag
pub no_number : (bytes rest : List ℕ) (tag : ℕ) (why : FieldFault) → TakesVarint bytes tag rest → ((r : List ℕ) → BrokenBehind tag r why) → (f : Field) (x : List ℕ) → TakesField bytes f x → ⊥
no_number bytes rest tag why s h f x t = field_sound bytes x f why t (broken.behind s (h rest))

-- a field has the wire type of its tag
pub other_type : (bytes rest : List ℕ) (tag n : ℕ) (w v : WireType) → TakesVarint bytes tag rest → tag ≡ 8 * n + wire_number w → wire_number w ≢ wire_number v → (f : Field) (x : List ℕ) → wire_type f.value ≡ v → TakesField bytes f x → ⊥
other_type bytes rest tag n w v s is other f x of t =
    let one = varint_one bytes rest (t.field.value ++ x) tag (8 * f.number + wire_number (wire_type f.value)) s (tag_taken bytes f x t) in
    let same : wire_number w ≡ wire_number (wire_type f.value) = sym (type_of_tag n w) ∙ ap (λ (k : ℕ). k % 8) (sym is ∙ one.0) ∙ type_of_tag f.number (wire_type f.value) in
    other (same ∙ ap wire_number of)

-- a field whose value is broken does not stand there
pub no_value : (bytes rest : List ℕ) (n : ℕ) (w : WireType) (why : FieldFault) → TakesVarint bytes (8 * n + wire_number w) rest → 0 < n → n < 2 ^ 29 → BrokenValue w rest why → (f : Field) (x : List ℕ) → TakesField bytes f x → ⊥
no_value bytes rest n w why s above below h f x t =
    field_sound bytes x f why t (broken.behind s (broken.value (tag_fits n w below) (type_of_tag n w) (rw (number_of_tag n w) above) h))

-- two fields are no text of bytes without the first
pub no_pair_front : (bytes : List ℕ) (f g : Field) → ((x : List ℕ) → TakesField bytes f x → ⊥) → IsText bytes (f ∷ g ∷ []) → ⊥
no_pair_front bytes f g none (next {rest = x} s k) = none x s

-- two fields are no text of bytes whose first field has others after it
pub no_pair_behind : (bytes after : List ℕ) (h f g : Field) → TakesField bytes h after → ((x : List ℕ) → TakesField after g x → ⊥) → IsText bytes (f ∷ g ∷ []) → ⊥
no_pair_behind bytes after h f g t none (next {rest = x} s (next {rest = y} k e)) =
    let one = field_one bytes x after f h s t in
    none y (subst (λ (z : List ℕ). TakesField z g y) one.1 k)

-- nor where bytes are left after the second
pub no_pair_left : (bytes after rest : List ℕ) (h i f g : Field) → TakesField bytes h after → TakesField after i rest → (length rest ≡ 0 → ⊥) → IsText bytes (f ∷ g ∷ []) → ⊥
no_pair_left bytes after rest h i f g t u some (next {rest = x} s (next {rest = y} k end)) =
    let one = field_one bytes x after f h s t in
    let two = field_one after y rest g i (subst (λ (z : List ℕ). TakesField z g y) one.1 k) u in
    some (ap (λ (z : List ℕ). length z) (sym two.1))
