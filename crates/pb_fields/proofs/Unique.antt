-- The grammar gives bytes one answer at most: no text begins another, and what has a reading has no fault.
use Rattle.std.proofs.Common.{◌≡◌, ℕ, suc, ◌+◌, ◌*◌, ◌/◌, ◌%◌, ◌^◌, ◌<◌, ◌≤◌, List, [], ◌∷◌, ◌++◌, length, refl, sym, ap, subst, ◌∙◌, append_assoc, arith, Result, Ok, Err, inl, inr}
use Rattle.std.specs.Prelude.{IfOk, IfErr}
use Rattle.std.specs.Int.{w32, w64, from_le_bytes, to_le_bytes}
use Rattle.std.proofs.lemmas.Nat.{from_le_bytes-to_le_bytes_4, from_le_bytes-to_le_bytes_8}
use Rattle.std.proofs.Math.Nat.{pow-suc}
use Rattle.std.proofs.lemmas.List.{length-append, nil_from_length}
use Rattle.pb_fields.specs.declared.field.Field.{Field}
use Rattle.pb_fields.specs.declared.field.Value.{Value}
use Rattle.pb_fields.specs.declared.field.Value.TheVariants as value
use Rattle.pb_fields.specs.declared.field.WireType.{WireType}
use Rattle.pb_fields.specs.declared.field.WireType.TheVariants as wire
use Rattle.pb_fields.specs.declared.fault.FieldFault.{FieldFault}
use Rattle.pb_fields.specs.declared.fault.FieldFault.TheVariants as fault
use Rattle.pb_fields.specs.declared.fault.PbFault.{PbFault}
use Rattle.pb_fields.specs.declared.fault.PbFault.TheVariants as pb
use Rattle.pb_fields.specs.Field.{wire_number, wire_type}
use Rattle.pb_fields.specs.Varint.{IsGroups, last, more, TakesVarint}
use Rattle.pb_fields.specs.Text.{IsValue, IsFieldText, TakesField, IsText, end, next}
use Rattle.pb_fields.specs.Text as text
use Rattle.pb_fields.specs.Faults.{AllGoOn, BrokenVarint, ends, too_large, BrokenValue, BrokenBehind, BrokenField, HasFault, IsFaultOf, fault_at, Answers}
use Rattle.pb_fields.specs.Faults as broken
use Rattle.pb_fields.proofs.Fields.{type_of_tag, number_of_tag, tag_fits}
use Rattle.geo_base.proofs.Lists.{append_parts}

-- the length of a value, and then the value and what follows
sized : (a bytes c x : List ℕ) → TakesVarint a (length c) c → bytes ≡ a ++ x → TakesVarint bytes (length c) (c ++ x)
sized a bytes c x s e = record { text = s.text; parts = e ∙ ap (λ (k : List ℕ). k ++ x) s.parts ∙ append_assoc s.text c x; varint = s.varint }

head_is : (a b : ℕ) (x y : List ℕ) → a ∷ x ≡ b ∷ y → a ≡ b
head_is a b x y e = cc

tail_is : (a b : ℕ) (x y : List ℕ) → a ∷ x ≡ b ∷ y → x ≡ y
tail_is a b x y e = cc

-- ---- varints

pub groups_one : {a b : List ℕ} {m n : ℕ} → IsGroups a m → IsGroups b n → (x y : List ℕ) → a ++ x ≡ b ++ y → (a ≡ b) × (m ≡ n)
groups_one (last {b = a} small is) (last {b = b} small' is') x y e = let h = head_is a b x y e in (ap (λ (k : ℕ). k ∷ []) h, is ∙ h ∙ sym is')
groups_one (last {b = a} small is) (more {b = b} {bs = bs} goes byte is' g) x y e = absurd (let h = head_is a b x (bs ++ y) e in omega arith)
groups_one (more {b = a} {bs = as_} goes byte is g) (last {b = b} small is') x y e = absurd (let h = head_is a b (as_ ++ x) y e in omega arith)
groups_one (more {b = a} {high = h} {bs = as_} goes byte is g) (more {b = b} {high = k} {bs = bs} goes' byte' is' g') x y e =
    let same = head_is a b (as_ ++ x) (bs ++ y) e in
    let rest = groups_one g g' x y (tail_is a b (as_ ++ x) (bs ++ y) e) in
    (let t = rest.0 in cc, omega (arith, rest.1, same))

-- a varint ends, and bytes that all go on don't
groups_end : {a : List ℕ} {m : ℕ} → IsGroups a m → (x bs : List ℕ) → a ++ x ≡ bs → AllGoOn bs → ⊥
groups_end (last {b = a} small is) x [] e h = cc
groups_end (last {b = a} small is) x (b ∷ bs) e h = let same = head_is a b x bs e in omega (arith, h.0)
groups_end (more {b = a} goes byte is g) x [] e h = cc
groups_end (more {b = a} {bs = as_} goes byte is g) x (b ∷ bs) e h = groups_end g x bs (tail_is a b (as_ ++ x) bs e) h.1

groups_some : {a : List ℕ} {n : ℕ} → IsGroups a n → 0 < length a
groups_some (last small is) = omega arith
groups_some (more goes byte is g) = omega arith

-- after as many bytes as there are groups before it, the last byte is small
tenth_small : {a : List ℕ} {m : ℕ} → IsGroups a m → (x front rest : List ℕ) (t : ℕ) → a ++ x ≡ front ++ t ∷ rest → AllGoOn front → length a ≤ length front + 1 → m < 2 * 128 ^ length front → t ≤ 1
tenth_small (last {b = a} small is) x [] rest t e h len below = let same = head_is a t x rest e in omega arith
tenth_small (last {b = a} small is) x (c ∷ cs) rest t e h len below = absurd (let same = head_is a c x (cs ++ t ∷ rest) e in omega (arith, h.0))
tenth_small (more goes byte is g) x [] rest t e h len below = absurd (omega (arith, groups_some g))
tenth_small (more {b = a} {high = k} {bs = as_} goes byte is g) x (c ∷ cs) rest t e h len below =
    let wider : 128 ^ suc (length cs) ≡ 128 ^ length cs * 128 = pow-suc 128 (length cs) in
    tenth_small g x cs rest t (tail_is a c (as_ ++ x) (cs ++ t ∷ rest) e) h.1 (omega arith) (omega arith)

pub varint_one : (bytes x y : List ℕ) (m n : ℕ) → TakesVarint bytes m x → TakesVarint bytes n y → (m ≡ n) × (x ≡ y)
varint_one bytes x y m n s t =
    let whole : s.text ++ x ≡ t.text ++ y = sym s.parts ∙ t.parts in
    let one = groups_one s.varint.groups t.varint.groups x y whole in
    (one.1, (append_parts s.text t.text x y (ap (λ (k : List ℕ). length k) one.0) whole).1)

pub varint_sound : (bytes x : List ℕ) (n : ℕ) (why : FieldFault) → TakesVarint bytes n x → BrokenVarint bytes why → ⊥
varint_sound bytes x n why t (ends goes short) = groups_end t.varint.groups x bytes (sym t.parts) goes
varint_sound bytes x n why t (too_large nine tenth rest parts goes len above) =
    let below : n < 2 * 128 ^ length nine = rw len (omega (arith, t.varint.fits)) in
    let small = tenth_small t.varint.groups x nine rest tenth (sym t.parts ∙ parts) goes (omega (arith, t.varint.at_most_ten)) below in
    omega arith

pub broken_varint_one : (bytes : List ℕ) (a b : FieldFault) → BrokenVarint bytes a → BrokenVarint bytes b → a ≡ b
broken_varint_one bytes a b (ends goes short) (ends goes' short') = refl
broken_varint_one bytes a b (ends goes short) (too_large nine tenth rest parts goes' len above) =
    absurd (let long = ap (λ (k : List ℕ). length k) parts in omega (arith, length-append nine (tenth ∷ rest)))
broken_varint_one bytes a b (too_large nine tenth rest parts goes len above) (ends goes' short) =
    absurd (let long = ap (λ (k : List ℕ). length k) parts in omega (arith, length-append nine (tenth ∷ rest)))
broken_varint_one bytes a b (too_large nine tenth rest parts goes len above) (too_large nine' tenth' rest' parts' goes' len' above') = refl

-- ---- values

pub value_one : {a b : List ℕ} {u v : Value} → IsValue a u → IsValue b v → wire_type u ≡ wire_type v → (x y : List ℕ) → a ++ x ≡ b ++ y → (u ≡ v) × (x ≡ y)
value_one {a = a} {b = b} (text.varint s) (text.varint t) w x y e =
    let one = groups_one s.groups t.groups x y e in
    (ap (λ (k : ℕ). value.Varint k) one.1, (append_parts a b x y (ap (λ (k : List ℕ). length k) one.0) e).1)
value_one {a = a} {b = b} (text.fixed64 {n = m} fits is) (text.fixed64 {n = n} fits' is') w x y e =
    let cut = append_parts a b x y (ap (λ (k : List ℕ). length k) is ∙ sym (ap (λ (k : List ℕ). length k) is')) e in
    let same : to_le_bytes w64 m ≡ to_le_bytes w64 n = sym is ∙ cut.0 ∙ is' in
    (ap (λ (k : ℕ). value.Fixed64 k) (sym (from_le_bytes-to_le_bytes_8 m fits) ∙ ap (λ (k : List ℕ). from_le_bytes w64 k) same ∙ from_le_bytes-to_le_bytes_8 n fits'), cut.1)
value_one {a = a} {b = b} (text.bytes {content = c} s) (text.bytes {content = d} t) w x y e =
    let whole : s.text ++ (c ++ x) ≡ t.text ++ (d ++ y) = sym (append_assoc s.text c x) ∙ ap (λ (k : List ℕ). k ++ x) (sym s.parts) ∙ e ∙ ap (λ (k : List ℕ). k ++ y) t.parts ∙ append_assoc t.text d y in
    let one = groups_one s.varint.groups t.varint.groups (c ++ x) (d ++ y) whole in
    let rest = (append_parts s.text t.text (c ++ x) (d ++ y) (ap (λ (k : List ℕ). length k) one.0) whole).1 in
    let cut = append_parts c d x y one.1 rest in
    (ap (λ (k : List ℕ). value.Bytes k) cut.0, cut.1)
value_one {a = a} {b = b} (text.fixed32 {n = m} fits is) (text.fixed32 {n = n} fits' is') w x y e =
    let cut = append_parts a b x y (ap (λ (k : List ℕ). length k) is ∙ sym (ap (λ (k : List ℕ). length k) is')) e in
    let same : to_le_bytes w32 m ≡ to_le_bytes w32 n = sym is ∙ cut.0 ∙ is' in
    (ap (λ (k : ℕ). value.Fixed32 k) (sym (from_le_bytes-to_le_bytes_4 m fits) ∙ ap (λ (k : List ℕ). from_le_bytes w32 k) same ∙ from_le_bytes-to_le_bytes_4 n fits'), cut.1)
value_one s t w x y e = absurd cc

-- a value that stands there whole is not broken
pub value_sound : {a : List ℕ} {v : Value} → IsValue a v → (bytes x : List ℕ) (w : WireType) (why : FieldFault) → bytes ≡ a ++ x → wire_type v ≡ w → BrokenValue w bytes why → ⊥
value_sound {a = a} (text.varint {n = n} s) bytes x wire.Varint why e is (broken.varint b) = varint_sound bytes x n why (record { text = a; parts = e; varint = s }) b
value_sound {a = a} (text.fixed64 fits len) bytes x wire.Fixed64 why e is (broken.fixed64 short) =
    let whole = ap (λ (k : List ℕ). length k) e in let eight = ap (λ (k : List ℕ). length k) len in omega (arith, length-append a x)
value_sound {a = a} (text.bytes {content = c} s) bytes x wire.Bytes why e is (broken.size b) = varint_sound bytes (c ++ x) (length c) why (sized a bytes c x s e) b
value_sound {a = a} (text.bytes {content = c} s) bytes x wire.Bytes why e is (broken.content {rest = r} {n = n} t short) =
    let one = varint_one bytes (c ++ x) r (length c) n (sized a bytes c x s e) t in
    let len = ap (λ (k : List ℕ). length k) one.1 in
    omega (arith, one.0, length-append c x)
value_sound {a = a} (text.fixed32 fits len) bytes x wire.Fixed32 why e is (broken.fixed32 short) =
    let whole = ap (λ (k : List ℕ). length k) e in let four = ap (λ (k : List ℕ). length k) len in omega (arith, length-append a x)
value_sound s bytes x w why e is b = absurd cc

pub broken_value_one : {w : WireType} {bytes : List ℕ} {a b : FieldFault} → BrokenValue w bytes a → BrokenValue w bytes b → a ≡ b
broken_value_one {bytes = bytes} {a = a} {b = b} (broken.varint s) (broken.varint t) = broken_varint_one bytes a b s t
broken_value_one (broken.fixed64 s) (broken.fixed64 t) = refl
broken_value_one {bytes = bytes} {a = a} {b = b} (broken.size s) (broken.size t) = broken_varint_one bytes a b s t
broken_value_one {bytes = bytes} {a = a} (broken.size s) (broken.content {rest = r} {n = n} t short) = absurd (varint_sound bytes r n a t s)
broken_value_one {bytes = bytes} {b = b} (broken.content {rest = r} {n = n} t short) (broken.size s) = absurd (varint_sound bytes r n b t s)
broken_value_one (broken.content s short) (broken.content t short') = refl
broken_value_one (broken.fixed32 s) (broken.fixed32 t) = refl

-- ---- fields

-- what is right about a tag
record GoodTag (tag : ℕ) (w : WireType) : Type 0 where
  fits : tag < 2 ^ 32
  of_type : tag % 8 ≡ wire_number w
  numbered : 0 < tag / 8

good_tag : (n : ℕ) (w : WireType) → 0 < n → n < 2 ^ 29 → GoodTag (8 * n + wire_number w) w
good_tag n w above below = record { fits = tag_fits n w below; of_type = type_of_tag n w; numbered = rw (number_of_tag n w) above }

same_type : (v w : WireType) → wire_number v ≡ wire_number w → v ≡ w
same_type wire.Varint wire.Varint e = refl
same_type wire.Fixed64 wire.Fixed64 e = refl
same_type wire.Bytes wire.Bytes e = refl
same_type wire.Fixed32 wire.Fixed32 e = refl
same_type v w e = absurd (omega arith)

behind_sound : {tag : ℕ} {rest : List ℕ} {why : FieldFault} → BrokenBehind tag rest why → (w : WireType) → GoodTag tag w → (BrokenValue w rest why → ⊥) → ⊥
behind_sound (broken.too_large big) w good whole = let small = good.fits in omega arith
behind_sound (broken.wire_type small none) w good whole = none w good.of_type
behind_sound (broken.number v small is no_number) w good whole = let above = good.numbered in omega arith
behind_sound {rest = rest} {why = why} (broken.value {w = v} small is above b) w good whole =
    whole (subst (λ (t : WireType). BrokenValue t rest why) (same_type v w (sym is ∙ good.of_type)) b)

behind_one : {tag : ℕ} {rest : List ℕ} {a b : FieldFault} → BrokenBehind tag rest a → BrokenBehind tag rest b → a ≡ b
behind_one (broken.too_large big) (broken.too_large big') = refl
behind_one (broken.too_large big) (broken.wire_type small none) = absurd (omega arith)
behind_one (broken.too_large big) (broken.number v small is no_number) = absurd (omega arith)
behind_one (broken.too_large big) (broken.value small is above b) = absurd (omega arith)
behind_one (broken.wire_type small none) (broken.too_large big) = absurd (omega arith)
behind_one (broken.wire_type small none) (broken.wire_type small' none') = refl
behind_one (broken.wire_type small none) (broken.number v small' is no_number) = absurd (none v is)
behind_one (broken.wire_type small none) (broken.value {w = w} small' is above b) = absurd (none w is)
behind_one (broken.number v small is no_number) (broken.too_large big) = absurd (omega arith)
behind_one (broken.number v small is no_number) (broken.wire_type small' none) = absurd (none v is)
behind_one (broken.number v small is no_number) (broken.number w small' is' no_number') = refl
behind_one (broken.number v small is no_number) (broken.value small' is' above b) = absurd (omega arith)
behind_one (broken.value small is above b) (broken.too_large big) = absurd (omega arith)
behind_one (broken.value {w = w} small is above b) (broken.wire_type small' none) = absurd (none w is)
behind_one (broken.value small is above b) (broken.number v small' is' no_number) = absurd (omega arith)
behind_one {rest = rest} {a = x} (broken.value {w = v} small is above b) (broken.value {w = w} small' is' above' c) =
    broken_value_one (subst (λ (t : WireType). BrokenValue t rest x) (same_type v w (sym is ∙ is')) b) c

-- the tag at the front of a field, and what comes after it
pub tag_taken : (bytes : List ℕ) (f : Field) (x : List ℕ) (t : TakesField bytes f x) → TakesVarint bytes (8 * f.number + wire_number (wire_type f.value)) (t.field.value ++ x)
tag_taken bytes f x t = record {
  text = t.field.tag.text;
  parts = t.parts ∙ ap (λ (k : List ℕ). k ++ x) t.field.tag.parts ∙ append_assoc t.field.tag.text t.field.value x;
  varint = t.field.tag.varint;
}

same_field : (f g : Field) → f.number ≡ g.number → f.value ≡ g.value → f ≡ g
same_field f g p q =
    let made : ℕ → Value → Field = λ n v. record { number = n; value = v } in
    ap (λ (n : ℕ). made n f.value) p ∙ ap (λ (v : Value). made g.number v) q

pub field_one : (bytes x y : List ℕ) (f g : Field) → TakesField bytes f x → TakesField bytes g y → (f ≡ g) × (x ≡ y)
field_one bytes x y f g s t =
    let v : WireType = wire_type f.value in
    let w : WireType = wire_type g.value in
    let tags = varint_one bytes (s.field.value ++ x) (t.field.value ++ y) (8 * f.number + wire_number v) (8 * g.number + wire_number w) (tag_taken bytes f x s) (tag_taken bytes g y t) in
    let number : f.number ≡ g.number = sym (number_of_tag f.number v) ∙ ap (λ (k : ℕ). k / 8) tags.0 ∙ number_of_tag g.number w in
    let of_type : v ≡ w = same_type v w (sym (type_of_tag f.number v) ∙ ap (λ (k : ℕ). k % 8) tags.0 ∙ type_of_tag g.number w) in
    let one = value_one s.field.value_is t.field.value_is of_type x y tags.1 in
    (same_field f g number one.0, one.1)

good_field : (text : List ℕ) (f : Field) → IsFieldText text f → GoodTag (8 * f.number + wire_number (wire_type f.value)) (wire_type f.value)
good_field text f t = good_tag f.number (wire_type f.value) t.number.above_zero t.number.in_range

pub field_sound : (bytes x : List ℕ) (f : Field) (why : FieldFault) → TakesField bytes f x → BrokenField bytes why → ⊥
field_sound (b ∷ bs) x f why t (broken.tag h) = varint_sound (b ∷ bs) (t.field.value ++ x) (8 * f.number + wire_number (wire_type f.value)) why (tag_taken (b ∷ bs) f x t) h
field_sound bytes x f why t (broken.behind {rest = rest} {n = n} s h) =
    let tag : ℕ = 8 * f.number + wire_number (wire_type f.value) in
    let one = varint_one bytes rest (t.field.value ++ x) n tag s (tag_taken bytes f x t) in
    let good : GoodTag n (wire_type f.value) = rw one.0 (good_field t.text f t.field) in
    behind_sound h (wire_type f.value) good (λ b. value_sound t.field.value_is rest x (wire_type f.value) why one.1 refl b)

pub broken_field_one : (bytes : List ℕ) (a b : FieldFault) → BrokenField bytes a → BrokenField bytes b → a ≡ b
broken_field_one (c ∷ bytes) a b (broken.tag h) (broken.tag k) = broken_varint_one (c ∷ bytes) a b h k
broken_field_one (c ∷ bytes) a b (broken.tag h) (broken.behind {rest = rest} {n = n} t k) = absurd (varint_sound (c ∷ bytes) rest n a t h)
broken_field_one (c ∷ bytes) a b (broken.behind {rest = rest} {n = n} t k) (broken.tag h) = absurd (varint_sound (c ∷ bytes) rest n b t h)
broken_field_one bytes a b (broken.behind {rest = x} {n = m} s h) (broken.behind {rest = y} {n = n} t k) =
    let one = varint_one bytes x y m n s t in
    behind_one (subst (λ (z : List ℕ). BrokenBehind n z a) one.1 (subst (λ (z : ℕ). BrokenBehind z x a) one.0 h)) k

-- ---- lists of fields

-- no field stands in no bytes
nothing_taken : (f : Field) (x : List ℕ) → TakesField [] f x → ⊥
nothing_taken f x t =
    let whole = ap (λ (k : List ℕ). length k) t.parts in
    let parts = ap (λ (k : List ℕ). length k) t.field.tag.parts in
    omega (arith, groups_some t.field.tag.varint.groups, length-append t.text x, length-append t.field.tag.text t.field.value)

pub text_one : {bytes : List ℕ} {fs gs : List Field} → IsText bytes fs → IsText bytes gs → fs ≡ gs
text_one end end = refl
text_one end (next {rest = y} {f = g} t k) = absurd (nothing_taken g y t)
text_one (next {rest = x} {f = f} s h) end = absurd (nothing_taken f x s)
text_one {bytes = bytes} (next {rest = x} {f = f} {fs = fs} s h) (next {rest = y} {f = g} {fs = gs} t k) =
    let one = field_one bytes x y f g s t in
    let rest : fs ≡ gs = text_one (subst (λ (z : List ℕ). IsText z fs) one.1 h) k in
    (let p = one.0 in cc)

-- what stands at the front of bytes stands there whatever follows
longer : (a : List ℕ) (f : Field) (r x whole : List ℕ) → TakesField a f r → whole ≡ a ++ x → TakesField whole f (r ++ x)
longer a f r x whole t e = record { text = t.text; parts = e ∙ ap (λ (z : List ℕ). z ++ x) t.parts ∙ append_assoc t.text r x; field = t.field }

-- Whole fields before a broken one, twice: they are the same.
front_one : {a b : List ℕ} {fs gs : List Field} → IsText a fs → IsText b gs → (x y : List ℕ) (v w : FieldFault) → a ++ x ≡ b ++ y → BrokenField x v → BrokenField y w → (length a ≡ length b) × (v ≡ w)
front_one end end x y v w e h k = (refl, broken_field_one x v w h (subst (λ (z : List ℕ). BrokenField z w) (sym e) k))
front_one {b = b} end (next {rest = r} {f = g} t m) x y v w e h k = absurd (field_sound x (r ++ y) g v (longer b g r y x t e) h)
front_one {a = a} (next {rest = r} {f = f} s m) end x y v w e h k = absurd (field_sound y (r ++ x) f w (longer a f r x y s (sym e)) k)
front_one {a = a} {b = b} (next {rest = p} {f = f} s m) (next {rest = q} {f = g} t n) x y v w e h k =
    let one = field_one (a ++ x) (p ++ x) (q ++ y) f g (longer a f p x (a ++ x) s refl) (longer b g q y (a ++ x) t e) in
    let rest = front_one m n x y v w one.1 h k in
    let cut = ap (λ (z : List ℕ). length z) one.1 in
    let whole = ap (λ (z : List ℕ). length z) e in
    (omega (arith, rest.0, length-append p x, length-append q y, length-append a x, length-append b y), rest.1)

nothing_broken : (why : FieldFault) → BrokenField [] why → ⊥
nothing_broken why (broken.behind t h) =
    let parts = ap (λ (z : List ℕ). length z) t.parts in
    omega (arith, groups_some t.varint.groups, length-append t.text)

text_sound : {bytes front : List ℕ} {fs gs : List Field} → IsText bytes fs → IsText front gs → (x : List ℕ) (why : FieldFault) → bytes ≡ front ++ x → BrokenField x why → ⊥
text_sound {front = front} end m x why e h =
    let len = ap (λ (z : List ℕ). length z) e in
    let nothing : x ≡ [] = nil_from_length x (omega (arith, length-append front x)) in
    nothing_broken why (subst (λ (z : List ℕ). BrokenField z why) nothing h)
text_sound (next {rest = rest} {f = f} s h) end x why e b = field_sound x rest f why (subst (λ (z : List ℕ). TakesField z f rest) e s) b
text_sound {bytes = bytes} {front = front} (next {rest = rest} {f = f} s h) (next {rest = r} {f = g} t m) x why e b =
    let one = field_one bytes rest (r ++ x) f g s (longer front g r x bytes t e) in
    text_sound h m x why one.1 b

pub fault_sound : (bytes : List ℕ) (fs : List Field) (why : FieldFault) (at : ℕ) → IsText bytes fs → HasFault bytes why at → ⊥
fault_sound bytes fs why at h k = text_sound h k.before k.rest why k.parts k.broken

pub fault_one : (bytes : List ℕ) (a b : FieldFault) (i j : ℕ) → HasFault bytes a i → HasFault bytes b j → (a ≡ b) × (i ≡ j)
fault_one bytes a b i j h k =
    let one = front_one h.before k.before h.rest k.rest a b (sym h.parts ∙ k.parts) h.broken k.broken in
    (one.1, h.at_is ∙ one.0 ∙ sym k.at_is)

-- ---- what a reader answers

pub only : (bytes : List ℕ) (r : Result (List Field) PbFault) → IfOk r (λ fs. IsText bytes fs) → IfErr r (IsFaultOf bytes) → (fs : List Field) → IsText bytes fs → Answers pb.Memory r (Ok fs)
only bytes (Ok gs) found wrong fs h = inr (let same = text_one h found in cc)
only bytes (Err (pb.Truncated at)) found wrong fs h = absurd (fault_sound bytes fs fault.Truncated at h wrong)
only bytes (Err (pb.Varint at)) found wrong fs h = absurd (fault_sound bytes fs fault.Varint at h wrong)
only bytes (Err (pb.WireType at)) found wrong fs h = absurd (fault_sound bytes fs fault.WireType at h wrong)
only bytes (Err (pb.FieldZero at)) found wrong fs h = absurd (fault_sound bytes fs fault.FieldZero at h wrong)
only bytes (Err pb.Memory) found wrong fs h = inl refl

pub refused : (bytes : List ℕ) (r : Result (List Field) PbFault) → IfOk r (λ fs. IsText bytes fs) → IfErr r (IsFaultOf bytes) → (why : FieldFault) (at : ℕ) → HasFault bytes why at → Answers pb.Memory r (Err (fault_at why at))
refused bytes (Ok gs) found wrong why at h = absurd (fault_sound bytes gs why at found h)
refused bytes (Err (pb.Truncated i)) found wrong why at h = let one = fault_one bytes why fault.Truncated at i h wrong in inr (rw (one.0, one.1) refl)
refused bytes (Err (pb.Varint i)) found wrong why at h = let one = fault_one bytes why fault.Varint at i h wrong in inr (rw (one.0, one.1) refl)
refused bytes (Err (pb.WireType i)) found wrong why at h = let one = fault_one bytes why fault.WireType at i h wrong in inr (rw (one.0, one.1) refl)
refused bytes (Err (pb.FieldZero i)) found wrong why at h = let one = fault_one bytes why fault.FieldZero at i h wrong in inr (rw (one.0, one.1) refl)
refused bytes (Err pb.Memory) found wrong why at h = inl refl
