-- What fields of bytes hold is bytes.
use Rattle.std.proofs.Common.{ℕ, List}
use Rattle.std.specs.List.{AllByRecursion}
use Rattle.pb_fields.specs.declared.field.Field.{Field}
use Rattle.pb_fields.specs.declared.field.Value.{Value}
use Rattle.pb_fields.specs.declared.field.Value.TheVariants as value
use Rattle.pb_fields.specs.Text.{IsValue, TakesField, IsText, end, next}
use Rattle.pb_fields.specs.Text as text
use Rattle.codec_laws.specs.Answers.{AreBytes}
use Rattle.codec_laws.proofs.AnswerBytes.{parts_are}

abbrev pub HoldsBytes : Value → Type 0
HoldsBytes (value.Bytes content) = AreBytes content
HoldsBytes v = Unit {0}

abbrev pub AllHoldBytes : List Field → Type 0
AllHoldBytes fs = AllByRecursion (λ f. HoldsBytes f.value) fs

value_holds : {t : List ℕ} {v : Value} → IsValue t v → AreBytes t → HoldsBytes v
value_holds (text.varint s) are = tt
value_holds (text.fixed64 fits is) are = tt
value_holds {t = t} (text.bytes {content = c} s) are = (parts_are t s.text c s.parts are).1
value_holds (text.fixed32 fits is) are = tt

field_holds : (bytes : List ℕ) (f : Field) (rest : List ℕ) → TakesField bytes f rest → AreBytes bytes → HoldsBytes f.value
field_holds bytes f rest t are =
    value_holds t.field.value_is (parts_are t.text t.field.tag.text t.field.value t.field.tag.parts (parts_are bytes t.text rest t.parts are).0).1

pub contents_are : {bytes : List ℕ} {fs : List Field} → IsText bytes fs → AreBytes bytes → AllHoldBytes fs
contents_are end are = tt
contents_are {bytes = bytes} (next {rest = rest} {f = f} t h) are = (field_holds bytes f rest t are, contents_are h (parts_are bytes t.text rest t.parts are).1)
