-- Fields have one meaning at most, and so have bytes.
use Rattle.std.proofs.Common.{◌≡◌, ℕ, List, [], ◌∷◌, Option, Some, None, Result, Ok, Err, inl, inr, map, refl, sym, ap, subst, ◌∙◌}
use Rattle.std.specs.Prelude.{IfOk, IfErr}
use Rattle.std.specs.Option.{option_map}
use Rattle.pb_fields.specs.declared.field.Field.{Field}
use Rattle.pb_fields.specs.declared.field.Value.{Value}
use Rattle.pb_fields.specs.declared.field.Value.TheVariants as value
use Rattle.pb_fields.specs.declared.message.MessageFault.{MessageFault}
use Rattle.pb_fields.specs.declared.message.MessageFault.TheVariants as fault
use Rattle.pb_fields.specs.Faults.{Answers}
use Rattle.pb_fields.specs.Message.{WrongMessage, IsWrongOrMemory}
use Rattle.pb_fields.proofs.Unique.{text_one}
use Rattle.pb_fields.proofs.Messages.{message_one, message_sound}
use Rattle.message_meta.specs.Table.{rows}
use Rattle.message_meta.specs.Metadata.{Metadata, IsMeta, IsMetaText}

same_bytes : (a b : List ℕ) → ◌≡◌ {A = Option Value} (Some (value.Bytes a)) (Some (value.Bytes b)) → a ≡ b
same_bytes a b e = cc

same_varint : (a b : ℕ) → ◌≡◌ {A = Option Value} (Some (value.Varint a)) (Some (value.Varint b)) → a ≡ b
same_varint a b e = cc

same_optional_bytes : (a b : Option (List ℕ)) → option_map value.Bytes a ≡ option_map value.Bytes b → a ≡ b
same_optional_bytes None None e = refl
same_optional_bytes None (Some b) e = absurd cc
same_optional_bytes (Some a) None e = absurd cc
same_optional_bytes (Some a) (Some b) e = ap (λ (x : List ℕ). Some x) (same_bytes a b e)

same_optional_varint : (a b : Option ℕ) → option_map value.Varint a ≡ option_map value.Varint b → a ≡ b
same_optional_varint None None e = refl
same_optional_varint None (Some b) e = absurd cc
same_optional_varint (Some a) None e = absurd cc
same_optional_varint (Some a) (Some b) e = ap (λ (x : ℕ). Some x) (same_varint a b e)

same_texts : (as_ bs : List (List ℕ)) → map value.Bytes as_ ≡ map value.Bytes bs → as_ ≡ bs
same_texts [] [] e = refl
same_texts [] (b ∷ bs) e = absurd cc
same_texts (a ∷ as_) [] e = absurd cc
same_texts (a ∷ as_) (b ∷ bs) e = let rest = same_texts as_ bs (tails (value.Bytes a) (value.Bytes b) (map value.Bytes as_) (map value.Bytes bs) e) in (let head : a ≡ b = cc in cc)
  where
    tails : (x y : Value) (xs ys : List Value) → x ∷ xs ≡ y ∷ ys → xs ≡ ys
    tails x y xs ys e = cc

same_all : {A B C D E F : Type 0} (made : A → B → B → C → C → D → E → F → Metadata) {a a' : A} {b b' c c' : B} {d d' e e' : C} {f f' : D} {g g' : E} {h h' : F}
    → a ≡ a' → b ≡ b' → c ≡ c' → d ≡ d' → e ≡ e' → f ≡ f' → g ≡ g' → h ≡ h' → made a b c d e f g h ≡ made a' b' c' d' e' f' g' h'
same_all made p q r s t u v w = cc

pub meta_one : (fs : List Field) (m n : Metadata) → IsMeta fs m → IsMeta fs n → m ≡ n
meta_one fs m n h k =
    same_all (λ a b c d e f g r. record { producer = a; seq = b; publish_time = c; replicated_from = d; key = e; replicate_to = f; marker = g; rest = r })
    (same_bytes _ _ (sym h.producer_name ∙ k.producer_name))
    (same_varint _ _ (sym h.sequence_id ∙ k.sequence_id))
    (same_varint _ _ (sym h.publish_time ∙ k.publish_time))
    (same_optional_bytes _ _ (sym h.replicated_from ∙ k.replicated_from))
    (same_optional_bytes _ _ (sym h.partition_key ∙ k.partition_key))
    (same_texts _ _ (sym h.replicate_to ∙ k.replicate_to))
    (same_optional_varint _ _ (sym h.marker_type ∙ k.marker_type))
    (sym h.rest ∙ k.rest)

pub meta_text_one : (bytes : List ℕ) (m n : Metadata) → IsMetaText bytes m → IsMetaText bytes n → m ≡ n
meta_text_one bytes m n h k = meta_one k.fields m n (subst (λ (fs : List Field). IsMeta fs m) (text_one h.text k.text) h.means) k.means

pub only : (bytes : List ℕ) (r : Result Metadata MessageFault) → IfOk r (IsMetaText bytes) → IfErr r (IsWrongOrMemory (WrongMessage rows bytes)) → (m : Metadata) → IsMetaText bytes m → Answers fault.Memory r (Ok m)
only bytes (Ok n) found wrong m h = inr (let same = meta_text_one bytes m n h found in cc)
only bytes (Err fault.Memory) found wrong m h = inl refl
only bytes (Err (fault.Pb x)) found wrong m h = absurd (message_sound rows bytes h.fields (fault.Pb x) h.text h.means.message wrong)
only bytes (Err (fault.WrongWire x)) found wrong m h = absurd (message_sound rows bytes h.fields (fault.WrongWire x) h.text h.means.message wrong)
only bytes (Err (fault.NotText x)) found wrong m h = absurd (message_sound rows bytes h.fields (fault.NotText x) h.text h.means.message wrong)
only bytes (Err (fault.Missing x)) found wrong m h = absurd (message_sound rows bytes h.fields (fault.Missing x) h.text h.means.message wrong)

pub refused : (bytes : List ℕ) (r : Result Metadata MessageFault) → IfOk r (IsMetaText bytes) → IfErr r (IsWrongOrMemory (WrongMessage rows bytes)) → (e : MessageFault) → WrongMessage rows bytes e → Answers fault.Memory r (Err e)
refused bytes (Ok m) found wrong e h = absurd (message_sound rows bytes found.fields e found.text found.means.message h)
refused bytes (Err fault.Memory) found wrong e h = inl refl
refused bytes (Err (fault.Pb x)) found wrong e h = inr (let same = message_one rows bytes (fault.Pb x) e wrong h in cc)
refused bytes (Err (fault.WrongWire x)) found wrong e h = inr (let same = message_one rows bytes (fault.WrongWire x) e wrong h in cc)
refused bytes (Err (fault.NotText x)) found wrong e h = inr (let same = message_one rows bytes (fault.NotText x) e wrong h in cc)
refused bytes (Err (fault.Missing x)) found wrong e h = inr (let same = message_one rows bytes (fault.Missing x) e wrong h in cc)
