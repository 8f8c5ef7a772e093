-- What the readers of commands keep.
use Rattle.std.proofs.Common.{◌≡◌, ◌≢◌, ℕ, zero, suc, ◌+◌, ◌<◌, ◌≤◌, length, take, get_or, arith, add-one, List, [], ◌∷◌, ◌++◌, Some, Result, Ok, Err, inl, inr, sym, ap, subst, ◌∙◌}
use Rattle.std.proofs.Math.Seq.{take-suc}
use Rattle.std.proofs.lemmas.List.{append-nil}
use Rattle.std.specs.Prelude.{IfErr}
use Rattle.std.specs.List.{AllByRecursion}
use Rattle.pb_fields.specs.declared.field.Field.{Field}
use Rattle.pb_fields.specs.declared.field.Value.{Value}
use Rattle.pb_fields.specs.declared.field.Value.TheVariants as value
use Rattle.pb_fields.specs.declared.message.MessageFault.{MessageFault}
use Rattle.pb_fields.specs.declared.message.MessageFault.TheVariants as message
use Rattle.pb_fields.specs.Faults.{Answers}
use Rattle.pb_fields.proofs.LastValues.{values-same, values-other}
use Rattle.pb_fields.proofs.Parts.{values-append}
use Rattle.pb_fields.specs.Message.{last_value, values, IsWrongOrMemory}
use Rattle.pb_fields.specs.Embedded.{IsExact}
use Rattle.geo_base.specs.declared.position.Position.{Position}
use Rattle.pb_fields.proofs.Nested.{unread_exact, of_table, IsHeld}
use Rattle.pulsar_commands.specs.Part.{IsId, AreIds}
use Rattle.pulsar_commands.specs.declared.kind.Kind.{Kind}
use Rattle.pulsar_commands.specs.declared.table.Choice.{Choice}
use Rattle.pulsar_commands.specs.Table.{id_rows, rows_of, IsKnown}
use Rattle.pulsar_commands.specs.Text.{IdRight, IdWrong, BodyRight, BodyWrong}
use Rattle.pulsar_commands.specs.Faults.{FirstUnknown, here, later}

-- ---- contents are judged exactly

pub ids_exact : IsExact IdRight IdWrong
ids_exact = of_table _ _ unread_exact id_rows

pub body_exact : (k : Kind) → IsExact (BodyRight k) (BodyWrong k)
body_exact k = of_table _ _ ids_exact (rows_of k)

same_error : {X : Type 0} (a b : MessageFault) → ◌≡◌ {A = Result X MessageFault} (Err a) (Err b) → a ≡ b
same_error a b is = cc

-- where something right is read, want of memory is the only fault
pub memory_alone : {X : Type 0} (P : MessageFault → Type 0) (r : Result X MessageFault) (x : X) → Answers message.Memory r (Ok x) → IfErr r (IsWrongOrMemory P)
memory_alone P (Ok y) x h = tt
memory_alone P (Err e) x (inl is) = subst (λ (e : MessageFault). IsWrongOrMemory P e) (sym (same_error e message.Memory is)) tt
memory_alone P (Err e) x (inr is) = absurd cc

-- ---- enumerations

pub first_unknown_at : (fields : List Field) (cs : List Choice) (i : ℕ) (d : Choice) (n : ℕ) → i < length cs → AllByRecursion (IsKnown fields) (take i cs) → last_value (get_or cs i d).number fields ≡ Some (value.Varint n) → (get_or cs i d).size ≤ n → FirstUnknown fields cs n
first_unknown_at fields [] i d n lt known is above = absurd (omega arith)
first_unknown_at fields (c ∷ cs) zero d n lt known is above = here is above
first_unknown_at fields (c ∷ cs) (suc i) d n lt known is above = later known.0 (first_unknown_at fields cs i d n (omega arith) known.1 is above)

-- ---- ids

taken : (fs : List Field) (i : ℕ) (f : Field) → i < length fs → f ≡ get_or fs i f → take (i + 1) fs ≡ take i fs ++ f ∷ []
taken fs i f lt is = ap (λ (k : ℕ). take k fs) (add-one i) ∙ take-suc fs i f lt ∙ ap (λ (g : Field). take i fs ++ g ∷ []) (sym is)

pub values_same : (n : ℕ) (fs : List Field) (i : ℕ) (f : Field) → i < length fs → f ≡ get_or fs i f → f.number ≡ n → values n (take (i + 1) fs) ≡ values n (take i fs) ++ f.value ∷ []
values_same n fs i f lt is same = ap (λ (gs : List Field). values n gs) (taken fs i f lt is) ∙ values-append n (take i fs) (f ∷ []) ∙ ap (λ (vs : List Value). values n (take i fs) ++ vs) (values-same n f [] same)

pub values_other : (n : ℕ) (fs : List Field) (i : ℕ) (f : Field) → i < length fs → f ≡ get_or fs i f → (f.number ≡ n → ⊥) → values n (take (i + 1) fs) ≡ values n (take i fs)
values_other n fs i f lt is other = ap (λ (gs : List Field). values n gs) (taken fs i f lt is) ∙ values-append n (take i fs) (f ∷ []) ∙ ap (λ (vs : List Value). values n (take i fs) ++ vs) (values-other n f [] other) ∙ append-nil (values n (take i fs))

pub held_bytes : (P : List ℕ → Type 0) (v : Value) (content : List ℕ) → IsHeld P v → v ≡ value.Bytes content → P content
held_bytes P v content h is = subst (λ (c : List ℕ). P c) (contents h.content content (sym h.is ∙ is)) h.right
  where
    contents : (a b : List ℕ) → ◌≡◌ {A = Value} (value.Bytes a) (value.Bytes b) → a ≡ b
    contents a b e = cc

pub held_none : (P : List ℕ → Type 0) (v : Value) → IsHeld P v → ((b : List ℕ) → v ≢ value.Bytes b) → ⊥
held_none P v h none = none h.content h.is

-- one position more
pub AreIds-push : (vs : List Value) (ps : List Position) (v : Value) (p : Position) → AreIds vs ps → IsId v p → AreIds (vs ++ v ∷ []) (ps ++ p ∷ [])
AreIds-push [] [] v p h k = (k, tt)
AreIds-push (w ∷ vs) (q ∷ ps) v p h k = (h.0, AreIds-push vs ps v p h.1 k)
AreIds-push [] (q ∷ ps) v p h k = absurd h
AreIds-push (w ∷ vs) [] v p h k = absurd h
