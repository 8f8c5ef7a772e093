-- Bytes are a text of one command at most, have one fault at most, and not both.
use Rattle.std.proofs.Common.{◌≡◌, ℕ, ◌-◌, arith, List, [], ◌∷◌, Option, Some, Result, Ok, Err, inl, inr, get_or, refl, sym, ap, subst, ◌∙◌}
use Rattle.std.specs.Prelude.{IfOk, IfErr}
use Rattle.std.specs.List.{AllByRecursion}
use Rattle.pb_fields.specs.declared.field.Field.{Field}
use Rattle.pb_fields.specs.declared.field.Value.{Value}
use Rattle.pb_fields.specs.declared.field.Value.TheVariants as value
use Rattle.pb_fields.specs.declared.message.MessageFault.{MessageFault}
use Rattle.pb_fields.specs.Text.{IsText}
use Rattle.pb_fields.specs.Faults.{Answers}
use Rattle.pb_fields.specs.Message.{last_value}
use Rattle.pb_fields.proofs.Unique.{text_one}
use Rattle.pb_fields.proofs.Messages.{message_one, message_sound}
use Rattle.pb_fields.proofs.Nested.{fields_one, fields_sound}
use Rattle.pulsar_commands.specs.declared.command.Command.{Command}
use Rattle.pulsar_commands.specs.declared.fault.CommandFault.{CommandFault}
use Rattle.pulsar_commands.specs.declared.fault.CommandFault.TheVariants as fault
use Rattle.pulsar_commands.specs.declared.kind.Kind.{Kind}
use Rattle.pulsar_commands.specs.declared.kind.Kind.TheVariants as kind
use Rattle.pulsar_commands.specs.declared.table.Choice.{Choice}
use Rattle.pulsar_commands.specs.Table.{kind_number, type_rows, held_rows, choices_of, IsKnown}
use Rattle.pulsar_commands.specs.Text.{BodyRight, BodyWrong, HasType, IsLast, Holds, Tells, IsCommand, IsCommandText}
use Rattle.pulsar_commands.specs.Faults.{of_message, FirstUnknown, here, later, WrongOfType, body, enumeration, WrongCommand, no_type, unknown_type, of_type, IsFaultOrMemory}
use Rattle.pulsar_commands.proofs.Meaning.{tells_one}
use Rattle.pulsar_commands.proofs.Reading.{body_exact}

-- ---- the type, and the message that counts

abbrev kinds : List Kind
kinds = kind.Connect ∷ kind.Connected ∷ kind.Subscribe ∷ kind.Producer ∷ kind.Send ∷ kind.SendReceipt ∷ kind.SendError ∷ kind.Message ∷ kind.Ack ∷ kind.Flow ∷ kind.Unsubscribe ∷ kind.Success ∷ kind.Error ∷ kind.CloseProducer ∷ kind.CloseConsumer ∷ kind.ProducerSuccess ∷ kind.Ping ∷ kind.Pong ∷ []

abbrev kind_from : ℕ → Kind
kind_from n = get_or kinds (n - 2) kind.Pong

kind_from-is : (k : Kind) → kind_from (kind_number k) ≡ k
kind_from-is kind.Connect = refl
kind_from-is kind.Connected = refl
kind_from-is kind.Subscribe = refl
kind_from-is kind.Producer = refl
kind_from-is kind.Send = refl
kind_from-is kind.SendReceipt = refl
kind_from-is kind.SendError = refl
kind_from-is kind.Message = refl
kind_from-is kind.Ack = refl
kind_from-is kind.Flow = refl
kind_from-is kind.Unsubscribe = refl
kind_from-is kind.Success = refl
kind_from-is kind.Error = refl
kind_from-is kind.CloseProducer = refl
kind_from-is kind.CloseConsumer = refl
kind_from-is kind.ProducerSuccess = refl
kind_from-is kind.Ping = refl
kind_from-is kind.Pong = refl

same_kind : (j k : Kind) → kind_number j ≡ kind_number k → j ≡ k
same_kind j k e = sym (kind_from-is j) ∙ ap (λ (n : ℕ). kind_from n) e ∙ kind_from-is k

same_varint : (a b : ℕ) → ◌≡◌ {A = Option Value} (Some (value.Varint a)) (Some (value.Varint b)) → a ≡ b
same_varint a b e = cc

same_bytes : (a b : List ℕ) → ◌≡◌ {A = Option Value} (Some (value.Bytes a)) (Some (value.Bytes b)) → a ≡ b
same_bytes a b e = cc

type_one : (fs : List Field) (j k : Kind) → HasType fs j → HasType fs k → j ≡ k
type_one fs j k h i = same_kind j k (same_varint _ _ (sym h.is ∙ i.is))

last_one : (k : Kind) (fs held others : List Field) → IsLast k fs held → IsLast k fs others → held ≡ others
last_one k fs held others h i =
    let same : h.content ≡ i.content = same_bytes _ _ (sym h.is ∙ i.is) in
    text_one (subst (λ (bytes : List ℕ). IsText bytes held) same h.text) i.text

-- ---- enumerations

known_sound : (fs : List Field) (cs : List Choice) (n : ℕ) → AllByRecursion (IsKnown fs) cs → FirstUnknown fs cs n → ⊥
known_sound fs [] n known h = elim h [ ]
known_sound fs (c ∷ cs) n known (here is above) = let below = known.0 n is in omega (arith, below, above)
known_sound fs (c ∷ cs) n known (later k h) = known_sound fs cs n known.1 h

first_one : (fs : List Field) (cs : List Choice) (m n : ℕ) → FirstUnknown fs cs m → FirstUnknown fs cs n → m ≡ n
first_one fs [] m n h k = elim h [ ]
first_one fs (c ∷ cs) m n (here is above) (here is' above') = same_varint m n (sym is ∙ is')
first_one fs (c ∷ cs) m n (here is above) (later known k) = absurd (let below = known m is in omega (arith, below, above))
first_one fs (c ∷ cs) m n (later known h) (here is above) = absurd (let below = known n is in omega (arith, below, above))
first_one fs (c ∷ cs) m n (later known h) (later known' k) = first_one fs cs m n h k

-- ---- of a type

of_type_sound : (k : Kind) (fs held : List Field) (e : CommandFault) → Holds k fs held → WrongOfType k fs e → ⊥
of_type_sound k fs held e h (body m wrong e-is) = fields_sound (BodyRight k) (BodyWrong k) (body_exact k) (held_rows k) fs m h.right wrong
of_type_sound k fs held e h (enumeration others n right last first e-is) =
    known_sound held (choices_of k) n h.known (subst (λ (x : List Field). FirstUnknown x (choices_of k) n) (last_one k fs others held last h.last) first)

of_type_one : (k : Kind) (fs : List Field) (a b : CommandFault) → WrongOfType k fs a → WrongOfType k fs b → a ≡ b
of_type_one k fs a b (body m wrong a-is) (body m' wrong' b-is) =
    a-is ∙ ap (λ (x : MessageFault). of_message x) (fields_one (BodyRight k) (BodyWrong k) (body_exact k) (held_rows k) fs m m' wrong wrong') ∙ sym b-is
of_type_one k fs a b (body m wrong a-is) (enumeration held n right last first b-is) = absurd (fields_sound (BodyRight k) (BodyWrong k) (body_exact k) (held_rows k) fs m right wrong)
of_type_one k fs a b (enumeration held n right last first a-is) (body m wrong b-is) = absurd (fields_sound (BodyRight k) (BodyWrong k) (body_exact k) (held_rows k) fs m right wrong)
of_type_one k fs a b (enumeration held n right last first a-is) (enumeration held' n' right' last' first' b-is) =
    let same = first_one held' (choices_of k) n n' (subst (λ (x : List Field). FirstUnknown x (choices_of k) n) (last_one k fs held held' last last') first) first' in
    a-is ∙ ap (λ (x : ℕ). fault.UnknownType x) same ∙ sym b-is

-- ---- fields

fields_meaning : (fs : List Field) (c d : Command) → IsCommand fs c → IsCommand fs d → c ≡ d
fields_meaning fs c d h i =
    let same : h.kind ≡ i.kind = type_one fs h.kind i.kind h.type i.type in
    let last = subst (λ (k : Kind). IsLast k fs h.held) same h.holds.last in
    let held : h.held ≡ i.held = last_one i.kind fs h.held i.held last i.holds.last in
    tells_one i.kind i.held c d (subst (λ (x : List Field). Tells i.kind x c) held (subst (λ (k : Kind). Tells k h.held c) same h.tells)) i.tells

-- ---- bytes

pub meaning_one : (bytes : List ℕ) (c d : Command) → IsCommandText bytes c → IsCommandText bytes d → c ≡ d
meaning_one bytes c d h i = fields_meaning i.fields c d (subst (λ (fs : List Field). IsCommand fs c) (text_one h.text i.text) h.means) i.means

pub sound : (bytes : List ℕ) (c : Command) (e : CommandFault) → IsCommandText bytes c → WrongCommand bytes e → ⊥
sound bytes c e h (no_type m wrong e-is) = message_sound type_rows bytes h.fields m h.text h.means.type.message wrong
sound bytes c e h (unknown_type fs n is message last none e-is) =
    let one = text_one is h.text in
    let same = sym last ∙ ap (λ (x : List Field). last_value 1 x) one ∙ h.means.type.is in
    none h.means.kind (same_varint n (kind_number h.means.kind) same)
sound bytes c e h (of_type fs k is type wrong) =
    let one = text_one is h.text in
    let type' = subst (λ (x : List Field). HasType x k) one type in
    let same = type_one h.fields k h.means.kind type' h.means.type in
    of_type_sound h.means.kind h.fields h.means.held e h.means.holds (subst (λ (j : Kind). WrongOfType j h.fields e) same (subst (λ (x : List Field). WrongOfType k x e) one wrong))

pub fault_one : (bytes : List ℕ) (a b : CommandFault) → WrongCommand bytes a → WrongCommand bytes b → a ≡ b
fault_one bytes a b (no_type m wrong a-is) (no_type m' wrong' b-is) = a-is ∙ ap (λ (x : MessageFault). of_message x) (message_one type_rows bytes m m' wrong wrong') ∙ sym b-is
fault_one bytes a b (no_type m wrong a-is) (unknown_type fs n is message last none b-is) = absurd (message_sound type_rows bytes fs m is message wrong)
fault_one bytes a b (no_type m wrong a-is) (of_type fs k is type other) = absurd (message_sound type_rows bytes fs m is type.message wrong)
fault_one bytes a b (unknown_type fs n is message last none a-is) (no_type m wrong b-is) = absurd (message_sound type_rows bytes fs m is message wrong)
fault_one bytes a b (unknown_type fs n is message last none a-is) (unknown_type fs' n' is' message' last' none' b-is) =
    let same = same_varint n n' (sym last ∙ ap (λ (x : List Field). last_value 1 x) (text_one is is') ∙ last') in
    a-is ∙ ap (λ (x : ℕ). fault.UnknownType x) same ∙ sym b-is
fault_one bytes a b (unknown_type fs n is message last none a-is) (of_type fs' k is' type wrong) =
    absurd (none k (same_varint n (kind_number k) (sym last ∙ ap (λ (x : List Field). last_value 1 x) (text_one is is') ∙ type.is)))
fault_one bytes a b (of_type fs k is type other) (no_type m wrong b-is) = absurd (message_sound type_rows bytes fs m is type.message wrong)
fault_one bytes a b (of_type fs k is type wrong) (unknown_type fs' n is' message last none b-is) =
    absurd (none k (same_varint n (kind_number k) (sym last ∙ ap (λ (x : List Field). last_value 1 x) (text_one is' is) ∙ type.is)))
fault_one bytes a b (of_type fs k is type wrong) (of_type fs' k' is' type' wrong') =
    let one = text_one is is' in
    let same = type_one fs' k k' (subst (λ (x : List Field). HasType x k) one type) type' in
    of_type_one k' fs' a b (subst (λ (j : Kind). WrongOfType j fs' a) same (subst (λ (x : List Field). WrongOfType k x a) one wrong)) wrong'

-- ---- what a reader answers

pub only : (bytes : List ℕ) (r : Result Command CommandFault) → IfOk r (IsCommandText bytes) → IfErr r (IsFaultOrMemory (WrongCommand bytes)) → (c : Command) → IsCommandText bytes c → Answers fault.Memory r (Ok c)
only bytes (Ok d) found wrong c h = inr (let same = meaning_one bytes c d h found in cc)
only bytes (Err fault.Memory) found wrong c h = inl refl
only bytes (Err (fault.Pb x)) found wrong c h = absurd (sound bytes c (fault.Pb x) h wrong)
only bytes (Err (fault.WrongWire x)) found wrong c h = absurd (sound bytes c (fault.WrongWire x) h wrong)
only bytes (Err (fault.NotText x)) found wrong c h = absurd (sound bytes c (fault.NotText x) h wrong)
only bytes (Err (fault.Missing x)) found wrong c h = absurd (sound bytes c (fault.Missing x) h wrong)
only bytes (Err (fault.UnknownType x)) found wrong c h = absurd (sound bytes c (fault.UnknownType x) h wrong)

pub refused : (bytes : List ℕ) (r : Result Command CommandFault) → IfOk r (IsCommandText bytes) → IfErr r (IsFaultOrMemory (WrongCommand bytes)) → (e : CommandFault) → WrongCommand bytes e → Answers fault.Memory r (Err e)
refused bytes (Ok c) found wrong e h = absurd (sound bytes c e found h)
refused bytes (Err fault.Memory) found wrong e h = inl refl
refused bytes (Err (fault.Pb x)) found wrong e h = inr (let same = fault_one bytes (fault.Pb x) e wrong h in cc)
refused bytes (Err (fault.WrongWire x)) found wrong e h = inr (let same = fault_one bytes (fault.WrongWire x) e wrong h in cc)
refused bytes (Err (fault.NotText x)) found wrong e h = inr (let same = fault_one bytes (fault.NotText x) e wrong h in cc)
refused bytes (Err (fault.Missing x)) found wrong e h = inr (let same = fault_one bytes (fault.Missing x) e wrong h in cc)
refused bytes (Err (fault.UnknownType x)) found wrong e h = inr (let same = fault_one bytes (fault.UnknownType x) e wrong h in cc)
