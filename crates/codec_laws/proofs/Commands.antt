-- Any bytes are a text of a command, or something is wrong with them.
use Rattle.std.proofs.Common.{◌≡◌, ◌≢◌, ℕ, ◌<◌, ◌≤◌, true, eqb, eq-eqb, List, [], ◌∷◌, Option, Some, None, refl, sym, ap, subst, ◌∙◌, arith, ◌⊎◌, inl, inr}
use Rattle.std.specs.List.{AllByRecursion}
use Rattle.std.proofs.lemmas.Bool.{cases_lt, cases_eq}
use Rattle.geo_base.specs.declared.frame.AckKind.{AckKind}
use Rattle.geo_base.specs.declared.frame.AckKind.TheVariants as ack_kind
use Rattle.geo_base.specs.declared.frame.SubKind.{SubKind}
use Rattle.geo_base.specs.declared.frame.SubKind.TheVariants as sub_kind
use Rattle.pb_fields.specs.declared.field.Field.{Field}
use Rattle.pb_fields.specs.declared.field.Value.{Value}
use Rattle.pb_fields.specs.declared.field.Value.TheVariants as value
use Rattle.pb_fields.specs.declared.message.Form.TheVariants as form
use Rattle.pb_fields.specs.Text.{IsText}
use Rattle.pb_fields.specs.Message.{IsRow, last_value}
use Rattle.pb_fields.specs.Embedded.{IsMessageWith, AnyContent, NoFault}
use Rattle.pulsar_commands.specs.declared.command.Command.{Command}
use Rattle.pulsar_commands.specs.declared.command.Command.TheVariants as command
use Rattle.pulsar_commands.specs.declared.fault.CommandFault.{CommandFault}
use Rattle.pulsar_commands.specs.declared.fault.CommandFault.TheVariants as fault
use Rattle.pulsar_commands.specs.declared.kind.Kind.{Kind}
use Rattle.pulsar_commands.specs.declared.kind.Kind.TheVariants as kind
use Rattle.pulsar_commands.specs.Table.{kind_number, type_rows, held_rows, id_rows, rows_of, choice, choices_of, IsKnown}
use Rattle.pulsar_commands.specs.Parts.{sub_number, ack_number}
use Rattle.pulsar_commands.specs.Text.{IdRight, IdWrong, BodyRight, BodyWrong, HasType, Tells, IsLast, IsCommandText}
use Rattle.pulsar_commands.specs.Faults.{of_message, FirstUnknown, here, later, WrongCommand, no_type, unknown_type, of_type, body, enumeration}
use Rattle.codec_laws.specs.Answers.{AreBytes, HasAnswer, right, wrong}
use Rattle.codec_laws.proofs.Contents.{contents_are}
use Rattle.codec_laws.proofs.Messages.{AreJudged, any_judged, table_judged, of_fields, PlainAnswer, plain_answer}
use Rattle.codec_laws.proofs.Values.{required_number, required_held}
use Rattle.codec_laws.proofs.Parts.{a_text, a_text_maybe, a_number, a_number_maybe, a_number_or, a_flag, an_id, an_id_maybe, all_ids}

-- ---- what commands hold is judged

id_judged : AreJudged IdRight IdWrong
id_judged = table_judged AnyContent NoFault any_judged id_rows

body_judged : (k : Kind) → AreJudged (BodyRight k) (BodyWrong k)
body_judged k = table_judged IdRight IdWrong id_judged (rows_of k)

-- ---- enumerations

choice_known : (fs : List Field) (number size : ℕ) (o : Option Value) → last_value number fs ≡ o → IsKnown fs (choice number size) ⊎ ((n : ℕ) × ((last_value number fs ≡ Some (value.Varint n)) × (size ≤ n)))
choice_known fs number size None is = inl (λ n e. absurd cc)
choice_known fs number size (Some (value.Varint n)) is =
    elim (cases_lt n size) [
      | inl below ↦ inl (λ m e. subst (λ (k : ℕ). k < size) (same_number n m (sym is ∙ e)) below)
      | inr above ↦ inr (n, (is, above))
    ]
  where
    same_number : (a b : ℕ) → ◌≡◌ {A = Option Value} (Some (value.Varint a)) (Some (value.Varint b)) → a ≡ b
    same_number a b e = cc
choice_known fs number size (Some v) is = inl (λ n e. absurd cc)

abbrev AreKnown : Kind → List Field → Type 0
AreKnown k fs = AllByRecursion (IsKnown fs) (choices_of k) ⊎ ((n : ℕ) × FirstUnknown fs (choices_of k) n)

choices_known : (k : Kind) (fs : List Field) → AreKnown k fs
choices_known kind.Subscribe fs =
    elim (choice_known fs 3 4 (last_value 3 fs) refl) [
      | inr n ↦ inr (n.0, here n.1.0 n.1.1)
      | inl type_known ↦ elim (choice_known fs 13 2 (last_value 13 fs) refl) [
        | inr n ↦ inr (n.0, later type_known (here n.1.0 n.1.1))
        | inl known ↦ inl (type_known, (known, tt))
      ]
    ]
choices_known kind.Ack fs =
    elim (choice_known fs 2 2 (last_value 2 fs) refl) [
      | inr n ↦ inr (n.0, here n.1.0 n.1.1)
      | inl known ↦ inl (known, tt)
    ]
choices_known k fs = inl tt

sub_of : (n : ℕ) → n < 4 → (k : SubKind) × (n ≡ sub_number k)
sub_of n below =
    elim (cases_eq n 0) [
      | inl is ↦ (sub_kind.Exclusive, is)
      | inr a ↦ elim (cases_eq n 1) [
        | inl is ↦ (sub_kind.Shared, is)
        | inr b ↦ elim (cases_eq n 2) [ inl is ↦ (sub_kind.Failover, is) | inr c ↦ (sub_kind.KeyShared, omega arith) ]
      ]
    ]

ack_of : (n : ℕ) → n < 2 → (k : AckKind) × (n ≡ ack_number k)
ack_of n below = elim (cases_eq n 0) [ inl is ↦ (ack_kind.Individual, is) | inr a ↦ (ack_kind.Cumulative, omega arith) ]

-- ---- what the message of a kind says

abbrev TellsOf : Kind → List Field → Type 0
TellsOf k fs = (c : Command) × Tells k fs c

subscribe_of : (fs : List Field) → IsMessageWith IdRight (rows_of kind.Subscribe) fs → AllByRecursion (IsKnown fs) (choices_of kind.Subscribe) → TellsOf kind.Subscribe fs
subscribe_of fs h known =
    let topic = a_text (rows_of kind.Subscribe) fs h 1 refl in
    let sub = a_text (rows_of kind.Subscribe) fs h 2 refl in
    let type_number = a_number (rows_of kind.Subscribe) fs h 3 refl in
    let type_of = sub_of type_number.0 (known.0 type_number.0 type_number.1) in
    let consumer = a_number (rows_of kind.Subscribe) fs h 4 refl in
    let request = a_number (rows_of kind.Subscribe) fs h 5 refl in
    let name = a_text_maybe (rows_of kind.Subscribe) fs h 6 refl in
    let earliest = a_flag (rows_of kind.Subscribe) fs h 13 refl in
    let replicated = a_flag (rows_of kind.Subscribe) fs h 14 refl in (
      command.Subscribe topic.0 sub.0 type_of.0 consumer.0 request.0 name.0 earliest.0 replicated.0,
      record {
        kind = refl;
        says = (topic.1, (sub.1, (type_number.1 ∙ ap (λ (n : ℕ). Some (value.Varint n)) type_of.1, (consumer.1, (request.1, (name.1, (earliest.1, (replicated.1, tt))))))));
      },
    )

acknowledge_of : (fs : List Field) → IsMessageWith IdRight (rows_of kind.Ack) fs → AllByRecursion (IsKnown fs) (choices_of kind.Ack) → TellsOf kind.Ack fs
acknowledge_of fs h known =
    let consumer = a_number (rows_of kind.Ack) fs h 1 refl in
    let type_number = a_number (rows_of kind.Ack) fs h 2 refl in
    let type_of = ack_of type_number.0 (known.0 type_number.0 type_number.1) in
    let positions = all_ids (rows_of kind.Ack) fs h 3 refl in (
      command.Ack consumer.0 type_of.0 positions.0,
      record {
        kind = refl;
        says = (consumer.1, (type_number.1 ∙ ap (λ (n : ℕ). Some (value.Varint n)) type_of.1, (positions.1, tt)));
      },
    )

connect_of : (fs : List Field) → IsMessageWith IdRight (rows_of kind.Connect) fs → TellsOf kind.Connect fs
connect_of fs h =
    let a = a_text (rows_of kind.Connect) fs h 1 refl in
    let b = a_number_maybe (rows_of kind.Connect) fs h 4 refl in
    (command.Connect a.0 b.0, record { kind = refl; says = (a.1, (b.1, tt)) })

connected_of : (fs : List Field) → IsMessageWith IdRight (rows_of kind.Connected) fs → TellsOf kind.Connected fs
connected_of fs h =
    let a = a_text (rows_of kind.Connected) fs h 1 refl in
    let b = a_number_maybe (rows_of kind.Connected) fs h 2 refl in
    (command.Connected a.0 b.0, record { kind = refl; says = (a.1, (b.1, tt)) })

producer_of : (fs : List Field) → IsMessageWith IdRight (rows_of kind.Producer) fs → TellsOf kind.Producer fs
producer_of fs h =
    let a = a_text (rows_of kind.Producer) fs h 1 refl in
    let b = a_number (rows_of kind.Producer) fs h 2 refl in
    let c = a_number (rows_of kind.Producer) fs h 3 refl in
    let d = a_text_maybe (rows_of kind.Producer) fs h 4 refl in
    (command.Producer a.0 b.0 c.0 d.0, record { kind = refl; says = (a.1, (b.1, (c.1, (d.1, tt)))) })

send_of : (fs : List Field) → IsMessageWith IdRight (rows_of kind.Send) fs → TellsOf kind.Send fs
send_of fs h =
    let a = a_number (rows_of kind.Send) fs h 1 refl in
    let b = a_number (rows_of kind.Send) fs h 2 refl in
    let c = a_number_or (rows_of kind.Send) fs h 3 1 refl in
    (command.Send a.0 b.0 c.0, record { kind = refl; says = (a.1, (b.1, (c.1, tt))) })

send_receipt_of : (fs : List Field) → IsMessageWith IdRight (rows_of kind.SendReceipt) fs → TellsOf kind.SendReceipt fs
send_receipt_of fs h =
    let a = a_number (rows_of kind.SendReceipt) fs h 1 refl in
    let b = a_number (rows_of kind.SendReceipt) fs h 2 refl in
    let c = an_id_maybe (rows_of kind.SendReceipt) fs h 3 refl in
    (command.SendReceipt a.0 b.0 c.0, record { kind = refl; says = (a.1, (b.1, (c.1, tt))) })

send_error_of : (fs : List Field) → IsMessageWith IdRight (rows_of kind.SendError) fs → TellsOf kind.SendError fs
send_error_of fs h =
    let a = a_number (rows_of kind.SendError) fs h 1 refl in
    let b = a_number (rows_of kind.SendError) fs h 2 refl in
    let c = a_number (rows_of kind.SendError) fs h 3 refl in
    let d = a_text (rows_of kind.SendError) fs h 4 refl in
    (command.SendError a.0 b.0 c.0 d.0, record { kind = refl; says = (a.1, (b.1, (c.1, (d.1, tt)))) })

message_of : (fs : List Field) → IsMessageWith IdRight (rows_of kind.Message) fs → TellsOf kind.Message fs
message_of fs h =
    let a = a_number (rows_of kind.Message) fs h 1 refl in
    let b = an_id (rows_of kind.Message) fs h 2 refl in
    (command.Message a.0 b.0, record { kind = refl; says = (a.1, (b.1, tt)) })

flow_of : (fs : List Field) → IsMessageWith IdRight (rows_of kind.Flow) fs → TellsOf kind.Flow fs
flow_of fs h =
    let a = a_number (rows_of kind.Flow) fs h 1 refl in
    let b = a_number (rows_of kind.Flow) fs h 2 refl in
    (command.Flow a.0 b.0, record { kind = refl; says = (a.1, (b.1, tt)) })

unsubscribe_of : (fs : List Field) → IsMessageWith IdRight (rows_of kind.Unsubscribe) fs → TellsOf kind.Unsubscribe fs
unsubscribe_of fs h =
    let a = a_number (rows_of kind.Unsubscribe) fs h 1 refl in
    let b = a_number (rows_of kind.Unsubscribe) fs h 2 refl in
    (command.Unsubscribe a.0 b.0, record { kind = refl; says = (a.1, (b.1, tt)) })

success_of : (fs : List Field) → IsMessageWith IdRight (rows_of kind.Success) fs → TellsOf kind.Success fs
success_of fs h =
    let a = a_number (rows_of kind.Success) fs h 1 refl in
    (command.Success a.0, record { kind = refl; says = (a.1, tt) })

error_of : (fs : List Field) → IsMessageWith IdRight (rows_of kind.Error) fs → TellsOf kind.Error fs
error_of fs h =
    let a = a_number (rows_of kind.Error) fs h 1 refl in
    let b = a_number (rows_of kind.Error) fs h 2 refl in
    let c = a_text (rows_of kind.Error) fs h 3 refl in
    (command.Error a.0 b.0 c.0, record { kind = refl; says = (a.1, (b.1, (c.1, tt))) })

close_producer_of : (fs : List Field) → IsMessageWith IdRight (rows_of kind.CloseProducer) fs → TellsOf kind.CloseProducer fs
close_producer_of fs h =
    let a = a_number (rows_of kind.CloseProducer) fs h 1 refl in
    let b = a_number (rows_of kind.CloseProducer) fs h 2 refl in
    (command.CloseProducer a.0 b.0, record { kind = refl; says = (a.1, (b.1, tt)) })

close_consumer_of : (fs : List Field) → IsMessageWith IdRight (rows_of kind.CloseConsumer) fs → TellsOf kind.CloseConsumer fs
close_consumer_of fs h =
    let a = a_number (rows_of kind.CloseConsumer) fs h 1 refl in
    let b = a_number (rows_of kind.CloseConsumer) fs h 2 refl in
    (command.CloseConsumer a.0 b.0, record { kind = refl; says = (a.1, (b.1, tt)) })

producer_success_of : (fs : List Field) → IsMessageWith IdRight (rows_of kind.ProducerSuccess) fs → TellsOf kind.ProducerSuccess fs
producer_success_of fs h =
    let a = a_number (rows_of kind.ProducerSuccess) fs h 1 refl in
    let b = a_text (rows_of kind.ProducerSuccess) fs h 2 refl in
    (command.ProducerSuccess a.0 b.0, record { kind = refl; says = (a.1, (b.1, tt)) })

ping_of : (fs : List Field) → IsMessageWith IdRight (rows_of kind.Ping) fs → TellsOf kind.Ping fs
ping_of fs h = (command.Ping, record { kind = refl; says = tt })

pong_of : (fs : List Field) → IsMessageWith IdRight (rows_of kind.Pong) fs → TellsOf kind.Pong fs
pong_of fs h = (command.Pong, record { kind = refl; says = tt })

tells_of : (k : Kind) (fs : List Field) → IsMessageWith IdRight (rows_of k) fs → AllByRecursion (IsKnown fs) (choices_of k) → TellsOf k fs
tells_of kind.Connect fs h known = connect_of fs h
tells_of kind.Connected fs h known = connected_of fs h
tells_of kind.Subscribe fs h known = subscribe_of fs h known
tells_of kind.Producer fs h known = producer_of fs h
tells_of kind.Send fs h known = send_of fs h
tells_of kind.SendReceipt fs h known = send_receipt_of fs h
tells_of kind.SendError fs h known = send_error_of fs h
tells_of kind.Message fs h known = message_of fs h
tells_of kind.Ack fs h known = acknowledge_of fs h known
tells_of kind.Flow fs h known = flow_of fs h
tells_of kind.Unsubscribe fs h known = unsubscribe_of fs h
tells_of kind.Success fs h known = success_of fs h
tells_of kind.Error fs h known = error_of fs h
tells_of kind.CloseProducer fs h known = close_producer_of fs h
tells_of kind.CloseConsumer fs h known = close_consumer_of fs h
tells_of kind.ProducerSuccess fs h known = producer_success_of fs h
tells_of kind.Ping fs h known = ping_of fs h
tells_of kind.Pong fs h known = pong_of fs h

-- ---- bytes

abbrev pub CommandAnswer : List ℕ → Type 0
CommandAnswer bytes = HasAnswer {X = Command} {E = CommandFault} (λ c. IsCommandText bytes c) (λ e. WrongCommand bytes e)

held_row : (k : Kind) → IsRow (held_rows k) (kind_number k) form.Message true
held_row k = let test : eqb (kind_number k) (kind_number k) ≡ true = eq-eqb _ _ refl in rw test refl

-- the message that counts is there: its enumerations decide
of_last : (bytes : List ℕ) (fs : List Field) (k : Kind) (held : List Field) → IsText bytes fs → HasType fs k → IsMessageWith (BodyRight k) (held_rows k) fs → IsLast k fs held → IsMessageWith IdRight (rows_of k) held → CommandAnswer bytes
of_last bytes fs k held text type good last message =
    elim (choices_known k held) [
      | inr n ↦ wrong (fault.UnknownType n.0) (of_type fs k text type (enumeration held n.0 good last n.1 refl))
      | inl known ↦
          let c = tells_of k held message known in
          right c.0 (record { fields = fs; text = text; means = record { kind = k; type = type; held = held; holds = record { right = good; last = last; known = known }; tells = c.1 } })
    ]

of_right : (bytes : List ℕ) (fs : List Field) (k : Kind) → IsText bytes fs → HasType fs k → IsMessageWith (BodyRight k) (held_rows k) fs → CommandAnswer bytes
of_right bytes fs k text type good =
    let held = required_held (BodyRight k) (held_rows k) (kind_number k) fs (held_row k) good in
    of_last bytes fs k held.1.1.fields text type good (record { content = held.0; is = held.1.0; text = held.1.1.text }) held.1.1.message

of_kind : (bytes : List ℕ) (fs : List Field) (k : Kind) → AreBytes bytes → IsText bytes fs → HasType fs k → CommandAnswer bytes
of_kind bytes fs k are text type =
    elim (of_fields (BodyRight k) (BodyWrong k) (body_judged k) (held_rows k) fs (contents_are text are)) [
      | inl good ↦ of_right bytes fs k text type good
      | inr bad ↦ wrong (of_message bad.0) (of_type fs k text type (body bad.0 bad.1 refl))
    ]

-- ---- the type

abbrev kinds : List Kind
kinds =
    kind.Connect ∷ kind.Connected ∷ kind.Subscribe ∷ kind.Producer ∷ kind.Send ∷ kind.SendReceipt ∷ kind.SendError ∷
    kind.Message ∷ kind.Ack ∷ kind.Flow ∷ kind.Unsubscribe ∷ kind.Success ∷ kind.Error ∷ kind.CloseProducer ∷
    kind.CloseConsumer ∷ kind.ProducerSuccess ∷ kind.Ping ∷ kind.Pong ∷ []

-- these are all
each : (P : Kind → Type 0) → AllByRecursion P kinds → (k : Kind) → P k
each P all kind.Connect = all.0
each P all kind.Connected = all.1.0
each P all kind.Subscribe = all.1.1.0
each P all kind.Producer = all.1.1.1.0
each P all kind.Send = all.1.1.1.1.0
each P all kind.SendReceipt = all.1.1.1.1.1.0
each P all kind.SendError = all.1.1.1.1.1.1.0
each P all kind.Message = all.1.1.1.1.1.1.1.0
each P all kind.Ack = all.1.1.1.1.1.1.1.1.0
each P all kind.Flow = all.1.1.1.1.1.1.1.1.1.0
each P all kind.Unsubscribe = all.1.1.1.1.1.1.1.1.1.1.0
each P all kind.Success = all.1.1.1.1.1.1.1.1.1.1.1.0
each P all kind.Error = all.1.1.1.1.1.1.1.1.1.1.1.1.0
each P all kind.CloseProducer = all.1.1.1.1.1.1.1.1.1.1.1.1.1.0
each P all kind.CloseConsumer = all.1.1.1.1.1.1.1.1.1.1.1.1.1.1.0
each P all kind.ProducerSuccess = all.1.1.1.1.1.1.1.1.1.1.1.1.1.1.1.0
each P all kind.Ping = all.1.1.1.1.1.1.1.1.1.1.1.1.1.1.1.1.0
each P all kind.Pong = all.1.1.1.1.1.1.1.1.1.1.1.1.1.1.1.1.1.0

kind_among : (n : ℕ) (ks : List Kind) → ((k : Kind) × (n ≡ kind_number k)) ⊎ AllByRecursion (λ k. n ≢ kind_number k) ks
kind_among n [] = inr tt
kind_among n (k ∷ ks) =
    elim (cases_eq n (kind_number k)) [
      | inl is ↦ inl (k, is)
      | inr other ↦ elim (kind_among n ks) [ inl found ↦ inl found | inr none ↦ inr (other, none) ]
    ]

kind_in : (n : ℕ) → ((k : Kind) × (n ≡ kind_number k)) ⊎ ((k : Kind) → n ≢ kind_number k)
kind_in n = elim (kind_among n kinds) [ inl found ↦ inl found | inr none ↦ inr (each (λ k. n ≢ kind_number k) none) ]

of_plain : (bytes : List ℕ) → AreBytes bytes → PlainAnswer type_rows bytes → CommandAnswer bytes
of_plain bytes are (wrong e h) = wrong (of_message e) (no_type e h refl)
of_plain bytes are (right fs h) =
    let n = required_number type_rows 1 fs refl h.1 in
    elim (kind_in n.0) [
      | inr none ↦ wrong (fault.UnknownType n.0) (unknown_type fs n.0 h.0 h.1 n.1 none refl)
      | inl k ↦ of_kind bytes fs k.0 are h.0 (record { message = h.1; is = n.1 ∙ ap (λ (m : ℕ). Some (value.Varint m)) k.1 })
    ]

pub command_answer : (bytes : List ℕ) → AreBytes bytes → CommandAnswer bytes
command_answer bytes are = of_plain bytes are (plain_answer type_rows bytes are)
