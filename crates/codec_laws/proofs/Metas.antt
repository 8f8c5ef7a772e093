-- Any bytes are a text of metadata, or something is wrong with them.
use Rattle.std.proofs.Common.{ℕ, List, refl}
use Rattle.pb_fields.specs.declared.field.Field.{Field}
use Rattle.pb_fields.specs.declared.message.MessageFault.{MessageFault}
use Rattle.pb_fields.specs.Message.{IsMessage, WrongMessage, unknown}
use Rattle.message_meta.specs.Table.{rows}
use Rattle.message_meta.specs.Metadata.{Metadata, IsMeta, IsMetaText}
use Rattle.codec_laws.specs.Answers.{AreBytes, HasAnswer, right, wrong}
use Rattle.codec_laws.proofs.Messages.{PlainAnswer, plain_answer}
use Rattle.codec_laws.proofs.Values.{required_text, required_number, optional_text, optional_number, repeated_text}

-- what the fields of a message of the table say
pub meta_of : (fs : List Field) → IsMessage rows fs → (m : Metadata) × IsMeta fs m
meta_of fs h =
    let producer = required_text rows 1 fs refl h in
    let seq = required_number rows 2 fs refl h in
    let time = required_number rows 3 fs refl h in
    let source = optional_text rows 5 fs refl h in
    let key = optional_text rows 6 fs refl h in
    let names = repeated_text rows 7 fs refl h in
    let marker = optional_number rows 20 fs refl h in (
      record {
        producer = producer.0;
        seq = seq.0;
        publish_time = time.0;
        replicated_from = source.0;
        key = key.0;
        replicate_to = names.0;
        marker = marker.0;
        rest = unknown rows fs;
      },
      record {
        message = h;
        producer_name = producer.1;
        sequence_id = seq.1;
        publish_time = time.1;
        replicated_from = source.1;
        partition_key = key.1;
        replicate_to = names.1;
        marker_type = marker.1;
        rest = refl;
      },
    )

abbrev pub MetaAnswer : List ℕ → Type 0
MetaAnswer bytes = HasAnswer {X = Metadata} {E = MessageFault} (λ m. IsMetaText bytes m) (λ e. WrongMessage rows bytes e)

of_plain : (bytes : List ℕ) → PlainAnswer rows bytes → MetaAnswer bytes
of_plain bytes (wrong e h) = wrong e h
of_plain bytes (right fs h) = let m = meta_of fs h.1 in right m.0 (record { fields = fs; text = h.0; means = m.1 })

pub meta_answer : (bytes : List ℕ) → AreBytes bytes → MetaAnswer bytes
meta_answer bytes are = of_plain bytes (plain_answer rows bytes are)
