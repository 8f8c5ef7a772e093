-- A SEND of the usual form as the machine has it (own): a message to all clusters, with no field that nobody reads.
use Rattle.std.specs.Prelude.{ℕ, Bool, ◌&&◌, nat_lt, nat_le, List, Option, None, Some, length}
use Rattle.std.specs.Option.{option_copied}
use Rattle.geo_base.specs.declared.frame.Frame.{Frame}
use Rattle.geo_base.specs.declared.frame.Frame.TheVariants as frame
use Rattle.geo_base.specs.declared.packet.Out.{Out}
use Rattle.geo_base.specs.declared.position.Position.{Position}
use Rattle.frame_values.specs.Usual.{entry_viewed, source_viewed}
use Rattle.pulsar_frames.specs.declared.view.MessageView.{MessageView}
use Rattle.broker_plans.specs.declared.usual.Came.{Came}
use Rattle.broker_plans.specs.declared.usual.Answered.{Answered}

-- the frame; the cluster that stored its entry first does not stand in the bytes, and is 0 here
abbrev pub send_viewed : List (List ℕ) → Came → Frame
send_viewed names c = frame.Send c.id c.seq (source_viewed names c.message) (entry_viewed 0 c.message)

-- the bytes of a text that may be absent
abbrev pub text_length : Option (List ℕ) → ℕ
text_length None = 0
text_length (Some t) = length t

-- a text of fewer bytes is short (own)
abbrev pub short_text : ℕ
short_text = 128

-- the bytes of an entry that can be stored, less what metadata with short texts takes
abbrev pub most_small_payload : ℕ
most_small_payload = 5242368

-- a message is small: the texts of its metadata are short, and its payload leaves room for them
abbrev pub is_small : MessageView → Bool
is_small m = nat_lt (length m.meta.producer.now) short_text && nat_lt (text_length (option_copied m.meta.key)) short_text && nat_le (length m.payload.now) most_small_payload

-- the receipt of a SEND, which names a position
abbrev pub receipt_out : Answered → Position → Out
receipt_out a position = record { to = a.to; session = a.session; frame = frame.SendReceipt a.id a.seq (Some position) }
