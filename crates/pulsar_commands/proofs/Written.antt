-- The canonical text of a command is a text of it.
use Rattle.std.proofs.Common.{◌≡◌, ℕ, ◌<◌, arith, Bool, true, false, List, [], ◌∷◌, Option, Some, None, map, refl, sym, ap, subst, ◌∙◌}
use Rattle.std.specs.Prelude.{if◌then◌else◌}
use Rattle.std.specs.List.{AllByRecursion, last_or, flat_map}
use Rattle.std.proofs.lemmas.List.Concat.{flat_map-cons}
use Rattle.geo_base.specs.declared.frame.AckKind.{AckKind}
use Rattle.geo_base.specs.declared.frame.AckKind.TheVariants as ack_kind
use Rattle.geo_base.specs.declared.frame.SubKind.{SubKind}
use Rattle.geo_base.specs.declared.frame.SubKind.TheVariants as sub_kind
use Rattle.pb_fields.specs.declared.field.Field.{Field}
use Rattle.pb_fields.specs.declared.field.Value.{Value}
use Rattle.pb_fields.specs.declared.field.Value.TheVariants as value
use Rattle.pb_fields.specs.declared.message.Row.{Row}
use Rattle.pb_fields.specs.Field.{IsFieldNumber, IsField}
use Rattle.pb_fields.specs.Canonical.{AscendFrom}
use Rattle.pb_fields.specs.Text.{IsText}
use Rattle.pb_fields.specs.Message.{row_of, values, lowest_absent}
use Rattle.pb_fields.specs.Embedded.{FitsWith, IsMessageText}
use Rattle.pb_fields.proofs.Parts.{AllByRecursion-append}
use Rattle.pb_fields.proofs.Written.{text-is}
use Rattle.pulsar_commands.specs.declared.command.Command.{Command}
use Rattle.pulsar_commands.specs.declared.command.Command.TheVariants as command
use Rattle.pulsar_commands.specs.Table.{kind_number, rows_of, choices_of, IsKnown}
use Rattle.pulsar_commands.specs.Part.{Part, number, place, Told, Says}
use Rattle.pulsar_commands.specs.Parts.{kind_of, parts, sub_number, ack_number}
use Rattle.pulsar_commands.specs.Text.{IdRight, BodyRight, IsCommandText}
use Rattle.pulsar_commands.specs.Canonical.{part_fields, IsPart, body_text, command_fields, command_text, IsWritable}
use Rattle.pulsar_commands.proofs.Ascending.{above, all_numbers, at_place, fields_ascend, row, row_at}
use Rattle.pulsar_commands.proofs.Told.{told, part_fits, part_ok}
use Rattle.pulsar_commands.proofs.Usual.{bounds, type_message, type_last, body_last, holds_message, fields_ok}

abbrev held_fields : Command → List Field
held_fields c = flat_map part_fields (parts c)

-- ---- of each command: its places ascend, and its rows are those of its parts

ascending : (c : Command) → above 0 (parts c) ≡ true
ascending (command.Connect a b) = refl
ascending (command.Connected a b) = refl
ascending (command.Subscribe a b c d e f g h) = refl
ascending (command.Producer a b c d) = refl
ascending (command.Send a b c) = refl
ascending (command.SendReceipt a b c) = refl
ascending (command.SendError a b c d) = refl
ascending (command.Message a b) = refl
ascending (command.Ack a b c) = refl
ascending (command.Flow a b) = refl
ascending (command.Unsubscribe a b) = refl
ascending (command.Success a) = refl
ascending (command.Error a b c) = refl
ascending (command.CloseProducer a b) = refl
ascending (command.CloseConsumer a b) = refl
ascending (command.ProducerSuccess a b) = refl
ascending command.Ping = refl
ascending command.Pong = refl

rows_are : (c : Command) → map row (parts c) ≡ rows_of (kind_of c)
rows_are (command.Connect a b) = refl
rows_are (command.Connected a b) = refl
rows_are (command.Subscribe a b c d e f g h) = refl
rows_are (command.Producer a b c d) = refl
rows_are (command.Send a b c) = refl
rows_are (command.SendReceipt a b c) = refl
rows_are (command.SendError a b c d) = refl
rows_are (command.Message a b) = refl
rows_are (command.Ack a b c) = refl
rows_are (command.Flow a b) = refl
rows_are (command.Unsubscribe a b) = refl
rows_are (command.Success a) = refl
rows_are (command.Error a b c) = refl
rows_are (command.CloseProducer a b) = refl
rows_are (command.CloseConsumer a b) = refl
rows_are (command.ProducerSuccess a b) = refl
rows_are command.Ping = refl
rows_are command.Pong = refl

-- what is required is written
complete : (c : Command) → lowest_absent (rows_of (kind_of c)) (held_fields c) ≡ None
complete (command.Connect a b) = refl
complete (command.Connected a b) = refl
complete (command.Subscribe a b c d e f g h) = refl
complete (command.Producer a b c d) = refl
complete (command.Send a b c) = refl
complete (command.SendReceipt a b c) = refl
complete (command.SendError a b c d) = refl
complete (command.Message a b) = refl
complete (command.Ack a b c) = refl
complete (command.Flow a b) = refl
complete (command.Unsubscribe a b) = refl
complete (command.Success a) = refl
complete (command.Error a b c) = refl
complete (command.CloseProducer a b) = refl
complete (command.CloseConsumer a b) = refl
complete (command.ProducerSuccess a b) = refl
complete command.Ping = refl
complete command.Pong = refl

-- ---- the command's own message

says_from : (fs : List Field) (ps : List Part) → AllByRecursion (λ p. values (place p) fs ≡ values (place p) (part_fields p)) ps → AllByRecursion IsPart ps → AllByRecursion (Says fs) ps
says_from fs [] h k = tt
says_from fs (p ∷ ps) h k = (subst (λ (vs : List Value). Told vs p) (sym h.0) (told p k.0), says_from fs ps h.1 k.1)

says : (c : Command) → IsWritable c → AllByRecursion (Says (held_fields c)) (parts c)
says c h = says_from (held_fields c) (parts c) (at_place 0 (parts c) (ascending c)) h.parts

fit_from : (rows : List Row) (ps : List Part) → AllByRecursion (λ p. row_of rows (place p) ≡ Some (row p)) ps → AllByRecursion IsPart ps → AllByRecursion (FitsWith IdRight rows) (flat_map part_fields ps)
fit_from rows [] h k = tt
fit_from rows (p ∷ ps) h k = rw (flat_map-cons part_fields p ps) (AllByRecursion-append (FitsWith IdRight rows) (part_fields p) (flat_map part_fields ps) (part_fits rows p h.0 k.0) (fit_from rows ps h.1 k.1))

ok_from : (ps : List Part) → AllByRecursion (λ p. IsFieldNumber (place p)) ps → AllByRecursion IsPart ps → AllByRecursion IsField (flat_map part_fields ps)
ok_from [] h k = tt
ok_from (p ∷ ps) h k = rw (flat_map-cons part_fields p ps) (AllByRecursion-append IsField (part_fields p) (flat_map part_fields ps) (part_ok p h.0 k.0) (ok_from ps h.1 k.1))

held_text : (c : Command) → IsWritable c → IsText (body_text c) (held_fields c)
held_text c h = text-is (held_fields c) (ok_from (parts c) (all_numbers 0 (parts c) (ascending c)) h.parts)

body_right : (c : Command) → IsWritable c → IsMessageText IdRight (rows_of (kind_of c)) (body_text c)
body_right c h = record {
  fields = held_fields c;
  text = held_text c h;
  message = record {
    fit = subst (λ (rows : List Row). AllByRecursion (FitsWith IdRight rows) (held_fields c)) (rows_are c) (fit_from (map row (parts c)) (parts c) (row_at 0 (parts c) (ascending c)) h.parts);
    complete = complete c;
  };
}

-- ---- enumerations

same_varint : (a b : ℕ) → ◌≡◌ {A = Option Value} (Some (value.Varint a)) (Some (value.Varint b)) → a ≡ b
same_varint a b e = cc

sub_below : (k : SubKind) → sub_number k < 4
sub_below sub_kind.Exclusive = omega arith
sub_below sub_kind.Shared = omega arith
sub_below sub_kind.Failover = omega arith
sub_below sub_kind.KeyShared = omega arith

ack_below : (k : AckKind) → ack_number k < 2
ack_below ack_kind.Individual = omega arith
ack_below ack_kind.Cumulative = omega arith

flag_below : (b : Bool) → (if b then 1 else 0) < 2
flag_below true = omega arith
flag_below false = omega arith

known_number : (fs : List Field) (n k size : ℕ) → Says fs (number n k) → k < size → IsKnown fs (record { number = n; size = size })
known_number fs n k size h lt = λ m is. subst (λ (x : ℕ). x < size) (same_varint k m (sym h ∙ is)) lt

known_flag : (fs : List Field) (n : ℕ) (b : Bool) → values n fs ≡ value.Varint (if b then 1 else 0) ∷ [] → IsKnown fs (record { number = n; size = 2 })
known_flag fs n b h = λ m is. subst (λ (x : ℕ). x < 2) (same_varint (if b then 1 else 0) m (sym (ap (λ (vs : List Value). last_or None vs) h) ∙ is)) (flag_below b)

known : (c : Command) → IsWritable c → AllByRecursion (IsKnown (held_fields c)) (choices_of (kind_of c))
known (command.Subscribe a b k d e f g i) h =
    let all = command.Subscribe a b k d e f g i in
    let said = says all h in
    let written = at_place 0 (parts all) (ascending all) in
    (known_number (held_fields all) 3 (sub_number k) 4 said.1.1.0 (sub_below k), (known_flag (held_fields all) 13 g written.1.1.1.1.1.1.0, tt))
known (command.Ack a k b) h =
    let all = command.Ack a k b in
    (known_number (held_fields all) 2 (ack_number k) 2 (says all h).1.0 (ack_below k), tt)
known (command.Connect a b) h = tt
known (command.Connected a b) h = tt
known (command.Producer a b c d) h = tt
known (command.Send a b c) h = tt
known (command.SendReceipt a b c) h = tt
known (command.SendError a b c d) h = tt
known (command.Message a b) h = tt
known (command.Flow a b) h = tt
known (command.Unsubscribe a b) h = tt
known (command.Success a) h = tt
known (command.Error a b c) h = tt
known (command.CloseProducer a b) h = tt
known (command.CloseConsumer a b) h = tt
known (command.ProducerSuccess a b) h = tt
known command.Ping h = tt
known command.Pong h = tt

-- ---- the BaseCommand

pub canonical_is : (c : Command) → IsWritable c → IsCommandText (command_text c) c
canonical_is c h =
    let k = kind_of c in
    let n = kind_number k in
    let more = (bounds k).0 in
    let body = body_text c in
    record {
      fields = command_fields c;
      text = text-is (command_fields c) (fields_ok n more body (bounds k).1 h.length);
      means = record {
        kind = k;
        type = record { message = type_message n more body; is = type_last n more body };
        held = held_fields c;
        holds = record {
          right = holds_message n more body (BodyRight k) (body_right c h);
          last = record { content = body; is = body_last n more body; text = held_text c h };
          known = known c h;
        };
        tells = record { kind = refl; says = says c h };
      };
    }

-- ---- its order

pub command_ascends : (c : Command) → AscendFrom 1 (command_fields c)
command_ascends c = let more = (bounds (kind_of c)).0 in (omega arith, (omega (arith, more), tt))

pub body_ascends : (c : Command) → AscendFrom 1 (flat_map part_fields (parts c))
body_ascends c = fields_ascend 0 (parts c) (ascending c)
