-- The fields of MessageMetadata that are read, with the numbers and types of PulsarApi.proto (that of marker_type
-- as known and not looked up).
use Rattle.std.specs.Prelude.{ℕ, true, false, List, [], ◌∷◌}
use Rattle.pb_fields.specs.declared.message.Form.{Form}
use Rattle.pb_fields.specs.declared.message.Form.TheVariants as form
use Rattle.pb_fields.specs.declared.message.Row.{Row}

abbrev pub producer_name : ℕ
producer_name = 1

abbrev pub sequence_id : ℕ
sequence_id = 2

abbrev pub publish_time : ℕ
publish_time = 3

abbrev pub replicated_from : ℕ
replicated_from = 5

abbrev pub partition_key : ℕ
partition_key = 6

-- repeated
abbrev pub replicate_to : ℕ
replicate_to = 7

abbrev pub marker_type : ℕ
marker_type = 20

abbrev pub required : ℕ → Form → Row
required n f = record { number = n; form = f; required = true }

abbrev pub optional : ℕ → Form → Row
optional n f = record { number = n; form = f; required = false }

abbrev pub rows : List Row
rows =
    required producer_name form.Text ∷ required sequence_id form.Varint ∷ required publish_time form.Varint ∷
    optional replicated_from form.Text ∷ optional partition_key form.Text ∷ optional replicate_to form.Text ∷
    optional marker_type form.Varint ∷ []
