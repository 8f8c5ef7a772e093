use Rattle.pb_fields.proofs.Nested.{only_with, refused_with}
use Rattle.pb_fields.proofs.embedded.read_message_with.Goals as goal

pub returns-clause-only : goal.returns-clause-only
returns-clause-only g c = λ exact. only_with _ _ exact c.args.rows.now c.args.bytes.now c.message_fields_with.result c.message_fields_with.ensures.found c.message_fields_with.ensures.fault

pub returns-clause-refused : goal.returns-clause-refused
returns-clause-refused g c = λ exact. refused_with _ _ exact c.args.rows.now c.args.bytes.now c.message_fields_with.result c.message_fields_with.ensures.found c.message_fields_with.ensures.fault
