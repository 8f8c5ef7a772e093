use Rattle.pb_fields.proofs.Messages.{only, refused}
use Rattle.pb_fields.proofs.message.read_message.Goals as goal

pub returns-clause-only : goal.returns-clause-only
returns-clause-only c = only c.args.rows.now c.args.bytes.now c.message_fields.result c.message_fields.ensures.found c.message_fields.ensures.fault

pub returns-clause-refused : goal.returns-clause-refused
returns-clause-refused c = refused c.args.rows.now c.args.bytes.now c.message_fields.result c.message_fields.ensures.found c.message_fields.ensures.fault
