use Rattle.pb_fields.proofs.Unique.{only, refused}
use Rattle.pb_fields.proofs.read.read_fields.Goals as goal

pub returns-clause-only : goal.returns-clause-only
returns-clause-only c = only c.args.bytes.now c.all_fields.result c.all_fields.ensures.found c.all_fields.ensures.fault

pub returns-clause-refused : goal.returns-clause-refused
returns-clause-refused c = refused c.args.bytes.now c.all_fields.result c.all_fields.ensures.found c.all_fields.ensures.fault
