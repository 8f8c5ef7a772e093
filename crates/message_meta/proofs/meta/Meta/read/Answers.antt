use Rattle.message_meta.proofs.Meaning.{only, refused}
use Rattle.message_meta.proofs.meta.Meta.read.Goals as goal

pub returns-clause-only : goal.returns-clause-only
returns-clause-only c = only c.args.bytes.now c.meta_of_bytes.result c.meta_of_bytes.ensures.found c.meta_of_bytes.ensures.fault

pub returns-clause-refused : goal.returns-clause-refused
returns-clause-refused c = refused c.args.bytes.now c.meta_of_bytes.result c.meta_of_bytes.ensures.found c.meta_of_bytes.ensures.fault
