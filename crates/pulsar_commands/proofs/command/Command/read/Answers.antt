use Rattle.pulsar_commands.proofs.Unique.{only, refused}
use Rattle.pulsar_commands.proofs.command.Command.read.Goals as goal

pub returns-clause-only : goal.returns-clause-only
returns-clause-only c = only c.args.bytes.now c.command_of_bytes.result c.command_of_bytes.ensures.found c.command_of_bytes.ensures.fault

pub returns-clause-refused : goal.returns-clause-refused
returns-clause-refused c = refused c.args.bytes.now c.command_of_bytes.result c.command_of_bytes.ensures.found c.command_of_bytes.ensures.fault
