use Rattle.pulsar_commands.proofs.Written.{canonical_is}
use Rattle.pulsar_commands.proofs.command.Command.write.Goals as goal

pub returns-clause-text : goal.returns-clause-text
returns-clause-text c = rw c.in_ok-written.ensures.canonical (canonical_is c.args.self.now c.in_ok-written.ensures.writable)
