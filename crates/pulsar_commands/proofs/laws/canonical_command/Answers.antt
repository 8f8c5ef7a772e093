use Rattle.pulsar_commands.proofs.Unique.{meaning_one}
use Rattle.pulsar_commands.proofs.Written.{canonical_is, command_ascends, body_ascends}
use Rattle.pulsar_commands.proofs.laws.canonical_command.Goals as goal

pub returns : goal.returns
returns c = record {
  text = canonical_is;
  no_other = λ c d fits h. meaning_one _ d c h (canonical_is c fits);
  ascending = command_ascends;
  ascending_within = body_ascends;
}
