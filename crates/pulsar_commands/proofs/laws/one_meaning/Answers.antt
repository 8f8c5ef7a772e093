use Rattle.pulsar_commands.proofs.Unique.{meaning_one, fault_one, sound}
use Rattle.pulsar_commands.proofs.laws.one_meaning.Goals as goal

pub returns : goal.returns
returns c = record { text = meaning_one; fault = fault_one; either = sound }
