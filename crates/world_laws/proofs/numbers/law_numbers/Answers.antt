use Rattle.world_laws.proofs.Counters.Rising.{numbers_between}
use Rattle.world_laws.proofs.numbers.law_numbers.Goals as goal

pub returns : goal.returns
returns c = record { between = numbers_between }
