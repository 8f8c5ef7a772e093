use Rattle.world_laws.proofs.Merges.Origins.{alike_without_origin}
use Rattle.world_laws.proofs.histories.law_alike.Goals as goal

pub returns : goal.returns
returns c = alike_without_origin
