use Rattle.world_laws.proofs.Residing.Marked.{marked_always}
use Rattle.world_laws.proofs.residency.law_marked.Goals as goal

pub returns : goal.returns
returns c = record { always = marked_always }
