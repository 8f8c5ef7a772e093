use Rattle.world_laws.proofs.Residing.Resident.{resident_always}
use Rattle.world_laws.proofs.residency.law_resident.Goals as goal

pub returns : goal.returns
returns c = record { always = resident_always }
