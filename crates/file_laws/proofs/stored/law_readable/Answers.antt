use Rattle.file_laws.proofs.Ledgers.{readable_law}
use Rattle.file_laws.proofs.stored.law_readable.Goals as goal

pub returns : goal.returns
returns c = readable_law
